-- What a reader gives, piece by piece, stands in the buffer.
use Rattle.std.proofs.Common.{◌≡◌, ℕ, ◌+◌, ◌-◌, ◌<◌, ◌≤◌, List, [], ◌++◌, arith, length, take, drop, slice_range, Option, None, Some, IfSome, sym, ap, ◌∙◌, subst, ⊎_elim, le_refl, append-nil, take_all, drop_at, drop_of_length-le, length-take-le}
use Rattle.std.proofs.lemmas.Bool.{cases_lt}
use Rattle.std.proofs.lemmas.Slice.{take-put_mid_below}
use Rattle.std.specs.Io.KnownBytes.{Keeps, Consumes, IsAtEnd}
use Rattle.std.proofs.KnownBytes.{Consumes-trans, Consumes-kept}
use borrow.Rule.Slice.PartMut.{put_mid, post_of}
use lib.Seq.{take-add, take-append-le, take-append_seam}
use Rattle.rulefile.specs.Format.{decode}
use Rattle.rulefile.specs.Reading.{Enough, LeavesAfter, GivesAtMost}

take_split : (a b : ℕ) (old new : List ℕ) → a ≤ b → take a new ≡ take a old → take a old ++ slice_range new a b ≡ take b new
take_split a b old new h front =
    let same : a + (b - a) ≡ b = omega arith in
    ap (λ l. l ++ slice_range new a b) (sym front) ∙ sym (take-add a (b - a) new) ∙ ap (λ n. take n new) same

-- the first n of the part that was put in at a
part_of : (a k n : ℕ) (xs ys : List ℕ) → a ≤ length xs → n ≤ length ys → slice_range (put_mid a k xs ys) a (a + n) ≡ take n ys
part_of a k n xs ys within fits =
    let same : (a + n) - a ≡ n = omega arith in
    let after = post_of a k xs in
    ap (take ((a + n) - a)) (drop_at (take a xs) (ys ++ after) a (length-take-le a xs within)) ∙ ap (λ m. take m (ys ++ after)) same ∙ take-append-le n ys after fits

-- n bytes more were read behind the first a
pub filled_more : (old mid new : Option (List ℕ)) (a k n m : ℕ) (xs ys : List ℕ) → a ≤ length xs → n ≤ length ys → m ≡ a + n
    → Consumes old mid (take a xs) → Consumes mid new (take n ys) → Consumes old new (take m (put_mid a k xs ys))
filled_more old mid new a k n m xs ys within fits more before read =
    subst (Consumes old new)
    (ap (λ l. take a xs ++ l) (sym (part_of a k n xs ys within fits))
    ∙ take_split a (a + n) xs (put_mid a k xs ys) (omega arith) (take-put_mid_below _ _ _ _ _ (le_refl _) within)
    ∙ ap (λ i. take i (put_mid a k xs ys)) (sym more))
    (Consumes-trans _ _ _ _ _ before read)

-- no byte was read, whatever was put in behind the first a
pub filled_same : (old mid new : Option (List ℕ)) (a k m : ℕ) (xs ys : List ℕ) → a ≤ length xs → m ≡ a
    → Consumes old mid (take a xs) → Keeps mid new → Consumes old new (take m (put_mid a k xs ys))
filled_same old mid new a k m xs ys within same before kept =
    subst (Consumes old new)
    (sym (take-put_mid_below _ _ _ _ _ (le_refl _) within) ∙ ap (λ i. take i (put_mid a k xs ys)) (sym same))
    (Consumes-kept _ _ _ _ before kept)

-- the first a that were read are no more than the buffer has room for
pub at_most : (old new : Option (List ℕ)) (a n : ℕ) (xs : List ℕ) → a ≤ length xs → length xs ≡ n → Consumes old new (take a xs) → GivesAtMost n old new
at_most old new a n xs within long read = (take a xs, omega (arith, length-take-le a xs within, long), read)

-- what was given is the first n of a list, and the rest what comes after these
first_all : (n : ℕ) (all given rest : List ℕ) → all ≡ given ++ rest → length given ≤ n → (length given < n → rest ≡ []) → (given ≡ take n all) × (rest ≡ drop n all)
first_all n all given rest e within end = ⊎_elim
    (λ lt.
    let whole : all ≡ given = e ∙ ap (λ l. given ++ l) (end lt) ∙ append-nil given in
    let long : length all ≤ n = omega (arith, ap length whole) in
    (sym (take_all n all long ∙ whole), end lt ∙ sym (drop_of_length-le all long)))
    (λ le.
    let same : n ≡ length given = omega arith in (
      sym (ap (take n) e ∙ ap (λ k. take k (given ++ rest)) same ∙ take-append_seam given rest),
      sym (ap (drop n) e ∙ drop_at given rest n (sym same)),
    ))
    (cases_lt (length given) n)

-- of a buffer that is full, or a reader that is at its end
pub gives_first : (old new : Option (List ℕ)) (n m : ℕ) (xs : List ℕ) → length xs ≡ n → m ≤ length xs
    → Consumes old new (take m xs) → (m < length xs → IsAtEnd new) → IfSome old (λ all. take m xs ≡ take n all) × LeavesAfter n old new
gives_first None new n m xs long within read end = (tt, tt)
gives_first (Some all) None n m xs long within read end = absurd read
gives_first (Some all) (Some rest) n m xs long within read end =
    let given : length (take m xs) ≡ m = length-take-le m xs within in
    first_all n all (take m xs) rest read (omega (arith, given, long)) (λ lt. end (omega (arith, given, long)))

-- what is enough means what all does
pub means_all : (known : Option (List ℕ)) (n : ℕ) (given : List ℕ) → Enough n → IfSome known (λ all. given ≡ take n all) → IfSome known (λ all. decode given ≡ decode all)
means_all None n given enough first = tt
means_all (Some all) n given enough first = ap decode first ∙ enough all
