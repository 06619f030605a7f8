-- A record that is cut off a file, or why none is.
use Rattle.std.proofs.Common.{◌≡◌, ℕ, ◌+◌, ◌-◌, ◌<◌, ◌≤◌, true, false, leb, List, length, take, drop, sym, ap, ◌∙◌, arith, length-drop}
use Rattle.std.proofs.lemmas.Bool.{le-leb, lt-leb, leb-true, and_parts}
use Rattle.std.proofs.lemmas.List.{take-take, drop-take, drop-drop}
use Rattle.rulefile.specs.declared.refusals.Refusal.TheVariants.{RecordCut, LengthRange}
use Rattle.rulefile.specs.Ranges.{least_length, most_length, is_length}
use Rattle.rulefile.specs.Parser.{took, fails, little}
use Rattle.rulefile.specs.Format.{cut}

pub two_up : (n : ℕ) → is_length n ≡ true → 2 ≤ n
two_up n t = leb-true 2 n (and_parts (leb least_length n) (leb n most_length) t).0

pub cut_short : (xs : List ℕ) → length xs < 4 → cut xs ≡ fails RecordCut
unfolding cut
cut_short xs h = rw (lt-leb 4 (length xs) h)

pub cut_range : (xs : List ℕ) (n : ℕ) → 4 ≤ length xs → little (take 4 xs) ≡ n → is_length n ≡ false → cut xs ≡ fails LengthRange
unfolding cut
cut_range xs n h e t = rw (le-leb 4 (length xs) h, e, t)

pub cut_good : (xs : List ℕ) (n : ℕ) → 4 ≤ length xs → little (take 4 xs) ≡ n → is_length n ≡ true → 2 ≤ n → n ≤ length xs - 4 →
    cut xs ≡ took (little (take 2 (drop 4 xs)), take (n - 2) (drop 6 xs)) (drop (n - 2) (drop 6 xs))
unfolding cut
cut_good xs n h e t two l =
    let d : n ≤ length (drop 4 xs) = simp length-drop (omega arith) in
    let s : 2 + (n - 2) ≡ n = omega arith in
    let r : 4 + n ≡ 6 + (n - 2) = omega arith in
    let b : drop 2 (take n (drop 4 xs)) ≡ take (n - 2) (drop 6 xs) = ap (λ k. drop 2 (take k (drop 4 xs))) (sym s) ∙ drop-take 2 (n - 2) (drop 4 xs) ∙ ap (take (n - 2)) (drop-drop 2 4 xs) in
    let a : drop n (drop 4 xs) ≡ drop (n - 2) (drop 6 xs) = drop-drop n 4 xs ∙ ap (λ k. drop k xs) r ∙ sym (drop-drop (n - 2) 6 xs) in
    rw (le-leb 4 (length xs) h, e, t, le-leb n (length (drop 4 xs)) d, take-take 2 n (drop 4 xs) two, b, a)

-- the same as the program has it: ys is what follows the six bytes
pub cut_made : (xs ys body rest : List ℕ) (n kind : ℕ) → 6 ≤ length xs → little (take 4 xs) ≡ n → is_length n ≡ true → ys ≡ drop 6 xs → n - 2 ≤ length ys → little (take 2 (drop 4 xs)) ≡ kind → body ≡ take (n - 2) ys → rest ≡ drop (n - 2) ys →
    cut xs ≡ took (kind, body) rest
cut_made xs ys body rest n kind h e t y l k b r =
    let d : length ys ≡ length xs - 6 = ap length y ∙ length-drop 6 xs in
    let g = cut_good xs n (omega arith) e t (two_up n t) (omega (arith, two_up n t)) in
    rw (b, r, y, ← k) g
