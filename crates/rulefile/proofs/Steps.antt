-- The exit of a `?` in a parser of the program, and the loop of one that reads several things.
use Rattle.std.proofs.Common.{◌≡◌, ℕ, suc, ◌+◌, ◌-◌, ◌<◌, ◌≤◌, List, [], ◌∷◌, ◌++◌, IsErrAnd, Ok, Err, Result, sym, refl, ap, ◌∙◌, append_assoc, append-nil, arith}
use Rattle.rulefile.specs.declared.refusals.Refusal.{Refusal}
use Rattle.rulefile.specs.declared.refusals.Fault.{Fault}
use Rattle.rulefile.specs.declared.refusals.Fault.TheVariants.{Bad, Memory}
use Rattle.rulefile.specs.Parser.{Parse, took, fails, Parser, after, times}
use Rattle.rulefile.specs.Answers.{Faults, Parses}

-- a fault goes out as it came: where the part refuses, so does the whole
pub fault_on : {A B C : Type 0} {q : Parse C} (f : Fault) (m : B → A) (p : Parse A) (rest : List ℕ) (r : Result B Fault) → IsErrAnd r (λ e. e ≡ f) → Faults q f → ((why : Refusal) → q ≡ fails why → p ≡ fails why) → Parses m p r rest
fault_on f m p rest (Ok x) h e g = absurd h
fault_on f m p rest (Err (Memory a)) h e g = tt
fault_on (Bad v) m p rest (Err (Bad w)) h e g = let z : v ≡ w = cc in g w (e ∙ ap fails z)
fault_on (Memory a) m p rest (Err (Bad w)) h e g = absurd (cc)

-- xs were read before
abbrev pub onto : {A : Type 0} → List A → Parse (List A) → Parse (List A)
onto xs (took ys rest) = took (xs ++ ys) rest
onto xs (fails why) = fails why

onto_onto : {A : Type 0} (xs : List A) (x : A) (q : Parse (List A)) → onto xs (after q (λ ys rest. took (x ∷ ys) rest)) ≡ onto (xs ++ x ∷ []) q
onto_onto xs x (took ys rest) = ap (λ zs. took zs rest) (sym (append_assoc xs (x ∷ []) ys))
onto_onto xs x (fails why) = refl

pub times_more : {A : Type 0} {whole : Parse (List A)} (p : Parser A) (n i : ℕ) (xs ys : List A) (x : A) (bs cs : List ℕ) → i < n → whole ≡ onto xs (times (n - i) p bs) → p bs ≡ took x cs → ys ≡ xs ++ x ∷ [] → whole ≡ onto ys (times (n - (i + 1)) p cs)
unfolding times
times_more p n i xs ys x bs cs h w e f =
    let s : n - i ≡ suc (n - (i + 1)) = omega arith in
    w ∙ rw (s, e, f) (onto_onto xs x (times (n - (i + 1)) p cs))

pub times_breaks : {A : Type 0} {whole : Parse (List A)} {why : Refusal} (p : Parser A) (n i : ℕ) (xs : List A) (bs : List ℕ) → i < n → whole ≡ onto xs (times (n - i) p bs) → p bs ≡ fails why → whole ≡ fails why
unfolding times
times_breaks p n i xs bs h w e =
    let s : n - i ≡ suc (n - (i + 1)) = omega arith in
    w ∙ rw (s, e)

pub times_all : {A : Type 0} {whole : Parse (List A)} (p : Parser A) (n i : ℕ) (xs : List A) (bs : List ℕ) → n ≤ i → whole ≡ onto xs (times (n - i) p bs) → whole ≡ took xs bs
unfolding times
times_all p n i xs bs h w =
    let s : n - i ≡ 0 = omega arith in
    w ∙ rw (s, append-nil xs)
