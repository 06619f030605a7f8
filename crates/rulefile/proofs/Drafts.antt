-- A draft that grows by one record after another.
use Rattle.std.proofs.Common.{◌≡◌, ℕ, zero, suc, ◌-◌, ◌<◌, ◌≤◌, true, false, eqb, List, [], ◌∷◌, length, IsErrAnd, MatchResult, Ok, Err, Result, sym, refl, subst, arith}
use Rattle.std.proofs.lemmas.Bool.{lt-ltb, le-ltb, eqb-true, eqb-false}
use Rattle.rulefile.specs.declared.refusals.Refusal.{Refusal}
use Rattle.rulefile.specs.declared.refusals.Refusal.TheVariants.{FileTooLong}
use Rattle.rulefile.specs.Model.{FileModel}
use Rattle.rulefile.specs.Ranges.{most_bytes}
use Rattle.rulefile.specs.Parser.{Parse, Parser, took, fails}
use Rattle.rulefile.specs.declared.refusals.BadFile.{BadFile}
use Rattle.rulefile.specs.Format.{first, later, cut, adding, room_at, whole, bad, records, decode}
use Rattle.rulefile.specs.Answers.{Faults, located_at, Reads}
use Rattle.rulefile.specs.declared.refusals.Fault.{Fault}
use Rattle.rulefile.specs.declared.refusals.ReadError.{ReadError}
use Rattle.rulefile.specs.declared.refusals.Fault.TheVariants.{Bad, Memory}

pub adding_made : {A : Type 0} (n : ℕ) (p : Parser A) (put : A → FileModel) (bs rest : List ℕ) (x : A) (g : FileModel) → Ok tt ≡ room_at n → p bs ≡ took x rest → put x ≡ g → adding n p put bs ≡ took g rest
adding_made n p put bs rest x g e f h = rw (← e, f, h)

-- ---- a record at the front of the bytes

pub whole_uncut : {why : Refusal} (p : ℕ → Parser FileModel) (bs : List ℕ) → cut bs ≡ fails why → whole p bs ≡ fails why
whole_uncut p bs e = rw e

pub whole_cut : {g : FileModel} {left : List ℕ} (p : ℕ → Parser FileModel) (bs body rest : List ℕ) (k : ℕ) → cut bs ≡ took (k, body) rest → p k body ≡ took g left → whole p bs ≡ took g rest
whole_cut p bs body rest k e h = rw (e, h)

-- ---- the first record

pub decode_long : (bs : List ℕ) → most_bytes < length bs → decode bs ≡ bad FileTooLong 0
unfolding decode
decode_long bs h = rw (lt-ltb most_bytes (length bs) h)

pub decode_refused : {why : Refusal} (bs : List ℕ) → length bs ≤ most_bytes → whole first bs ≡ fails why → decode bs ≡ bad why 0
unfolding decode
decode_refused bs h e = rw (le-ltb most_bytes (length bs) h, e)

pub decode_first : (bs rest : List ℕ) (g : FileModel) → length bs ≤ most_bytes → whole first bs ≡ took g rest → decode bs ≡ records (length bs) (length bs) g rest
unfolding decode
decode_first bs rest g h e = rw (le-ltb most_bytes (length bs) h, e)

-- ---- the later records

pub records_all : (n size : ℕ) (f : FileModel) (bs : List ℕ) → length bs ≡ 0 → records n size f bs ≡ Ok f
unfolding records
records_all n size f [] h = refl
records_all n size f (b ∷ bs) h = absurd (omega arith)

pub records_refused : {why : Refusal} (n size : ℕ) (f : FileModel) (bs : List ℕ) → 0 < length bs → length bs ≤ n → whole (later f) bs ≡ fails why → records n size f bs ≡ bad why (size - length bs)
unfolding records
records_refused n size f [] p l e = absurd (omega arith)
records_refused zero size f (b ∷ bs) p l e = absurd (omega arith)
records_refused (suc n) size f (b ∷ bs) p l e = rw e

pub records_more : (n size : ℕ) (f g : FileModel) (bs rest : List ℕ) → 0 < length bs → length bs ≤ n → whole (later f) bs ≡ took g rest → (m : ℕ) × (n ≡ suc m) × (records n size f bs ≡ records m size g rest)
unfolding records
records_more n size f g [] rest p l e = absurd (omega arith)
records_more zero size f g (b ∷ bs) rest p l e = absurd (omega arith)
records_more (suc n) size f g (b ∷ bs) rest p l e = (n, refl, rw e)

-- what `is_empty` tells
pub some_left : (n : ℕ) → false ≡ eqb n 0 → 0 < n
some_left n e = let h = eqb-false n 0 (sym e) in omega arith

pub none_left : (n : ℕ) → true ≡ eqb n 0 → n ≡ 0
none_left n e = eqb-true n 0 (sym e)

-- a fault of a record is the file's
pub read_fault : {d : Result FileModel BadFile} {p : Parse FileModel} (f : Fault) (offset : ℕ) → Faults p f → ((why : Refusal) → p ≡ fails why → d ≡ bad why offset) → Reads d (Err (located_at f offset))
read_fault (Bad why) offset e g = g why e
read_fault (Memory m) offset e g = tt

-- where `map_err` answers an error, it made that of a fault
pub map_err_failed : {X : Type 0} (A : X → Type 0) (B : Fault → Type 0) (L : Fault → ReadError → Type 0) (r : Result X Fault) (s : Result X ReadError) (e : ReadError)
    → s ≡ Err e → MatchResult r A B → MatchResult r (λ x. s ≡ Ok x) (λ f. IsErrAnd s (L f)) → (f : Fault) × B f × L f e
map_err_failed A B L (Ok x) s e is a m = absurd (cc)
map_err_failed A B L (Err f) s e is a m = (f, a, subst (λ q. IsErrAnd q (L f)) is m)

-- where it answers a value, that came with no fault
pub map_err_kept : {X : Type 0} (A : X → Type 0) (B : Fault → Type 0) (L : Fault → ReadError → Type 0) (r : Result X Fault) (s : Result X ReadError) (y : X)
    → s ≡ Ok y → MatchResult r A B → MatchResult r (λ x. s ≡ Ok x) (λ f. IsErrAnd s (L f)) → A y
map_err_kept A B L (Ok x) s y is a m = subst A (let z : x ≡ y = cc in z) a
map_err_kept A B L (Err f) s y is a m = absurd (subst (λ q. IsErrAnd q (L f)) is m)
