-- The marks of what is read are marks that there are.
use Rattle.std.proofs.Common.{◌≡◌, ℕ, ◌<◌, ◌≤◌, ◌&&◌, List, [], ◌∷◌, map, Option, Some, IfSome, refl, subst, ap₂, arith}
use Rattle.std.specs.List.{AllByRecursion}
use Rattle.std.proofs.lemmas.Bool.{lt-ltb}
use Rattle.sheets.specs.Sheets.{width}
use Rattle.sheets.specs.declared.literals.Literal.{Literal}
use Rattle.sheets.specs.LiteralSets.{MarksInWidth}
use Rattle.rulefile.specs.declared.constraints.Element.{Element}
use Rattle.rulefile.specs.Parser.{took, times}
use Rattle.rulefile.specs.Format.{literal, element}
use Rattle.rulefile.specs.Laws.{LiteralsBelow}
use Rattle.rulefile.specs.Uniform.{literals_of}
use Rattle.rulefile.proofs.Sound.{given, gives_literals, gives_elements}

below_width : (count : ℕ) → count ≤ width → (ls : List Literal) → LiteralsBelow count (map (λ l. l) ls) → MarksInWidth ls
below_width count few [] h = refl
below_width count few (l ∷ ls) h = ap₂ (λ a b. a && b) (lt-ltb l.mark width (omega (arith, h.0))) (below_width count few ls h.1)

-- `before` is the count as it was before the number of literals was read
pub literals_in_width : {rest : List ℕ} (count before n : ℕ) (bs : List ℕ) (ls : List Literal) → count ≡ before → before ≤ width
    → times n (literal count) bs ≡ took (map (λ l. l) ls) rest → MarksInWidth ls
literals_in_width count before n bs ls kept few e = below_width count (omega (arith, kept)) ls (given (LiteralsBelow count) e (gives_literals count n bs))

elements_below : (count : ℕ) → count ≤ width → (es : List Element) → AllByRecursion (λ (e : Element). e.literal.mark < count) (map (λ e. e) es) → MarksInWidth (literals_of es)
elements_below count few [] h = refl
elements_below count few (e ∷ es) h = ap₂ (λ a b. a && b) (lt-ltb e.literal.mark width (omega (arith, h.0))) (elements_below count few es h.1)

pub elements_in_width : {rest : List ℕ} (count before n : ℕ) (bs : List ℕ) (es : List Element) → count ≡ before → before ≤ width
    → times n (element count) bs ≡ took (map (λ e. e) es) rest → MarksInWidth (literals_of es)
elements_in_width count before n bs es kept few e = elements_below count (omega (arith, kept)) es (given (AllByRecursion (λ (e : Element). e.literal.mark < count)) e (gives_elements count n bs))

pub if_some : {A : Type 0} (P : A → Type 0) {r : Option A} {x : A} → r ≡ Some x → IfSome r P → P x
if_some P e h = subst (λ o. IfSome o P) e h
