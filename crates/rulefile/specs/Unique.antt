-- Lemmas; no contract names what stands here. What a ghost field says of a file's weak constraints has at most one proof.
use Rattle.std.specs.Prelude.{ℕ, List, [], ◌∷◌, ℤ, vec_items}
use Rattle.std.specs.Coded.{×_prop, Unit-prop}
use mathlib.Core.Bool.{Bool-set}
use Rattle.std.proofs.Math.Nat.{ℕ_set}
use Rattle.std.proofs.Math.IntN.{ℤ_set}
use Rattle.std.specs.List.{AllZip}
use Rattle.sheets.specs.declared.literals.Literal.{Literal}
use Rattle.sheets.specs.declared.literal_sets.LiteralSet.{LiteralSet}
use Rattle.rulefile.specs.declared.weak_constraints.Single.{Single}
use Rattle.rulefile.specs.declared.weak_constraints.Group.{Group}
use Rattle.rulefile.specs.WeakConstraints.{WeakModel, IsSetOf, HasParts, IsSingle, IsGroup}

zip_prop : {A B : Type 0} (R : A → B → Type 0) → ((x : A) (y : B) → IsProp (R x y)) → (xs : List A) (ys : List B) → IsProp (AllZip R xs ys)
zip_prop R p [] [] = Unit-prop
zip_prop R p [] (y ∷ ys) = λ u v. absurd u
zip_prop R p (x ∷ xs) [] = λ u v. absurd u
zip_prop R p (x ∷ xs) (y ∷ ys) = ×_prop (p x y) (zip_prop R p xs ys)

set_prop : (s : LiteralSet) (ls : List Literal) → IsProp (IsSetOf s ls)
set_prop s ls = Prim.hlevel Bool-set

parts_prop : (level : ℕ) (weight : ℤ) (sets : List LiteralSet) (m : WeakModel) → IsProp (HasParts level weight sets m)
parts_prop level weight sets m = λ u v i. (ℕ_set _ _ u.0 v.0 i, ℤ_set _ _ u.1 v.1 i, zip_prop IsSetOf set_prop sets m.members u.2 v.2 i)

pub singles_prop : (ss : List Single) (ms : List WeakModel) → IsProp (AllZip IsSingle ss ms)
singles_prop = zip_prop IsSingle (λ s. parts_prop s.level s.weight (s.literals ∷ []))

pub groups_prop : (gs : List Group) (ms : List WeakModel) → IsProp (AllZip IsGroup gs ms)
groups_prop = zip_prop IsGroup (λ g. parts_prop g.level g.weight (g.first ∷ vec_items g.others))
