-- What wishes cost, level by level, and which sheet dominates which, as Lierler defines it for weak constraints
-- in "An Abstract View on Optimizations in Propositional Frameworks".
use Rattle.std.specs.Prelude.{◌≡◌, ℕ, zero, suc, ◌-◌, ◌*◌, ◌<◌, Bool, true, false, cond, ◌&&◌, List, [], ◌∷◌, ℤ, pos, neg_ℤ, ◌+ℤ◌, ◌≤ℤ◌, ◌<ℤ◌, ◌==◌, int_lt, nat_le, slice_index_or}
use Rattle.std.specs.Int.{int_min}
use Rattle.std.specs.List.{list_all, list_any}
use Rattle.sheets.specs.declared.literals.Interpretation.{Interpretation}
use Rattle.sheets.specs.Sheets.{Sheet}
use Rattle.sheets.specs.Literals.{held, by_words, in_every, in_some}
use Rattle.total_order.specs.Orders.{first_decides}
use Rattle.rulefile.specs.Ranges.{top_level}
use Rattle.rulefile.specs.Model.{WishModel}
use Rattle.rulefile.specs.WeakConstraints.{WeakModel, weak_constraints_of}

-- of at least one member of the weak constraint, all literals are held
abbrev pub one_held : Interpretation → WeakModel → Bool
one_held by c = list_any (list_all (held by)) c.members

-- the weight of the weak constraint, if it holds in the sheet z
abbrev pub weak_cost : Sheet → WeakModel → ℤ
weak_cost z c = cond (one_held (by_words z z) c) c.weight (pos 0)

-- within a part-sheet, by its present marks p and its absent marks a: the weight if one member holds in every sheet, 0 if each
-- member has a literal that fails in all, else the smaller of the weight and 0
abbrev pub weak_floor : Sheet → Sheet → WeakModel → ℤ
weak_floor p a c = cond (one_held (in_every p a) c) c.weight (cond (one_held (in_some p a) c) (int_min c.weight (pos 0)) (pos 0))

-- what weak constraints of level n add up to, one after another
abbrev pub sum_at : (WeakModel → ℤ) → List WeakModel → ℕ → ℤ
sum_at f [] n = pos 0
sum_at f (c ∷ cs) n = cond (c.level == n) (f c) (pos 0) +ℤ sum_at f cs n

-- what the wishes cost at level n in the sheet z
abbrev pub level_cost : Sheet → List WishModel → ℕ → ℤ
level_cost z ws = sum_at (weak_cost z) (weak_constraints_of ws)

-- what they cost at least within a part-sheet
abbrev pub level_floor : Sheet → Sheet → List WishModel → ℕ → ℤ
level_floor p a ws = sum_at (weak_floor p a) (weak_constraints_of ws)

-- the greatest level
abbrev pub top : ℕ
top = top_level

-- what g says of level n, of the level below it, and so on down to level 1
abbrev pub down_from : ℕ → (ℕ → ℤ) → List ℤ
down_from zero g = []
down_from (suc n) g = g (suc n) ∷ down_from n g

-- no sum is greater, or below 0 by more, than k numbers of 16 bits add up to
abbrev pub Bounded : ℕ → List ℤ → Type 0
Bounded k sums = (n : ℕ) → n < top → (neg_ℤ (pos (32768 * k)) ≤ℤ slice_index_or sums n (pos 0)) × (slice_index_or sums n (pos 0) ≤ℤ pos (32768 * k))

-- to the sum of each level were added the floors of its weak constraints, within the part-sheet of the marks p and a
abbrev pub AddsUp : Sheet → Sheet → List WeakModel → List ℤ → List ℤ → Type 0
AddsUp p a cs old new = (n : ℕ) → n < top → slice_index_or new n (pos 0) ≡ slice_index_or old n (pos 0) +ℤ sum_at (weak_floor p a) cs (top - n)

-- what a list from the top level down has at level n; 0 where there is no such level
abbrev pub cost_at : List ℤ → ℕ → ℤ
cost_at levels n = cond (nat_le 1 n && nat_le n top) (slice_index_or levels (top - n) (pos 0)) (pos 0)

-- the first place at which two lists differ decides
abbrev pub first_less : List ℤ → List ℤ → Bool
first_less [] [] = false
first_less [] (y ∷ ys) = true
first_less (x ∷ xs) [] = false
first_less (x ∷ xs) (y ∷ ys) = first_decides int_lt x y (first_less xs ys)

-- the sheet x dominates the sheet y: at a level that a wish of either kind has, it costs less, and at every greater level the
-- two cost the same
pub record Dominates (ws : List WishModel) (x y : Sheet) : Type 0 where
  pub level : ℕ
  pub used : list_any (λ w. w.level == level) ws ≡ true
  pub less : level_cost x ws level <ℤ level_cost y ws level
  pub same : (m : ℕ) → level < m → level_cost x ws m ≡ level_cost y ws m
