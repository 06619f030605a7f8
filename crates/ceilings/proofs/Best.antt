-- Over each judge there is a best answer, and no other one.
use Rattle.std.proofs.Common.{◌≡◌, ℕ, ◌<◌, Some, None, Option, refl, ap, ap₂, ◌∙◌, sym, ⊎_elim}
use Rattle.std.proofs.lemmas.Bool.{both_ways}
use Rattle.sheets.specs.Sheets.{has, MarksBelow, Earlier}
use Rattle.sheets.specs.Judging.{Judging, JudgeLaws}
use Rattle.sheets.specs.Scaling.{Scaling, ScaleLaws}
use Rattle.sheets.specs.laws.Bits.{marks_below, same_marks}
use Rattle.sheets.specs.laws.Earlier.{compared}
use Rattle.orders.specs.Searches.{start, none, priced}
use Rattle.orders.specs.Best.{Cheapest, Best}
use Rattle.orders.proofs.Found.{ended_best}
use Rattle.orders.proofs.Visits.{search_ends}

module _ {C : Type 0} (j : Judging) (s : Scaling C) where
  -- of two cheapest sheets neither is the earlier
  not_earlier : (x y : ℕ × C) → Cheapest j s x.0 x.1 → Cheapest j s y.0 y.1 → Earlier x.0 y.0 → ⊥
  not_earlier x y p q e = both_ways (s.below y.1 x.1)
      (ap (λ (c : C). s.below c x.1) q.its_cost ∙ p.least y.0 q.allowed)
      (ap (s.below y.1) p.its_cost ∙ q.first x.0 p.allowed e)

  pub best_one : (n : ℕ) → ((z : ℕ) → j.allows z → MarksBelow n z) → (x y : Option (ℕ × C)) → Best j s x → Best j s y → x ≡ y
  best_one n inside None None p q = refl
  best_one n inside None (Some y) p q = absurd (p y.0 q.allowed)
  best_one n inside (Some x) None p q = absurd (q x.0 p.allowed)
  best_one n inside (Some x) (Some y) p q = ap Some (ap₂ (λ (z : ℕ) (c : C). (z, c)) sheets (p.its_cost ∙ ap s.cost sheets ∙ sym q.its_cost))
    where
      same : ((i : ℕ) → i < n → has x.0 i ≡ has y.0 i) → x.0 ≡ y.0
      same agree = same_marks n x.0 y.0 (marks_below n x.0 (inside x.0 p.allowed)) (marks_below n y.0 (inside y.0 q.allowed)) agree

      sheets : x.0 ≡ y.0
      sheets = ⊎_elim same (⊎_elim (λ e. absurd (not_earlier x y p q e)) (λ e. absurd (not_earlier y x q p e))) (compared n x.0 y.0)

  pub best_there : JudgeLaws j → ScaleLaws s → (answer : Option (ℕ × C)) × Best j s answer
  best_there jl sl =
      let end = (search_ends j s jl).ends 0 start none in
      (priced s end.1.held, ended_best j s jl sl start end.1 0 none (record { remaining = end.0; steps = end.2; finished = end.3 }))
