-- In one search the place goes forward, and the cost of the sheet that is held never rises.
use Rattle.std.proofs.Common.{◌≡◌, ℕ, ◌+◌, false, Some, None, Option, refl, inl, inr, arith}
use Rattle.std.proofs.lemmas.Bool.{both_ways}
use Rattle.sheets.specs.Judging.{Judging, JudgeLaws}
use Rattle.sheets.specs.Scaling.{Scaling, ScaleLaws}
use Rattle.orders.specs.Search.{Search}
use Rattle.orders.specs.Searches.{start, present_at, stepped, Steps, none, more, priced}
use Rattle.orders.specs.Best.{CostsAtMost}
use Rattle.orders.proofs.Dismissals.{Past, precedes_on, past_to}
use Rattle.orders.proofs.Walks.{step_cases, steps_join}
use Rattle.orders.proofs.Found.{BestIn, Sound, sound_reached}

module _ {C : Type 0} (j : Judging) (s : Scaling C) where
  -- what lies before a place lies before the next
  pub past_step : (x : Search) (z : ℕ) → x.finished ≡ false → Past x z → Past (stepped j s x) z
  past_step x z going (inl bad) = absurd (both_ways x.finished going bad)
  past_step x z going (inr l) = step_cases j s x (λ y. Past y z)
      (λ t. past_to x.depth x.present z x.held (inl l))
      (λ f full. past_to x.depth x.present z (Some (present_at j.count x)) (inl l))
      (λ f open_place. inr (precedes_on x.depth (x.depth + 1) x.present x.present z (λ i lo. refl) (omega arith) l))

  past_steps : (x y : Search) (m z : ℕ) → Steps j s x m y → Past x z → Past y z
  past_steps x y m z none b = b
  past_steps x y m z (more {n = i} going rest) b = past_steps (stepped j s x) y i z rest (past_step x z going b)

  held_at_most : (x y : Search) → Sound j s x → Sound j s y → ((z : ℕ) → Past x z → Past y z) → CostsAtMost s (priced s y.held) (priced s x.held)
  held_at_most x y sx sy wider = go x.held y.held sx.best sy.best
    where
      go : (h k : Option ℕ) → BestIn j s (Past x) h → BestIn j s (Past y) k → CostsAtMost s (priced s k) (priced s h)
      go None None b c = tt
      go None (Some k) b c = tt
      go (Some h) None b c = c h b.0 (wider h b.1)
      go (Some h) (Some k) b c = c.2 h b.0 (wider h b.1)

  pub falls : JudgeLaws j → ScaleLaws s → (x y : Search) (m n : ℕ) → Steps j s start m x → Steps j s x n y → CostsAtMost s (priced s y.held) (priced s x.held)
  falls jl sl x y m n a b =
      held_at_most x y (sound_reached j s jl sl x m a) (sound_reached j s jl sl y (m + n) (steps_join j s start x y m n a b)) (λ z. past_steps x y n z b)
