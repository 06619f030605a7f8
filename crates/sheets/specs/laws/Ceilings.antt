-- Lemmas; no contract names what stands here. The laws of the judge that is made of a judge, a scale and a ceiling.
use Rattle.std.specs.Prelude.{◌≡◌, ℕ, true}
use Rattle.std.proofs.Common.{sym, ap, ◌∙◌, ⊎_elim}
use Rattle.std.proofs.lemmas.Bool.{both_ways, or_cases, or_parts}
use Rattle.total_order.specs.laws.Orders.{less_at_most}
use Rattle.sheets.specs.Sheets.{Part, Within}
use Rattle.sheets.specs.Judging.{Judging, JudgeLaws}
use Rattle.sheets.specs.Scaling.{Scaling, ScaleLaws}
use Rattle.sheets.specs.Ceilings.{with_ceiling}
use Rattle.sheets.specs.laws.Parts.{within_itself}

module _ {C : Type 0} (j : Judging) (s : Scaling C) (ceiling : C) (jl : JudgeLaws j) (sl : ScaleLaws s) where
  ceiling_sound : (p a z : ℕ) → Part p a → (with_ceiling j s ceiling).dead p a ≡ true → Within p a z → (with_ceiling j s ceiling).allows z → ⊥
  ceiling_sound p a z part dead within allowed = ⊎_elim
      (λ d. jl.sound p a z part d within allowed.0)
      (λ dear. both_ways (s.below ceiling (s.cost z)) allowed.1 (less_at_most s.below sl.order ceiling (s.floor p a) (s.cost z) dear (sl.bound p a z part within)))
      (or_cases (j.dead p a) (s.below ceiling (s.floor p a)) dead)

  pub ceiling_laws : JudgeLaws (with_ceiling j s ceiling)
  ceiling_laws = record {
    some = jl.some;
    few = jl.few;
    inside = λ z allowed. jl.inside z allowed.0;
    sound = ceiling_sound;
    full_dead = λ p a part every dead. ceiling_sound p a p part dead (within_itself p a part);
    full_allowed = λ p a part every f.
        let parts = or_parts (j.dead p a) (s.below ceiling (s.floor p a)) f in
        (jl.full_allowed p a part every parts.0, ap (s.below ceiling) (sym (sl.exact p a part every)) ∙ parts.1);
  }
