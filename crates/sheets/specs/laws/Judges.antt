-- Lemmas; no contract names what stands here. The laws of the judge that is made of two.
use Rattle.std.specs.Prelude.{◌≡◌, ℕ, true}
use Rattle.std.proofs.Common.{⊎_elim, arith}
use Rattle.std.proofs.lemmas.Bool.{or_cases, or_parts}
use Rattle.sheets.specs.Sheets.{Part, Within}
use Rattle.sheets.specs.Judging.{Judging, JudgeLaws, both}
use Rattle.sheets.specs.laws.Parts.{within_itself}

module _ (j k : Judging) (jl : JudgeLaws j) (kl : JudgeLaws k) where
  both_sound : (p a z : ℕ) → Part p a → (both j k).dead p a ≡ true → Within p a z → (both j k).allows z → ⊥
  both_sound p a z part dead within allowed = ⊎_elim
      (λ d. jl.sound p a z part d within allowed.0)
      (λ d. kl.sound p a z part d within allowed.1)
      (or_cases (j.dead p a) (k.dead p a) dead)

  pub both_laws : JudgeLaws (both j k)
  both_laws = record {
    some = omega (arith, jl.some, kl.some);
    few = omega (arith, jl.few);
    inside = λ z allowed i t. omega (arith, jl.inside z allowed.0 i t, kl.inside z allowed.1 i t);
    sound = both_sound;
    full_dead = λ p a part every dead. both_sound p a p part dead (within_itself p a part);
    full_allowed = λ p a part every f.
        let parts = or_parts (j.dead p a) (k.dead p a) f in
        (jl.full_allowed p a part every parts.0, kl.full_allowed p a part every parts.1);
  }
