-- What the least and the greatest sum count.
use Rattle.std.proofs.Common.{◌≡◌, ℕ, Bool, true, false, cond, not, Decides, ap, ◌∙◌, ⊎_elim}
use Rattle.std.proofs.lemmas.Bool.{both_ways, cases_lt}
use Rattle.sheets.specs.declared.literals.Literal.{Literal}
use Rattle.sheets.specs.Sheets.{width, has, others, Part, Within}
use Rattle.sheets.specs.Literals.{held, Holds, in_every, in_some}
use Rattle.sheets.specs.laws.Bits.{has_high}
use Rattle.sheets.specs.laws.Parts.{others_word, has_others, apart_turned, subset_others, within_itself}
use Rattle.sheets.proofs.Held.{sure_holds, holds_possible}
use Rattle.judges.specs.Theorems.{SumsStand}

module _ (p a : ℕ) (part : Part p a) where
  -- the sheet within that has the most marks
  highest : Within p a (others a)
  highest = record {
    word = others_word a part.absent_word;
    all = subset_others a p part.absent_word part.present_word (apart_turned p a part.apart);
    none = λ i t. ⊎_elim
        (λ lt. has_others a part.absent_word i lt ∙ ap not t)
        (λ ge. absurd (both_ways (has a i) (has_high width a i part.absent_word ge) t)) (cases_lt i width);
  }

  every : (l : Literal) → Decides (held (in_every p a) l) ((z : ℕ) → Within p a z → Holds z l)
  every l = (λ t z w. sure_holds p a z part w l t, λ h. go l.negated (h p (within_itself p a part)) (h (others a) highest))
    where
      go : (b : Bool) → cond b (not (has p l.mark)) (has p l.mark) ≡ true → cond b (not (has (others a) l.mark)) (has (others a) l.mark) ≡ true
          → cond b (not (has (others a) l.mark)) (has p l.mark) ≡ true
      go true x y = y
      go false x y = x

  some : (l : Literal) → Decides (held (in_some p a) l) ((z : ℕ) × Within p a z × Holds z l)
  some l = (λ t. go l.negated t, λ h. holds_possible p a h.0 part h.1 l h.2)
    where
      go : (b : Bool) → cond b (not (has p l.mark)) (has (others a) l.mark) ≡ true → (z : ℕ) × Within p a z × (cond b (not (has z l.mark)) (has z l.mark) ≡ true)
      go true t = (p, within_itself p a part, t)
      go false t = (others a, highest, t)

pub sums : SumsStand
sums = record { every = λ p a l part. every p a part l; some = λ p a l part. some p a part l }
