-- There is one report on a file, since one answer is best.
use Rattle.std.proofs.Common.{◌≡◌, ℕ, List, [], ◌++◌, Some, None, Ok, Err, Option, Result, sym, refl, ap, ◌∙◌}
use Rattle.rulefile.specs.declared.refusals.BadFile.{BadFile}
use Rattle.rulefile.specs.Model.{FileModel}
use Rattle.orders.specs.Best.{Best}
use Rattle.orders.specs.Searches.{priced}
use Rattle.ceilings.proofs.Best.{best_one}
use Rattle.report.specs.Lines.{act_lines, answer_line}
use Rattle.report.specs.Reports.{left_open, scale_of, IsReport}
use Rattle.report.proofs.Told.{unpriced}

module _ (f : FileModel) where
  unpriced_priced : (held : Option ℕ) → unpriced (priced (scale_of f) held) ≡ held
  unpriced_priced None = refl
  unpriced_priced (Some z) = refl

  -- the sheet of the report
  pub held_one : (a b : Option ℕ) → Best (left_open f) (scale_of f) (priced (scale_of f) a) → Best (left_open f) (scale_of f) (priced (scale_of f) b) → a ≡ b
  held_one a b p q =
      let same = best_one (left_open f) (scale_of f) f.count (λ z allowed. allowed.0.1.0) (priced (scale_of f) a) (priced (scale_of f) b) p q in
      sym (unpriced_priced a) ∙ ap unpriced same ∙ unpriced_priced b

pub lines_one : (file : Result FileModel BadFile) (a b : List ℕ) → IsReport file a → IsReport file b → a ≡ b
lines_one (Err bad) a b p q = p ∙ sym q
lines_one (Ok f) a b p q =
    p.2 ∙ ap (λ (held : Option ℕ). act_lines f.count [] f.acts ++ answer_line f held) (held_one f p.0 q.0 p.1 q.1) ∙ sym q.2
