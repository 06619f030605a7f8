-- The text of the log of a press, and that there is one.
use Rattle.std.proofs.Common.{◌≡◌, ℕ, min, Bool, true, false, cond, not, ◌&&◌, ◌||◌, List, [], ◌++◌, map, Some, None, Ok, Option, sym, refl, ap, ◌∙◌, subst, ap₂}
use Rattle.std.proofs.lemmas.Bool.{le-ltb}
use Rattle.sheets.specs.Sheets.{width}
use Rattle.sheets.specs.Judging.{both}
use Rattle.sheets.specs.Scaling.{first_then}
use Rattle.sheets.specs.laws.Counting.{marks_most}
use Rattle.total_order.specs.Orders.{first_decides}
use Rattle.rulefile.specs.declared.records.Act.{Act}
use Rattle.rulefile.specs.Model.{FileModel}
use Rattle.judges.specs.Books.{book_of}
use Rattle.judges.specs.Clauses.{list_of}
use Rattle.scales.specs.declared.cost.LevelCost.{LevelCost}
use Rattle.scales.specs.Levels.{levels_of, cheaper}
use Rattle.scales.specs.Distances.{differ_at, distance_of}
use Rattle.orders.specs.declared.calls.Call.{Call}
use Rattle.orders.specs.Acts.{under}
use Rattle.orders.specs.Best.{Best}
use Rattle.orders.specs.Searches.{priced}
use Rattle.orders.specs.Logs.{docket}
use Rattle.ceilings.specs.CutOff.{cut_off}
use Rattle.report.specs.Lines.{call_of, act_lines, answer_line}
use Rattle.report.specs.Logs.{final_text, IsTextBelow}
use Rattle.report.specs.Reports.{judge_of, scale_of, IsReport}
use Rattle.report.specs.Presses.{not_dearer, IsPressReport}
use Rattle.report.proofs.Told.{unpriced, best_priced, answer_told, same_count}
use Rattle.report.proofs.Only.{held_one, lines_one}

-- what the house sheet costs by levels, with the greatest distance
abbrev pub ceiling_of : FileModel → LevelCost × ℕ
ceiling_of f = ((levels_of f.wishes).cost f.house, width)

-- where the rest is not below, the first part decides alone
first_alone : {C : Type 0} (below : C → C → Bool) (x y : C) (rest : Bool) → rest ≡ false → first_decides below x y rest ≡ below x y
first_alone below x y rest f = ap (λ (r : Bool). first_decides below x y r) f ∙ go (below x y) (below y x)
  where
    go : (b c : Bool) → (b || (not c && false)) ≡ b
    go true c = refl
    go false true = refl
    go false false = refl

-- the ceiling is below the cost of a sheet exactly where the wishes make the sheet dearer
dear : (f : FileModel) (z : ℕ) → (scale_of f).below (ceiling_of f) ((scale_of f).cost z) ≡ cheaper f.wishes f.house z
dear f z = first_alone (levels_of f.wishes).below ((levels_of f.wishes).cost f.house) ((levels_of f.wishes).cost z) _
    (le-ltb width ((distance_of f.house).cost z) (marks_most width (differ_at z f.house)))

-- cutting the answer off is cutting its sheet off
cut_priced : (f : FileModel) (held : Option ℕ) → cut_off (scale_of f) (ceiling_of f) (priced (scale_of f) held) ≡ priced (scale_of f) (not_dearer f held)
cut_priced f None = refl
cut_priced f (Some z) =
    ap (λ (b : Bool). cond b None (Some (z, (scale_of f).cost z))) (dear f z) ∙ go (cheaper f.wishes f.house z)
  where
    go : (b : Bool) → cond b None (Some (z, (scale_of f).cost z)) ≡ priced (scale_of f) (cond b None (Some z))
    go true = refl
    go false = refl

press_told : (f : FileModel) (text : List ℕ) → IsTextBelow (judge_of f) (scale_of f) (ceiling_of f) f.acts text → IsPressReport f text
press_told f text told =
    let acts : List Call = map call_of f.acts in
    let cut = told.holds in
    let held = unpriced cut.whole in
    let is = best_priced _ _ cut.whole cut.best in
    let answered = cut.cut ∙ ap (cut_off (scale_of f) (ceiling_of f)) is ∙ cut_priced f held in
    record {
      held = held;
      best = subst (λ (m : ℕ). Best (under (judge_of f) (docket m acts)) (scale_of f) (priced (scale_of f) held)) (same_count f.count)
          (subst (Best (under (judge_of f) (docket (min f.count f.count) acts)) (scale_of f)) is cut.best);
      printed = told.lines ∙ ap₂ (λ (m : ℕ) (line : List ℕ). act_lines m [] f.acts ++ line) (same_count f.count) (ap final_text answered ∙ answer_told f (not_dearer f held));
    }

-- over judges, scales and the ceiling of the file
pub made_press_told : (f a b d : FileModel) (h : ℕ) (ceiling : LevelCost × ℕ) (acts : List Act) (text : List ℕ) → a ≡ f → b ≡ f → d ≡ f → h ≡ f.house → ceiling ≡ ceiling_of f → acts ≡ f.acts
    → IsTextBelow (both (book_of a) (list_of b)) (first_then (levels_of d.wishes) (distance_of h)) ceiling acts text → IsPressReport f text
made_press_told f a b d h ceiling acts text ea eb ed eh ec eacts told = press_told f text (rw (ea, eb, ed, eh, ec, eacts) at told)

-- the lines of a press are one
pub press_one : (f : FileModel) (a b : List ℕ) → IsPressReport f a → IsPressReport f b → a ≡ b
press_one f a b p q =
    p.printed ∙ ap (λ (held : Option ℕ). act_lines f.count [] f.acts ++ answer_line f (not_dearer f held)) (held_one f p.held q.held p.best q.best) ∙ sym q.printed

-- the report on the file has the line of its own sheet
pub press_report : (f : FileModel) (lines report : List ℕ) (p : IsPressReport f lines) → IsReport (Ok f) report → report ≡ act_lines f.count [] f.acts ++ answer_line f p.held
press_report f lines report p r = lines_one (Ok f) report (act_lines f.count [] f.acts ++ answer_line f p.held) r (p.held, p.best, refl)
