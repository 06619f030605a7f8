-- The text of the log of an order after acts: a line for each act, and that of the sheet.
use Rattle.std.proofs.Common.{◌≡◌, ℕ, suc, ◌≤◌, min, List, [], ◌∷◌, ◌++◌, map, length, take, Some, None, Ok, Option, sym, refl, ap, ◌∙◌, subst, ap₂, arith}
use Rattle.std.proofs.lemmas.List.{append-nil, append_assoc, map_push, take_all}
use Rattle.sheets.specs.Judging.{Judging, both}
use Rattle.sheets.specs.Scaling.{Scaling, first_then}
use Rattle.rulefile.specs.declared.records.Act.{Act}
use Rattle.rulefile.specs.declared.records.Act.TheVariants.{Pin, Bar, Strike, Undo}
use Rattle.rulefile.specs.Model.{FileModel}
use Rattle.judges.specs.Books.{book_of}
use Rattle.judges.specs.Clauses.{list_of}
use Rattle.scales.specs.declared.cost.LevelCost.{LevelCost}
use Rattle.scales.specs.Levels.{levels_of}
use Rattle.scales.specs.Distances.{distance_of}
use Rattle.orders.specs.declared.acts.Act.{Act as Standing}
use Rattle.orders.specs.declared.acts.Refusal.{Refusal}
use Rattle.orders.specs.declared.calls.Call.{Call}
use Rattle.orders.specs.declared.calls.Call.TheVariants.{Seek, Settle}
use Rattle.orders.specs.declared.calls.Answer.{Answer}
use Rattle.orders.specs.declared.calls.Answer.TheVariants.{Final}
use Rattle.orders.specs.declared.calls.Event.{Event}
use Rattle.orders.specs.Acts.{under}
use Rattle.orders.specs.Best.{Best}
use Rattle.orders.specs.Dockets.{returned}
use Rattle.orders.specs.Searches.{priced}
use Rattle.orders.specs.Stages.{marking, calls_had}
use Rattle.orders.specs.Logs.{after_call, after_calls, docket, answer_of, ByDocket, calls_of, EventIn, Conducted}
use Rattle.ceilings.specs.CutOff.{CutOff, ConductedBelow}
use Rattle.report.specs.Lines.{act_line, call_of, refused_by, act_lines, answer_line}
use Rattle.report.specs.Logs.{calls_for, final_text, IsTextOf, IsOrderText, IsTextBelow, answer_text, log_text}
use Rattle.report.specs.Reports.{judge_of, scale_of, IsReport}

abbrev Cost : Type 0
Cost = LevelCost × ℕ

-- ---- the docket

after_calls_append : (n : ℕ) (acts : List Standing) (xs ys : List Call) → after_calls n acts (xs ++ ys) ≡ after_calls n (after_calls n acts xs) ys
after_calls_append n acts [] ys = refl
after_calls_append n acts (x ∷ xs) ys = after_calls_append n (after_call n acts x) xs ys

docket_push : (n : ℕ) (log : List (Event Cost)) (e : Event Cost) → docket n (calls_of (log ++ (e ∷ []))) ≡ after_call n (docket n (calls_of log)) e.call
docket_push n log e = ap (docket n) (map_push (λ (x : Event Cost). x.call) log e) ∙ after_calls_append n [] (calls_of log) (e.call ∷ [])

-- ---- all calls are answered

calls_had_for : (acts : List Act) → calls_had marking (calls_for acts) ≡ length (calls_for acts)
calls_had_for [] = refl
calls_had_for (Pin mark ∷ acts) = ap suc (calls_had_for acts)
calls_had_for (Bar mark ∷ acts) = ap suc (calls_had_for acts)
calls_had_for (Strike sheet ∷ acts) = ap suc (calls_had_for acts)
calls_had_for (Undo ∷ acts) = ap suc (calls_had_for acts)

-- ---- the answers to acts

answered_text : (why : Option Refusal) (after : List Standing) → answer_text (answer_of (returned why after)) ≡ act_line why
answered_text None after = refl
answered_text (Some why) after = refl

act_text : (n : ℕ) (acts : List Standing) (a : Act) (r : Answer Cost) → ByDocket n acts (call_of a) r → answer_text r ≡ act_line (refused_by n acts a)
act_text n acts (Pin mark) r e = ap answer_text e ∙ answered_text (refused_by n acts (Pin mark)) (after_call n acts (call_of (Pin mark)))
act_text n acts (Bar mark) r e = ap answer_text e ∙ answered_text (refused_by n acts (Bar mark)) (after_call n acts (call_of (Bar mark)))
act_text n acts (Strike sheet) r e = ap answer_text e ∙ answered_text (refused_by n acts (Strike sheet)) (after_call n acts (call_of (Strike sheet)))
act_text n acts Undo r e = ap answer_text e ∙ answered_text (refused_by n acts Undo) (after_call n acts (call_of Undo))

-- ---- the whole log

-- what the rest of a log says, where these acts stand and those are still to be called
module _ (n : ℕ) (Holds : List Standing → Option (ℕ × Cost) → Type 0) where
  pub record Told (acts : List Standing) (rest : List Act) (text : List ℕ) : Type 0 where
    pub answer : Option (ℕ × Cost)
    pub holds : Holds (after_calls n acts (map call_of rest)) answer
    pub lines : text ≡ act_lines n acts rest ++ final_text answer

-- the acts are answered by the docket, and of each settling the fact holds
module _ (n : ℕ) (Holds : List Standing → Option (ℕ × Cost) → Type 0) (log : List (Event Cost))
    (decided : (c : Call) (r : Answer Cost) (e : EventIn log c r) → ByDocket n (docket n (calls_of e.before)) c r)
    (settlings : (r : Answer Cost) (e : EventIn log Settle r) → (answer : Option (ℕ × Cost)) × (r ≡ Final answer) × Holds (docket n (calls_of e.before)) answer) where
  -- an event of the log by its call
  named : (before after : List (Event Cost)) (e : Event Cost) (c : Call) → log ≡ before ++ (e ∷ after) → e.call ≡ c → log ≡ before ++ (record { call = c; answer = e.answer } ∷ after)
  named before after e c here same = here ∙ ap (λ (d : Call). before ++ (record { call = d; answer = e.answer } ∷ after)) same

  ends_told : (before : List (Event Cost)) (e f : Event Cost) → log ≡ before ++ (e ∷ f ∷ []) → e.call ≡ Seek → f.call ≡ Settle → Told n Holds (docket n (calls_of before)) [] (log_text (e ∷ f ∷ []))
  unfolding log_text
  ends_told before e f here seeks settles =
      let moved = decided Seek e.answer (record { before = before; after = f ∷ []; here = named before (f ∷ []) e Seek here seeks }) in
      let later : log ≡ (before ++ (e ∷ [])) ++ (f ∷ []) = here ∙ sym (append_assoc before (e ∷ []) (f ∷ [])) in
      let settled = settlings f.answer (record { before = before ++ (e ∷ []); after = []; here = named (before ++ (e ∷ [])) [] f Settle later settles }) in
      let same : docket n (calls_of (before ++ (e ∷ []))) ≡ docket n (calls_of before) = docket_push n before e ∙ ap (after_call n (docket n (calls_of before))) seeks in
      record {
        answer = settled.0;
        holds = subst (λ (acts : List Standing). Holds acts settled.0) same settled.2;
        lines =
            ap₂ (λ (x y : List ℕ). x ++ (y ++ [])) (ap answer_text moved) (ap answer_text settled.1)
            ∙ append-nil (final_text settled.0);
      }

  -- one act more, before what is told of the rest
  act_told : (a : Act) (acts : List Act) (before more : List (Event Cost)) (e : Event Cost) → log ≡ before ++ (e ∷ more) → e.call ≡ call_of a
      → Told n Holds (docket n (calls_of (before ++ (e ∷ [])))) acts (log_text more) → Told n Holds (docket n (calls_of before)) (a ∷ acts) (log_text (e ∷ more))
  unfolding log_text
  act_told a acts before more e here same rest =
      let on : docket n (calls_of (before ++ (e ∷ []))) ≡ after_call n (docket n (calls_of before)) (call_of a) = docket_push n before e ∙ ap (after_call n (docket n (calls_of before))) same in
      let t = subst (λ (d : List Standing). Told n Holds d acts (log_text more)) on rest in
      let first = act_text n (docket n (calls_of before)) a e.answer
      (decided (call_of a) e.answer (record { before = before; after = more; here = named before more e (call_of a) here same })) in
      record {
        answer = t.answer;
        holds = t.holds;
        lines =
            ap₂ (λ (x y : List ℕ). x ++ y) first t.lines
            ∙ sym (append_assoc (act_line (refused_by n (docket n (calls_of before)) a)) (act_lines n (after_call n (docket n (calls_of before)) (call_of a)) acts) (final_text t.answer));
      }

  rest_told : (acts : List Act) (before rest : List (Event Cost)) → log ≡ before ++ rest → calls_of rest ≡ calls_for acts → Told n Holds (docket n (calls_of before)) acts (log_text rest)
  rest_told [] before [] here called = absurd (cc)
  rest_told [] before (e ∷ []) here called = absurd (cc)
  rest_told [] before (e ∷ f ∷ []) here called =
      let seeks : e.call ≡ Seek = cc in
      let settles : f.call ≡ Settle = cc in
      ends_told before e f here seeks settles
  rest_told [] before (e ∷ f ∷ g ∷ more) here called = absurd (cc)
  rest_told (a ∷ acts) before [] here called = absurd (cc)
  rest_told (a ∷ acts) before (e ∷ more) here called =
      let same : e.call ≡ call_of a = cc in
      let others : calls_of more ≡ calls_for acts = cc in
      act_told a acts before more e here same (rest_told acts (before ++ (e ∷ [])) more (here ∙ sym (append_assoc before (e ∷ []) more)) others)

  -- all calls of the log are answered
  told : (acts : List Act) (calls : List Call) (room : ℕ) → calls_of log ≡ take (min (calls_had marking calls) room) calls → calls ≡ calls_for acts → length calls ≤ room → IsTextOf n Holds acts (log_text log)
  told acts calls room answered e enough =
      let many : min (calls_had marking calls) room ≡ length calls = let m = ap (calls_had marking) e ∙ calls_had_for acts ∙ sym (ap length e) in omega (arith, m) in
      let all : calls_of log ≡ calls_for acts = answered ∙ ap (λ (m : ℕ). take m calls) many ∙ take_all (length calls) calls (omega arith) ∙ e in
      let t = rest_told acts [] log refl all in
      record { answer = t.answer; holds = t.holds; lines = t.lines }

-- the log of an order that was conducted, with all that it keeps
module _ (room : ℕ) (acts : List Act) (calls : List Call) (before after : List (Event Cost)) (none : before ≡ []) (e : calls ≡ calls_for acts) (enough : length calls ≤ room) where
  pub order_told : (j : Judging) (s : Scaling Cost) → Conducted j s room calls before after → IsOrderText j s acts (log_text after)
  order_told j s done =
      let all : after ≡ done.events = rw none at done.added in
      rw all
      (told j.count (λ standing. Best (under j standing) s) done.events done.kept.decided
      (λ r event. let x = done.kept.settlings r event in (x.0, x.1, x.2.best))
      acts calls room done.kept.answered e enough)

  -- and over a judge with a ceiling
  pub below_told : (j : Judging) (s : Scaling Cost) (ceiling : Cost) → ConductedBelow j s ceiling room calls before after → IsTextBelow j s ceiling acts (log_text after)
  below_told j s ceiling done =
      let c = done.conducted in
      let all : after ≡ c.events = rw none at c.added in
      rw all (told j.count (CutOff j s ceiling) c.events c.kept.decided done.settlings acts calls room c.kept.answered e enough)

-- ---- the report

-- the sheet of an answer
abbrev pub unpriced : Option (ℕ × Cost) → Option ℕ
unpriced None = None
unpriced (Some a) = Some a.0

pub best_priced : (j : Judging) (s : Scaling Cost) (answer : Option (ℕ × Cost)) → Best j s answer → answer ≡ priced s (unpriced answer)
best_priced j s None best = refl
best_priced j s (Some a) best = ap (λ (c : Cost). Some (a.0, c)) best.its_cost

pub answer_told : (f : FileModel) (held : Option ℕ) → final_text (priced (scale_of f) held) ≡ answer_line f held
answer_told f None = refl
answer_told f (Some z) = refl

-- the smaller of a count and itself
pub same_count : (n : ℕ) → min n n ≡ n
same_count n = omega arith

report_told : (f : FileModel) (text : List ℕ) → IsOrderText (judge_of f) (scale_of f) f.acts text → IsReport (Ok f) text
report_told f text told =
    let acts : List Call = map call_of f.acts in
    let held = unpriced told.answer in
    let is = best_priced _ _ told.answer told.holds in (
      held,
      subst (λ (m : ℕ). Best (under (judge_of f) (docket m acts)) (scale_of f) (priced (scale_of f) held)) (same_count f.count)
          (subst (Best (under (judge_of f) (docket (min f.count f.count) acts)) (scale_of f)) is told.holds),
      told.lines ∙ ap₂ (λ (m : ℕ) (line : List ℕ). act_lines m [] f.acts ++ line) (same_count f.count) (ap final_text is ∙ answer_told f held),
    )

-- over judges and scales of the file
pub made_told : (f a b d : FileModel) (h : ℕ) (acts : List Act) (text : List ℕ) → a ≡ f → b ≡ f → d ≡ f → h ≡ f.house → acts ≡ f.acts
    → IsOrderText (both (book_of a) (list_of b)) (first_then (levels_of d.wishes) (distance_of h)) acts text → IsReport (Ok f) text
made_told f a b d h acts text ea eb ed eh eacts told = report_told f text (rw (ea, eb, ed, eh, eacts) at told)
