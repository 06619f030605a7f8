use Rattle.std.proofs.Common.{◌+◌, [], ◌∷◌, ◌++◌, decimal, sym, refl, ap, ◌∙◌}
use Rattle.report.specs.Lines.{marks}
use Rattle.report.proofs.Pieces.{room_like, writes_like, left_all, left_like, left_first, left_more, left_none}
use Rattle.report.proofs.Texts.{marks_left, marks_left_there, marks_left_missing, marks_left_none}
use Rattle.report.proofs.writing.Writer.marks.Goals as goal
use Rattle.report.proofs.writing.Writer.marks.Goals.{then-has_mark, else-has_mark}

pub loop-mark-init : goal.loop-mark-init
unfolding marks_left marks
loop-mark-init c = left_all refl c.requires

pub text-requires : goal.text-requires
text-requires c =
    let z = c.args.sheet in
    let i = c.loop-mark.mark in
    left_first (32 ∷ []) (decimal i ++ marks_left z (i + 1)) (marks_left_there z i c.loop-mark-test.true (sym c.has_mark.ensures ∙ c.if-has_mark.true)) c.loop-mark.invariant

pub number-requires : goal.number-requires
number-requires c =
    let z = c.args.sheet in
    let i = c.loop-mark.mark in
    let rest = decimal i ++ marks_left z (i + 1) in
    let left = left_more rest (marks_left_there z i c.loop-mark-test.true (sym c.has_mark.ensures ∙ c.if-has_mark.true)) c.loop-mark.invariant c.text.ensures in
    room_like (ap decimal (sym c.from.ensures)) (left_first (decimal i) (marks_left z (i + 1)) refl left)

pub loop-mark-preserved : goal.loop-mark-preserved
loop-mark-preserved c =
    let z = c.args.sheet in
    let i = c.loop-mark.mark in
    elim c.if-has_mark.branch [
      | then-has_mark w ↦
          let left =
          left_more (decimal i ++ marks_left z (i + 1)) (marks_left_there z i c.loop-mark-test.true (sym c.has_mark.ensures ∙ w.if-has_mark.true)) c.loop-mark.invariant w.text.ensures in
          rw w.self-is (left_more (marks_left z (i + 1)) refl left (writes_like (ap decimal w.from.ensures) w.number.ensures))
      | else-has_mark w ↦ rw w.self-is (left_like (marks_left_missing z i c.loop-mark-test.true (sym c.has_mark.ensures ∙ w.if-has_mark.false)) c.loop-mark.invariant)
    ]

pub returns : goal.returns
returns c = left_none (marks_left_none c.args.sheet c.loop-mark.mark c.loop-mark-test.false) c.loop-mark.invariant
