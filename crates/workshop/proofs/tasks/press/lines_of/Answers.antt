use Rattle.std.proofs.Common.{take, rc_value, rules, sym, ap, ◌∙◌, subst}
use Rattle.std.proofs.lemmas.List.{with_items_is, places}
use Rattle.rulefile.specs.Answers.{file_of}
use Rattle.report.specs.Presses.{PressReport}
use Rattle.report.proofs.Buffers.{front}
use Rattle.workshop.proofs.tasks.press.lines_of.Goals as goal

pub returns : goal.returns
returns c =
    let written = c.in_ok-length.ensures in
    let n = c.in_ok-length.length in
    let items = c.truncate.ensures.items ∙ ap (take n) (with_items_is c.in_ok-lines.lines c.press.new.out (search (rules, places)))
    ∙ front written.lines _ c.press.new.out n written.many written.buffer in
    subst (PressReport (file_of (rc_value c.args.file.now))) (sym items) written.promised
