use Rattle.report.specs.Lines.{sheet_line}
use Rattle.report.proofs.Pieces.{writes_join}
use Rattle.report.proofs.writing.Writer.sheet.Goals as goal

pub returns : goal.returns
unfolding sheet_line
returns c =
    writes_join c.text.ensures
    (writes_join c.marks.ensures
    (writes_join c.text-2.ensures
    (writes_join c.levels.ensures
    (writes_join c.text-3.ensures
    (writes_join c.number.ensures c.text-4.ensures)))))
