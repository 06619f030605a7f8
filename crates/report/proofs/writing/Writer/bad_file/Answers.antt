use Rattle.std.proofs.Common.{◌≡◌, ◌++◌, codes, decimal, sym, ap, ◌∙◌}
use Rattle.std.proofs.lemmas.List.{append_assoc}
use Rattle.rulefile.specs.declared.refusals.BadFile.{BadFile}
use Rattle.rulefile.specs.Numbers as file
use Rattle.rulefile.specs.Words.{bad_file_words}
use Rattle.report.specs.Lines.{line_end, bad_file_line}
use Rattle.report.proofs.Pieces.{writes_join, writes_like}
use Rattle.report.proofs.writing.Writer.bad_file.Goals as goal

-- the line in the pieces that are written
pieces : (bad : BadFile) → codes "refused " ++ (decimal (file.number bad.why) ++ (codes " at " ++ (decimal bad.at ++ line_end))) ≡ bad_file_words bad ++ line_end
pieces bad = ap (λ l. codes "refused " ++ l) (sym (append_assoc (decimal (file.number bad.why)) (codes " at " ++ decimal bad.at) line_end))

pub returns : goal.returns
unfolding bad_file_line
returns c =
    let number = writes_like (ap decimal (c.from.ensures ∙ c.number.ensures)) c.number-2.ensures in
    writes_like (pieces c.args.bad) (writes_join c.text.ensures (writes_join number (writes_join c.text-2.ensures (writes_join c.number-3.ensures c.text-3.ensures))))
