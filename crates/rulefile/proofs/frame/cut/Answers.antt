use Rattle.std.proofs.Common.{◌-◌, length, take, drop, sym, ◌∙◌, arith, ltb-false, ltb-true}
use Rattle.std.proofs.lemmas.List.{take_rest}
use Rattle.rulefile.proofs.Fields.{little_4, little_4_2}
use Rattle.rulefile.proofs.Frames.{cut_made}
use Rattle.rulefile.proofs.frame.cut.Goals as goal

pub returns-clause-value : goal.returns-clause-value
returns-clause-value c =
    cut_made c.args.bytes.now (take (length c.args.bytes.now - 6) (drop 6 c.args.bytes.now)) _ _ c.from_le_bytes-n.result c.from_le_bytes-kind.result
    (omega (arith, ltb-true, ltb-false)) (little_4 _ ∙ sym c.from_le_bytes-n.ensures) (sym c.if-not-length_fits.ensures) (take_rest c.args.bytes.now 6) c.if-size-rest.false (little_4_2 c.args.bytes.now ∙ sym c.from_le_bytes-kind.ensures) c.split_at.ensures.front c.split_at.ensures.back
