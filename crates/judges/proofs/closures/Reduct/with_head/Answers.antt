use Rattle.std.proofs.Common.{◌^◌, ◌<◌, sym, ◌∙◌, arith}
use Rattle.std.proofs.lemmas.Bool.{cond-true, lt-ltb}
use Rattle.sheets.specs.Sheets.{width}
use Rattle.judges.specs.laws.Reached.{picked_low}
use Rattle.judges.proofs.closures.Reduct.with_head.Goals as goal

pub returns-then-is_picked : goal.returns-then-is_picked
returns-then-is_picked c =
    let word : c.args.self.now.sheet < 2 ^ width = omega arith in
    let low = picked_low c.args.self.now.sheet _ word (sym c.if-is_picked.ensures) in
    c.with_mark.ensures.value ∙ cond-true _ _ _ (lt-ltb _ width low) ∙ sym (cond-true _ _ _ (sym c.if-is_picked.ensures))
