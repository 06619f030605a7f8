use Rattle.std.proofs.Common.{rules, subst, sym}
use Rattle.std.proofs.lemmas.Iterator.{YieldsList-from_slice}
use Rattle.std.proofs.lemmas.Iterator.Consumers.{fold_from_yields_List}
use Rattle.sheets.specs.declared.literal_sets.LiteralSet.{LiteralSet}
use Rattle.sheets.specs.LiteralSets.{Stands, in_width, with_literal}
use Rattle.sheets.proofs.LiteralSets.{stands_of}
use Rattle.sheets.proofs.literal_sets.LiteralSet.of.Goals as goal

pub returns : goal.returns
returns c =
    let e = fold_from_yields_List _ with_literal c.empty.result c.fold.result c.fold.ensures.ran (YieldsList-from_slice c.args.literals.now cc) (λ a x b q k. search rules) in
    subst (λ (s : LiteralSet). Stands s.plain s.nots (in_width c.args.literals.now)) (sym e) (stands_of c.empty.result c.args.literals.now c.empty.ensures)
