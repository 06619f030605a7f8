use Rattle.std.proofs.Common.{rules, tests}
use Rattle.std.proofs.lemmas.Iterator.{YieldsList-from_slice}
use Rattle.std.proofs.lemmas.Iterator.Search.{all_from_yields_List}
use Rattle.rulefile.specs.Model.{clause_of}
use Rattle.std.specs.List.{list_any}
use Rattle.sheets.specs.Literals.{held}
use Rattle.judges.proofs.Chains.{all_mapped}
use Rattle.judges.proofs.list.are_kept.Goals as goal

pub returns : goal.returns
returns c = all_mapped (list_any (held c.args.by)) clause_of c.args.clauses.now c.all.result (all_from_yields_List _ _ _ _ c.all.ensures.ran (YieldsList-from_slice c.args.clauses.now cc) (λ x b q k. search (rules, tests)))
