use Rattle.std.proofs.Common.{rules, tests}
use Rattle.std.proofs.lemmas.Iterator.{YieldsList-from_slice}
use Rattle.std.proofs.lemmas.Iterator.Search.{all_from_yields_List}
use Rattle.rulefile.specs.Model.{constraint_of}
use Rattle.judges.specs.Rounds.{supported}
use Rattle.judges.proofs.Chains.{all_mapped}
use Rattle.judges.proofs.closures.Reduct.has_support.Goals as goal

pub returns : goal.returns
returns c = all_mapped (supported c.args.self.now.sheet c.args.reached) constraint_of c.args.body.now c.all.result (all_from_yields_List _ _ _ _ c.all.ensures.ran (YieldsList-from_slice c.args.body.now cc) (λ x b q k. search (rules, tests)))
