use Rattle.std.proofs.Common.{rules, tests}
use Rattle.std.proofs.lemmas.Iterator.{YieldsList-from_slice}
use Rattle.std.proofs.lemmas.Iterator.Search.{any_from_yields_List}
use Rattle.rulefile.specs.Model.{rule_of}
use Rattle.judges.specs.Books.{dead_rule}
use Rattle.judges.proofs.Chains.{any_mapped}
use Rattle.judges.proofs.parts.has_dead_rule.Goals as goal

pub returns : goal.returns
returns c = any_mapped (dead_rule c.args.part.present c.args.part.absent) rule_of c.args.rules.now c.any.result (any_from_yields_List _ _ _ _ c.any.ensures.ran (YieldsList-from_slice c.args.rules.now cc) (λ x b q k. search (rules, tests)))
