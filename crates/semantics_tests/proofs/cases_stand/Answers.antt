use Rattle.semantics_tests.proofs.Tries.{cases}
use Rattle.semantics_tests.proofs.cases_stand.Goals as goal

pub returns : goal.returns
returns c = cases
