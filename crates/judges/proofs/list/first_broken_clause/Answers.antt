use Rattle.std.proofs.Common.{not, rules, tests}
use Rattle.std.specs.List.{list_any}
use Rattle.std.proofs.lemmas.Iterator.{YieldsList-from_slice}
use Rattle.std.proofs.lemmas.Iterator.Search.{position_from_yields_List}
use Rattle.sheets.specs.Literals.{held}
use Rattle.rulefile.specs.declared.records.Clause.{Clause}
use Rattle.rulefile.specs.Model.{clause_of}
use Rattle.judges.proofs.FirstClause.{first_of}
use Rattle.judges.proofs.list.first_broken_clause.Goals as goal

pub returns : goal.returns
returns c =
    first_of c.of_sheet-by.result _ c.of_sheet-by.ensures c.args.clauses.now c.position.result
    (position_from_yields_List (λ (x : Clause). not (list_any (held c.of_sheet-by.result) (clause_of x))) _ _ c.position.result c.position.ensures.ran (YieldsList-from_slice c.args.clauses.now cc) (λ x b q k. search (rules, tests)))
