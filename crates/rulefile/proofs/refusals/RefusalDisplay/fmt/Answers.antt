use Rattle.rulefile.proofs.refusals.RefusalDisplay.fmt.Goals as goal

pub returns-in-TooManyOfKind-clause-writes : goal.returns-in-TooManyOfKind-clause-writes
returns-in-TooManyOfKind-clause-writes g c = λ plain ok.
    let first = c.number-in-TooManyOfKind.ensures in
    let second = c.number-in-TooManyOfKind-2.ensures in
    rw c.in-TooManyOfKind.is (simp (first, second) at (c.write-in-TooManyOfKind.ensures.writes plain ok))
