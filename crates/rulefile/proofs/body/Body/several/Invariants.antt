use Rattle.std.proofs.Common.{◌≡◌, ◌-◌, map, vec_items}
use Rattle.rulefile.specs.Parser.{times}
use Rattle.rulefile.proofs.Steps.{onto}
use Rattle.rulefile.proofs.body.Body.several.Given as goal

-- the fields that were read go before what the rest will be
abbrev pub invariant-loop-i : goal.invariant-loop-i
invariant-loop-i g l =
    let p = g.T.Field.parser in
    (l.self.count ≡ l.initial.self.count)
    × (times l.n (p l.initial.self.count) l.initial.self.rest.now ≡ onto (map g.T.Field.meaning (vec_items l.all)) (times (l.n - l._i) (p l.self.count) l.self.rest.now))
