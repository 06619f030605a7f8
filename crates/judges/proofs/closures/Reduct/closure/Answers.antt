use Rattle.std.proofs.Common.{map}
use Rattle.rulefile.specs.Model.{rule_of}
use Rattle.judges.specs.laws.Reached.{underway_none, underway_more, underway_less, underway_closure}
use Rattle.judges.proofs.closures.Reduct.closure.Goals as goal

pub loop-reached-init : goal.loop-reached-init
loop-reached-init c = underway_none c.args.self.now.sheet (map rule_of c.args.self.now.rules.now)

pub loop-reached-smaller : goal.loop-reached-smaller
loop-reached-smaller c =
    underway_less c.args.self.now.sheet (map rule_of c.args.self.now.rules.now) c.loop-reached.reached c.next_round-next.result c.next_round-next.ensures c.if-next-reached.false c.loop-reached.invariant

pub loop-reached-preserved : goal.loop-reached-preserved
loop-reached-preserved c =
    underway_more c.args.self.now.sheet (map rule_of c.args.self.now.rules.now) c.loop-reached.reached c.next_round-next.result c.next_round-next.ensures c.loop-reached.invariant

pub returns : goal.returns
returns c = record {
  closes = underway_closure c.args.self.now.sheet (map rule_of c.args.self.now.rules.now) c.loop-reached.reached c.next_round-next.result c.next_round-next.ensures c.if-next-reached.true c.loop-reached.invariant;
  within = c.loop-reached.invariant.inside;
}
