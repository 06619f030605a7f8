use Rattle.std.proofs.Common.{◌≡◌}
use Rattle.orders.specs.Searches.{Steps}
use Rattle.orders.proofs.steps.Walk.take.Given as goal

abbrev pub invariant-loop-taken : goal.invariant-loop-taken
invariant-loop-taken g l = record {
  judge : l.self.judge ≡ l.fn.self.judge;
  scale : l.self.scale ≡ l.fn.self.scale;
  steps : Steps (g.J.Judge.judging l.fn.self.judge.now) (g.S.Scale.scaling l.fn.self.scale.now) l.fn.self.search l.taken l.self.search;
}
