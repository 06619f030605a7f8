use Rattle.std.proofs.Common.{◌≡◌, ℕ}
use Rattle.sheets.specs.Sheets.{width}
use Rattle.orders.specs.Searches.{Steps}
use Rattle.orders.proofs.Remaining.{left}
use Rattle.orders.proofs.steps.Walk.finish.Given as goal

abbrev pub invariant-loop-self : goal.invariant-loop-self
invariant-loop-self g l = record {
  judge : l.self.judge ≡ l.fn.self.judge;
  scale : l.self.scale ≡ l.fn.self.scale;
  steps : (m : ℕ) × Steps (g.J.Judge.judging l.fn.self.judge.now) (g.S.Scale.scaling l.fn.self.scale.now) l.fn.self.search m l.self.search;
}

abbrev pub decreases-loop-self : goal.decreases-loop-self
decreases-loop-self g l = left width l.self.search
