use Rattle.std.proofs.Common.{get_or, None}
use Rattle.scales.specs.Runs.{FirstLeast}
use Rattle.scales.proofs.least.first_least.Given as goal

abbrev pub invariant-loop-i : goal.invariant-loop-i
invariant-loop-i g l = FirstLeast (g.S.Scale.measure l.scale) l.i (λ i. get_or l.run i None) l.best
