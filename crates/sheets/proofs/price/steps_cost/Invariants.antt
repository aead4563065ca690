use Rattle.std.proofs.Common.{◌≡◌, ◌+◌, ◌&&◌, eqb, get_or, length}
use Rattle.scales.specs.Measure.{joined}
use Rattle.sheets.specs.Inquiry.{over}
use Rattle.sheets.proofs.price.steps_cost.Given as goal

abbrev pub invariant-loop-at : goal.invariant-loop-at
invariant-loop-at g l =
    l.total ≡ joined (g.S.Scale.measure l.scale) (length l.yielded) (λ t. (g.S.Scale.measure l.scale).price (over l.question.layout.now (get_or l.fn.sections t 0) (get_or l.fn.sections (t + 1) 0)) (eqb (get_or l.fn.sections t 0) l.goal && eqb (get_or l.fn.sections (t + 1) 0) l.goal))
