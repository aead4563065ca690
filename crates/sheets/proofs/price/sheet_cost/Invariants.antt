use Rattle.std.proofs.Common.{◌≡◌, cond, length}
use Rattle.rules.specs.Conflicts.{Conflicts}
use Rattle.scales.specs.Measure.{joined}
use Rattle.sheets.specs.Plan.{row_cost}
use Rattle.sheets.specs.Posing.{marked}
use Rattle.sheets.specs.Inquiry.{problem_of, plan_of}
use Rattle.sheets.proofs.price.sheet_cost.Given as goal

abbrev pub invariant-loop-train : goal.invariant-loop-train
invariant-loop-train g l =
    (k : Conflicts) → l.total ≡ joined (g.S.Scale.measure l.scale) (length l.yielded) (λ r. cond (marked l.question.group r) (row_cost (g.S.Scale.measure l.scale) (problem_of k l.question.layout.now l.question.roster.now l.question.steps) (plan_of l.sheet) r) (g.S.Scale.measure l.scale).nothing)
