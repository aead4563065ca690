use Rattle.std.proofs.Common.{arith}
use Rattle.table.proofs.Whole.{cells_used}
use Rattle.table.proofs.Worksheets.{filled_tells}
use Rattle.table.proofs.as_search.best_of.Goals as goal

pub invariant_of-ahead : goal.invariant_of-ahead
invariant_of-ahead g c = record {
  knows = ∣ filled_tells g.R.Rule.conflicts _ _ c.args.positions.now.group.now.steps (omega (arith, c.requires.cells, cells_used c.args.positions.now.count c.args.positions.now.group.now.steps, c.fill.auto.cells)) c.fill.ensures.every_cell_has_the_least_cost_of_the_rest ∣₁;
}
