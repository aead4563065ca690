use Rattle.std.proofs.Common.{arith}
use Rattle.table.proofs.Whole.{cells_fit}
use Rattle.table.proofs.as_search.TableCostSearch.search.Goals as goal

pub overflow_mul-used : goal.overflow_mul-used
overflow_mul-used g c = omega (arith, cells_fit c.of-positions.result c.of-group.result.steps c.of-group.result.short)
