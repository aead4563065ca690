use Rattle.words.specs.Tasks.{task}
use Rattle.table.specs.Columns.{Columns}
use Rattle.table.proofs.fill.fill.Given as goal

abbrev pub invariant-loop-left : goal.invariant-loop-left
invariant-loop-left g l = Columns (g.S.Scale.measure l.positions.group.now.board.scale.now) (task g.R.Rule.conflicts l.positions.group.now.board) l.left l.positions.count l.cells
