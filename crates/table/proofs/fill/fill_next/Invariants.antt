use Rattle.std.proofs.Common.{◌+◌}
use Rattle.words.specs.Tasks.{task}
use Rattle.table.specs.Columns.{Column}
use Rattle.table.proofs.fill.fill_next.Given as goal

abbrev pub invariant-loop-code : goal.invariant-loop-code
invariant-loop-code g l = Column (g.S.Scale.measure l.filled.positions.now.group.now.board.scale.now) (task g.R.Rule.conflicts l.filled.positions.now.group.now.board) (l.left + 1) l.code l.column
