use Rattle.words.specs.Tasks.{task}
use Rattle.table.specs.Columns.{Column}
use Rattle.table.proofs.fill.fill_last.Given as goal

abbrev pub invariant-loop-code : goal.invariant-loop-code
invariant-loop-code g l = Column (g.S.Scale.measure l.board.scale.now) (task g.R.Rule.conflicts l.board) 0 l.code l.column
