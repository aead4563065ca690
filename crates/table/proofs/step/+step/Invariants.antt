use Rattle.std.proofs.Common.{◌+◌, ◌-◌, ◌*◌}
use Rattle.words.specs.Tasks.{task}
use Rattle.table.proofs.Choosing.{Filling}
use Rattle.table.proofs.step.+step.Given as goal

abbrev pub decreases-least_rest : goal.decreases-least_rest
decreases-least_rest g l = 3 * (l.ahead.now.group.now.board.trains - l.turn.moved) + 1

abbrev pub decreases-best_move : goal.decreases-best_move
decreases-best_move g l = 3 * (l.ahead.now.group.now.board.trains - l.turn.moved)

abbrev pub decreases-move_cost : goal.decreases-move_cost
decreases-move_cost g l = 3 * (l.ahead.now.group.now.board.trains - l.turn.moved) - 1

abbrev pub invariant-best_move-loop-i : goal.invariant-best_move-loop-i
invariant-best_move-loop-i g l = Filling (g.S.Scale.measure l.ahead.group.now.board.scale.now) (task g.R.Rule.conflicts l.ahead.group.now.board) l.turn l.sections l.i l.run
