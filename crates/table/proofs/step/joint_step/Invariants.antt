use Rattle.words.specs.Tasks.{task}
use Rattle.table.proofs.Following.{Stepping}
use Rattle.table.proofs.step.joint_step.Given as goal

abbrev pub invariant-loop : goal.invariant-loop
invariant-loop g l = Stepping (g.S.Scale.measure l.ahead.group.now.board.scale.now) (task g.R.Rule.conflicts l.ahead.group.now.board) l.left l.fn.at l.counter l.turn
