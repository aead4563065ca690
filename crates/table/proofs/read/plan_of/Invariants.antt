use Rattle.words.specs.Tasks.{task}
use Rattle.table.proofs.Following.{Followed}
use Rattle.table.proofs.read.plan_of.Given as goal

abbrev pub invariant-loop-t : goal.invariant-loop-t
invariant-loop-t g l = Followed (g.S.Scale.measure l.ahead.group.now.board.scale.now) (task g.R.Rule.conflicts l.ahead.group.now.board) l.ahead.group.now.steps l.ahead.group.now.start l.t l.at l.plan
