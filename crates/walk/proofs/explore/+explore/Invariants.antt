use Rattle.std.proofs.Common.{◌+◌, ◌-◌, ◌*◌}
use Rattle.words.specs.Tasks.{task}
use Rattle.walk.proofs.Scans.{Scan}
use Rattle.walk.proofs.explore.+explore.Given as goal

abbrev pub decreases-explore : goal.decreases-explore
decreases-explore g l = 9 * l.spot.turn.left + (l.group.now.board.trains - l.spot.turn.moved)

abbrev pub invariant-loop-x : goal.invariant-loop-x
invariant-loop-x g l =
    Scan (g.S.Scale.measure l.group.board.scale.now) (task g.R.Rule.conflicts l.group.board) l.spot l.bound l.x l.best
