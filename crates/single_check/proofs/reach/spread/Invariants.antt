use Rattle.single_check.specs.Marks.{Widened}
use Rattle.single_check.proofs.Marking.{FromBelow}
use Rattle.single_check.proofs.reach.spread.Given as goal

abbrev pub invariant-loop-a : goal.invariant-loop-a
invariant-loop-a l = Widened l.marked-items (FromBelow l.question.layout.now l.question.roster.now l.marked-items l.a) l.reached
