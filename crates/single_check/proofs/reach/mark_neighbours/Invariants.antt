use Rattle.single_check.specs.Marks.{Widened}
use Rattle.single_check.proofs.Marking.{Near}
use Rattle.single_check.proofs.reach.mark_neighbours.Given as goal

abbrev pub invariant-loop-b : goal.invariant-loop-b
invariant-loop-b l = Widened l.initial.marks (Near l.question.layout.now l.question.roster.now l.a l.b) l.marks
