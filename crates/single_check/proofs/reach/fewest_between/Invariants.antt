use Rattle.rules.specs.Conflicts.{Conflicts}
use Rattle.sheets.specs.Inquiry.{problem_asked}
use Rattle.single_check.proofs.Reaching.{Sofar}
use Rattle.single_check.proofs.reach.fewest_between.Given as goal

abbrev pub invariant-loop-steps : goal.invariant-loop-steps
invariant-loop-steps l = (k : Conflicts) → Sofar (problem_asked k l.question) l.steps l.start l.goal l.reached
