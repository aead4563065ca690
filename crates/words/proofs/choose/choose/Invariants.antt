use Rattle.words.specs.Rows.{ChosenTo}
use Rattle.words.proofs.choose.choose.Given as goal

abbrev pub invariant-loop-row : goal.invariant-loop-row
invariant-loop-row l = ChosenTo l.question l.row l.chosen
