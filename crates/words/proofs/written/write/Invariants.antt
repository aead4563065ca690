use Rattle.words.specs.Rows.{Written}
use Rattle.words.proofs.written.write.Given as goal

abbrev pub invariant-loop-i : goal.invariant-loop-i
invariant-loop-i l = Written l.chosen l.plan l.steps l.i l.initial.sheet l.sheet
