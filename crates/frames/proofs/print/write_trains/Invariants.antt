use Rattle.std.proofs.Common.{◌≡◌}
use Rattle.std.specs.List.{AllByRecursion}
use Rattle.frames.specs.Text.{text, written, ReadsBack}
use Rattle.frames.specs.Replies.{train_lines}
use Rattle.frames.proofs.print.write_trains.Given as goal

abbrev pub invariant-loop-row : goal.invariant-loop-row
invariant-loop-row l =
    (l.out ≡ written l.initial.out 0 (text (train_lines l.numbers l.sheet l.steps l.row))) × AllByRecursion ReadsBack (train_lines l.numbers l.sheet l.steps l.row)
