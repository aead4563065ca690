use Rattle.std.proofs.Common.{◌≡◌, ◌*◌, take}
use Rattle.frames.specs.Text.{line_of, written}
use Rattle.frames.proofs.line.write_line.Given as goal

abbrev pub invariant-loop-i : goal.invariant-loop-i
invariant-loop-i l = l.out ≡ written l.initial.out 0 (take (3 * l.i) (line_of l.bytes))
