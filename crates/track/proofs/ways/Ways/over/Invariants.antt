use Rattle.std.proofs.Common.{◌≡◌, length, take}
use Rattle.track.proofs.ways.Ways.over.Given as goal

-- the first `count` places hold the sections so far
abbrev pub invariant-loop-b : goal.invariant-loop-b
invariant-loop-b l = (length l.ends ≡ 32) × (l.count ≡ length l.yielded) × (take l.count l.ends ≡ l.yielded)
