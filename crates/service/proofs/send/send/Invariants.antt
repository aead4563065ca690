use Rattle.std.proofs.Common.{◌≤◌, length, take}
use Rattle.std.specs.Io.KnownBytes.{Appends}
use Rattle.service.proofs.send.send.Given as goal

-- so many of the bytes are written
abbrev pub invariant-loop : goal.invariant-loop
invariant-loop g l =
    (l.sent ≤ length l.bytes) × Appends (g.O.Write.contents l.initial.writer) (g.O.Write.contents l.writer) (take l.sent l.bytes)
