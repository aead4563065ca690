use Rattle.std.proofs.Common.{◌≡◌, ◌++◌, length, take, drop}
use Rattle.track.specs.Layouts.{sections_of}
use Rattle.table.specs.Codes.{digits}
use Rattle.table.proofs.positions.Positions.decode.Given as goal

abbrev pub invariant-loop-i : goal.invariant-loop-i
invariant-loop-i g l = (length l.at ≡ 8) × (digits (sections_of l.self.group.now.board.layout.now) l.i l.left ++ drop l.i (take l.self.group.now.board.trains l.at) ≡ digits (sections_of l.self.group.now.board.layout.now) l.self.group.now.board.trains l.code)
