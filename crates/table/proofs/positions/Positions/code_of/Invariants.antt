use Rattle.std.proofs.Common.{◌≡◌}
use Rattle.track.specs.Layouts.{sections_of}
use Rattle.table.specs.Codes.{code_of}
use Rattle.table.proofs.positions.Positions.code_of.Given as goal

abbrev pub invariant-loop-section : goal.invariant-loop-section
invariant-loop-section g l = l.code ≡ code_of (sections_of l.self.group.now.board.layout.now) l.section-index l.fn.at
