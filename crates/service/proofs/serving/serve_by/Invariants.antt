use Rattle.std.proofs.Common.{[], drop, length}
use Rattle.planner.specs.History.{meaning}
use Rattle.service.proofs.Standing.{Standing}
use Rattle.service.proofs.serving.serve_by.Given as goal

abbrev pub invariant-bytes : goal.invariant-bytes
invariant-bytes g l =
    Standing (meaning g.R.Rule.conflicts g.S.Scale.measure g.Q.Search.takes) l.fn.rule l.fn.scale l.fn.below g.S.PrintedScale.shown (length l.fn.cells)
    (g.I.Read.remaining l.fn.reader) (g.O.Write.contents l.fn.writer) (drop l.byte-index l.byte-items) (g.I.Read.remaining l.reader) (g.O.Write.contents l.writer) l.intake

abbrev pub invariant-pieces : goal.invariant-pieces
invariant-pieces g l =
    Standing (meaning g.R.Rule.conflicts g.S.Scale.measure g.Q.Search.takes) l.fn.rule l.fn.scale l.fn.below g.S.PrintedScale.shown (length l.fn.cells)
    (g.I.Read.remaining l.fn.reader) (g.O.Write.contents l.fn.writer) [] (g.I.Read.remaining l.reader) (g.O.Write.contents l.writer) l.intake
