use Rattle.std.proofs.Common.{length}
use Rattle.sheets.specs.Inquiry.{inquired}
use Rattle.grouping.proofs.Following.{RowsAsked}
use Rattle.grouping.proofs.joining.ask_each_alone.Given as goal

abbrev pub invariant-loop-row : goal.invariant-loop-row
invariant-loop-row g l =
    RowsAsked (g.Q.Search.takes l.initial.below) (g.Q.Search.takes l.below) (inquired g.R.Rule.conflicts g.S.Scale.measure l.asked) (length l.initial.cells) l.initial.draft l.row l.draft
