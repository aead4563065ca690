use Rattle.std.proofs.Common.{length}
use Rattle.roster.specs.Model.{rows_of}
use Rattle.sheets.specs.Posing.{marked}
use Rattle.sheets.specs.Inquiry.{inquired}
use Rattle.groups.specs.Parts.{parts}
use Rattle.groups.specs.Model.{naming}
use Rattle.grouping.proofs.Following.{PartsAsked}
use Rattle.grouping.proofs.joining.join_conflicting.Given as goal

abbrev pub invariant-loop-conflict : goal.invariant-loop-conflict
invariant-loop-conflict g l =
    PartsAsked (g.Q.Search.takes l.initial.below) (g.Q.Search.takes l.below) (inquired g.R.Rule.conflicts g.S.Scale.measure l.asked) (length l.initial.cells) l.initial.draft (naming l.parts) l.draft

-- each joining leaves one part fewer
abbrev pub decreases-loop-conflict : goal.decreases-loop-conflict
decreases-loop-conflict g l = parts (rows_of l.asked.question.now.roster.now) (marked l.asked.question.now.group) (naming l.parts)
