use Rattle.sheets.specs.Inquiry.{problem_asked, plan_of}
use Rattle.sheets.specs.Posing.{marked}
use Rattle.groups.specs.Model.{naming}
use Rattle.groups.proofs.Seeking.{StepsClear, RowsClear, OthersClear}
use Rattle.groups.proofs.parts.Parts.first_conflict.Given as goal

abbrev pub invariant-loop-step : goal.invariant-loop-step
invariant-loop-step g l =
    StepsClear (problem_asked (g.R.Rule.conflicts l.rule l.question.layout.now) l.question) (marked l.question.group) (naming l.self) (plan_of l.sheet) l.step

abbrev pub invariant-loop-row : goal.invariant-loop-row
invariant-loop-row g l =
    StepsClear (problem_asked (g.R.Rule.conflicts l.rule l.question.layout.now) l.question) (marked l.question.group) (naming l.self) (plan_of l.sheet) l.step
    × RowsClear (problem_asked (g.R.Rule.conflicts l.rule l.question.layout.now) l.question) (marked l.question.group) (naming l.self) (plan_of l.sheet) l.step l.row

abbrev pub invariant-loop-other : goal.invariant-loop-other
invariant-loop-other g l =
    StepsClear (problem_asked (g.R.Rule.conflicts l.rule l.question.layout.now) l.question) (marked l.question.group) (naming l.self) (plan_of l.sheet) l.step
    × RowsClear (problem_asked (g.R.Rule.conflicts l.rule l.question.layout.now) l.question) (marked l.question.group) (naming l.self) (plan_of l.sheet) l.step l.row
    × OthersClear (problem_asked (g.R.Rule.conflicts l.rule l.question.layout.now) l.question) (marked l.question.group) (naming l.self) (plan_of l.sheet) l.step l.row l.other
