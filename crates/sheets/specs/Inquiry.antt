-- What a question asks, and what a sheet tells, read off the program's values.
use Rattle.std.specs.Prelude.{ℕ, cond, [], ◌==◌, slice_index, slice_index_or}
use Rattle.std.specs.Option.{unwrap_or}
use Rattle.track.specs.Layouts.{sections_of, look}
use Rattle.track.specs.declared.layout.Layout.{Layout}
use Rattle.rules.specs.Conflicts.{Conflicts}
use Rattle.scales.specs.Measure.{Measure}
use Rattle.roster.specs.Model.{rows_of, number_at, start_at, goal_at, closed_of}
use Rattle.roster.specs.declared.roster.Roster.{Roster}
use Rattle.sheets.specs.Problem.{Problem, Group, count}
use Rattle.sheets.specs.Plan.{Plan}
use Rattle.sheets.specs.Posing.{marked}
use Rattle.sheets.specs.declared.asked.Asked.{Asked}
use Rattle.sheets.specs.declared.sheet.Sheet.{Sheet}
use Rattle.sheets.specs.declared.question.Question.{Question}

-- the section in which a sheet has a row at a time
abbrev pub plan_of : Sheet → Plan
plan_of s r t = slice_index (slice_index_or s.rows r []) t

-- the points run over in a move: none when standing
abbrev pub over : Layout → (a b : ℕ) → ℕ
over l a b = cond (a == b) 0 (unwrap_or (look l a b) 0)

abbrev pub problem_of : Conflicts → Layout → Roster → (steps : ℕ) → Problem
problem_of conflicts l o steps = record {
  sections = sections_of l;
  points = look l;
  closed = closed_of o;
  rows = rows_of o;
  start = start_at o;
  goal = goal_at o;
  steps = steps;
  conflicts = conflicts;
}

-- the problem that a question asks, under the conflicts of a rule
abbrev pub problem_asked : Conflicts → Question → Problem
problem_asked conflicts q = problem_of conflicts q.layout.now q.roster.now q.steps

-- what a search is asked: the scale's measure, the layout as it is, the numbers of the rows' trains, the problem, and the group
pub record Inquiry (C : Type 0) : Type 0 where
  pub measure : Measure C
  pub layout : Layout
  pub number : ℕ → ℕ
  pub problem : Problem
  pub group : Group

abbrev pub inquiry : {C : Type 0} → (Layout → Conflicts) → Measure C → Question → Inquiry C
inquiry conflicts m q = record {
  measure = m;
  layout = q.layout.now;
  number = number_at q.roster.now;
  problem = problem_of (conflicts q.layout.now) q.layout.now q.roster.now q.steps;
  group = marked q.group;
}

-- what is asked, by what its rule and its scale mean
abbrev pub inquired : {R S C : Type 0} → (R → Layout → Conflicts) → (S → Measure C) → Asked R S → Inquiry C
inquired conflicts measure a = inquiry (conflicts a.rule.now) (measure a.scale.now) a.question.now

-- how many trains the group has
abbrev pub trains : {C : Type 0} → Inquiry C → ℕ
trains i = count i.problem.rows i.group
