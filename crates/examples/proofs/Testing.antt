-- The test of an example, and that every example of the table passes it.
use Rattle.std.proofs.Common.{◌≡◌, ℕ, Bool, true, false, not, ◌&&◌, eqb, ltb, leb, List, length, slice_index_or, Some, None, Option, refl}
use Rattle.std.specs.List.{list_all}
use Rattle.track.specs.Links.{links_good, points_of}
use Rattle.track.specs.Fouls.{fouled_by}
use Rattle.track.specs.Model.{Model}
use Rattle.track.specs.declared.layout.Layout.{Layout}
use Rattle.roster.specs.Model.{no_train}
use Rattle.sheets.specs.Problem.{Problem, all}
use Rattle.sheets.specs.Plan.{row_cost, cost}
use Rattle.sheets.specs.Theorems.{same_rows}
use Rattle.groups.specs.Parts.{part, merged, parts, put}
use Rattle.groups.specs.Course.{Outcome, beyond, none, found}
use Rattle.words.specs.Words.{rest, best}
use Rattle.words.specs.Joint.{process}
use Rattle.planner.specs.Promise.{Setting}
use Rattle.examples.specs.Examples.{Scale, by_steps, by_steps_then_points, Cost, conflicts_of, measure_of, Expected, no_sheet, sheet, Example, book, group, by_rows, drawn, granted}
use Rattle.examples.specs.Table.{table}
use Rattle.examples.proofs.Running.{whole}

-- the setting on the layout l, read off a drawing
abbrev pub on_drawing : (e : Example) → Layout → Model → Setting (Cost e.scale)
on_drawing e l m = record {
  layout = l;
  sections = m.sections;
  points = points_of m.links;
  conflicts = conflicts_of e.rule (fouled_by m.fouls);
  measure = measure_of e.scale;
  takes = λ i cells. Unit {0};
}

-- and what is to be planned in it
abbrev pub problem_drawn : Example → Problem
problem_drawn e = record {
  sections = e.drawing.sections;
  points = points_of e.drawing.links;
  closed = (book e).closed;
  rows = length (book e).trains;
  start = λ r. (slice_index_or (book e).trains r no_train).start;
  goal = λ r. (slice_index_or (book e).trains r no_train).goal;
  steps = e.steps;
  conflicts = conflicts_of e.rule (fouled_by e.drawing.fouls);
}

-- whether two costs are the same
abbrev pub same_cost : (s : Scale) → Cost s → Cost s → Bool
same_cost by_steps a b = eqb a b
same_cost by_steps_then_points a b = eqb a.steps b.steps && eqb a.points b.points

-- whether the links are as a drawing has them, with at most 7 points each
abbrev pub few_points : Model → Bool
few_points m = links_good m.sections m.links

-- whether there are 1 to 16 steps and at most 8 rows, and starts and goals are open sections of the layout
abbrev pub asks_well : Problem → Bool
asks_well Q =
    (leb 1 Q.steps && (leb Q.steps 16 && leb Q.rows 8))
    && all Q.rows (λ r. (ltb (Q.start r) Q.sections && ltb (Q.goal r) Q.sections) && (not (Q.closed (Q.start r)) && not (Q.closed (Q.goal r))))

-- how the course ended against what is expected; nothing where the joinings did not suffice
abbrev pub ends_without : Option Outcome → Bool
ends_without None = false
ends_without (Some beyond) = false
ends_without (Some none) = true
ends_without (Some (found m x)) = false

abbrev pub ends_with : (e : Example) → List (List ℕ) → Cost e.scale → ℕ → Option Outcome → Bool
ends_with e rows c n None = false
ends_with e rows c n (Some beyond) = false
ends_with e rows c n (Some none) = false
ends_with e rows c n (Some (found m x)) =
    eqb n m
    && (same_rows (problem_drawn e).rows e.steps (group e) x (by_rows rows)
    && same_cost e.scale (cost (measure_of e.scale) (problem_drawn e) (group e) (by_rows rows)) c)

abbrev pub ends : (e : Example) → Expected (Cost e.scale) → Option Outcome → Bool
ends e no_sheet o = ends_without o
ends e (sheet rows c n) o = ends_with e rows c n o

-- the course is followed by computation, and it ends as is expected
abbrev pub test : Example → Bool
test e = drawn e.drawing && (granted e && (few_points e.drawing && (asks_well (problem_drawn e) && ends e e.expected (whole (measure_of e.scale) (problem_drawn e) (group e)))))

-- computed over the whole table
pub all_pass : list_all test table ≡ true
unfolding rest best process part merged parts put same_rows cost row_cost
all_pass = refl
