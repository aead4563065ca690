-- What a worked example asks, as plain data, and how the definitions of the other crates read it.
use Rattle.std.specs.Prelude.{ℕ, ◌+◌, ◌*◌, Bool, true, ◌&&◌, List, [], ◌∷◌, ◌++◌, length, map, is_none, slice_index, slice_index_or}
use Rattle.std.specs.List.{list_all}
use Rattle.track.specs.Layouts.{fouled}
use Rattle.track.specs.Model.{Model, blank, widened, with_link, with_foul, sections_declined, link_declined, foul_declined}
use Rattle.track.specs.declared.foul.Foul.{Foul}
use Rattle.track.specs.declared.layout.Layout.{Layout}
use Rattle.track.specs.declared.link.Link.{Link}
use Rattle.rules.specs.Conflicts.{Conflicts, following, clear_section}
use Rattle.scales.specs.Measure.{Measure}
use Rattle.scales.specs.Steps.{steps}
use Rattle.scales.specs.Pairs.{pairs}
use Rattle.scales.specs.declared.pair.Pair.{Pair}
use Rattle.roster.specs.Book.{Call, possess, plan, Book, empty, declined, book_of, entry_of}
use Rattle.roster.specs.declared.train.Train.{Train}
use Rattle.sheets.specs.Problem.{Problem, Group}
use Rattle.sheets.specs.Plan.{Plan}
use Rattle.sheets.specs.Posing.{all_trains}
use Rattle.planner.specs.Promise.{Setting, problem}
use Rattle.planner.specs.Promise.{setting as of_layout}
use Rattle.planner.specs.Refusals.{refusals}

pub data Rule : Type 0 where
  follow : Rule
  clear : Rule

-- which moves conflict under the rule, where `fouls a b c d` says which links foul
abbrev pub conflicts_of : Rule → (fouls : Conflicts) → Conflicts
conflicts_of follow fouls = following fouls
conflicts_of clear fouls = clear_section fouls

pub data Scale : Type 0 where
  by_steps : Scale
  by_steps_then_points : Scale

abbrev pub Cost : Scale → Type 0
Cost by_steps = ℕ
Cost by_steps_then_points = Pair

abbrev pub measure_of : (s : Scale) → Measure (Cost s)
measure_of by_steps = steps
measure_of by_steps_then_points = pairs

-- what is expected: no sheet is lawful; or this sheet is the best, at this cost, and the grouping comes to it with so many groups
pub data Expected (C : Type 0) : Type 0 where
  no_sheet : Expected C
  sheet : (rows : List (List ℕ)) (cost : C) (groups : ℕ) → Expected C

pub record Example : Type 0 where
  pub drawing : Model
  pub closed : List ℕ
  -- in rising number
  pub trains : List Train
  pub steps : ℕ
  pub rule : Rule
  pub scale : Scale
  pub expected : Expected (Cost scale)

-- the calls that a planner gets: each train is entered, and each closed section taken into possession
abbrev pub calls : Example → List Call
calls e = map entry_of e.trains ++ map possess e.closed

abbrev pub book : Example → Book
book e = book_of e.drawing.sections (calls e)

-- the setting of a planner on the layout l, under the rule and the scale, over a search that takes
-- every group
abbrev pub setting : (e : Example) → Layout → Setting (Cost e.scale)
setting e l = of_layout l (conflicts_of e.rule (fouled l)) (measure_of e.scale) (λ i cells. Unit {0})

abbrev pub asked : (e : Example) → Setting (Cost e.scale) → Problem
asked e w = problem w (book e) e.steps

abbrev pub group : Example → Group
group e = all_trains (length (book e).trains)

-- a sheet by its rows: the section at each time
abbrev pub by_rows : List (List ℕ) → Plan
by_rows rows r t = slice_index (slice_index_or rows r []) t

-- whether none of the links is declined, drawn one after the other; and none of the fouls
abbrev pub links_granted : Model → List Link → Bool
links_granted m [] = true
links_granted m (l ∷ ls) = is_none (link_declined m l.a l.b l.points) && links_granted (with_link m l.a l.b l.points) ls

abbrev pub fouls_granted : Model → List Foul → Bool
fouls_granted m [] = true
fouls_granted m (f ∷ fs) = is_none (foul_declined m f.a f.b f.c f.d) && fouls_granted (with_foul m f.a f.b f.c f.d) fs

-- whether the drawing can be drawn: first its sections, then its links, then its fouls
abbrev pub drawn : Model → Bool
drawn m =
    is_none (sections_declined blank m.sections)
    && (links_granted (widened blank m.sections) m.links
    && fouls_granted (record { sections = m.sections; links = m.links; fouls = [] }) m.fouls)

-- the plan call after them, with the fewest cells that a planner takes
abbrev pub plan_call : Example → Call
plan_call e = plan e.steps (e.drawing.sections * (e.steps + 1))

-- whether the book declines none of the calls
abbrev pub granted : Example → Bool
granted e = list_all is_none (refusals e.drawing.sections empty (calls e)) && is_none (declined e.drawing.sections (book e) (plan_call e))
