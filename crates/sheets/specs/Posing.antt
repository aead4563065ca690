-- Which questions can be asked.
use Rattle.std.specs.Prelude.{ℕ, Bool, false, not, ◌||◌, List, None, Option, ◌==◌, nat_lt, slice_index_or}
use Rattle.track.specs.Refusals.{met}
use Rattle.track.specs.Layouts.{sections_of}
use Rattle.track.specs.declared.layout.Layout.{Layout}
use Rattle.roster.specs.Trains.{on_layout}
use Rattle.roster.specs.Model.{held, rows_of}
use Rattle.roster.specs.declared.roster.Roster.{Roster}
use Rattle.sheets.specs.Problem.{Group, count, all}

-- the rows that a table of eight marks has
abbrev pub marked : List Bool → Group
marked marks r = slice_index_or marks r false

-- the group of all of n trains
abbrev pub all_trains : (n : ℕ) → Group
all_trains n r = nat_lt r n

-- every row that is marked is a row of the roster
unfoldable pub all_rows : Roster → List Bool → Bool
all_rows o marks = all 8 (λ r. not (marked marks r) || nat_lt r (rows_of o))

-- the number of the first condition that declines the question
unfoldable pub question_declined : Layout → Roster → List Bool → ℕ → Option ℕ
question_declined l o marks steps =
    met 1 (not (on_layout (sections_of l) (held o)))
    (met 17 (not (all_rows o marks))
    (met 21 (steps == 0 || nat_lt 16 steps)
    (met 22 (count (rows_of o) (marked marks) == 0) None)))
