-- What a roster holds: its book, and its rows.
use Rattle.std.specs.Prelude.{◌≡◌, ℕ, ◌<◌, ◌≤◌, Bool, false, List, length, Some, None, Option, ◌≢◌, slice_index_or}
use Rattle.roster.specs.Trains.{has}
use Rattle.roster.specs.Book.{Book}
use Rattle.roster.specs.declared.train.Train.{Train}
use Rattle.roster.specs.declared.roster.Roster.{Roster}

abbrev pub held : Roster → List Train
held r = r.trains

abbrev pub seen : Roster → Book
seen r = record { trains = held r; closed = has r.closed }

-- what stands past the last row
abbrev pub no_train : Train
no_train = record { number = 0; start = 0; goal = 0 }

-- how many rows there are, one for each train
unfoldable pub rows_of : Roster → ℕ
rows_of o = length (held o)

-- the number, the start and the goal of the train of a row
unfoldable pub number_at : Roster → ℕ → ℕ
number_at o r = (slice_index_or (held o) r no_train).number

unfoldable pub start_at : Roster → ℕ → ℕ
start_at o r = (slice_index_or (held o) r no_train).start

unfoldable pub goal_at : Roster → ℕ → ℕ
goal_at o r = (slice_index_or (held o) r no_train).goal

-- whether a section is closed
unfoldable pub closed_of : Roster → ℕ → Bool
closed_of o s = has o.closed s

-- the train t stands on the row
pub record OnRow (o : Roster) (row : ℕ) (t : Train) : Type 0 where
  pub inside : row < rows_of o
  pub start : t.start ≡ start_at o row
  pub goal : t.goal ≡ goal_at o row

-- the train of the row, if there is such a row
abbrev pub RowIs : Roster → ℕ → Option Train → Type 0
RowIs o row (Some t) = OnRow o row t
RowIs o row None = rows_of o ≤ row

-- at most eight trains in rising number, none with a closed start or goal, no two with one start, and no two with one goal
pub record RosterLaws (o : Roster) : Type 0 where
  pub rows_most : rows_of o ≤ 8
  pub numbers_rise : (r q : ℕ) → r < q → q < rows_of o → number_at o r < number_at o q
  pub start_open : (r : ℕ) → r < rows_of o → closed_of o (start_at o r) ≡ false
  pub goal_open : (r : ℕ) → r < rows_of o → closed_of o (goal_at o r) ≡ false
  pub starts_differ : (r q : ℕ) → r < q → q < rows_of o → start_at o r ≢ start_at o q
  pub goals_differ : (r q : ℕ) → r < q → q < rows_of o → goal_at o r ≢ goal_at o q
