-- The rows of a group that are chosen, and what is written in them.
use Rattle.std.specs.Prelude.{◌≡◌, ℕ, zero, suc, ◌+◌, ◌*◌, ◌<◌, ◌≤◌, true, List, length, slice_index, slice_set}
use Rattle.roster.specs.Model.{start_at, goal_at}
use Rattle.sheets.specs.Problem.{Group, count}
use Rattle.sheets.specs.Posing.{marked}
use Rattle.sheets.specs.Inquiry.{plan_of}
use Rattle.sheets.specs.declared.question.Question.{Question}
use Rattle.sheets.specs.declared.sheet.Sheet.{Sheet}
use Rattle.words.specs.declared.chosen.Chosen.{Chosen}

abbrev pub added : Chosen → (r s g : ℕ) → Chosen
added c r s g = record { trains = c.trains + 1; row = slice_set c.row c.trains r; start = slice_set c.start c.trains s; goal = slice_set c.goal c.trains g }

abbrev pub row_of : Chosen → ℕ → ℕ
row_of c i = slice_index c.row i

-- so many rows, with their starts and goals
abbrev pub chosen_of : (trains : ℕ) → (row start goal : List ℕ) → Chosen
chosen_of k row start goal = record { trains = k; row = row; start = start; goal = goal }

abbrev pub group_of : Question → Group
group_of q = marked q.group

-- the rows of the group below n are chosen, each at the place that says how many of them lie below it
pub record ChosenTo (q : Question) (n : ℕ) (c : Chosen) : Type 0 where
  pub row_long : length c.row ≡ 8
  pub start_long : length c.start ≡ 8
  pub goal_long : length c.goal ≡ 8
  pub size : c.trains ≡ count n (group_of q)
  pub few : c.trains ≤ n
  pub below : (i : ℕ) → i < c.trains → row_of c i < n
  pub of_group : (i : ℕ) → i < c.trains → group_of q (row_of c i) ≡ true
  pub place : (i : ℕ) → i < c.trains → count (row_of c i) (group_of q) ≡ i
  pub starts : (i : ℕ) → i < c.trains → slice_index c.start i ≡ start_at q.roster.now (row_of c i)
  pub goals : (i : ℕ) → i < c.trains → slice_index c.goal i ≡ goal_at q.roster.now (row_of c i)

-- where the i-th of k trains is at a time, by its start and the plan
unfoldable pub planned : (start : ℕ) (plan : List ℕ) (k i : ℕ) → ℕ → ℕ
planned s plan k i zero = s
planned s plan k i (suc t) = slice_index plan (k * t + i)

pub record RowWritten (old new : List ℕ) (s : ℕ) (plan : List ℕ) (k i steps : ℕ) : Type 0 where
  pub here : (t : ℕ) → t ≤ steps → slice_index new t ≡ planned s plan k i t
  pub after : (t : ℕ) → steps < t → slice_index new t ≡ slice_index old t

-- the first n trains are written
pub record Written (c : Chosen) (plan : List ℕ) (steps n : ℕ) (old new : Sheet) : Type 0 where
  pub here : (i t : ℕ) → i < n → t ≤ steps → plan_of new (row_of c i) t ≡ planned (slice_index c.start i) plan c.trains i t
  pub others : (r t : ℕ) → ((i : ℕ) → i < n → row_of c i ≡ r → t ≤ steps → ⊥) → plan_of new r t ≡ plan_of old r t

-- the rows can be written: there are at most eight, all different
pub record Rows (c : Chosen) : Type 0 where
  pub few : c.trains ≤ 8
  pub inside : (i : ℕ) → i < c.trains → row_of c i < 8
  pub apart : (i j : ℕ) → i < c.trains → j < c.trains → row_of c i ≡ row_of c j → i ≡ j
