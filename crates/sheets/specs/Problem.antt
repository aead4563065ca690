-- What is to be planned, apart from how programs hold it: where trains may go, from where to where, and in how many steps.
use Rattle.std.specs.Prelude.{◌≡◌, ℕ, zero, suc, ◌+◌, ◌<◌, ◌≤◌, Bool, true, false, cond, ◌&&◌, ◌||◌, is_some, Option, ◌==◌}
use Rattle.std.specs.Option.{unwrap_or}
use Rattle.rules.specs.Conflicts.{Conflicts, RuleLaws}

pub record Problem : Type 0 where
  pub sections : ℕ
  -- the points of the link from one section to another, or nothing where there is none
  pub points : ℕ → ℕ → Option ℕ
  pub closed : ℕ → Bool
  -- the rows stand for the trains in rising number
  pub rows : ℕ
  pub start : ℕ → ℕ
  pub goal : ℕ → ℕ
  pub steps : ℕ
  pub conflicts : Conflicts

-- which rows a group has
abbrev pub Group : Type 0
Group = ℕ → Bool

pub record Member (Q : Problem) (G : Group) (r : ℕ) : Type 0 where
  pub a_row : r < Q.rows
  pub of_group : G r ≡ true

abbrev pub everyone : Group
everyone r = true

-- how many numbers below n pass the test, and whether all do
abbrev pub count : ℕ → (ℕ → Bool) → ℕ
count zero f = 0
count (suc n) f = count n f + cond (f n) 1 0

abbrev pub all : ℕ → (ℕ → Bool) → Bool
all zero f = true
all (suc n) f = all n f && f n

-- in a step a train stands, or runs to a linked section
abbrev pub allowed : Problem → (a b : ℕ) → Bool
allowed Q a b = a == b || is_some (Q.points a b)

-- the points run over in a move: none when standing
abbrev pub run_over : Problem → (a b : ℕ) → ℕ
run_over Q a b = cond (a == b) 0 (unwrap_or (Q.points a b) 0)

-- what every problem keeps
pub record ProblemLaws (Q : Problem) : Type 0 where
  pub rows_most : Q.rows ≤ 8
  pub steps_most : Q.steps ≤ 16
  pub points_most : (a b : ℕ) → run_over Q a b ≤ 7
  pub rule : RuleLaws Q.conflicts

-- starts and goals are open sections of the layout
pub record Posed (Q : Problem) : Type 0 where
  pub start_inside : (r : ℕ) → r < Q.rows → Q.start r < Q.sections
  pub start_open : (r : ℕ) → r < Q.rows → Q.closed (Q.start r) ≡ false
  pub goal_inside : (r : ℕ) → r < Q.rows → Q.goal r < Q.sections
  pub goal_open : (r : ℕ) → r < Q.rows → Q.closed (Q.goal r) ≡ false
