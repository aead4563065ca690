-- The course of the grouping: each train alone is asked for its best sheet, and as long as two parts conflict, the two that conflict first
-- are joined, whole, and asked for again.
use Rattle.std.specs.Prelude.{◌≡◌, ℕ, suc, ◌<◌, true, false}
use Rattle.scales.specs.Measure.{Measure}
use Rattle.sheets.specs.Problem.{Problem, Group}
use Rattle.sheets.specs.Plan.{Plan, Best, Without}
use Rattle.groups.specs.Parts.{Naming, part, alone, merged, union, parts, NoClash, FirstClash, put}

-- how a course ends: a part was asked for that is not taken, a part has no lawful sheet, or so many parts stand apart in a sheet
pub data Outcome : Type 0 where
  beyond : Outcome
  none : Outcome
  found : (groups : ℕ) → Plan → Outcome

-- `Taken` says which groups are taken when they are asked for
-- the course from a naming of parts on, where the sheet x has each part as its best sheet does
pub data Course {C : Type 0} (S : Measure C) (Q : Problem) (G : Group) (Taken : Group → Type 0) : Naming → Plan → Outcome → Type 0 where
  stands : {name : Naming} {x : Plan} → NoClash Q G name x → Course S Q G Taken name x (found (parts Q.rows G name) x)
  not_taken : {name : Naming} {x : Plan} (t r q : ℕ)
      → FirstClash Q G name x t r q → (Taken (union G name r q) → ⊥) → Course S Q G Taken name x beyond
  without : {name : Naming} {x : Plan} (t r q : ℕ)
      → FirstClash Q G name x t r q → Taken (union G name r q) → Without Q (union G name r q) → Course S Q G Taken name x none
  joins : {name : Naming} {x : Plan} {o : Outcome} (t r q : ℕ) (y : Plan)
      → FirstClash Q G name x t r q
      → Taken (union G name r q)
      → Best S Q (union G name r q) y
      → Course S Q G Taken (merged name r q) (put (union G name r q) y x) o
      → Course S Q G Taken name x o

-- the course from where the rows below k have been asked for, each alone, in rising order
pub data Opening {C : Type 0} (S : Measure C) (Q : Problem) (G : Group) (Taken : Group → Type 0) : ℕ → Plan → Outcome → Type 0 where
  all_asked : {k : ℕ} {x : Plan} {o : Outcome} → k ≡ Q.rows → Course S Q G Taken alone x o → Opening S Q G Taken k x o
  passes : {k : ℕ} {x : Plan} {o : Outcome} → k < Q.rows → G k ≡ false → Opening S Q G Taken (suc k) x o → Opening S Q G Taken k x o
  not_taken : {k : ℕ} {x : Plan} → k < Q.rows → G k ≡ true → (Taken (part G alone k) → ⊥) → Opening S Q G Taken k x beyond
  without : {k : ℕ} {x : Plan} → k < Q.rows → G k ≡ true → Taken (part G alone k) → Without Q (part G alone k) → Opening S Q G Taken k x none
  asks : {k : ℕ} {x : Plan} {o : Outcome} (y : Plan)
      → k < Q.rows
      → G k ≡ true
      → Taken (part G alone k)
      → Best S Q (part G alone k) y
      → Opening S Q G Taken (suc k) (put (part G alone k) y x) o
      → Opening S Q G Taken k x o

-- the whole course, from a sheet of which nothing is known
abbrev pub Whole : {C : Type 0} → Measure C → Problem → Group → (Group → Type 0) → Outcome → Type 0
Whole S Q G Taken o = Opening S Q G Taken 0 (λ r t. 0) o
