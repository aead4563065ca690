-- What an answer says, and what it leaves in the sheet.
use Rattle.std.specs.Prelude.{◌≡◌, ℕ, ◌+◌, ◌*◌, ◌≤◌, Ok, Err, Result}
use Rattle.sheets.specs.Problem.{Member}
use Rattle.sheets.specs.Plan.{Best, Without, cost}
use Rattle.sheets.specs.Inquiry.{Inquiry, plan_of, trains}
use Rattle.sheets.specs.Theorems.{Same}
use Rattle.sheets.specs.declared.sheet.Sheet.{Sheet}
use Rattle.search.specs.declared.answer.Unplanned.{Unplanned}
use Rattle.search.specs.declared.answer.Unplanned.TheVariants.{BeyondReach, NoSheet}

-- a group of one train, with a cell for each section and time, in a question that there can be: on at most 32 sections, over 1 to 16 steps
pub record OneTrain {C : Type 0} (i : Inquiry C) (cells : ℕ) : Type 0 where
  pub one : trains i ≡ 1
  pub few_sections : i.problem.sections ≤ 32
  pub some_steps : 1 ≤ i.problem.steps
  pub few_steps : i.problem.steps ≤ 16
  pub room : i.problem.sections * (i.problem.steps + 1) ≤ cells

-- the same groups are taken, whatever is asked and with any number of cells
abbrev pub SameMeaning : {C : Type 0} → (new old : Inquiry C → ℕ → Type 0) → Type 0
SameMeaning {C} new old = (i : Inquiry C) (n : ℕ) → Same (new i n) (old i n)

-- no place of the sheet is written but those of the group's rows at times 0 to the last
abbrev pub OthersKept : {C : Type 0} → Inquiry C → Sheet → Sheet → Type 0
OthersKept i old new = (r t : ℕ) → (Member i.problem i.group r → t ≤ i.problem.steps → ⊥) → plan_of new r t ≡ plan_of old r t

-- the sheet has the best plan of the group, at this cost
pub record Solved {C : Type 0} (i : Inquiry C) (old new : Sheet) (c : C) : Type 0 where
  pub best : Best i.measure i.problem i.group (plan_of new)
  pub costs : cost i.measure i.problem i.group (plan_of new) ≡ c
  pub others : OthersKept i old new

-- beyond reach exactly for a group that is not taken; of one that is taken, none exactly if no sheet is lawful
abbrev pub Answered : {C : Type 0} → Inquiry C → (Taken : Type 0) → (old new : Sheet) → Result C Unplanned → Type 0
Answered i Taken old new (Err BeyondReach) = (Taken → ⊥) × (new ≡ old)
Answered i Taken old new (Err NoSheet) = Taken × (new ≡ old) × Without i.problem i.group
Answered i Taken old new (Ok c) = Taken × Solved i old new c
