-- How the course of the grouping ends for an inquiry, and what is told of it.
use Rattle.std.specs.Prelude.{◌≡◌, ℕ, Ok, Err, Result}
use Rattle.sheets.specs.Problem.{Group}
use Rattle.sheets.specs.Plan.{Plan, SameOn, cost}
use Rattle.sheets.specs.Inquiry.{Inquiry, plan_of}
use Rattle.sheets.specs.declared.sheet.Sheet.{Sheet}
use Rattle.search.specs.Answers.{OthersKept}
use Rattle.search.specs.declared.answer.Unplanned.{Unplanned}
use Rattle.search.specs.declared.answer.Unplanned.TheVariants.{BeyondReach, NoSheet}
use Rattle.groups.specs.Course.{Outcome, beyond, none, found, Whole}
use Rattle.groups.specs.Laws.{ACourseHasOneOutcome, ACourseExistsWhereTakingIsDecided, ACourseIsRight, PartsApartAreBestTogether, APartWithoutASheetLeavesNone}

-- the same inquiry for another group
abbrev pub about : {C : Type 0} → Inquiry C → Group → Inquiry C
about i F = record { measure = i.measure; layout = i.layout; number = i.number; problem = i.problem; group = F }

-- which groups are taken below for the inquiry, with so many cells: `takes` is the meaning of the search below
abbrev pub taken : {C : Type 0} → (takes : Inquiry C → ℕ → Type 0) → Inquiry C → (cells : ℕ) → Group → Type 0
taken takes i cells F = takes (about i F) cells

-- the course for the inquiry ends so
abbrev pub Ends : {C : Type 0} → (takes : Inquiry C → ℕ → Type 0) → Inquiry C → (cells : ℕ) → Outcome → Type 0
Ends takes i cells o = Whole i.measure i.problem i.group (taken takes i cells) o

-- the grouping takes a group exactly if the course never asks below for one that is not taken there
abbrev pub NeverBeyond : {C : Type 0} → (takes : Inquiry C → ℕ → Type 0) → Inquiry C → (cells : ℕ) → Type 0
NeverBeyond takes i cells = Ends takes i cells beyond → ⊥

-- a sheet is given at this cost with this number of groups: it is the one that the course ends with, and nothing else is written
pub record Given {C : Type 0} (takes : Inquiry C → ℕ → Type 0) (i : Inquiry C) (cells : ℕ) (old new : Sheet) (c : C) (groups : ℕ) : Type 0 where
  pub plan : Plan
  pub ends : Ends takes i cells (found groups plan)
  pub same : SameOn i.problem i.group plan (plan_of new)
  pub costs : cost i.measure i.problem i.group (plan_of new) ≡ c
  pub others : OthersKept i old new

-- how the course ends where there is no sheet
abbrev pub ending : Unplanned → Outcome
ending BeyondReach = beyond
ending NoSheet = none

-- what is told is how the course ends, and the sheet is untouched unless one is given
abbrev pub Told : {C : Type 0} → (takes : Inquiry C → ℕ → Type 0) → Inquiry C → (cells : ℕ) → (old new : Sheet) → Result (C × ℕ) Unplanned → Type 0
Told takes i cells old new (Err why) = Ends takes i cells (ending why) × (new ≡ old)
Told takes i cells old new (Ok p) = Given takes i cells old new p.0 p.1

-- what holds of every course for the inquiry, whichever groups are taken below
abbrev pub OneOutcome : {C : Type 0} → (takes : Inquiry C → ℕ → Type 0) → Inquiry C → (cells : ℕ) → Type 0
OneOutcome takes i cells = ACourseHasOneOutcome i.measure i.problem i.group (taken takes i cells)

abbrev pub ExistsWhereDecided : {C : Type 0} → (takes : Inquiry C → ℕ → Type 0) → Inquiry C → (cells : ℕ) → Type 0
ExistsWhereDecided takes i cells = ACourseExistsWhereTakingIsDecided i.measure i.problem i.group (taken takes i cells)

abbrev pub RightForAll : {C : Type 0} → (takes : Inquiry C → ℕ → Type 0) → Inquiry C → (cells : ℕ) → Type 0
RightForAll takes i cells = ACourseIsRight i.measure i.problem i.group (taken takes i cells)

abbrev pub BestTogether : {C : Type 0} → Inquiry C → Type 0
BestTogether i = PartsApartAreBestTogether i.measure i.problem i.group

abbrev pub NoneForAll : {C : Type 0} → Inquiry C → Type 0
NoneForAll i = APartWithoutASheetLeavesNone i.problem i.group
