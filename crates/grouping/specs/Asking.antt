-- What the grouping keeps while it asks below.
use Rattle.std.specs.Prelude.{◌≡◌, ℕ, ◌<◌, Bool, true, List, Ok, Err, Result}
use Rattle.roster.specs.Model.{rows_of}
use Rattle.sheets.specs.Posing.{marked}
use Rattle.sheets.specs.Plan.{Plan, SameOn}
use Rattle.sheets.specs.Inquiry.{Inquiry, plan_of}
use Rattle.sheets.specs.declared.question.Question.{Question}
use Rattle.sheets.specs.declared.sheet.Sheet.{Sheet}
use Rattle.search.specs.declared.answer.Unplanned.{Unplanned}
use Rattle.groups.specs.Parts.{Naming}
use Rattle.groups.specs.Course.{found}
use Rattle.groups.specs.Onward.{Reached}
use Rattle.grouping.specs.Ends.{about, ending, Ends}

-- the marks are of some rows of the question's group
pub record SomeRows (q : Question) (marks : List Bool) : Type 0 where
  pub of_group : (r : ℕ) → marked marks r ≡ true → marked q.group r ≡ true
  pub row : ℕ
  pub a_row : row < rows_of q.roster.now
  pub is_marked : marked marks row ≡ true

-- the course has ended without a sheet, as is told; or this holds of what was found
abbrev pub OrEnds : {C A : Type 0} → (takes : Inquiry C → ℕ → Type 0) → Inquiry C → (cells : ℕ) → (A → Type 0) → Result A Unplanned → Type 0
OrEnds takes i cells P (Err why) = Ends takes i cells (ending why)
OrEnds takes i cells P (Ok a) = P a

-- the parts have been asked for, and stand in the sheet
abbrev pub Stand : {C : Type 0} → (takes : Inquiry C → ℕ → Type 0) → Inquiry C → (cells : ℕ) → Naming → Sheet → Type 0
Stand takes i cells name z = Reached i.measure i.problem i.group (λ F. takes (about i F) cells) name (plan_of z)

-- the course ends with so many groups, in a sheet that counts as one with this
abbrev pub EndsIn : {C : Type 0} → (takes : Inquiry C → ℕ → Type 0) → Inquiry C → (cells : ℕ) → Sheet → (groups : ℕ) → Type 0
EndsIn takes i cells z groups = (x : Plan) × (Ends takes i cells (found groups x) × SameOn i.problem i.group x (plan_of z))
