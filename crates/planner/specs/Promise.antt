-- What each reply of a planner owes, given the book of the calls before it.
use Rattle.std.specs.Prelude.{◌≡◌, ℕ, ◌⊎◌, length, Some, None, Option, slice_index_or}
use Rattle.track.specs.Layouts.{sections_of, look}
use Rattle.track.specs.declared.layout.Layout.{Layout}
use Rattle.rules.specs.Conflicts.{Conflicts}
use Rattle.scales.specs.Measure.{Measure}
use Rattle.roster.specs.Book.{Call, enter, withdraw, possess, give_up, ask, plan, Book, how_many, lowest}
use Rattle.roster.specs.Book.{declined as refusal}
use Rattle.roster.specs.Model.{no_train}
use Rattle.sheets.specs.Problem.{Problem}
use Rattle.sheets.specs.Posing.{all_trains}
use Rattle.sheets.specs.Plan.{Plan, Best, Without, cost}
use Rattle.sheets.specs.Inquiry.{Inquiry, plan_of}
use Rattle.sheets.specs.Theorems.{Same}
use Rattle.sheets.specs.declared.sheet.Sheet.{Sheet}
use Rattle.search.specs.Answers.{OthersKept}
use Rattle.groups.specs.Course.{Outcome, beyond, none, found}
use Rattle.grouping.specs.Ends.{Ends}

-- what stays as it is from call to call: the layout with its sections and links, which moves conflict on it,
-- the measure of the scale, and which groups the search takes, given what is asked and the number of cells
pub record Setting (C : Type 0) : Type 1 where
  pub layout : Layout
  pub sections : ℕ
  pub points : ℕ → ℕ → Option ℕ
  pub conflicts : Conflicts
  pub measure : Measure C
  pub takes : Inquiry C → ℕ → Type 0

-- the setting of a layout
abbrev pub setting : {C : Type 0} → Layout → Conflicts → Measure C → (Inquiry C → ℕ → Type 0) → Setting C
setting l conflicts measure takes =
    record {
      layout = l;
      sections = sections_of l;
      points = look l;
      conflicts = conflicts;
      measure = measure;
      takes = takes;
    }

-- what a caller is told: the call was accepted; it was declined, with the number of the reason; it was accepted and gave a note of the
-- section that it closed; so many sections are closed, and this is the lowest; the sheet has this cost, with so many groups
pub data Reply (C : Type 0) : Type 0 where
  accepted : Reply C
  declined : (number : ℕ) → Reply C
  noted : (section : ℕ) → Reply C
  are_closed : (count : ℕ) (lowest : Option ℕ) → Reply C
  planned : (cost : C) (groups : ℕ) → Reply C

-- what is to be planned: the trains of the book, in so many steps, with its closed sections left out
abbrev pub problem : {C : Type 0} → Setting C → Book → (steps : ℕ) → Problem
problem w b steps = record {
  sections = w.sections;
  points = w.points;
  closed = b.closed;
  rows = length b.trains;
  start = λ r. (slice_index_or b.trains r no_train).start;
  goal = λ r. (slice_index_or b.trains r no_train).goal;
  steps = steps;
  conflicts = w.conflicts;
}

-- what a search is asked for them: also the layout as it is, and the trains' numbers
abbrev pub asked : {C : Type 0} → Setting C → Book → (steps : ℕ) → Inquiry C
asked w b steps = record {
  measure = w.measure;
  layout = w.layout;
  number = λ r. (slice_index_or b.trains r no_train).number;
  problem = problem w b steps;
  group = all_trains (length b.trains);
}

-- the grouping, with so many cells, ends so: it asks for a group that the search does not take (`beyond`), it comes to a group that has no
-- lawful sheet (`none`), or it reaches a number of groups that do not conflict (`found`)
abbrev pub GroupingEnds : {C : Type 0} → Setting C → Book → (steps cells : ℕ) → Outcome → Type 0
GroupingEnds w b steps cells o = Ends w.takes (asked w b steps) cells o

-- a sheet was given at the cost c, with n groups
pub record SheetGiven {C : Type 0} (w : Setting C) (b : Book) (steps cells : ℕ) (old new : Sheet) (c : C) (n : ℕ) : Type 0 where
  -- the grouping reaches this number of groups
  pub groups : (x : Plan) × GroupingEnds w b steps cells (found n x)
  -- the sheet is lawful, and every other lawful sheet costs more, or costs the same and comes later
  pub best : Best w.measure (problem w b steps) (all_trains (length b.trains)) (plan_of new)
  pub costs : cost w.measure (problem w b steps) (all_trains (length b.trains)) (plan_of new) ≡ c
  -- and nothing else in it was written
  pub elsewhere : OthersKept (asked w b steps) old new

-- no sheet was given, with this number: beyond reach (24), or no sheet is lawful (25); the sheet is as it was handed in
pub record NoSheetGiven {C : Type 0} (w : Setting C) (b : Book) (steps cells : ℕ) (old new : Sheet) (number : ℕ) : Type 0 where
  pub untouched : new ≡ old
  pub reason :
      ((number ≡ 24) × GroupingEnds w b steps cells beyond)
      ⊎ ((number ≡ 25) × GroupingEnds w b steps cells none × Without (problem w b steps) (all_trains (length b.trains)))

abbrev pub SheetOrNone : {C : Type 0} → Setting C → Book → (steps cells : ℕ) → (old new : Sheet) → Reply C → Type 0
SheetOrNone w b steps cells old new (planned c n) = SheetGiven w b steps cells old new c n
SheetOrNone w b steps cells old new (declined k) = NoSheetGiven w b steps cells old new k
SheetOrNone w b steps cells old new accepted = ⊥
SheetOrNone w b steps cells old new (noted s) = ⊥
SheetOrNone w b steps cells old new (are_closed k s) = ⊥

-- what the reply to a plan call owes that the book does not decline
pub record PlanAnswered {C : Type 0} (w : Setting C) (b : Book) (steps cells : ℕ) (old new : Sheet) (reply : Reply C) : Type 0 where
  pub sheet_or_none : SheetOrNone w b steps cells old new reply
  -- it is beyond reach exactly if the grouping asks for a group that the search does not take
  pub beyond_reach : Same (reply ≡ declined 24) (GroupingEnds w b steps cells beyond)

-- a plan call that the book declines gets that refusal, and the sheet is as it was handed in
abbrev pub PlanKept : {C : Type 0} → Setting C → Book → (steps cells : ℕ) → Option ℕ → Reply C → (old new : Sheet) → Type 0
PlanKept w b steps cells (Some k) reply old new = (reply ≡ declined k) × (new ≡ old)
PlanKept w b steps cells None reply old new = PlanAnswered w b steps cells old new reply

abbrev pub unless_declined : {C : Type 0} → Option ℕ → Reply C → Reply C
unless_declined (Some k) reply = declined k
unless_declined None reply = reply

-- the reply is the refusal of the book, if it declines the call, and otherwise this one; the sheet is as it was handed in
abbrev pub FromBook : {C : Type 0} → Setting C → Book → Call → (granted reply : Reply C) → (old new : Sheet) → Type 0
FromBook w b c granted reply old new = (reply ≡ unless_declined (refusal w.sections b c) granted) × (new ≡ old)

-- the reply to a call keeps what is promised, and so does the sheet that was handed in with it
abbrev pub Kept : {C : Type 0} → Setting C → Book → Call → Reply C → (old new : Sheet) → Type 0
Kept w b (enter v s g) reply old new = FromBook w b (enter v s g) accepted reply old new
Kept w b (withdraw v) reply old new = FromBook w b (withdraw v) accepted reply old new
Kept w b (possess s) reply old new = FromBook w b (possess s) (noted s) reply old new
Kept w b (give_up s) reply old new = FromBook w b (give_up s) accepted reply old new
Kept w b ask reply old new =
    FromBook w b ask (are_closed (how_many w.sections b.closed) (lowest w.sections b.closed)) reply old new
Kept w b (plan steps cells) reply old new = PlanKept w b steps cells (refusal w.sections b (plan steps cells)) reply old new
