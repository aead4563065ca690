-- That the definitions yield what is expected of an example.
use Rattle.std.specs.Prelude.{◌≡◌, ℕ, true, List}
use Rattle.track.specs.Model.{laid}
use Rattle.track.specs.declared.layout.Layout.{Layout}
use Rattle.sheets.specs.Plan.{Plan, SameOn, Best, Without, cost}
use Rattle.groups.specs.Course.{none, found}
use Rattle.sheets.specs.Inquiry.{plan_of}
use Rattle.sheets.specs.declared.sheet.Sheet.{Sheet}
use Rattle.planner.specs.Promise.{Setting, Reply, declined, planned, GroupingEnds, Kept}
use Rattle.examples.specs.Examples.{Cost, Expected, no_sheet, sheet, Example, book, setting, asked, group, by_rows, drawn, plan_call, granted}

module _ (e : Example) (w : Setting (Cost e.scale)) where
  -- no sheet is lawful, and the grouping comes to a group that has none
  pub record NoSheet : Type 0 where
    pub without : Without (asked e w) (group e)
    pub ends : (cells : ℕ) → GroupingEnds w (book e) e.steps cells none

  -- the sheet with these rows is the best, and has this cost; the grouping comes to it with so many groups
  pub record TheSheet (rows : List (List ℕ)) (c : Cost e.scale) (groups : ℕ) : Type 0 where
    -- it is lawful, and every other lawful sheet costs more, or costs the same and comes later
    pub best : Best w.measure (asked e w) (group e) (by_rows rows)
    pub costs : cost w.measure (asked e w) (group e) (by_rows rows) ≡ c
    pub ends : (cells : ℕ)
        → (x : Plan) × SameOn (asked e w) (group e) x (by_rows rows)
        × GroupingEnds w (book e) e.steps cells (found groups x)

  abbrev pub Gives : Expected (Cost e.scale) → Type 0
  Gives no_sheet = NoSheet
  Gives (sheet rows c groups) = TheSheet rows c groups

  -- what a planner replies to the plan call: the number 25, and the sheet is as it was handed in;
  -- or the cost with the number of groups, and the sheet that was expected
  abbrev pub Replies : Expected (Cost e.scale) → Reply (Cost e.scale) → (old new : Sheet) → Type 0
  Replies no_sheet reply old new = (reply ≡ declined 25) × (new ≡ old)
  Replies (sheet rows c groups) reply old new =
      (reply ≡ planned c groups) × SameOn (asked e w) (group e) (plan_of new) (by_rows rows)

pub record Yields (e : Example) : Type 0 where
  -- the drawing can be drawn, and the calls are made without a refusal
  pub can_be_drawn : drawn e.drawing ≡ true
  pub is_granted : granted e ≡ true
  -- on every layout that is drawn so, what is expected comes of the definitions
  pub gives : (l : Layout) → laid l ≡ e.drawing → Gives e (setting e l) e.expected
  -- and of what a planner over a search that takes every group promises, whatever the sheet held
  pub replies : (l : Layout) → laid l ≡ e.drawing
      → (reply : Reply (Cost e.scale)) (old new : Sheet)
      → Kept (setting e l) (book e) (plan_call e) reply old new
      → Replies e (setting e l) e.expected reply old new
