-- What the machine's phases stand for, and what the reply to a frame keeps.
use Rattle.std.specs.Prelude.{◌≡◌, ℕ, List, [], Some, None, Option, Ok, Err, Result, slice_index}
use Rattle.track.specs.Model.{Model, drawn, laid, sections_declined, link_declined, foul_declined}
use Rattle.track.specs.declared.refusal.Refusal.{Refusal}
use Rattle.track.specs.Layouts.{sections_of}
use Rattle.roster.specs.Book.{Call, book_of}
use Rattle.roster.specs.Model.{held}
use Rattle.sheets.specs.declared.sheet.Sheet.{Sheet}
use Rattle.frames.specs.Lines.{bytes_of}
use Rattle.frames.specs.Frames.{read_as}
use Rattle.frames.specs.Replies.{numbers_of}
use Rattle.frames.specs.declared.plan.Plan.{Plan}
use Rattle.planner.specs.Promise.{Reply, accepted, declined, planned, unless_declined, Kept}
use Rattle.planner.specs.History.{Meaning, setting_of, Stands, says}
use Rattle.planner.specs.declared.planner.Planner.{Planner}
use Rattle.machine.specs.Asked.{Asked, sections, link, foul, finish, call}
use Rattle.machine.specs.Progress.{Progress, drawing, planning}
use Rattle.machine.specs.declared.desk.Desk.{Desk}
use Rattle.machine.specs.declared.phase.Phase.{Phase}
use Rattle.machine.specs.declared.phase.Phase.TheVariants.{Drawing, Planning}
use Rattle.machine.specs.declared.said.Said.{Said}
use Rattle.machine.specs.declared.said.Said.TheVariants.{Done, Planned}

abbrev pub said : {C : Type 0} → Said C → Reply C
said Done = accepted
said (Planned p) = planned p.cost p.groups

abbrev pub reply_of : {C : Type 0} → Result (Said C) Refusal → Reply C
reply_of r = says said r

-- what is printed of a plan is of trains with these numbers, over so many steps, with this sheet
pub record PlanOf {C : Type 0} (numbers : List ℕ) (steps : ℕ) (sheet : Sheet) (p : Plan C) : Type 0 where
  pub trains : p.numbers ≡ numbers
  pub over : p.steps ≡ steps
  pub its_sheet : p.sheet ≡ sheet

-- so it is of the plan that a reply tells, if it tells one
abbrev pub TellsPlan : {C : Type 0} → (numbers : List ℕ) (steps : ℕ) → Sheet → Result (Said C) Refusal → Type 0
TellsPlan numbers steps sheet (Ok Done) = Unit {0}
TellsPlan numbers steps sheet (Ok (Planned p)) = PlanOf numbers steps sheet p
TellsPlan numbers steps sheet (Err e) = Unit {0}

-- the steps that a line asks for, if it asks for a plan
abbrev pub steps_asked : (line : List ℕ) → ℕ
steps_asked line = slice_index (bytes_of line) 1

-- the numbers of the trains that are entered: none before the finish
abbrev pub numbers_in : {R S Q : Type 0} → Option (Phase R S Q) → List ℕ
numbers_in (Some (Drawing d)) = []
numbers_in (Some (Planning p)) = numbers_of (held p.roster)
numbers_in None = []

-- the scale that the plans are made under
abbrev pub scale_in : {R S Q : Type 0} → Option (Phase R S Q) → Option S
scale_in (Some (Drawing d)) = Some d.scale
scale_in (Some (Planning p)) = Some p.scale
scale_in None = None

-- a line that is no frame is declined as it is read: with the place of its fault, where it is not pairs of digits
abbrev pub DeclinedAsRead : {C : Type 0} → (line : List ℕ) → Result (Said C) Refusal → Type 0
DeclinedAsRead line r = (e : Refusal) → read_as line ≡ Err e → r ≡ Err e

module _ {R S Q C : Type 0} (k : Meaning R S Q C) (rule : R) (scale : S) (below : Q) where
  -- the planner that was made on a layout of what was drawn, with the rule, the scale and the search that the machine was made with
  pub record MadeOf (m : Model) (made : Planner R S Q) : Type 0 where
    pub layout : laid made.layout ≡ m
    pub its_rule : made.rule ≡ rule
    pub its_scale : made.scale ≡ scale
    pub its_search : made.search.below ≡ below

  pub record StandsDrawing (m : Model) (d : Desk R S Q) : Type 0 where
    pub drawing : drawn d.drawing ≡ m
    pub its_rule : d.rule ≡ rule
    pub its_scale : d.scale ≡ scale
    pub its_search : d.below ≡ below

  -- a planner that is what the calls leave of the one that was made at the finish
  pub record StandsPlanning (m : Model) (calls : List Call) (p : Planner R S Q) : Type 0 where
    pub made : Planner R S Q
    pub made_of : MadeOf m made
    pub stands : Stands k made calls p

  -- the phase is there, and is what the lines come to
  abbrev pub StandsAt : Progress → Option (Phase R S Q) → Type 0
  StandsAt (drawing m) (Some (Drawing d)) = StandsDrawing m d
  StandsAt (drawing m) (Some (Planning p)) = ⊥
  StandsAt (drawing m) None = ⊥
  StandsAt (planning m calls) (Some (Drawing d)) = ⊥
  StandsAt (planning m calls) (Some (Planning p)) = StandsPlanning m calls p
  StandsAt (planning m calls) None = ⊥

  -- the reply of the planner, by the planner's promise
  pub record CallKept (m : Model) (calls : List Call) (c : Call) (reply : Reply C) (old new : Sheet) : Type 0 where
    pub made : Planner R S Q
    pub made_of : MadeOf m made
    pub kept : Kept (setting_of k made) (book_of (sections_of made.layout) calls) c reply old new

  -- what the reply to a frame keeps: the drawing's own conditions before the finish, the planner's promise after it, and 29 on the wrong side
  abbrev pub FrameKept : Progress → Asked → Reply C → (old new : Sheet) → Type 0
  FrameKept (drawing m) (sections n) reply old new = (reply ≡ unless_declined (sections_declined m n) accepted) × (new ≡ old)
  FrameKept (drawing m) (link a b p) reply old new = (reply ≡ unless_declined (link_declined m a b p) accepted) × (new ≡ old)
  FrameKept (drawing m) (foul a b c d) reply old new = (reply ≡ unless_declined (foul_declined m a b c d) accepted) × (new ≡ old)
  FrameKept (drawing m) finish reply old new = (reply ≡ accepted) × (new ≡ old)
  FrameKept (drawing m) (call c) reply old new = (reply ≡ declined 29) × (new ≡ old)
  FrameKept (planning m calls) (sections n) reply old new = (reply ≡ declined 29) × (new ≡ old)
  FrameKept (planning m calls) (link a b p) reply old new = (reply ≡ declined 29) × (new ≡ old)
  FrameKept (planning m calls) (foul a b c d) reply old new = (reply ≡ declined 29) × (new ≡ old)
  FrameKept (planning m calls) finish reply old new = (reply ≡ declined 29) × (new ≡ old)
  FrameKept (planning m calls) (call c) reply old new = CallKept m calls c reply old new
