-- What the reply to a line keeps, over any list of lines.
use Rattle.std.specs.Prelude.{◌≡◌, ℕ, Bool, false, ◌||◌, List, [], ◌∷◌, Some, None, Option, Ok, Err, Result, ◌==◌}
use Rattle.track.specs.Refusals.{number_of}
use Rattle.track.specs.declared.refusal.Refusal.{Refusal}
use Rattle.sheets.specs.declared.sheet.Sheet.{Sheet}
use Rattle.frames.specs.Frames.{Told, read_as}
use Rattle.planner.specs.Promise.{Reply, declined}
use Rattle.planner.specs.History.{Meaning, says_done}
use Rattle.roster.specs.Book.{Call, enter, withdraw, possess, give_up, ask, plan}
use Rattle.machine.specs.Asked.{Asked, sections, link, foul, finish, call, asked_by}
use Rattle.machine.specs.Progress.{Progress, Handed, handed, moved, after_line, beginning, progress_of}
use Rattle.machine.specs.Phases.{StandsAt, FrameKept}
use Rattle.machine.specs.declared.desk.Desk.{Desk}
use Rattle.machine.specs.declared.machine.Machine.{Machine}
use Rattle.machine.specs.declared.phase.Phase.{Phase}
use Rattle.machine.specs.declared.phase.Phase.TheVariants.{Drawing, Planning}

-- a line with how many cells were handed in with it, its reply, and the sheet before and after it
pub record LineEvent (C : Type 0) : Type 0 where
  pub line : List ℕ
  pub cells : ℕ
  pub reply : Reply C
  pub before : Sheet
  pub afterwards : Sheet

abbrev pub line_event : {C : Type 0} → List ℕ → ℕ → Reply C → Sheet → Sheet → LineEvent C
line_event line cells reply old new = record { line = line; cells = cells; reply = reply; before = old; afterwards = new }

abbrev pub handed_in : {C : Type 0} → LineEvent C → Handed
handed_in e = handed e.line e.cells

abbrev pub lines_of : {C : Type 0} → List (LineEvent C) → List Handed
lines_of [] = []
lines_of (e ∷ es) = handed_in e ∷ lines_of es

module _ {R S Q C : Type 0} (k : Meaning R S Q C) (rule : R) (scale : S) (below : Q) where
  -- one frame more: whatever the lines come to that the phase stands for, the reply is kept, and the next phase stands for one frame more
  abbrev pub TurnOwes : Option (Phase R S Q) → Asked → Reply C → (old new : Sheet)
      → Option (Phase R S Q) → Type 0
  TurnOwes phase asked reply old new next =
      (s : Progress) → StandsAt k rule scale below s phase
      → FrameKept k rule scale below s asked reply old new × StandsAt k rule scale below (moved s asked) next

  -- a line that is no frame is declined as it is read
  abbrev pub ReadKept : (cells : ℕ) → Progress → Result Told Refusal → Reply C → (old new : Sheet) → Type 0
  ReadKept cells s (Ok t) reply old new = FrameKept k rule scale below s (asked_by cells t) reply old new
  ReadKept cells s (Err e) reply old new = (reply ≡ declined (number_of e)) × (new ≡ old)

  abbrev pub LineKept : Progress → LineEvent C → Type 0
  LineKept s e = ReadKept e.cells s (read_as e.line) e.reply e.before e.afterwards

  -- every reply is kept, each for what the lines before it come to
  abbrev pub AllLinesKept : Progress → List (LineEvent C) → Type 0
  AllLinesKept s [] = Unit {0}
  AllLinesKept s (e ∷ es) = LineKept s e × AllLinesKept (after_line s (handed_in e)) es

  -- a line on m that leaves next: whatever the lines before it come to, its reply is kept for that, and next stands for what all the lines come to
  pub record LineStep (m : Machine R S Q) (e : LineEvent C) (next : Machine R S Q) : Type 0 where
    pub kept : (s : Progress) → StandsAt k rule scale below s m.phase → LineKept s e
    pub stands : (s : Progress) → StandsAt k rule scale below s m.phase → StandsAt k rule scale below (after_line s (handed_in e)) next.phase

  -- m has this history: these lines were done, one after the other, every reply was kept, and m stands for what the lines come to
  pub record LineHistory (es : List (LineEvent C)) (m : Machine R S Q) : Type 0 where
    pub stands : StandsAt k rule scale below (progress_of (lines_of es)) m.phase
    pub kept : AllLinesKept beginning es

  -- a run: each line is done on the machine that the one before it left
  pub data LineRun : Machine R S Q → List (LineEvent C) → Machine R S Q → Type 0 where
    rest : {m : Machine R S Q} → LineRun m [] m
    next : {m n o : Machine R S Q} (e : LineEvent C) {es : List (LineEvent C)} → LineStep m e n → LineRun n es o → LineRun m (e ∷ es) o

  -- in every run that begins with this machine, every reply is kept for what the lines before it come to
  abbrev pub EveryRunOfLinesKeepsAllReplies : Machine R S Q → Type 0
  EveryRunOfLinesKeepsAllReplies made = (last : Machine R S Q) (es : List (LineEvent C)) → LineRun made es last → AllLinesKept beginning es

-- a call that draws: its reply is kept, whatever the machine was made with
abbrev pub DrawOwes : {R S Q C : Type 0} → Meaning R S Q C → Desk R S Q → Asked → Result (Unit {0}) Refusal → Desk R S Q → Type 0
DrawOwes {R} {S} {Q} k desk asked r after_it =
    (rule : R) (scale : S) (below : Q) (s : Sheet) → TurnOwes k rule scale below (Some (Drawing desk)) asked (says_done r) s s (Some (Drawing after_it))

-- the search that a planner holds, once there is one
abbrev pub search_in : {R S Q : Type 0} → Option (Phase R S Q) → Option Q
search_in (Some (Planning p)) = Some p.search.below
search_in (Some (Drawing d)) = None
search_in None = None

-- nothing is planned: the cells are as they were, and so is the search
pub record NothingPlanned {R S Q A : Type 0} (was now : Option (Phase R S Q)) (had has : List A) : Type 0 where
  pub cells : has ≡ had
  pub search : search_in now ≡ search_in was

abbrev pub PlansByCall : {R S Q A : Type 0} → Call → (was now : Option (Phase R S Q)) → (had has : List A) → Type 0
PlansByCall (enter v s g) was now had has = NothingPlanned was now had has
PlansByCall (withdraw v) was now had has = NothingPlanned was now had has
PlansByCall (possess s) was now had has = NothingPlanned was now had has
PlansByCall (give_up s) was now had has = NothingPlanned was now had has
PlansByCall ask was now had has = NothingPlanned was now had has
PlansByCall (plan steps cells) was now had has = Unit {0}

-- a frame that asks for no plan plans nothing; the finish makes the planner, and leaves the cells
abbrev pub OnlyAPlanPlans : {R S Q A : Type 0} → Asked → (was now : Option (Phase R S Q)) → (had has : List A) → Type 0
OnlyAPlanPlans (sections k) was now had has = NothingPlanned was now had has
OnlyAPlanPlans (link a b p) was now had has = NothingPlanned was now had has
OnlyAPlanPlans (foul a b c d) was now had has = NothingPlanned was now had has
OnlyAPlanPlans finish was now had has = has ≡ had
OnlyAPlanPlans (call c) was now had has = PlansByCall c was now had has

-- the same of a line, by what it is read as: a line that is no frame plans nothing
abbrev pub PlansAsRead : {R S Q A : Type 0} → (cells : ℕ) → Result Told Refusal
    → (was now : Option (Phase R S Q)) → (had has : List A) → Type 0
PlansAsRead cells (Ok t) was now had has = OnlyAPlanPlans (asked_by cells t) was now had has
PlansAsRead cells (Err e) was now had has = NothingPlanned was now had has

-- whether the planning itself came to the refusal: beyond reach, or no lawful sheet. All others are conditions of a call
abbrev pub by_planning : Refusal → Bool
by_planning e = number_of e == 24 || number_of e == 25

-- what a declined line leaves as it was: the sheet; and the machine and the cells, unless the planning came to the refusal
pub record LeftBy {C M : Type 0} (e : Refusal)
    (was now : M) (cells left : List (Option C)) (old new : Sheet) : Type 0 where
  pub sheet : new ≡ old
  pub machine : by_planning e ≡ false → now ≡ was
  pub cells_too : by_planning e ≡ false → left ≡ cells

abbrev pub DeclinedLeaves : {C M A : Type 0} → Result A Refusal
    → (was now : M) (cells left : List (Option C)) (old new : Sheet) → Type 0
DeclinedLeaves (Ok a) was now cells left old new = Unit {0}
DeclinedLeaves (Err e) was now cells left old new = LeftBy e was now cells left old new
