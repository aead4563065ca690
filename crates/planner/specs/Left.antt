-- What a call leaves of the planner, of the cells and of the sheet.
use Rattle.std.specs.Prelude.{◌≡◌, ℕ, List, Some, None, Option}
use Rattle.track.specs.Layouts.{sections_of}
use Rattle.roster.specs.Book.{Call, enter, withdraw, possess, give_up, ask, plan, after}
use Rattle.roster.specs.Model.{seen}
use Rattle.sheets.specs.declared.sheet.Sheet.{Sheet}
use Rattle.search.specs.Answers.{SameMeaning}
use Rattle.planner.specs.Promise.{Kept}
use Rattle.planner.specs.History.{Meaning, Event, setting_of, judged}
use Rattle.planner.specs.declared.planner.Planner.{Planner}

-- a call on p leaves q: only the roster changes, which has the book after the call
pub record OnlyTheRosterChanges {R S Q : Type 0} (p : Planner R S Q) (c : Call) (q : Planner R S Q)
    : Type 0 where
  pub layout : q.layout ≡ p.layout
  pub rule : q.rule ≡ p.rule
  pub scale : q.scale ≡ p.scale
  pub search : q.search ≡ p.search
  pub book : seen q.roster ≡ after (sections_of p.layout) (seen p.roster) c

-- planner, cells and sheet are as they were
pub record NothingChanges {R S Q A : Type 0} (p q : Planner R S Q) (had has : List A) (old new : Sheet)
    : Type 0 where
  pub planner : q ≡ p
  pub cells : has ≡ had
  pub sheet : new ≡ old

-- they are so after a call that is declined with a number
abbrev pub NothingChangesIf : {R S Q A : Type 0} → Option ℕ → (p q : Planner R S Q) (had has : List A)
    (old new : Sheet) → Type 0
NothingChangesIf (Some number) p q had has old new = NothingChanges p q had has old new
NothingChangesIf None p q had has old new = Unit {0}

-- only a plan call may write cells
abbrev pub CellsLeft : {A : Type 0} → Call → (had has : List A) → Type 0
CellsLeft (enter v s g) had has = has ≡ had
CellsLeft (withdraw v) had has = has ≡ had
CellsLeft (possess s) had has = has ≡ had
CellsLeft (give_up s) had has = has ≡ had
CellsLeft ask had has = has ≡ had
CellsLeft (plan steps cells) had has = Unit {0}

module _ {R S Q C : Type 0} (k : Meaning R S Q C) where
  -- a plan call on p leaves q: layout, rule, scale and roster are as they were,
  -- and the search takes the same groups
  pub record PlanningLeaves (p q : Planner R S Q) : Type 0 where
    pub layout : q.layout ≡ p.layout
    pub rule : q.rule ≡ p.rule
    pub scale : q.scale ≡ p.scale
    pub roster : q.roster ≡ p.roster
    pub takes : SameMeaning (k.takes q.search.below) (k.takes p.search.below)

  -- any call on p leaves q: a question leaves the planner as it was
  abbrev pub PlannerLeft : (p : Planner R S Q) → Call → (q : Planner R S Q) → Type 0
  PlannerLeft p (enter v s g) q = OnlyTheRosterChanges p (enter v s g) q
  PlannerLeft p (withdraw v) q = OnlyTheRosterChanges p (withdraw v) q
  PlannerLeft p (possess s) q = OnlyTheRosterChanges p (possess s) q
  PlannerLeft p (give_up s) q = OnlyTheRosterChanges p (give_up s) q
  PlannerLeft p ask q = q ≡ p
  PlannerLeft p (plan steps cells) q = PlanningLeaves p q

  -- a call on p that leaves q: its reply is right by the book of p, a call that this book declines changes
  -- nothing, and no call changes more than what it is about
  pub record CallDone {A : Type 0} (p : Planner R S Q) (e : Event C) (had has : List A) (q : Planner R S Q)
      : Type 0 where
    pub reply : Kept (setting_of k p) (seen p.roster) e.call e.reply e.before e.afterwards
    pub declined : NothingChangesIf (judged p e.call) p q had has e.before e.afterwards
    pub planner : PlannerLeft p e.call q
    pub cells : CellsLeft e.call had has
