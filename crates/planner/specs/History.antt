-- When a planner is what a list of calls leaves of the planner that was made, and what a run of calls is.
use Rattle.std.specs.Prelude.{◌≡◌, ℕ, ◌<◌, ◌≤◌, List, [], ◌∷◌, ◌++◌, length, Ok, Err, Option, Result}
use Rattle.track.specs.Layouts.{sections_of}
use Rattle.track.specs.Refusals.{number_of}
use Rattle.track.specs.declared.layout.Layout.{Layout}
use Rattle.track.specs.declared.refusal.Refusal.{Refusal}
use Rattle.rules.specs.Conflicts.{Conflicts}
use Rattle.scales.specs.Measure.{Measure}
use Rattle.roster.specs.Book.{Call, withdraw, possess, give_up, ask, plan, Book, book_of, entry_of}
use Rattle.roster.specs.Book.{declined as refusal}
use Rattle.roster.specs.Model.{seen}
use Rattle.sheets.specs.Inquiry.{Inquiry, plan_of}
use Rattle.sheets.specs.Theorems.{Same}
use Rattle.sheets.specs.declared.sheet.Sheet.{Sheet}
use Rattle.planner.specs.Promise.{Setting, Reply, accepted, declined, noted, are_closed, planned, Kept, setting}
use Rattle.planner.specs.declared.note.Note.{Note}
use Rattle.planner.specs.declared.order.Order.{Order}
use Rattle.planner.specs.declared.order.Order.TheVariants.{Enter, Withdraw, Possess, GiveUp, AskClosed, Plan}
use Rattle.planner.specs.declared.order.Told.{Told}
use Rattle.planner.specs.declared.order.Told.TheVariants.{Accepted, Noted, AreClosed, Planned}
use Rattle.planner.specs.declared.planner.Planner.{Planner}

-- what the rule, the scale and the search of a planner mean
pub record Meaning (R S Q C : Type 0) : Type 1 where
  pub conflicts : R → Layout → Conflicts
  pub measure : S → Measure C
  pub takes : Q → Inquiry C → ℕ → Type 0

abbrev pub meaning : {R S Q C : Type 0} → (R → Layout → Conflicts) → (S → Measure C) → (Q → Inquiry C → ℕ → Type 0) → Meaning R S Q C
meaning conflicts measure takes = record { conflicts = conflicts; measure = measure; takes = takes }

-- the refusal that a call meets at a planner by the book, if it meets one
abbrev pub judged : {R S Q : Type 0} → Planner R S Q → Call → Option ℕ
judged p c = refusal (sections_of p.layout) (seen p.roster) c

-- the call that an order makes, with so many cells handed in
abbrev pub call_of : Order → (cells : ℕ) → Call
call_of (Enter train) cells = entry_of train
call_of (Withdraw number) cells = withdraw number
call_of (Possess section) cells = possess section
call_of (GiveUp note) cells = give_up note.section
call_of AskClosed cells = ask
call_of (Plan steps) cells = plan steps cells

-- the reply of a call that gives something, told in this way, or is declined
abbrev pub says : {A C : Type 0} → (A → Reply C) → Result A Refusal → Reply C
says told (Ok a) = told a
says told (Err e) = declined (number_of e)

abbrev pub told : {C : Type 0} → Told C → Reply C
told Accepted = accepted
told (Noted note) = noted note.section
told (AreClosed count low) = are_closed count low
told (Planned cost groups) = planned cost groups

abbrev pub reply_of : {C : Type 0} → Result (Told C) Refusal → Reply C
reply_of r = says told r

-- the reply of a call that gives nothing, of one that gives a note, and of a plan call
abbrev pub says_done : {C : Type 0} → Result (Unit {0}) Refusal → Reply C
says_done r = says (λ u. accepted) r

abbrev pub says_note : {C : Type 0} → Result Note Refusal → Reply C
says_note r = says (λ note. noted note.section) r

abbrev pub says_plan : {C : Type 0} → Result (C × ℕ) Refusal → Reply C
says_plan r = says (λ p. planned p.0 p.1) r

-- a call with its reply, and the sheet before and after it
pub record Event (C : Type 0) : Type 0 where
  pub call : Call
  pub reply : Reply C
  pub before : Sheet
  pub afterwards : Sheet

abbrev pub event : {C : Type 0} → Call → Reply C → Sheet → Sheet → Event C
event c r old new = record { call = c; reply = r; before = old; afterwards = new }

abbrev pub calls_of : {C : Type 0} → List (Event C) → List Call
calls_of [] = []
calls_of (e ∷ es) = e.call ∷ calls_of es

-- every reply is kept, each for the book of the calls before it
abbrev pub AllKept : {C : Type 0} → Setting C → List Call → List (Event C) → Type 0
AllKept w calls [] = Unit {0}
AllKept w calls (e ∷ es) =
    Kept w (book_of w.sections calls) e.call e.reply e.before e.afterwards
    × AllKept w (calls ++ (e.call ∷ [])) es

-- a plan call that gives a sheet writes the same into the trains' rows at times 0 to the last,
-- whatever the sheets held that were handed in
abbrev pub SameWritten : {C : Type 0} → Book → Call → Reply C → (new other : Sheet) → Type 0
SameWritten b (plan steps cells) (planned cost groups) new other =
    (row time : ℕ) → row < length b.trains → time ≤ steps → plan_of new row time ≡ plan_of other row time
SameWritten b call reply new other = Unit {0}

-- two replies to one call on the book are one, and the sheets agree: where a plan call writes them,
-- and elsewhere wherever those agreed that were handed in
pub record OneAnswer {C : Type 0} (b : Book) (c : Call) (r t : Reply C) (old new was other : Sheet)
    : Type 0 where
  pub one_reply : r ≡ t
  pub written : SameWritten b c r new other
  pub elsewhere : (row time : ℕ) → plan_of old row time ≡ plan_of was row time
      → plan_of new row time ≡ plan_of other row time

module _ {R S Q C : Type 0} (k : Meaning R S Q C) where
  abbrev pub setting_of : Planner R S Q → Setting C
  setting_of p = setting p.layout (k.conflicts p.rule p.layout) (k.measure p.scale) (k.takes p.search.below)

  -- p is what these calls leave of the planner that was made: the layout, the rule and the scale are the same, the search takes the same
  -- groups, and the roster has the book of the calls
  pub record Stands (made : Planner R S Q) (calls : List Call) (p : Planner R S Q) : Type 0 where
    pub layout : p.layout ≡ made.layout
    pub rule : p.rule ≡ made.rule
    pub scale : p.scale ≡ made.scale
    pub takes : (i : Inquiry C) (cells : ℕ) → Same (k.takes p.search.below i cells) (k.takes made.search.below i cells)
    pub book : seen p.roster ≡ book_of (sections_of made.layout) calls

  -- a call on p that leaves q: whatever the calls before it, its reply is kept for their book, and q is what all the calls leave
  pub record Step (p : Planner R S Q) (e : Event C) (q : Planner R S Q) : Type 0 where
    pub kept : (made : Planner R S Q) (calls : List Call) → Stands made calls p
        → Kept (setting_of made) (book_of (sections_of made.layout) calls) e.call e.reply e.before e.afterwards
    pub stands : (made : Planner R S Q) (calls : List Call) → Stands made calls p → Stands made (calls ++ (e.call ∷ [])) q

  -- p has this history: these calls were made, one after the other, on the planner that was made, every reply was kept, and p is what they leave
  pub record History (made : Planner R S Q) (es : List (Event C)) (p : Planner R S Q) : Type 0 where
    pub stands : Stands made (calls_of es) p
    pub kept : AllKept (setting_of made) [] es

  -- every history of p goes on with this call to one of q
  abbrev pub GoesOn : (p : Planner R S Q) → Event C → (q : Planner R S Q) → Type 0
  GoesOn p e q =
      (made : Planner R S Q) (es : List (Event C)) → History made es p → History made (es ++ (e ∷ [])) q

  -- a run: each call is made on the planner that the one before it left
  pub data Run : Planner R S Q → List (Event C) → Planner R S Q → Type 0 where
    rest : {p : Planner R S Q} → Run p [] p
    next : {p q r : Planner R S Q} (e : Event C) {es : List (Event C)} → Step p e q → Run q es r → Run p (e ∷ es) r

  -- in every run that begins with the planner that was made, every reply is kept for the book of the calls before it
  abbrev pub EveryRunKeepsAllReplies : Planner R S Q → Type 0
  EveryRunKeepsAllReplies made = (last : Planner R S Q) (es : List (Event C)) → Run made es last → AllKept (setting_of made) [] es

  -- after any calls on the planner that was made, the promise of one call more fixes its reply and its sheet
  abbrev pub ThePromiseLeavesNoChoice : Planner R S Q → Type 0
  ThePromiseLeavesNoChoice made =
      (calls : List Call) (c : Call) (r t : Reply C) (old new was other : Sheet)
      → Kept (setting_of made) (book_of (sections_of made.layout) calls) c r old new
      → Kept (setting_of made) (book_of (sections_of made.layout) calls) c t was other
      → OneAnswer (book_of (sections_of made.layout) calls) c r t old new was other
