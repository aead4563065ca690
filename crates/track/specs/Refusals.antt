-- The numbers of the refusals, and what a refused call leaves.
use Rattle.std.specs.Prelude.{◌≡◌, ℕ, Bool, cond, Some, None, Ok, Err, Option, Result}
use Rattle.track.specs.declared.refusal.Refusal.{Refusal}
use Rattle.track.specs.declared.refusal.Refusal.TheVariants.{
  NoSuchSection,
  TooManySections,
  SameSectionTwice,
  TooManyPoints,
  LinkedAlready,
  TooManyLinks,
  NotALink,
  SameLinkTwice,
  FouledAlready,
  TooManyFouls,
  TrainNumberOutOfRange,
  OnRosterAlready,
  EndClosed,
  StartTaken,
  GoalTaken,
  RosterFull,
  NotOnRoster,
  ClosedAlready,
  StartOrGoal,
  OpenAlready,
  StepsOutOfRange,
  RosterEmpty,
  TooFewCells,
  BeyondReach,
  NoLawfulSheet,
  GroupSizeOutOfRange,
  NotPairsOfDigits,
  UnknownFrame,
  WrongSideOfFinish,
  WritingPlaceTooShort,
}

abbrev pub number_of : Refusal → ℕ
number_of NoSuchSection = 1
number_of TooManySections = 2
number_of SameSectionTwice = 3
number_of TooManyPoints = 4
number_of LinkedAlready = 5
number_of TooManyLinks = 6
number_of NotALink = 7
number_of SameLinkTwice = 8
number_of FouledAlready = 9
number_of TooManyFouls = 10
number_of TrainNumberOutOfRange = 11
number_of OnRosterAlready = 12
number_of EndClosed = 13
number_of StartTaken = 14
number_of GoalTaken = 15
number_of RosterFull = 16
number_of NotOnRoster = 17
number_of ClosedAlready = 18
number_of StartOrGoal = 19
number_of OpenAlready = 20
number_of StepsOutOfRange = 21
number_of RosterEmpty = 22
number_of TooFewCells = 23
number_of BeyondReach = 24
number_of NoLawfulSheet = 25
number_of GroupSizeOutOfRange = 26
number_of (NotPairsOfDigits place) = 27
number_of UnknownFrame = 28
number_of WrongSideOfFinish = 29
number_of WritingPlaceTooShort = 30

-- the condition with this number declines the call, if it is met; otherwise the conditions after it are judged
abbrev pub met : ℕ → Bool → Option ℕ → Option ℕ
met number holds others = cond holds (Some number) others

-- the number of the refusal, if the call was declined
abbrev pub refused_by : {A : Type 0} → Result A Refusal → Option ℕ
refused_by (Ok a) = None
refused_by (Err e) = Some (number_of e)

-- the first where the call was granted, otherwise the second
abbrev pub granted : {A B : Type 0} → Result A Refusal → B → B → B
granted (Ok a) new old = new
granted (Err e) new old = old

-- a declined call leaves what it was made on as it was
abbrev pub AsItWas : {A T : Type 0} → Result A Refusal → (old new : T) → Type 0
AsItWas (Ok a) old new = Unit {0}
AsItWas (Err e) old new = new ≡ old

-- the first where no reason declined the call, otherwise the second
abbrev pub unless : {A : Type 0} → Option ℕ → (new old : A) → A
unless (Some k) new old = old
unless None new old = new
