-- What an input comes to: its lines, each done as soon as it is ended, and what is printed then.
use Rattle.std.specs.Prelude.{◌≡◌, ℕ, Bool, true, false, List, [], ◌∷◌, ◌++◌, map, take, Some, None, Option, Result, ◌==◌}
use Rattle.track.specs.declared.refusal.Refusal.{Refusal}
use Rattle.sheets.specs.declared.sheet.Sheet.{Sheet}
use Rattle.frames.specs.Cuts.{fresh, after_all, given, lines_of as lines_of_input}
use Rattle.frames.specs.Cutters.{cut_of}
use Rattle.planner.specs.History.{Meaning}
use Rattle.machine.specs.Progress.{progress_of}
use Rattle.machine.specs.Phases.{reply_of}
use Rattle.machine.specs.Lines.{LineEvent, line_event, lines_of, LineHistory}
use Rattle.machine.specs.Printing.{reply_lines, prints}
use Rattle.machine.specs.declared.intake.Intake.{Intake}
use Rattle.machine.specs.declared.said.Said.{Said}

abbrev pub texts_of : {C : Type 0} → List (LineEvent C) → List (List ℕ)
texts_of es = map (λ e. e.line) es

module _ {R S Q C : Type 0} (k : Meaning R S Q C) (rule : R) (scale : S) (below : Q) where
  -- the intake has taken these bytes, and its machine has done just the lines that they ended, of each its first 65 bytes
  pub record InputHistory (xs : List ℕ) (es : List (LineEvent C)) (i : Intake R S Q) : Type 0 where
    pub cut : cut_of i.cutter ≡ after_all fresh xs
    pub lines : texts_of es ≡ given fresh xs
    pub history : LineHistory k rule scale below es i.machine

  -- the machine has done just the lines of this input, of each its first 65 bytes
  pub record InputDone (xs : List ℕ) (es : List (LineEvent C)) (i : Intake R S Q) : Type 0 where
    pub lines : texts_of es ≡ map (take 65) (lines_of_input xs)
    pub history : LineHistory k rule scale below es i.machine

  -- one more line is done: the bytes taken are these, and the reply prints what the lines say
  pub record OneMore (xs : List ℕ) (es : List (LineEvent C)) (line : List ℕ) (cells : ℕ) (old new : Sheet)
      (said : Result (Said C) Refusal) (next : Intake R S Q) : Type 0 where
    pub taken : InputHistory xs (es ++ (line_event line cells (reply_of said) old new ∷ [])) next
    pub printed : (shown : C → List ℕ)
        → reply_lines shown said ≡ prints shown (progress_of (lines_of es)) (line_event line cells (reply_of said) old new)

  -- one byte more, by whether it ends a line
  abbrev pub TakenBy : Bool → (xs : List ℕ) (es : List (LineEvent C)) (byte cells : ℕ) (old new : Sheet)
      → Option (Result (Said C) Refusal) → Intake R S Q → Type 0
  TakenBy true xs es byte cells old new (Some said) next =
      OneMore (xs ++ (byte ∷ [])) es (cut_of next.cutter).line cells old new said next
  TakenBy true xs es byte cells old new None next = ⊥
  TakenBy false xs es byte cells old new (Some said) next = ⊥
  TakenBy false xs es byte cells old new None next = InputHistory (xs ++ (byte ∷ [])) es next × (new ≡ old)

  abbrev pub ByteTaken : (xs : List ℕ) (es : List (LineEvent C)) (byte cells : ℕ) (old new : Sheet)
      → Option (Result (Said C) Refusal) → Intake R S Q → Type 0
  ByteTaken xs es byte cells old new told next = TakenBy (byte == 10) xs es byte cells old new told next

  -- the last line is done as if 0A had ended it, and with it all lines of the input are
  pub record LastDone (xs : List ℕ) (es : List (LineEvent C)) (cells : ℕ) (old new : Sheet)
      (said : Result (Said C) Refusal) (next : Intake R S Q) : Type 0 where
    pub line : List ℕ
    pub more : OneMore (xs ++ (10 ∷ [])) es line cells old new said next
    pub done : InputDone xs (es ++ (line_event line cells (reply_of said) old new ∷ [])) next

  -- the end of the input: all its lines are done before it, or all but the last
  abbrev pub InputEnded : (xs : List ℕ) (es : List (LineEvent C)) (cells : ℕ) (old new : Sheet)
      → Option (Result (Said C) Refusal) → Intake R S Q → Type 0
  InputEnded xs es cells old new (Some said) next = LastDone xs es cells old new said next
  InputEnded xs es cells old new None next = InputDone xs es next × InputHistory xs es next × (new ≡ old)
