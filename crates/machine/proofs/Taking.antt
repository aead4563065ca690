-- One byte more, and the end of the input.
use Rattle.std.proofs.Common.{◌≡◌, ℕ, Bool, true, false, cond, eqb, List, [], ◌∷◌, ◌++◌, map, length, take, Some, None, Option, Result, sym, refl, ap, ◌∙◌, subst}
use Rattle.std.proofs.lemmas.List.{append-nil}
use Rattle.track.specs.declared.refusal.Refusal.{Refusal}
use Rattle.sheets.specs.declared.sheet.Sheet.{Sheet}
use Rattle.frames.specs.Cuts.{Cut, begun_of, fresh, after, stepped, after_all, given, rest, lines_of as lines_of_input}
use Rattle.frames.specs.Cutters.{cut_of}
use Rattle.frames.proofs.Cutting.{next_of_the_input, all_lines}
use Rattle.planner.specs.History.{Meaning}
use Rattle.machine.specs.Progress.{progress_of, drawing, planning, Progress}
use Rattle.machine.specs.Phases.{reply_of, scale_in, StandsAt}
use Rattle.machine.specs.Lines.{LineEvent, line_event, lines_of, LineStep, LineHistory}
use Rattle.machine.specs.Inputs.{texts_of, InputHistory, InputDone, OneMore, TakenBy, ByteTaken, LastDone, InputEnded}
use Rattle.machine.specs.Printing.{PrintsByTheLines}
use Rattle.machine.specs.declared.intake.Intake.{Intake}
use Rattle.machine.specs.declared.machine.Machine.{Machine}
use Rattle.machine.specs.declared.phase.Phase.{Phase}
use Rattle.machine.specs.declared.phase.Phase.TheVariants.{Drawing, Planning}
use Rattle.machine.specs.declared.said.Said.{Said}
use Rattle.machine.proofs.Histories.{history_next}

texts_more : {C : Type 0} (es : List (LineEvent C)) (e : LineEvent C) → texts_of (es ++ (e ∷ [])) ≡ texts_of es ++ (e.line ∷ [])
texts_more [] e = refl
texts_more (d ∷ es) e = ap (λ (ls : List (List ℕ)). d.line ∷ ls) (texts_more es e)

-- no line has begun where one was ended
pub none_begun : (s : Cut) (byte : ℕ) → byte ≡ 10 → begun_of (after s byte) ≡ []
unfolding stepped
none_begun s byte e = rw e refl

module _ {R S Q C : Type 0} (k : Meaning R S Q C) (rule : R) (scale : S) (below : Q) (i next : Intake R S Q) (byte : ℕ)
    (pushed : cut_of next.cutter ≡ after (cut_of i.cutter) byte) (xs : List ℕ) (es : List (LineEvent C)) (h : InputHistory k rule scale below xs es i) where
  cut_more : cut_of next.cutter ≡ after_all fresh (xs ++ (byte ∷ []))
  cut_more = (next_of_the_input (cut_of i.cutter) (cut_of next.cutter) byte pushed xs h.cut).0

  given_more : given fresh (xs ++ (byte ∷ [])) ≡ given fresh xs ++ cond (eqb byte 10) ((cut_of next.cutter).line ∷ []) []
  given_more = (next_of_the_input (cut_of i.cutter) (cut_of next.cutter) byte pushed xs h.cut).1

  given_by : (b : Bool) → eqb byte 10 ≡ b → given fresh (xs ++ (byte ∷ [])) ≡ given fresh xs ++ cond b ((cut_of next.cutter).line ∷ []) []
  given_by b e = given_more ∙ ap (λ (z : Bool). given fresh xs ++ cond z ((cut_of next.cutter).line ∷ []) []) e

  -- the byte ends no line
  pub byte_goes_on : eqb byte 10 ≡ false → next.machine ≡ i.machine → InputHistory k rule scale below (xs ++ (byte ∷ [])) es next
  byte_goes_on on stays =
      record {
        cut = cut_more;
        lines = h.lines ∙ sym (append-nil (given fresh xs)) ∙ sym (given_by false on);
        history = subst (λ (m : Machine R S Q). LineHistory k rule scale below es m) (sym stays) h.history;
      }

  -- the byte ends a line
  pub byte_ends : (line : List ℕ) (cells : ℕ) (old new : Sheet) (said : Result (Said C) Refusal) → eqb byte 10 ≡ true → line ≡ (cut_of next.cutter).line
      → LineStep k rule scale below i.machine (line_event line cells (reply_of said) old new) next.machine
      → PrintsByTheLines k rule scale below i.machine said (line_event line cells (reply_of said) old new)
      → OneMore k rule scale below (xs ++ (byte ∷ [])) es (cut_of next.cutter).line cells old new said next
  byte_ends line cells old new said ends held step prints =
      let e : LineEvent C = line_event (cut_of next.cutter).line cells (reply_of said) old new in
      let done : LineStep k rule scale below i.machine e next.machine = rw (sym held) step in
      let told : PrintsByTheLines k rule scale below i.machine said e = rw (sym held) prints in
      record {
        taken = record {
          cut = cut_more;
          lines = texts_more es e ∙ ap (λ (ls : List (List ℕ)). ls ++ (e.line ∷ [])) h.lines ∙ sym (given_by true ends);
          history = history_next k rule scale below i.machine next.machine e done es h.history;
        };
        printed = λ shown. told (progress_of (lines_of es)) h.history.stands shown;
      }

  pub byte_none : (cells : ℕ) (s : Sheet) → eqb byte 10 ≡ false → next.machine ≡ i.machine → ByteTaken k rule scale below xs es byte cells s s None next
  byte_none cells s on stays =
      let P : Bool → Type 0 = λ z. TakenBy k rule scale below z xs es byte cells s s None next in
      subst P (sym on) (byte_goes_on on stays, refl)

  pub byte_some : (line : List ℕ) (cells : ℕ) (old new : Sheet) (said : Result (Said C) Refusal) → eqb byte 10 ≡ true → line ≡ (cut_of next.cutter).line
      → LineStep k rule scale below i.machine (line_event line cells (reply_of said) old new) next.machine
      → PrintsByTheLines k rule scale below i.machine said (line_event line cells (reply_of said) old new)
      → ByteTaken k rule scale below xs es byte cells old new (Some said) next
  byte_some line cells old new said ends held step prints =
      let P : Bool → Type 0 = λ z. TakenBy k rule scale below z xs es byte cells old new (Some said) next in
      subst P (sym ends) (byte_ends line cells old new said ends held step prints)

module _ {R S Q C : Type 0} (k : Meaning R S Q C) (rule : R) (scale : S) (below : Q) (i : Intake R S Q)
    (xs : List ℕ) (es : List (LineEvent C)) (h : InputHistory k rule scale below xs es i) where
  lines_by : (b : Bool) → eqb (length (begun_of (cut_of i.cutter))) 0 ≡ b
      → given fresh xs ++ cond b [] (begun_of (cut_of i.cutter) ∷ []) ≡ map (take 65) (lines_of_input xs)
  lines_by b e =
      ap (λ (z : Bool). given fresh xs ++ cond z [] (begun_of (cut_of i.cutter) ∷ [])) (sym e)
      ∙ ap (λ (z : Cut). given fresh xs ++ rest z) h.cut
      ∙ all_lines xs

  -- no line has begun
  pub end_idle : eqb (length (begun_of (cut_of i.cutter))) 0 ≡ true → InputDone k rule scale below xs es i
  end_idle none =
      record {
        lines = h.lines ∙ sym (append-nil (given fresh xs)) ∙ lines_by true none;
        history = h.history;
      }

  -- a line has begun, which is the last
  pub end_last : (line : List ℕ) (cells : ℕ) (old new : Sheet) (said : Result (Said C) Refusal) (next : Intake R S Q)
      → eqb (length (begun_of (cut_of i.cutter))) 0 ≡ false → line ≡ (after (cut_of i.cutter) 10).line
      → OneMore k rule scale below (xs ++ (10 ∷ [])) es line cells old new said next → LastDone k rule scale below xs es cells old new said next
  unfolding stepped
  end_last line cells old new said next some at more =
      let e : LineEvent C = line_event line cells (reply_of said) old new in
      record {
        line = line;
        more = more;
        done = record {
          lines = texts_more es e ∙ ap (λ (ls : List (List ℕ)). ls ++ (line ∷ [])) h.lines ∙ ap (λ (z : List ℕ). given fresh xs ++ (z ∷ [])) at ∙ lines_by false some;
          history = more.taken.history;
        };
      }

  pub ended : (cells : ℕ) (old new : Sheet) (told : Option (Result (Said C) Refusal)) (next : Intake R S Q)
      → eqb (length (begun_of (cut_of i.cutter))) 0 ≡ false → cut_of next.cutter ≡ after (cut_of i.cutter) 10
      → ByteTaken k rule scale below xs es 10 cells old new told next → InputEnded k rule scale below xs es cells old new told next
  ended cells old new (Some said) next some at more = end_last (cut_of next.cutter).line cells old new said next some (ap (λ (z : Cut). z.line) at) more
  ended cells old new None next some at more = absurd more

-- the scale is the one that the machine was made with
pub scale_stays : {R S Q C : Type 0} (k : Meaning R S Q C) (rule : R) (scale : S) (below : Q) (s : Progress) (phase : Option (Phase R S Q))
    → StandsAt k rule scale below s phase → scale_in phase ≡ Some scale
scale_stays k rule scale below (drawing m) (Some (Drawing d)) st = ap Some st.its_scale
scale_stays k rule scale below (drawing m) (Some (Planning p)) st = absurd st
scale_stays k rule scale below (drawing m) None st = absurd st
scale_stays k rule scale below (planning m calls) (Some (Drawing d)) st = absurd st
scale_stays k rule scale below (planning m calls) (Some (Planning p)) st = ap Some (st.stands.scale ∙ st.made_of.its_scale)
scale_stays k rule scale below (planning m calls) None st = absurd st
