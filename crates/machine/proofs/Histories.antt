-- Lines, one more and any number of them.
use Rattle.std.proofs.Common.{◌≡◌, ℕ, List, [], ◌∷◌, ◌++◌, Some, None, Option, Ok, Err, Result, sym, refl, ap, ◌∙◌, subst, slice_index}
use Rattle.track.specs.Layouts.{sections_of}
use Rattle.track.specs.Model.{Model}
use Rattle.track.specs.Refusals.{number_of}
use Rattle.track.specs.declared.refusal.Refusal.{Refusal}
use Rattle.roster.specs.Book.{Book, book_of}
use Rattle.sheets.specs.declared.sheet.Sheet.{Sheet}
use Rattle.frames.specs.Frames.{Told, read_as, KindThenFields}
use Rattle.frames.specs.Replies.{numbers_of}
use Rattle.planner.specs.Promise.{Reply, declined}
use Rattle.planner.specs.History.{Meaning}
use Rattle.machine.specs.Asked.{asked_by, field}
use Rattle.machine.specs.Progress.{Progress, drawing, planning, after_line, after_read, beginning, progress_from, progress_of}
use Rattle.machine.specs.Phases.{StandsAt, numbers_in, steps_asked, reply_of, TellsPlan, DeclinedAsRead}
use Rattle.machine.specs.Printing.{numbers_at, PrintsByTheLines}
use Rattle.machine.specs.Lines.{LineEvent, line_event, lines_of, handed_in, TurnOwes, ReadKept, LineKept, AllLinesKept, LineStep, LineHistory, LineRun, EveryRunOfLinesKeepsAllReplies}
use Rattle.machine.specs.declared.machine.Machine.{Machine}
use Rattle.machine.specs.declared.phase.Phase.{Phase}
use Rattle.machine.specs.declared.phase.Phase.TheVariants.{Drawing, Planning}
use Rattle.machine.specs.declared.said.Said.{Said}
use Rattle.machine.specs.declared.said.Said.TheVariants.{Done, Planned}

-- a line that was read as a frame is none that is declined as it is read, and one that was declined is told as it is read
pub frame_told : {C : Type 0} (line : List ℕ) (t : Told) → Ok t ≡ read_as line → (r : Result (Said C) Refusal) → DeclinedAsRead line r
frame_told line t i r e h = absurd (cc (i ∙ h))

same_refusal : (d e : Refusal) → ◌≡◌ {A = Result Told Refusal} (Err d) (Err e) → d ≡ e
same_refusal d e h = cc

pub refusal_told : {C : Type 0} (line : List ℕ) (d : Refusal) → Err d ≡ read_as line → DeclinedAsRead {C = C} line (Err d)
refusal_told line d i e h = ap (λ (x : Refusal). Err x) (same_refusal d e (i ∙ h))

module _ {R S Q C : Type 0} (k : Meaning R S Q C) (rule : R) (scale : S) (below : Q) where
  -- a line that is read as a frame, which then takes its turn
  pub frame_step : (m next : Machine R S Q) (line : List ℕ) (cells : ℕ) (t : Told) (reply : Reply C) (old new : Sheet) → Ok t ≡ read_as line
      → TurnOwes k rule scale below m.phase (asked_by cells t) reply old new next.phase → LineStep k rule scale below m (line_event line cells reply old new) next
  frame_step m next line cells t reply old new e h =
      record {
        kept = λ s st. subst (λ (r : Result Told Refusal). ReadKept k rule scale below cells s r reply old new) e (h s st).0;
        stands = λ s st. subst (λ (r : Result Told Refusal). StandsAt k rule scale below (after_read cells s r) next.phase) e (h s st).1;
      }

  -- a line that is no frame
  pub declined_step : (m : Machine R S Q) (line : List ℕ) (cells : ℕ) (e : Refusal) (s : Sheet) → Err e ≡ read_as line
      → LineStep k rule scale below m (line_event line cells (declined (number_of e)) s s) m
  declined_step m line cells e sheet i =
      record {
        kept = λ s st. subst (λ (r : Result Told Refusal). ReadKept k rule scale below cells s r (declined (number_of e)) sheet sheet) i (refl, refl);
        stands = λ s st. subst (λ (r : Result Told Refusal). StandsAt k rule scale below (after_read cells s r) m.phase) i st;
      }

  lines_more : (s : Progress) (es : List (LineEvent C)) (e : LineEvent C)
      → progress_from s (lines_of (es ++ (e ∷ []))) ≡ after_line (progress_from s (lines_of es)) (handed_in e)
  lines_more s [] e = refl
  lines_more s (d ∷ es) e = lines_more (after_line s (handed_in d)) es e

  kept_more : (s : Progress) (es : List (LineEvent C)) (e : LineEvent C) → AllLinesKept k rule scale below s es
      → LineKept k rule scale below (progress_from s (lines_of es)) e → AllLinesKept k rule scale below s (es ++ (e ∷ []))
  kept_more s [] e h a = (a, tt)
  kept_more s (d ∷ es) e h a = (h.0, kept_more (after_line s (handed_in d)) es e h.1 a)

  -- a history goes on
  pub history_next : (m next : Machine R S Q) (e : LineEvent C) → LineStep k rule scale below m e next
      → (es : List (LineEvent C)) → LineHistory k rule scale below es m → LineHistory k rule scale below (es ++ (e ∷ [])) next
  history_next m next e st es h =
      let s = progress_of (lines_of es) in
      record {
        stands = subst (λ (z : Progress). StandsAt k rule scale below z next.phase) (sym (lines_more beginning es e)) (st.stands s h.stands);
        kept = kept_more beginning es e h.kept (st.kept s h.stands);
      }

  run_kept : {m last : Machine R S Q} {es : List (LineEvent C)} (s : Progress) → StandsAt k rule scale below s m.phase
      → LineRun k rule scale below m es last → AllLinesKept k rule scale below s es
  run_kept s st LineRun.rest = tt
  run_kept s st (LineRun.next e h r) = (h.kept s st, run_kept (after_line s (handed_in e)) (h.stands s st) r)

  pub every_run : (made : Machine R S Q) → StandsAt k rule scale below beginning made.phase → EveryRunOfLinesKeepsAllReplies k rule scale below made
  every_run made st last es r = run_kept beginning st r

-- the first field of a frame is the second byte of its line
pub told_of_line : {C : Type 0} (line : List ℕ) (t : Told) (numbers : List ℕ) (sheet : Sheet) (r : Result (Said C) Refusal) → KindThenFields line → Ok t ≡ read_as line
    → TellsPlan numbers (field t.1 0) sheet r → TellsPlan numbers (steps_asked line) sheet r
told_of_line line t numbers sheet r h e n =
    subst (λ (bytes : List ℕ). TellsPlan numbers (slice_index bytes 1) sheet r) (sym (h t (sym e)).0) n

-- a reply that tells the plan that was made prints what the lines say
module _ {R S Q C : Type 0} (k : Meaning R S Q C) (rule : R) (scale : S) (below : Q) where
  numbers_same : (s : Progress) (phase : Option (Phase R S Q)) → StandsAt k rule scale below s phase → numbers_in phase ≡ numbers_at s
  unfolding sections_of
  numbers_same (drawing m) (Some (Drawing d)) st = refl
  numbers_same (drawing m) (Some (Planning p)) st = absurd st
  numbers_same (drawing m) None st = absurd st
  numbers_same (planning m calls) (Some (Drawing d)) st = absurd st
  numbers_same (planning m calls) (Some (Planning p)) st =
      ap (λ (b : Book). numbers_of b.trains) st.stands.book
      ∙ ap (λ (d : Model). numbers_of (book_of d.sections calls).trains) st.made_of.layout
  numbers_same (planning m calls) None st = absurd st

  pub told_prints : (m : Machine R S Q) (line : List ℕ) (cells : ℕ) (old new : Sheet) (said : Result (Said C) Refusal)
      → TellsPlan (numbers_in m.phase) (steps_asked line) new said → PrintsByTheLines k rule scale below m said (line_event line cells (reply_of said) old new)
  told_prints m line cells old new (Err e) h s st shown = refl
  told_prints m line cells old new (Ok Done) h s st shown = refl
  told_prints m line cells old new (Ok (Planned p)) h s st shown =
      let trains : p.numbers ≡ numbers_at s = h.trains ∙ numbers_same s m.phase st in
      rw (trains, h.over, h.its_sheet) refl
