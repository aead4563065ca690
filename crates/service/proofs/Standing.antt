-- Where serving stands between two bytes, and where it ends.
use Rattle.std.proofs.Common.{◌≡◌, ℕ, Bool, true, false, eqb, List, [], ◌∷◌, ◌++◌, Some, None, Option, Ok, Err, Result, sym, refl, ap, ◌∙◌, subst, append_assoc}
use Rattle.std.proofs.lemmas.Grind.{flat_map-append}
use Rattle.std.proofs.lemmas.List.{append-nil}
use Rattle.std.specs.List.{AllByRecursion}
use Rattle.std.specs.Result.{IsErr}
use Rattle.std.specs.Io.KnownBytes.{Keeps, Appends, Consumes, IsAtEnd}
use Rattle.track.specs.declared.refusal.Refusal.{Refusal}
use Rattle.sheets.specs.declared.sheet.Sheet.{Sheet}
use Rattle.frames.specs.Cuts.{lines_of}
use Rattle.frames.specs.Cutters.{cut_of}
use Rattle.frames.specs.Text.{line_of, text}
use Rattle.planner.specs.History.{Meaning}
use Rattle.machine.specs.Phases.{reply_of}
use Rattle.machine.specs.Progress.{Progress, beginning, after_line, progress_from, progress_of}
use Rattle.machine.specs.Lines.{LineEvent, line_event, handed_in}
use Rattle.machine.specs.Lines.{lines_of as handed_lines}
use Rattle.machine.specs.Inputs.{InputHistory, InputDone, OneMore, TakenBy, ByteTaken, LastDone, InputEnded}
use Rattle.machine.specs.declared.intake.Intake.{Intake}
use Rattle.machine.specs.declared.said.Said.{Said}
use Rattle.machine.specs.Printing.{prints, all_print, reply_lines}
use Rattle.service.specs.Serving.{ended_lines, Sent, LinesDone, replies, Failed, Served}
use Rattle.service.proofs.Bytes.{appends_none, appends_more, consumes_none, consumes_more, consumes_kept}
use Rattle.service.proofs.Ended.{given_ended}

-- what one line more prints stands behind what those before it print
all_print_more : {C : Type 0} (shown : C → List ℕ) (s : Progress) (es : List (LineEvent C)) (e : LineEvent C)
    → all_print shown s (es ++ (e ∷ [])) ≡ all_print shown s es ++ prints shown (progress_from s (handed_lines es)) e
all_print_more shown s [] e = append-nil (prints shown s e)
all_print_more shown s (d ∷ es) e =
    ap (λ (ls : List (List ℕ)). prints shown s d ++ ls) (all_print_more shown (after_line s (handed_in d)) es e)
    ∙ sym (append_assoc (prints shown s d) _ _)

cells_more : {C : Type 0} (cells : ℕ) (es : List (LineEvent C)) (e : LineEvent C) → AllByRecursion (λ (e : LineEvent C). e.cells ≡ cells) es → e.cells ≡ cells
    → AllByRecursion (λ (e : LineEvent C). e.cells ≡ cells) (es ++ (e ∷ []))
cells_more cells [] e h i = (i, tt)
cells_more cells (d ∷ es) e h i = (h.0, cells_more cells es e h.1 i)

module _ {R S Q C : Type 0} (k : Meaning R S Q C) (rule : R) (scale : S) (below : Q) (shown : S → C → List ℕ) (cells : ℕ) (input old : Option (List ℕ)) where
  -- what stands between two bytes: behind those that were taken, these were read and are not taken yet
  pub record Standing (behind : List ℕ) (left new : Option (List ℕ)) (i : Intake R S Q) : Type 0 where
    pub done : List ℕ
    pub es : List (LineEvent C)
    pub consumed : Consumes input left (done ++ behind)
    pub taken : InputHistory k rule scale below done es i
    pub with_cells : AllByRecursion (λ e. e.cells ≡ cells) es
    pub written : Appends old new (replies (shown scale) es)

  pub stands_there : (behind : List ℕ) (left new : Option (List ℕ)) (i j : Intake R S Q) → j ≡ i → Standing behind left new i → Standing behind left new j
  stands_there behind left new i j e h = subst (λ (z : Intake R S Q). Standing behind left new z) (sym e) h

  lines_done : (xs : List ℕ) (es : List (LineEvent C)) (i : Intake R S Q) → InputHistory k rule scale below xs es i → AllByRecursion (λ (e : LineEvent C). e.cells ≡ cells) es
      → LinesDone k rule scale below cells (ended_lines xs) es
  lines_done xs es i h c = record { texts = h.lines ∙ given_ended xs; with_cells = c; kept = h.history.kept }

  -- what one line more prints
  replies_more : (es : List (LineEvent C)) (e : LineEvent C)
      → replies (shown scale) (es ++ (e ∷ [])) ≡ replies (shown scale) es ++ text (prints (shown scale) (progress_of (handed_lines es)) e)
  replies_more es e =
      ap text (all_print_more (shown scale) beginning es e)
      ∙ flat_map-append line_of (all_print (shown scale) beginning es) (prints (shown scale) (progress_of (handed_lines es)) e)

  written_on : (es : List (LineEvent C)) (e : LineEvent C) (new last : Option (List ℕ)) → Appends old new (replies (shown scale) es)
      → Appends new last (text (prints (shown scale) (progress_of (handed_lines es)) e)) → Appends old last (replies (shown scale) (es ++ (e ∷ [])))
  written_on es e new last h sent = subst (λ (z : List ℕ). Appends old last z) (sym (replies_more es e)) (appends_more old new last _ _ h sent)

  all_read : (xs : List ℕ) (left : Option (List ℕ)) → Consumes input left (xs ++ []) → Consumes input left xs
  all_read xs left h = subst (λ (z : List ℕ). Consumes input left z) (append-nil xs) h

  pub begins : (i : Intake R S Q) → InputHistory k rule scale below [] [] i → (left : Option (List ℕ)) → input ≡ left → (new : Option (List ℕ)) → old ≡ new → Standing [] left new i
  begins i h left e new f = record {
    done = [];
    es = [];
    consumed = subst (λ (z : Option (List ℕ)). Consumes input z []) e (consumes_none input);
    taken = h;
    with_cells = tt;
    written = subst (λ (z : Option (List ℕ)). Appends old z []) f (appends_none old);
  }

  -- more was read
  pub more_read : (left next new : Option (List ℕ)) (i : Intake R S Q) (bytes : List ℕ) → Standing [] left new i → Consumes left next bytes → Standing bytes next new i
  more_read left next new i bytes h c = record {
    done = h.done;
    es = h.es;
    consumed = consumes_more input left next h.done bytes (all_read h.done left h.consumed) c;
    taken = h.taken;
    with_cells = h.with_cells;
    written = h.written;
  }

  -- nothing was read
  pub none_read : (left next new : Option (List ℕ)) (i : Intake R S Q) → Standing [] left new i → Keeps left next → Standing [] next new i
  none_read left next new i h c = record {
    done = h.done;
    es = h.es;
    consumed = consumes_kept input left next (h.done ++ []) h.consumed c;
    taken = h.taken;
    with_cells = h.with_cells;
    written = h.written;
  }

  abbrev pub ServedTo : {E : Type 0} → (left new : Option (List ℕ)) → Result (Unit {0}) E → Type 0
  ServedTo left new result = Served k rule scale below cells (shown scale) input left old new result

  served_err : {E : Type 0} (left new : Option (List ℕ)) → ((e : E) → ServedTo left new (Err e)) → (x : Result (Unit {0}) E) → IsErr x → ServedTo left new x
  served_err left new h (Ok u) e = absurd (cc e)
  served_err left new h (Err f) e = h f

  -- no more is read
  pub reading_stopped : {E : Type 0} (e : E) (left new : Option (List ℕ)) (i : Intake R S Q) → Standing [] left new i
      → ServedTo left new (Err e)
  reading_stopped e left new i h = record {
    read = h.done;
    consumed = all_read h.done left h.consumed;
    outcome = Failed.reading record { es = h.es; done = lines_done h.done h.es i h.taken h.with_cells; written = h.written };
  }

  -- one byte more
  module _ (byte : ℕ) (bytes : List ℕ) (left new : Option (List ℕ)) (i next : Intake R S Q) (s t : Sheet) (told : Option (Result (Said C) Refusal)) (room : ℕ) (same : room ≡ cells)
      (take_it : (xs : List ℕ) (es : List (LineEvent C)) → InputHistory k rule scale below xs es i → ByteTaken k rule scale below xs es byte room s t told next)
      (h : Standing (byte ∷ bytes) left new i) where
    abbrev more : List ℕ
    more = h.done ++ (byte ∷ [])

    consumed_on : Consumes input left (more ++ bytes)
    consumed_on = subst (λ (z : List ℕ). Consumes input left z) (sym (append_assoc h.done (byte ∷ []) bytes)) h.consumed

    taken_as : (z : Option (Result (Said C) Refusal)) → told ≡ z → ByteTaken k rule scale below h.done h.es byte cells s t z next
    taken_as z e = subst (λ (z : Option (Result (Said C) Refusal)). ByteTaken k rule scale below h.done h.es byte cells s t z next) e
        (subst (λ (n : ℕ). ByteTaken k rule scale below h.done h.es byte n s t told next) same (take_it h.done h.es h.taken))

    -- which ends no line
    pub byte_silent : told ≡ None → Standing bytes left new next
    byte_silent none =
        record { done = more; es = h.es; consumed = consumed_on; taken = go (eqb byte 10) (taken_as None none); with_cells = h.with_cells; written = h.written }
      where
        go : (b : Bool) → TakenBy k rule scale below b h.done h.es byte cells s t None next → InputHistory k rule scale below more h.es next
        go true x = absurd x
        go false x = x.0

    -- which ends a line, whose answer is sent
    module _ (said : Result (Said C) Refusal) (ends : told ≡ Some said) {E : Type 0} (last : Option (List ℕ)) (r : Result (Unit {0}) E)
        (send_it : (xs : List ℕ) (es : List (LineEvent C)) → InputHistory k rule scale below xs es next → Sent new last (text (reply_lines (shown scale) said)) r) where
      abbrev its : LineEvent C
      its = line_event (cut_of next.cutter).line cells (reply_of said) s t

      one_more : OneMore k rule scale below more h.es (cut_of next.cutter).line cells s t said next
      one_more = go (eqb byte 10) (taken_as (Some said) ends)
        where
          go : (b : Bool) → TakenBy k rule scale below b h.done h.es byte cells s t (Some said) next → OneMore k rule scale below more h.es (cut_of next.cutter).line cells s t said next
          go true x = x
          go false x = absurd x

      its_cells : AllByRecursion (λ (e : LineEvent C). e.cells ≡ cells) (h.es ++ (its ∷ []))
      its_cells = cells_more cells h.es its h.with_cells refl

      sent_as : (z : Result (Unit {0}) E) → r ≡ z → Sent new last (text (prints (shown scale) (progress_of (handed_lines h.es)) its)) z
      sent_as z e =
          let sent = send_it more (h.es ++ (its ∷ [])) one_more.taken in
          subst (λ (z : Result (Unit {0}) E). Sent new last (text (prints (shown scale) (progress_of (handed_lines h.es)) its)) z) e
          (subst (λ (ls : List (List ℕ)). Sent new last (text ls) r) (one_more.printed (shown scale)) sent)

      pub byte_answered : (u : Unit {0}) → r ≡ Ok u → Standing bytes left last next
      byte_answered u e = record {
        done = more;
        es = h.es ++ (its ∷ []);
        consumed = consumed_on;
        taken = one_more.taken;
        with_cells = its_cells;
        written = written_on h.es its new last h.written (sent_as (Ok u) e);
      }

      -- or cut off
      pub byte_cut_off : (e : E) → r ≡ Err e → (x : Result (Unit {0}) E) → IsErr x → ServedTo left last x
      byte_cut_off e cut x = served_err left last (λ f. record {
        read = more ++ bytes;
        consumed = consumed_on;
        outcome = Failed.writing more bytes refl record {
          es = h.es;
          last = its;
          count = (sent_as (Err e) cut).0;
          done = lines_done more (h.es ++ (its ∷ [])) next one_more.taken its_cells;
          written = appends_more old new last _ _ h.written (sent_as (Err e) cut).1;
        };
      }) x

  -- the end of the input
  module _ (left new : Option (List ℕ)) (i next : Intake R S Q) (s t : Sheet) (told : Option (Result (Said C) Refusal)) (room : ℕ) (same : room ≡ cells)
      (end_it : (xs : List ℕ) (es : List (LineEvent C)) → InputHistory k rule scale below xs es i → InputEnded k rule scale below xs es room s t told next)
      (h : Standing [] left new i) (ended : IsAtEnd left) where
    lines_all : (es : List (LineEvent C)) → InputDone k rule scale below h.done es next → AllByRecursion (λ (e : LineEvent C). e.cells ≡ cells) es
        → LinesDone k rule scale below cells (lines_of h.done) es
    lines_all es d c = record { texts = d.lines; with_cells = c; kept = d.history.kept }

    ended_as : (z : Option (Result (Said C) Refusal)) → told ≡ z → InputEnded k rule scale below h.done h.es cells s t z next
    ended_as z e = subst (λ (z : Option (Result (Said C) Refusal)). InputEnded k rule scale below h.done h.es cells s t z next) e
        (subst (λ (n : ℕ). InputEnded k rule scale below h.done h.es n s t told next) same (end_it h.done h.es h.taken))

    -- where no line has begun
    pub end_silent : {E : Type 0} → told ≡ None → ServedTo {E = E} left new (Ok tt)
    end_silent none = record {
      read = h.done;
      consumed = all_read h.done left h.consumed;
      outcome = (ended, record { es = h.es; done = lines_all h.es (ended_as None none).0 h.with_cells; written = h.written });
    }

    -- where a last line has begun, whose answer is sent
    module _ (said : Result (Said C) Refusal) (begun : told ≡ Some said) {E : Type 0} (last : Option (List ℕ)) (r : Result (Unit {0}) E)
        (send_it : (xs : List ℕ) (es : List (LineEvent C)) → InputHistory k rule scale below xs es next → Sent new last (text (reply_lines (shown scale) said)) r) where
      abbrev done_last : LastDone k rule scale below h.done h.es cells s t said next
      done_last = ended_as (Some said) begun

      abbrev its_last : LineEvent C
      its_last = line_event done_last.line cells (reply_of said) s t

      all_done : LinesDone k rule scale below cells (lines_of h.done) (h.es ++ (its_last ∷ []))
      all_done = lines_all (h.es ++ (its_last ∷ [])) done_last.done (cells_more cells h.es its_last h.with_cells refl)

      last_as : (z : Result (Unit {0}) E) → r ≡ z → Sent new last (text (prints (shown scale) (progress_of (handed_lines h.es)) its_last)) z
      last_as z e =
          let sent = send_it (h.done ++ (10 ∷ [])) (h.es ++ (its_last ∷ [])) done_last.more.taken in
          subst (λ (z : Result (Unit {0}) E). Sent new last (text (prints (shown scale) (progress_of (handed_lines h.es)) its_last)) z) e
          (subst (λ (ls : List (List ℕ)). Sent new last (text ls) r) (done_last.more.printed (shown scale)) sent)

      pub end_answered : (u : Unit {0}) → r ≡ Ok u → ServedTo {E = E} left last (Ok tt)
      end_answered u e = record {
        read = h.done;
        consumed = all_read h.done left h.consumed;
        outcome = (ended, record { es = h.es ++ (its_last ∷ []); done = all_done; written = written_on h.es its_last new last h.written (last_as (Ok u) e) });
      }

      -- or cut off
      pub end_cut_off : (e : E) → r ≡ Err e → (x : Result (Unit {0}) E) → IsErr x → ServedTo left last x
      end_cut_off e cut x = served_err left last (λ f. record {
        read = h.done;
        consumed = all_read h.done left h.consumed;
        outcome = Failed.writing_at_the_end ended record {
          es = h.es;
          last = its_last;
          count = (last_as (Err e) cut).0;
          done = all_done;
          written = appends_more old new last _ _ h.written (last_as (Err e) cut).1;
        };
      }) x
