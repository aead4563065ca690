use Rattle.std.proofs.Common.{◌≡◌, ◌+◌, ◌<◌, ◌∷◌, true, false, eqb, None, List, ℕ, [], length, take, drop, Ok, get_or, sym, ◌∙◌, refl, subst, arith, add-one}
use Rattle.std.proofs.Math.Seq.{drop-cons}
use Rattle.std.proofs.lemmas.Bool.{not-false, not-true}
use Rattle.std.specs.declared.io.Error.{Error}
use Rattle.planner.specs.History.{meaning}
use Rattle.service.proofs.Bytes.{read_none}
use Rattle.service.proofs.Standing.{Standing, ServedTo, begins, stands_there, more_read, none_read, reading_stopped, byte_silent, byte_answered, byte_cut_off, end_silent, end_answered, end_cut_off}
use Rattle.service.proofs.serving.serve_by.Goals as goal
use Rattle.service.proofs.serving.serve_by.Goals.{in-Some+in_ok-answer-in-Ok-eq0, in_default, in-Some-byte+in_ok-answer, in_default-byte}

pub pieces-init : goal.pieces-init
pieces-init g c = begins _ _ _ _ _ _ _ _ _ c.new-intake.ensures.nothing_is_taken _ refl _ refl

-- the last answer is cut off
pub returns-in_err-answer-in-Ok-eq0 : goal.returns-in_err-answer-in-Ok-eq0
returns-in_err-answer-in-Ok-eq0 g c =
    let k = meaning g.R.Rule.conflicts g.S.Scale.measure g.Q.Search.takes in
    let room : 0 < length c.read.new.buf = omega arith in
    let r = read_none _ _ _ _ c.in-Ok-eq0.field-0 c.read.ensures.bytes c.in-Ok-eq0.is c.in-Ok-eq0.field-0-test room in
    let h = more_read k c.args.rule c.args.scale c.args.below _ _ _ _ _ _ _ _ [] c.pieces.invariant r.0 in
    record {
      each_line_read_is_answered_in_its_order =
          end_cut_off k c.args.rule c.args.scale c.args.below _ _ _ _ _ _ _ _ _ _ _ _ c.pieces.auto.cells
          (c.end.ensures.every_line_of_the_input_is_done_and_answered c.args.rule c.args.scale c.args.below) h r.1
          _ c.in-Some.is _ _ (c.answer.ensures.all_that_it_prints_or_a_beginning c.args.rule c.args.scale c.args.below)
          _ c.in_err-answer-in-Ok-eq0.was _ c.from_residual.ensures.0;
    }

-- all is read, and the last line answered
pub returns-in-Ok-eq0 : goal.returns-in-Ok-eq0
returns-in-Ok-eq0 g c =
    let k = meaning g.R.Rule.conflicts g.S.Scale.measure g.Q.Search.takes in
    let room : 0 < length c.read.new.buf = omega arith in
    let r = read_none _ _ _ _ c.in-Ok-eq0.field-0 c.read.ensures.bytes c.in-Ok-eq0.is c.in-Ok-eq0.field-0-test room in
    let h = more_read k c.args.rule c.args.scale c.args.below _ _ _ _ _ _ _ _ [] c.pieces.invariant r.0 in
    let ServedBy = λ (o : g.row.O.Denot). ServedTo k c.args.rule c.args.scale c.args.below g.S.PrintedScale.shown (length c.args.cells.now)
    (g.I.Read.remaining c.args.reader.now) (g.O.Write.contents c.args.writer.now) {E = Error} (g.I.Read.remaining c.read.new.self) (g.O.Write.contents o) (Ok tt) in
    let end_it = c.end.ensures.every_line_of_the_input_is_done_and_answered c.args.rule c.args.scale c.args.below in
    elim c.match-end.branch [
      | in-Some+in_ok-answer-in-Ok-eq0 w ↦ record {
        each_line_read_is_answered_in_its_order = subst ServedBy (sym w.writer-is)
            (end_answered k c.args.rule c.args.scale c.args.below _ _ _ _ _ _ _ _ _ _ _ _ c.pieces.auto.cells end_it h r.1
            _ w.in-Some.is _ _ (w.answer.ensures.all_that_it_prints_or_a_beginning c.args.rule c.args.scale c.args.below) _ w.in_ok-answer-in-Ok-eq0.was);
      }
      | in_default w ↦ record {
        each_line_read_is_answered_in_its_order = subst ServedBy (sym w.writer-is)
            (end_silent k c.args.rule c.args.scale c.args.below _ _ _ _ _ _ _ _ _ _ _ _ c.pieces.auto.cells end_it h r.1 w.in_default.is);
      }
    ]

-- reading failed
pub returns-in-Err-2 : goal.returns-in-Err-2
returns-in-Err-2 g c =
    record { each_line_read_is_answered_in_its_order = reading_stopped _ _ _ _ _ _ _ _ _ _ _ _ (none_read _ _ _ _ _ _ _ _ _ _ _ _ c.pieces.invariant c.in-Err-2.ensures.bytes) }

pub bytes-init : goal.bytes-init
bytes-init g c = more_read _ _ _ _ _ _ _ _ _ _ _ _ _ c.pieces.invariant c.in-Ok.ensures.bytes.0

-- the next byte of the piece, and those behind it
next_of : (items : List ℕ) (i : ℕ) → i < length items → drop i items ≡ get_or items i 0 ∷ drop (i + 1) items
next_of items i h = rw add-one (drop-cons items i 0 h)

-- the byte ends no line
pub bytes-preserved-then-within : goal.bytes-preserved-then-within
bytes-preserved-then-within g c =
    let k = meaning g.R.Rule.conflicts g.S.Scale.measure g.Q.Search.takes in
    let items : List ℕ = take c.in-Ok.count c.read.new.buf in
    let Stands = λ (z : List ℕ). Standing k c.args.rule c.args.scale c.args.below g.S.PrintedScale.shown (length c.args.cells.now)
    (g.I.Read.remaining c.args.reader.now) (g.O.Write.contents c.args.writer.now) z (g.I.Read.remaining c.read.new.self) (g.O.Write.contents c.bytes.writer) c.bytes.intake in
    let h = subst Stands (next_of items c.bytes.byte-index c.bytes-test.true) c.bytes.invariant in
    let on : eqb (get_or items c.bytes.byte-index 0) 10 ≡ false = not-true _ (sym c.within.ensures.whether_the_byte_ends_no_line ∙ c.if-within.true) in
    byte_silent k c.args.rule c.args.scale c.args.below _ _ _ _ _ _ _ _ _ _ c.bytes.sheet c.bytes.sheet None (length c.args.cells.now) refl
    (λ xs es x. c.within.ensures.a_byte_that_ends_no_line_is_taken c.args.rule c.args.scale c.args.below xs es (length c.args.cells.now) c.bytes.sheet on x) h refl

-- an answer is cut off
pub returns-in_err-answer : goal.returns-in_err-answer
returns-in_err-answer g c =
    let k = meaning g.R.Rule.conflicts g.S.Scale.measure g.Q.Search.takes in
    let items : List ℕ = take c.in-Ok.count c.read.new.buf in
    let Stands = λ (z : List ℕ). Standing k c.args.rule c.args.scale c.args.below g.S.PrintedScale.shown (length c.args.cells.now)
    (g.I.Read.remaining c.args.reader.now) (g.O.Write.contents c.args.writer.now) z (g.I.Read.remaining c.read.new.self) (g.O.Write.contents c.bytes.writer) c.bytes.intake in
    let ends : eqb (get_or items c.bytes.byte-index 0) 10 ≡ true = not-false _ (sym c.within.ensures.whether_the_byte_ends_no_line ∙ c.if-within.false) in
    let h = stands_there _ _ _ _ _ _ _ _ _ _ _ _ _ (c.within.ensures.a_byte_that_ends_a_line_is_not_taken ends) (subst Stands (next_of items c.bytes.byte-index c.bytes-test.true) c.bytes.invariant) in
    record {
      each_line_read_is_answered_in_its_order =
          byte_cut_off k c.args.rule c.args.scale c.args.below _ _ _ _ _ _ _ _ _ _ _ _ _ _ (c.bytes.auto.cells ∙ c.pieces.auto.cells)
          (c.byte.ensures.a_line_is_done_and_answered_as_soon_as_it_is_ended c.args.rule c.args.scale c.args.below) h
          _ c.in-Some-byte.is _ _ (c.answer-in-Some-byte.ensures.all_that_it_prints_or_a_beginning c.args.rule c.args.scale c.args.below)
          _ c.in_err-answer.was _ c.from_residual-in_err-answer.ensures.0;
    }

-- one byte more
pub bytes-preserved : goal.bytes-preserved
bytes-preserved g c =
    let k = meaning g.R.Rule.conflicts g.S.Scale.measure g.Q.Search.takes in
    let items : List ℕ = take c.in-Ok.count c.read.new.buf in
    let Stands = λ (z : List ℕ). Standing k c.args.rule c.args.scale c.args.below g.S.PrintedScale.shown (length c.args.cells.now)
    (g.I.Read.remaining c.args.reader.now) (g.O.Write.contents c.args.writer.now) z (g.I.Read.remaining c.read.new.self) (g.O.Write.contents c.bytes.writer) c.bytes.intake in
    let ends : eqb (get_or items c.bytes.byte-index 0) 10 ≡ true = not-false _ (sym c.within.ensures.whether_the_byte_ends_no_line ∙ c.if-within.false) in
    let h = stands_there _ _ _ _ _ _ _ _ _ _ _ _ _ (c.within.ensures.a_byte_that_ends_a_line_is_not_taken ends) (subst Stands (next_of items c.bytes.byte-index c.bytes-test.true) c.bytes.invariant) in
    let take_it = c.byte.ensures.a_line_is_done_and_answered_as_soon_as_it_is_ended c.args.rule c.args.scale c.args.below in
    let Next = λ (o : g.row.O.Denot). Standing k c.args.rule c.args.scale c.args.below g.S.PrintedScale.shown (length c.args.cells.now)
    (g.I.Read.remaining c.args.reader.now) (g.O.Write.contents c.args.writer.now) (drop (c.bytes.byte-index + 1) items) (g.I.Read.remaining c.read.new.self) (g.O.Write.contents o) c.byte.new.self in
    elim c.match-byte.branch [
      | in-Some-byte+in_ok-answer w ↦ subst Next (sym w.writer-is)
          (byte_answered k c.args.rule c.args.scale c.args.below _ _ _ _ _ _ _ _ _ _ _ _ _ _ (c.bytes.auto.cells ∙ c.pieces.auto.cells) take_it h
          _ w.in-Some-byte.is _ _ (w.answer-in-Some-byte.ensures.all_that_it_prints_or_a_beginning c.args.rule c.args.scale c.args.below) _ w.in_ok-answer.was)
      | in_default-byte w ↦ subst Next (sym w.writer-is)
          (byte_silent k c.args.rule c.args.scale c.args.below _ _ _ _ _ _ _ _ _ _ _ _ _ _ (c.bytes.auto.cells ∙ c.pieces.auto.cells) take_it h w.in_default-byte.is)
    ]

-- 2 ^ 64 reads did not come to the end
pub returns : goal.returns
returns g c =
    record { each_line_read_is_answered_in_its_order = reading_stopped _ _ _ _ _ _ _ _ _ _ _ _ c.pieces.invariant }
