use Rattle.std.proofs.Common.{◌≡◌, List, ℕ, [], take, replicate, subst}
use Rattle.std.specs.Io.KnownBytes.{Appends}
use Rattle.frames.specs.Text.{text}
use Rattle.machine.specs.Printing.{reply_lines}
use Rattle.service.specs.Serving.{Sent}
use Rattle.service.proofs.Bytes.{appends_none, printed_front}
use Rattle.service.proofs.answer.answer.Goals as goal

-- nothing is printed
pub returns-in-Ok-eq0 : goal.returns-in-Ok-eq0
returns-in-Ok-eq0 g c = record {
  all_that_it_prints_or_a_beginning = λ rule scale below xs es h.
      let told = c.in-Ok-eq0.ensures.after_any_input_it_goes_by_the_scale_that_the_intake_was_made_with rule scale below xs es h in
      let txt : List ℕ = text (reply_lines (g.S.PrintedScale.shown scale) c.args.said.now) in
      let held = g.O.Write.contents c.args.writer.now in
      let out : List ℕ = c.print.new.out in
      let none : [] ≡ txt = subst (λ (n : ℕ). take n out ≡ txt) c.in-Ok-eq0.field-0-test (printed_front (replicate 543 0) out txt c.in-Ok-eq0.field-0 told.0 told.1) in
      subst (λ (z : List ℕ). Appends held held z) none (appends_none held);
}

pub returns-in-Ok : goal.returns-in-Ok
returns-in-Ok g c = record {
  all_that_it_prints_or_a_beginning = λ rule scale below xs es h.
      let told = c.in-Ok.ensures.after_any_input_it_goes_by_the_scale_that_the_intake_was_made_with rule scale below xs es h in
      let txt : List ℕ = text (reply_lines (g.S.PrintedScale.shown scale) c.args.said.now) in
      let SentOf : List ℕ → Type 0 = λ z. Sent (g.O.Write.contents c.args.writer.now) (g.O.Write.contents c.send.new.writer) z c.send.result in
      subst SentOf (printed_front (replicate 543 0) c.print.new.out txt c.in-Ok.length told.0 told.1) c.send.ensures.all_of_the_bytes_or_a_beginning;
}
