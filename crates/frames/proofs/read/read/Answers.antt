use Rattle.std.proofs.Common.{◌≡◌, None, Ok, Err, sym, ap, ◌∙◌, rules}
use Rattle.track.specs.declared.refusal.Refusal.TheVariants.{UnknownFrame}
use Rattle.frames.specs.Lines.{fault_of}
use Rattle.frames.specs.Frames.{shown}
use Rattle.frames.specs.Kinds.{number_of_kind}
use Rattle.frames.proofs.Reading.{kind_then_fields, of_no_kind, of_no_size, of_its_size}
use Rattle.frames.proofs.read.read.Goals as goal

pub returns-in_err-kind : goal.returns-in_err-kind
returns-in_err-kind c =
    let xs = c.args.line.now in
    let sound : fault_of xs ≡ None = sym c.in_default.ensures.the_first_fault in
    let told : shown c.from_residual.result ≡ Err UnknownFrame = search rules in
    record {
      the_frame_or_the_first_refusal = told ∙ of_no_kind xs c.byte_at.result sound c.byte_at.ensures.the_byte_or_zero c.in_err-kind.ensures.1;
      the_line_writes_the_kind_and_then_the_fields = kind_then_fields xs;
    }

pub returns-then-size-line : goal.returns-then-size-line
returns-then-size-line c =
    let xs = c.args.line.now in
    let sound : fault_of xs ≡ None = sym c.in_default.ensures.the_first_fault in
    let kind = number_of_kind c.in_ok-kind.kind in
    record {
      the_frame_or_the_first_refusal = of_no_size xs kind sound (c.in_ok-kind.ensures ∙ c.byte_at.ensures.the_byte_or_zero) (λ e. c.if-size-line.true (c.size.ensures.the_size_of_the_kind ∙ e));
      the_line_writes_the_kind_and_then_the_fields = kind_then_fields xs;
    }

pub returns : goal.returns
returns c =
    let xs = c.args.line.now in
    let part = c.fields_of.result in
    let sound : fault_of xs ≡ None = sym c.in_default.ensures.the_first_fault in
    let kind = number_of_kind c.in_ok-kind.kind in
    record {
      the_frame_or_the_first_refusal = ap Ok c.framed.ensures.of_the_kind ∙ of_its_size xs kind sound (c.in_ok-kind.ensures ∙ c.byte_at.ensures.the_byte_or_zero) part.digits.now part.place (sym c.size.ensures.the_size_of_the_kind ∙ c.if-size-line.false) c.fields_of.ensures.what_stands_there c.fields_of.ensures.where_it_begins;
      the_line_writes_the_kind_and_then_the_fields = kind_then_fields xs;
    }
