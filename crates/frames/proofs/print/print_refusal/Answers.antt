use Rattle.std.proofs.Common.{◌≡◌, ℕ, ◌<◌, [], ◌∷◌, length, sym, ap, ◌∙◌, subst, arith}
use Rattle.std.specs.List.{AllByRecursion}
use Rattle.std.proofs.lemmas.List.{append-nil}
use Rattle.track.specs.Refusals.{number_of}
use Rattle.track.specs.declared.refusal.Refusal.{Refusal}
use Rattle.frames.specs.Text.{line_of, text, written}
use Rattle.frames.specs.Replies.{refusal_lines}
use Rattle.frames.proofs.Ended.{length_line_of}
use Rattle.frames.proofs.Again.{round_trip}
use Rattle.frames.proofs.Fitting.{short_told, short_kept, fits_told, fits_printed}
use Rattle.frames.proofs.print.print_refusal.Goals as goal

six : (e : Refusal) → length (text (refusal_lines e)) ≡ 6
six e = ap length (append-nil (line_of (31 ∷ (number_of e ∷ [])))) ∙ length_line_of (31 ∷ (number_of e ∷ [])) (omega arith)

pub returns-then-out-lt6 : goal.returns-then-out-lt6
returns-then-out-lt6 c =
    let old = c.args.out.now in
    let e = c.args.refusal.now in
    record {
      its_length_or_that_it_does_not_fit = short_told old (text (refusal_lines e)) 6 (six e) (omega arith);
      just_the_text_or_nothing_is_written = short_kept old (text (refusal_lines e)) 6 (six e) (omega arith);
      its_line_can_be_read_again = tt;
    }

pub returns : goal.returns
returns c =
    let old = c.args.out.now in
    let e = c.args.refusal.now in
    let small : AllByRecursion (λ b. b < 256) (31 ∷ (number_of e ∷ [])) = subst (λ (n : ℕ). AllByRecursion (λ b. b < 256) (31 ∷ (n ∷ []))) c.number.ensures.the_number_of_the_reason c.write_line.ensures.all_are_bytes in
    record {
      its_length_or_that_it_does_not_fit = fits_told old (text (refusal_lines e)) 6 (six e) (omega arith);
      just_the_text_or_nothing_is_written = c.write_line.ensures.the_line_is_written
          ∙ ap (λ (n : ℕ). written old 0 (line_of (31 ∷ (n ∷ [])))) c.number.ensures.the_number_of_the_reason
          ∙ ap (written old 0) (sym (append-nil (line_of (31 ∷ (number_of e ∷ [])))))
          ∙ fits_printed old (text (refusal_lines e)) 6 (six e) (omega arith);
      its_line_can_be_read_again = (round_trip (31 ∷ (number_of e ∷ [])) (omega arith) (omega arith) small, tt);
    }
