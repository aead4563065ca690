use Rattle.std.proofs.Common.{◌≡◌, ℕ, ◌+◌, ◌*◌, ◌<◌, List, [], length, get_or, take, sym, refl, ap, ◌∙◌, subst, arith, rules}
use Rattle.std.specs.List.{AllByRecursion}
use Rattle.sheets.specs.Inquiry.{plan_of}
use Rattle.frames.specs.Text.{line_of, text, written, ReadsBack}
use Rattle.frames.specs.Replies.{train_bytes, train_lines}
use Rattle.frames.proofs.Writing.{written_none, written_behind, written_rest}
use Rattle.frames.proofs.Rows.{trains_none, trains_more, trains_back, length_trains, length_train}
use Rattle.frames.proofs.Buffers.{train_front}
use Rattle.frames.proofs.Again.{round_trip}
use Rattle.frames.proofs.print.write_trains.Goals as goal

pub loop-row-init : goal.loop-row-init
loop-row-init c =
    let old = c.args.out.now in
    let none = trains_none c.args.numbers.now c.args.sheet.now c.args.steps in
    (written_none old 0 ∙ ap (λ (ls : List (List ℕ)). written old 0 (text ls)) (sym none), subst (λ (ls : List (List ℕ)). AllByRecursion ReadsBack ls) (sym none) tt)

pub loop-row-preserved : goal.loop-row-preserved
loop-row-preserved c =
    let old = c.args.out.now in
    let ns = c.args.numbers.now in
    let s = c.args.sheet.now in
    let steps = c.args.steps in
    let row = c.loop-row.row in
    let at = row * (3 * (4 + steps)) in
    let stands = get_or s.rows row [] in
    let wide : length stands ≡ 17 = search rules in
    let new = train_bytes (get_or ns row 0) (plan_of s row) steps in
    let bytes : take (4 + steps) c.train_bytes-bytes.result ≡ new =
    ap (take (4 + steps)) c.train_bytes-bytes.ensures.its_number_and_where_it_stands ∙ train_front _ stands steps (omega (arith, c.requires.steps_bound)) in
    let front = text (train_lines ns s steps row) in
    let n = length_train (get_or ns row 0) (plan_of s row) steps in
    let small : AllByRecursion (λ b. b < 256) new = subst (λ (bs : List ℕ). AllByRecursion (λ b. b < 256) bs) bytes c.write_line.ensures.all_are_bytes in (
      written_rest c.loop-row.out c.write_line.new.out at _ _ c.write_line.ensures.the_line_is_written refl
          ∙ ap (λ (bs : List ℕ). written c.loop-row.out at (line_of bs)) bytes
          ∙ ap (λ (z : List ℕ). written z at (line_of new)) c.loop-row.invariant.0
          ∙ written_behind old at front _ (length_trains ns s steps row)
          ∙ ap (written old 0) (sym (trains_more ns s steps row)),
      trains_back ns s steps row c.loop-row.invariant.1 (round_trip new (omega arith) (omega (arith, c.requires.steps_bound)) small),
    )
