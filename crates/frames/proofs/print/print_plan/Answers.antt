use Rattle.std.proofs.Common.{◌≡◌, ℕ, ◌+◌, ◌*◌, ◌<◌, ◌≤◌, List, length, take, refl, sym, ap, ◌∙◌, subst, arith}
use Rattle.std.specs.List.{AllByRecursion}
use Rattle.frames.specs.Text.{line_of, text, written, ReadsBack}
use Rattle.frames.specs.Replies.{total_bytes, train_lines, lines_of_plan}
use Rattle.frames.proofs.Rows.{length_total, length_plan, plan_written, plan_back}
use Rattle.frames.proofs.Writing.{written_rest}
use Rattle.frames.proofs.Again.{round_trip, text_into_its_lines}
use Rattle.frames.proofs.Fitting.{short_told, short_kept, fits_told, fits_printed}
use Rattle.frames.proofs.print.print_plan.Goals as goal

pub returns-then-out-length : goal.returns-then-out-length
returns-then-out-length g c =
    let old = c.args.out.now in
    let p = c.args.plan.now in
    let shown = g.S.PrintedScale.shown c.args.scale.now in
    let count = length c.items-numbers.result.now in
    let width = c.write_bytes-width.result in
    let rows = ap length c.items-numbers.ensures.the_items_in_their_order in
    let xs = text (lines_of_plan shown p) in
    let n = count * (3 * (4 + p.steps)) + 3 * (width + 2) in
    let long : length xs ≡ n = length_plan p.numbers p.sheet p.steps (shown p.cost) p.groups count width rows c.write_bytes-width.ensures.so_many_bytes in
    record {
      its_length_or_that_it_does_not_fit = short_told old xs n long c.if-out-length.true;
      just_the_text_or_nothing_is_written = short_kept old xs n long c.if-out-length.true;
      its_lines_can_be_read_again = tt;
      a_text_is_cut_into_its_lines = text_into_its_lines;
      what_is_printed_can_be_read_again = round_trip;
    }

pub returns : goal.returns
returns g c =
    let old = c.args.out.now in
    let p = c.args.plan.now in
    let shown = g.S.PrintedScale.shown c.args.scale.now in
    let cost = shown p.cost in
    let numbers = c.items-numbers.result.now in
    let count = length numbers in
    let width = c.write_bytes-width.result in
    let same = c.items-numbers.ensures.the_items_in_their_order in
    let rows = ap length same in
    let wide = c.write_bytes-width.ensures.so_many_bytes in
    let xs = text (lines_of_plan shown p) in
    let at = count * (3 * (4 + p.steps)) in
    let n = at + 3 * (width + 2) in
    let long : length xs ≡ n = length_plan p.numbers p.sheet p.steps cost p.groups count width rows wide in
    let total = total_bytes cost p.groups in
    let bytes : take (width + 2) c.total_bytes-bytes.result ≡ total =
    ap (λ (k : ℕ). take (k + 2) c.total_bytes-bytes.result) (wide ∙ sym (ap length c.write_bytes-width.ensures.the_bytes_of_the_cost))
    ∙ c.total_bytes-bytes.ensures.the_cost_and_the_groups
    ∙ ap (λ (z : List ℕ). total_bytes z p.groups) c.write_bytes-width.ensures.the_bytes_of_the_cost in
    let many = length_total p.numbers p.sheet p.steps cost p.groups count width rows wide in
    let few : width ≤ 19 = omega (arith, wide, g.met.S.PrintedScale.no_wider c.args.scale.now p.cost, g.met.S.PrintedScale.fits_a_line) in
    let small : AllByRecursion (λ b. b < 256) total = subst (λ (bs : List ℕ). AllByRecursion (λ b. b < 256) bs) bytes c.write_line.ensures.all_are_bytes in
    let trains = λ (ns : List ℕ). train_lines ns p.sheet p.steps (length ns) in
    let back : AllByRecursion ReadsBack (trains p.numbers) = subst (λ (ns : List ℕ). AllByRecursion ReadsBack (trains ns)) same c.write_trains.ensures.each_can_be_read_again in
    record {
      its_length_or_that_it_does_not_fit = fits_told old xs n long c.if-out-length.false;
      just_the_text_or_nothing_is_written = written_rest c.write_trains.new.out c.write_line.new.out at _ _ c.write_line.ensures.the_line_is_written refl
          ∙ ap (λ (z : List ℕ). written c.write_trains.new.out at (line_of z)) bytes
          ∙ ap (λ (z : List ℕ). written z at (line_of total)) (c.write_trains.ensures.their_lines_are_written ∙ ap (λ (ns : List ℕ). written old 0 (text (trains ns))) same)
          ∙ plan_written p.numbers p.sheet p.steps cost p.groups count width rows wide old
          ∙ fits_printed old xs n long c.if-out-length.false;
      its_lines_can_be_read_again = plan_back p.numbers p.sheet p.steps cost p.groups count width rows wide back (round_trip total (omega arith) (omega (arith, few)) small);
      a_text_is_cut_into_its_lines = text_into_its_lines;
      what_is_printed_can_be_read_again = round_trip;
    }
