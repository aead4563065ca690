use Rattle.planner.specs.History.{meaning}
use Rattle.machine.proofs.Histories.{frame_step, declined_step, history_next, told_of_line, told_prints, frame_told, refusal_told}
use Rattle.std.proofs.Common.{length, refl, sym}
use Rattle.machine.proofs.machine.Machine.line.Goals as goal

pub returns-in-Ok : goal.returns-in-Ok
returns-in-Ok g c =
    let k = meaning g.R.Rule.conflicts g.S.Scale.measure g.Q.Search.takes in
    let m = c.args.self.now in
    let line = c.args.line.now in
    let read = c.in-Ok.ensures in
    let turn = c.turn.ensures in
    let told = told_of_line line _ _ _ _ read.the_line_writes_the_kind_and_then_the_fields read.the_frame_or_the_first_refusal turn.a_plan_is_told_with_the_trains_the_steps_asked_for_and_the_sheet in
    record {
      after_any_lines_the_rules_are_followed_and_a_sheet_is_lawful_cheapest_and_first = λ rule scale below. frame_step k rule scale below m _ line _ _ _ _ _ read.the_frame_or_the_first_refusal (turn.the_rules_are_followed rule scale below);
      a_history_of_lines_goes_on_with_the_line = λ rule scale below.
          history_next k rule scale below m _ _ (frame_step k rule scale below m _ line _ _ _ _ _ read.the_frame_or_the_first_refusal (turn.the_rules_are_followed rule scale below));
      a_plan_is_told_with_the_trains_the_steps_asked_for_and_the_sheet = told;
      after_any_lines_the_reply_prints_what_they_come_to = λ rule scale below. told_prints k rule scale below m line (length c.args.cells.now) c.args.sheet.now c.turn.new.sheet c.turn.result told;
      a_line_that_is_no_frame_is_declined_as_it_is_read = frame_told line _ read.the_frame_or_the_first_refusal _;
      only_a_line_that_asks_for_a_plan_plans = rw (sym read.the_frame_or_the_first_refusal) turn.only_a_frame_that_asks_for_a_plan_plans;
      a_declined_line_changes_nothing_unless_planning_declined_it = turn.a_declined_frame_changes_nothing_unless_planning_declined_it;
    }

pub returns-in-Err : goal.returns-in-Err
returns-in-Err g c =
    let k = meaning g.R.Rule.conflicts g.S.Scale.measure g.Q.Search.takes in
    let m = c.args.self.now in
    let line = c.args.line.now in
    let s = c.args.sheet.now in
    let read = c.in-Err.ensures.the_frame_or_the_first_refusal in
    record {
      after_any_lines_the_rules_are_followed_and_a_sheet_is_lawful_cheapest_and_first = λ rule scale below. declined_step k rule scale below m line _ _ s read;
      a_history_of_lines_goes_on_with_the_line = λ rule scale below. history_next k rule scale below m _ _ (declined_step k rule scale below m line _ _ s read);
      a_plan_is_told_with_the_trains_the_steps_asked_for_and_the_sheet = tt;
      after_any_lines_the_reply_prints_what_they_come_to = λ rule scale below s h shown. refl;
      a_line_that_is_no_frame_is_declined_as_it_is_read = refusal_told line _ read;
      only_a_line_that_asks_for_a_plan_plans = rw (sym read) (record { cells = refl; search = refl });
      a_declined_line_changes_nothing_unless_planning_declined_it = record { sheet = refl; machine = λ p. refl; cells_too = λ p. refl };
    }
