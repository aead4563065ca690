use Rattle.std.proofs.Common.{length}
use Rattle.planner.specs.History.{meaning, event, call_of, reply_of}
use Rattle.planner.proofs.Runs.{step_of, history_next}
use Rattle.planner.proofs.planner.Planner.answer.Goals as goal

pub returns : goal.returns
returns g c =
    let k = meaning g.R.Rule.conflicts g.S.Scale.measure g.Q.Search.takes in
    let p = c.args.self.now in
    let e = event (call_of c.args.order (length c.args.cells.now)) (reply_of c.make_call.result) c.args.sheet.now c.make_call.new.sheet in
    let done = c.make_call.ensures.the_reply_is_right_and_only_what_the_call_is_about_changes in
    let step = step_of k p c.make_call.new.self e done.reply done.planner in
    record {
      the_reply_is_that_of_the_book_at_hand_or_tells_of_a_sheet_lawful_cheapest_and_first = done.reply;
      a_call_that_the_book_declines_leaves_planner_cells_and_sheet_as_they_were = done.declined;
      only_the_roster_changes_as_the_book_says_or_in_a_plan_only_the_search = done.planner;
      only_a_plan_writes_cells = done.cells;
      after_any_calls_the_book_is_followed_and_a_sheet_is_lawful_cheapest_and_first = step;
      every_history_goes_on_with_the_book_followed_and_sheets_lawful_cheapest_and_first = history_next k _ _ _ step;
    }
