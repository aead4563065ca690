use Rattle.std.proofs.Common.{Ok, Err, length, refl}
use Rattle.std.proofs.lemmas.Result.{err_from_is_err_and}
use Rattle.track.specs.Refusals.{number_of}
use Rattle.planner.specs.History.{meaning}
use Rattle.planner.proofs.Planning.{is_declined, is_asked, is_answered}
use Rattle.planner.proofs.planner.Planner.plan.Goals as goal

pub returns-in_err-check_plan : goal.returns-in_err-check_plan
returns-in_err-check_plan g c =
    let k = meaning g.R.Rule.conflicts g.S.Scale.measure g.Q.Search.takes in
    let r = err_from_is_err_and c.from_residual.result c.from_residual.ensures.1 in
    let cells = c.args.cells.now in
    let d =
    is_declined k c.args.self.now c.args.steps (length cells) (number_of r.0) cells c.args.sheet.now
    (rw r.2 c.in_err-check_plan.ensures.the_first_condition_met_declines) in
    record {
      a_sheet_is_lawful_cheapest_and_first_or_told_to_be_none_or_beyond_reach = rw r.1 d.answer;
      a_plan_that_the_book_declines_leaves_planner_cells_and_sheet_as_they_were = d.declined;
      planning_leaves_layout_rule_scale_roster_and_which_groups_are_taken = d.leaves;
      after_any_calls_a_sheet_is_lawful_cheapest_and_the_first_of_equals = rw r.1 d.step;
    }

pub returns-in_err-question : goal.returns-in_err-question
returns-in_err-question g c =
    let k = meaning g.R.Rule.conflicts g.S.Scale.measure g.Q.Search.takes in
    let p = c.args.self.now in
    absurd
    (is_asked k p c.args.steps (length c.args.cells.now)
    c.in_ok-check_plan.ensures.the_first_condition_met_declines
    c.everyone-group.result c.everyone-group.ensures.all_trains_are_marked
    (number_of c.in_err-question.field-0.0) c.in_err-question.ensures.the_first_condition_met_declines)

pub returns-in_err-plan : goal.returns-in_err-plan
returns-in_err-plan g c =
    let k = meaning g.R.Rule.conflicts g.S.Scale.measure g.Q.Search.takes in
    let asks = c.in_ok-question.ensures.the_question_is_as_asked in
    let r = err_from_is_err_and c.from_residual-in_err-plan.result c.from_residual-in_err-plan.ensures.1 in
    let d =
    is_answered k c.args.self.now c.args.steps (length c.args.cells.now)
    c.in_ok-check_plan.ensures.the_first_condition_met_declines
    c.everyone-group.result c.everyone-group.ensures.all_trains_are_marked
    g.met.R.Rule.lawful g.met.S.Scale.lawful
    _ (record { layout = refl; rule = refl; scale = refl; roster = refl; takes = c.in_err-plan.ensures.asking_leaves_the_meaning })
    c.in_ok-question.question asks.0 asks.1 asks.2 asks.3
    c.args.cells.now c.plan.new.cells c.args.sheet.now c.plan.new.sheet (Err c.in_err-plan.field-0.0) c.in_err-plan.ensures.the_answer_is_how_the_course_ends in
    record {
      a_sheet_is_lawful_cheapest_and_first_or_told_to_be_none_or_beyond_reach = rw (r.1, r.2) d.answer;
      a_plan_that_the_book_declines_leaves_planner_cells_and_sheet_as_they_were = d.declined;
      planning_leaves_layout_rule_scale_roster_and_which_groups_are_taken = d.leaves;
      after_any_calls_a_sheet_is_lawful_cheapest_and_the_first_of_equals = rw (r.1, r.2) d.step;
    }

pub returns : goal.returns
returns g c =
    let k = meaning g.R.Rule.conflicts g.S.Scale.measure g.Q.Search.takes in
    let asks = c.in_ok-question.ensures.the_question_is_as_asked in
    let d =
    is_answered k c.args.self.now c.args.steps (length c.args.cells.now)
    c.in_ok-check_plan.ensures.the_first_condition_met_declines
    c.everyone-group.result c.everyone-group.ensures.all_trains_are_marked
    g.met.R.Rule.lawful g.met.S.Scale.lawful
    _ (record { layout = refl; rule = refl; scale = refl; roster = refl; takes = c.in_ok-plan.ensures.asking_leaves_the_meaning })
    c.in_ok-question.question asks.0 asks.1 asks.2 asks.3
    c.args.cells.now c.plan.new.cells c.args.sheet.now c.plan.new.sheet (Ok c.in_ok-plan.field-0) c.in_ok-plan.ensures.the_answer_is_how_the_course_ends in
    record {
      a_sheet_is_lawful_cheapest_and_first_or_told_to_be_none_or_beyond_reach = d.answer;
      a_plan_that_the_book_declines_leaves_planner_cells_and_sheet_as_they_were = d.declined;
      planning_leaves_layout_rule_scale_roster_and_which_groups_are_taken = d.leaves;
      after_any_calls_a_sheet_is_lawful_cheapest_and_the_first_of_equals = d.step;
    }
