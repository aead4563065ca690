use Rattle.std.proofs.Common.{◌≡◌, length, sym, refl, ap, ◌∙◌}
use Rattle.roster.specs.Model.{held, seen}
use Rattle.roster.specs.declared.roster.Roster.{Roster}
use Rattle.planner.specs.History.{meaning, setting_of}
use Rattle.frames.specs.Replies.{numbers_of}
use Rattle.machine.proofs.Few.{few_groups, few_steps, plan_leaves, told_leaves}
use Rattle.machine.proofs.Turning.{turn_from, call_turn}
use Rattle.machine.proofs.planning.plan_trains.Goals as goal

pub planned-requires : goal.planned-requires
planned-requires g c =
    let k = meaning g.R.Rule.conflicts g.S.Scale.measure g.Q.Search.takes in
    let p = c.args.planner.now in
    let told = c.plan-answer in
    let kept = told.ensures.a_sheet_is_lawful_cheapest_and_first_or_told_to_be_none_or_beyond_reach in
    record {
      at_most_eight_groups = few_groups (setting_of k p) p.roster c.args.steps _ c.args.sheet.now told.new.sheet _ told.result kept;
      at_most_sixteen_steps = few_steps (setting_of k p) (seen p.roster) _ c.args.steps _ c.args.sheet.now told.new.sheet told.result kept;
    }

pub returns : goal.returns
returns g c =
    let k = meaning g.R.Rule.conflicts g.S.Scale.measure g.Q.Search.takes in
    let p = c.args.planner.now in
    let s = c.args.sheet.now in
    let cells = c.args.cells.now in
    let told = c.plan-answer in
    let said = c.planned in
    let left = told.ensures.planning_leaves_layout_rule_scale_roster_and_which_groups_are_taken in
    let numbers : numbers_of (held c.roster.result.now) ≡ numbers_of (held p.roster) = ap (λ (o : Roster). numbers_of (held o)) (c.roster.ensures.its_roster ∙ left.roster) in
    record {
      the_rules_are_followed = λ rule scale below.
          turn_from k rule scale below _ _ _ _ _ _ _ _ _ _ (call_turn k rule scale below p told.new.self _ _ s told.new.sheet told.ensures.after_any_calls_a_sheet_is_lawful_cheapest_and_the_first_of_equals) refl refl refl said.ensures.it_tells_the_answer;
      the_plan_is_as_it_was_made = rw (sym numbers) said.ensures.the_plan_is_as_it_was_made;
      a_declined_plan_changes_nothing_unless_planning_declined_it = told_leaves _ _ cells told.new.cells s told.new.sheet said.result told.result said.ensures.it_tells_the_answer
          (plan_leaves (setting_of k p) (seen p.roster) p told.new.self c.args.steps (length cells) cells told.new.cells s told.new.sheet _ told.result
          told.ensures.a_sheet_is_lawful_cheapest_and_first_or_told_to_be_none_or_beyond_reach told.ensures.a_plan_that_the_book_declines_leaves_planner_cells_and_sheet_as_they_were);
    }
