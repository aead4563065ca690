use Rattle.std.proofs.Common.{◌≡◌, true, false, length, eqb, sym, refl, rules}
use Rattle.planner.specs.History.{meaning}
use Rattle.machine.proofs.Taking.{byte_none, byte_some}
use Rattle.machine.proofs.intake.Intake.byte.Goals as goal

pub returns-then-not-push-clause-a_line_is_done_and_answered_as_soon_as_it_is_ended : goal.returns-then-not-push-clause-a_line_is_done_and_answered_as_soon_as_it_is_ended
returns-then-not-push-clause-a_line_is_done_and_answered_as_soon_as_it_is_ended g c rule scale below xs es h =
    let k = meaning g.R.Rule.conflicts g.S.Scale.measure g.Q.Search.takes in
    let on : eqb c.args.byte 10 ≡ false = search rules in
    byte_none k rule scale below c.args.self.now _ c.args.byte c.push.ensures.the_byte_is_taken xs es h (length c.args.cells.now) c.args.sheet.now on refl

pub returns-clause-a_line_is_done_and_answered_as_soon_as_it_is_ended : goal.returns-clause-a_line_is_done_and_answered_as_soon_as_it_is_ended
returns-clause-a_line_is_done_and_answered_as_soon_as_it_is_ended g c rule scale below xs es h =
    let k = meaning g.R.Rule.conflicts g.S.Scale.measure g.Q.Search.takes in
    let ends : eqb c.args.byte 10 ≡ true = search rules in
    let done = c.line-2 in
    byte_some k rule scale below c.args.self.now (record { cutter = c.push.new.self; machine = done.new.self }) c.args.byte c.push.ensures.the_byte_is_taken xs es h
    c.line.result.now (length c.args.cells.now) c.args.sheet.now done.new.sheet done.result ends c.line.ensures.what_is_held_of_the_line
    (done.ensures.after_any_lines_the_rules_are_followed_and_a_sheet_is_lawful_cheapest_and_first rule scale below)
    (done.ensures.after_any_lines_the_reply_prints_what_they_come_to rule scale below)

pub returns-clause-only_a_line_that_asks_for_a_plan_plans : goal.returns-clause-only_a_line_that_asks_for_a_plan_plans
returns-clause-only_a_line_that_asks_for_a_plan_plans g c = λ e. rw (sym c.line.ensures.what_is_held_of_the_line) c.line-2.ensures.only_a_line_that_asks_for_a_plan_plans
