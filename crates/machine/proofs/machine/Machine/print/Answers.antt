use Rattle.machine.proofs.Printing.{plan_fits, refusal_fits, some_longest}
use Rattle.machine.proofs.machine.Machine.print.Goals as goal

pub returns-in-Err-clause-a_place_for_the_widest_cost_is_long_enough :
    goal.returns-in-Err-clause-a_place_for_the_widest_cost_is_long_enough
returns-in-Err-clause-a_place_for_the_widest_cost_is_long_enough g c h =
    refusal_fits _ _ _ _ c.print_refusal.ensures.its_length_or_that_it_does_not_fit h

pub returns-in-Err-clause-some_reply_is_as_long : goal.returns-in-Err-clause-some_reply_is_as_long
returns-in-Err-clause-some_reply_is_as_long g c = some_longest

pub returns-in-Ok-Planned-clause-a_place_for_the_widest_cost_is_long_enough :
    goal.returns-in-Ok-Planned-clause-a_place_for_the_widest_cost_is_long_enough
returns-in-Ok-Planned-clause-a_place_for_the_widest_cost_is_long_enough g c h =
    plan_fits (g.S.PrintedScale.shown c.scale.result.now) c.in-Ok-Planned.plan _ _ _ (g.met.S.PrintedScale.no_wider c.scale.result.now c.in-Ok-Planned.plan.cost) c.print_plan.ensures.its_length_or_that_it_does_not_fit h

pub returns-in-Ok-Planned-clause-some_reply_is_as_long :
    goal.returns-in-Ok-Planned-clause-some_reply_is_as_long
returns-in-Ok-Planned-clause-some_reply_is_as_long g c = some_longest

pub returns-in-Ok-Done-clause-some_reply_is_as_long :
    goal.returns-in-Ok-Done-clause-some_reply_is_as_long
returns-in-Ok-Done-clause-some_reply_is_as_long g c = some_longest
