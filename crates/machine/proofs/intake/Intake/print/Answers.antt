use Rattle.planner.specs.History.{meaning}
use Rattle.machine.proofs.Taking.{scale_stays}
use Rattle.machine.proofs.intake.Intake.print.Goals as goal

pub returns-clause-after_any_input_it_goes_by_the_scale_that_the_intake_was_made_with : goal.returns-clause-after_any_input_it_goes_by_the_scale_that_the_intake_was_made_with
returns-clause-after_any_input_it_goes_by_the_scale_that_the_intake_was_made_with g c rule scale below xs es h =
    let k = meaning g.R.Rule.conflicts g.S.Scale.measure g.Q.Search.takes in
    let e = scale_stays k rule scale below _ _ h.history.stands in
    let print = c.print.ensures in
    (print.its_length_or_that_it_does_not_fit scale e, print.just_the_text_or_nothing_is_written scale e)
