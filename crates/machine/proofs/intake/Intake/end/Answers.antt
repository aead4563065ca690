use Rattle.std.proofs.Common.{◌≡◌, true, false, length, eqb, refl, rules, ◌∙◌, ap}
use Rattle.frames.specs.Cuts.{begun_of}
use Rattle.frames.specs.Cutters.{cut_of}
use Rattle.planner.specs.History.{meaning}
use Rattle.machine.proofs.Taking.{end_idle, ended, none_begun}
use Rattle.machine.proofs.intake.Intake.end.Goals as goal

pub returns-then-not-has_rest-clause-every_line_of_the_input_is_done_and_answered : goal.returns-then-not-has_rest-clause-every_line_of_the_input_is_done_and_answered
returns-then-not-has_rest-clause-every_line_of_the_input_is_done_and_answered g c rule scale below xs es h =
    let k = meaning g.R.Rule.conflicts g.S.Scale.measure g.Q.Search.takes in
    let none : eqb (length (begun_of (cut_of c.args.self.now.cutter))) 0 ≡ true = search rules in
    (end_idle k rule scale below c.args.self.now xs es h none, h, refl)

pub returns-clause-every_line_of_the_input_is_done_and_answered : goal.returns-clause-every_line_of_the_input_is_done_and_answered
returns-clause-every_line_of_the_input_is_done_and_answered g c rule scale below xs es h =
    let k = meaning g.R.Rule.conflicts g.S.Scale.measure g.Q.Search.takes in
    let some : eqb (length (begun_of (cut_of c.args.self.now.cutter))) 0 ≡ false = search rules in
    ended k rule scale below c.args.self.now xs es h _ _ _ _ c.byte.new.self some c.byte.ensures.the_cutter_takes_the_byte
    (c.byte.ensures.a_line_is_done_and_answered_as_soon_as_it_is_ended rule scale below xs es h)

pub returns-clause-no_line_has_begun_afterwards : goal.returns-clause-no_line_has_begun_afterwards
returns-clause-no_line_has_begun_afterwards g c =
    ap begun_of c.byte.ensures.the_cutter_takes_the_byte ∙ none_begun (cut_of c.args.self.now.cutter) 10 refl
