use Rattle.std.proofs.Common.{ap, ◌∙◌}
use Rattle.track.specs.Model.{laid}
use Rattle.planner.specs.History.{meaning}
use Rattle.machine.proofs.Turning.{finish_turn}
use Rattle.machine.proofs.desk.Desk.finish.Goals as goal

pub returns : goal.returns
returns g c =
    let k = meaning g.R.Rule.conflicts g.S.Scale.measure g.Q.Search.takes in
    let p = c.new in
    let parts = p.ensures.it_has_these_parts in
    record {
      the_rules_are_followed = λ rule scale below s. finish_turn k rule scale below c.args.self p.result s (ap laid parts.0 ∙ c.finish.ensures.the_layout_is_what_was_drawn) parts.1 parts.2 parts.3 p.ensures.no_train_is_entered_and_nothing_is_closed.stands;
    }
