use Rattle.std.proofs.Common.{◌≡◌, Some, refl, rules}
use Rattle.planner.specs.History.{meaning}
use Rattle.machine.specs.declared.phase.Phase.TheVariants.{Drawing, Planning}
use Rattle.machine.proofs.Turning.{turn_from}
use Rattle.machine.proofs.machine.Machine.finish.Goals as goal

pub returns-clause-the_rules_are_followed : goal.returns-clause-the_rules_are_followed
returns-clause-the_rules_are_followed g c = λ rule scale below s.
    let k = meaning g.R.Rule.conflicts g.S.Scale.measure g.Q.Search.takes in
    let was : c.args.self.now.phase ≡ Some (Drawing c.in-Some-Drawing.desk) = search rules in
    let now : c.replace.new.dest ≡ Some (Planning c.finish.result) = search rules in
    turn_from k rule scale below _ _ _ _ _ _ _ _ _ _ (c.finish.ensures.the_rules_are_followed rule scale below s) was now refl refl
