use Rattle.std.proofs.Common.{rules}
use Rattle.planner.specs.History.{meaning}
use Rattle.machine.proofs.Histories.{every_run}
use Rattle.machine.proofs.machine.Machine.new.Goals as goal

pub returns-clause-in_every_run_the_rules_are_followed_and_each_sheet_is_lawful_cheapest_and_first : goal.returns-clause-in_every_run_the_rules_are_followed_and_each_sheet_is_lawful_cheapest_and_first
returns-clause-in_every_run_the_rules_are_followed_and_each_sheet_is_lawful_cheapest_and_first g c =
    every_run (meaning g.R.Rule.conflicts g.S.Scale.measure g.Q.Search.takes) c.args.rule c.args.scale c.args.below _ (search rules)
