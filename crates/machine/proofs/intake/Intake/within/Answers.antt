use Rattle.std.proofs.Common.{refl}
use Rattle.planner.specs.History.{meaning}
use Rattle.machine.proofs.Taking.{byte_none}
use Rattle.machine.proofs.intake.Intake.within.Goals as goal

pub returns-clause-a_byte_that_ends_no_line_is_taken : goal.returns-clause-a_byte_that_ends_no_line_is_taken
returns-clause-a_byte_that_ends_no_line_is_taken g c rule scale below xs es cells s on h =
    byte_none (meaning g.R.Rule.conflicts g.S.Scale.measure g.Q.Search.takes) rule scale below c.args.self.now _ c.args.byte c.push.ensures.the_byte_is_taken xs es h cells s on refl
