use Rattle.std.proofs.Common.{refl}
use Rattle.frames.specs.Cuts.{after_all, given}
use Rattle.machine.proofs.intake.Intake.new.Goals as goal

pub returns : goal.returns
unfolding after_all given
returns g c =
    record {
      nothing_is_taken = record { cut = c.new-cutter.ensures.nothing_is_begun; lines = refl; history = c.new-machine.ensures.nothing_is_drawn };
    }
