use Rattle.std.proofs.Common.{◌≡◌, drop}
use Rattle.track.specs.Layouts.{sections_of}
use Rattle.roster.specs.Book.{empty, first_declined, entered_all}
use Rattle.roster.specs.Model.{seen}
use Rattle.roster.proofs.roster.Roster.of.Given as goal

abbrev pub invariant-loop-train : goal.invariant-loop-train
invariant-loop-train l =
    (first_declined (sections_of l.layout) (seen l.roster) (drop l.train-index l.trains) ≡ first_declined (sections_of l.layout) empty l.trains)
    × (entered_all (sections_of l.layout) (seen l.roster) (drop l.train-index l.trains) ≡ entered_all (sections_of l.layout) empty l.trains)
