use Rattle.roster.proofs.Laws.{laws}
use Rattle.roster.proofs.roster.Roster.new.Goals as goal

pub returns-clause-every_roster_keeps_its_laws : goal.returns-clause-every_roster_keeps_its_laws
returns-clause-every_roster_keeps_its_laws c = laws _
