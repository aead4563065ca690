use Rattle.track.proofs.Laws.{laws}
use Rattle.track.proofs.drawing.Drawing.finish.Goals as goal

pub returns-clause-every_layout_keeps_its_laws : goal.returns-clause-every_layout_keeps_its_laws
returns-clause-every_layout_keeps_its_laws c = laws _
