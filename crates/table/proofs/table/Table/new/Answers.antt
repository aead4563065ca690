use Rattle.std.proofs.Common.{None, Some, refl}
use Rattle.table.proofs.table.Table.new.Goals as goal

pub returns : goal.returns
returns g c = record {
  its_room_is_eight_runs_of_empty_cells = c.in_ok-vec.ensures.items_if_clones_equal (elim [ None ↦ λ h. refl | Some d ↦ λ h. absurd h ]);
}
