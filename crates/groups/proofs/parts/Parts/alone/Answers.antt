use mathlib.Core.Path.{fun_ext}
use Rattle.groups.specs.Model.{naming}
use Rattle.groups.proofs.Fewer.{as_many_parts_as_trains_at_first}
use Rattle.groups.proofs.Tables.{alone_table}
use Rattle.groups.proofs.parts.Parts.alone.Goals as goal

pub returns : goal.returns
unfolding naming
returns c = record { each_row_is_a_part = fun_ext alone_table; there_are_as_many_parts_as_trains_at_first = as_many_parts_as_trains_at_first }
