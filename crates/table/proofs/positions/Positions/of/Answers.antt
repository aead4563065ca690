use Rattle.std.proofs.Common.{arith}
use Rattle.table.proofs.Numbers.{power_size}
use Rattle.table.proofs.positions.Positions.of.Goals as goal

pub pow-requires : goal.pow-requires
pow-requires g c = rw c.from.ensures (omega (arith, power_size c.sections.result c.args.group.now.board.trains c.sections.ensures.at_most_thirty_two c.args.group.now.few))
