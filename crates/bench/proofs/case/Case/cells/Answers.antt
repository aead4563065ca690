use Rattle.std.proofs.Common.{◌+◌, ◌≤◌, mul-le-mul, arith}
use Rattle.table.proofs.Numbers.{power_size}
use Rattle.bench.proofs.case.Case.cells.Goals as goal

-- at most 32 sections and 3 trains, and 17 times
pub pow-requires : goal.pow-requires
pow-requires c = omega (arith, power_size c.sections.result c.args.self.now.trains (omega (arith, c.sections.ensures.those_of_both_lines, c.args.self.now.within_32_sections)) (omega (arith, c.args.self.now.few)))

pub overflow_mul-result : goal.overflow_mul-result
overflow_mul-result c =
    let p = power_size c.sections.result c.args.self.now.trains (omega (arith, c.sections.ensures.those_of_both_lines, c.args.self.now.within_32_sections)) (omega (arith, c.args.self.now.few)) in
    let t : c.args.self.now.steps + 1 ≤ 17 = omega (arith, c.args.self.now.short) in
    rw c.pow.ensures (omega (arith, mul-le-mul p t))
