-- How many cells a worksheet has.
use Rattle.std.proofs.Common.{◌≡◌, ℕ, ◌+◌, ◌*◌, ◌^◌, ◌≤◌, sym, subst, mul_comm, mul-le-mul, mul-add, arith}
use Rattle.track.specs.Layouts.{sections_of}
use Rattle.track.proofs.Laws.{sections_most}
use Rattle.table.specs.declared.positions.Positions.{Positions}
use Rattle.table.proofs.Numbers.{power_size}

-- the number of cells that are used is far below the largest number
pub cells_fit : {A B : Type 0} (p : Positions A B) (steps : ℕ) → steps ≤ 16 → p.count * (steps + 1) ≤ 2 ^ 40 * 17
cells_fit p steps h =
    let a : p.count ≤ 2 ^ 40 = subst (λ z. z ≤ 2 ^ 40) (sym p.all) (power_size (sections_of p.group.now.board.layout.now) p.group.now.board.trains (sections_most p.group.now.board.layout.now) p.group.now.few) in
    let b : steps + 1 ≤ 17 = omega arith in
    mul-le-mul a b

pub cells_used : (size steps : ℕ) → size * (steps + 1) ≡ steps * size + size
cells_used size steps = let a = mul-add size steps 1 in let b = mul_comm size steps in omega arith
