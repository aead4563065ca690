-- What the program is made with, and what it promises of what it reads and writes.
use Rattle.std.specs.Prelude.{◌≡◌, ℕ, List, Option, Result, ◌⊎◌}
use Rattle.track.specs.Layouts.{fouled}
use Rattle.rules.specs.Conflicts.{following}
use Rattle.rules.specs.declared.following.Following.{Following}
use Rattle.scales.specs.Bytes.{high_first}
use Rattle.scales.specs.Steps.{steps}
use Rattle.scales.specs.declared.steps.Steps.{Steps}
use Rattle.planner.specs.History.{Meaning, meaning}
use Rattle.single_check.specs.Ways.{Stuck}
use Rattle.single_check.specs.declared.check.Check.{Check}
use Rattle.table.specs.Columns.{Enough}
use Rattle.table.specs.declared.table.Table.{Table}
use Rattle.service.specs.Serving.{Served}

-- moves conflict by following, costs are steps; the check takes the groups with a stuck train,
-- the table those for which the cells suffice
abbrev pub its_meaning : Meaning Following Steps (Check (Table ℕ)) ℕ
its_meaning =
    meaning (λ rule l. following (fouled l)) (λ scale. steps) (λ check i cells. Stuck i ⊎ Enough i cells)

-- a reader had this input and has so much left, a writer held the old bytes and holds the new:
-- the lines were served under following, by steps, and by the check over this table, with 4,096 cells for each line
pub record ServedOver {E : Type 0} (table : Table ℕ) (input left old new : Option (List ℕ))
    (result : Result (Unit {0}) E) : Type 0 where
  pub rule : Following
  pub scale : Steps
  pub check : Check (Table ℕ)
  pub over_the_table : check.below ≡ table
  pub served : Served its_meaning rule scale check 4096 high_first input left old new result
