-- Numbers below 65,536 and costs as bytes.
use Rattle.std.specs.Prelude.{ℕ, ◌/◌, ◌%◌, List, [], ◌∷◌, ◌++◌}
use Rattle.scales.specs.declared.pair.Pair.{Pair}

-- a number as two bytes, the high one first
abbrev pub high_first : ℕ → List ℕ
high_first n = n / 256 ∷ (n % 256 ∷ [])

-- the steps, then the points
abbrev pub pair_bytes : Pair → List ℕ
pair_bytes p = high_first p.steps ++ high_first p.points
