-- Steps, then points: pairs that are added part by part and compared by steps first; the size is the sum of both.
use Rattle.std.specs.Prelude.{ℕ, ◌+◌, Bool, cond, ◌&&◌, ◌||◌, ◌==◌, nat_lt}
use Rattle.scales.specs.Measure.{Measure}
use Rattle.scales.specs.Steps.{plus}
use Rattle.scales.specs.declared.pair.Pair.{Pair}

abbrev pub pair : ℕ → ℕ → Pair
pair s p = record { steps = s; points = p }

abbrev pub pair_lower : Pair → Pair → Bool
pair_lower a b = nat_lt a.steps b.steps || (a.steps == b.steps && nat_lt a.points b.points)

abbrev pub pairs : Measure Pair
pairs = record {
  lower = pair_lower;
  join = λ a b. pair (plus a.steps b.steps) (plus a.points b.points);
  nothing = pair 0 0;
  price = λ points rests. cond rests (pair 0 0) (pair 1 points);
  size = λ a. a.steps + a.points;
}
