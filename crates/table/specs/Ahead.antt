-- What is known of the costs of the rest.
use Rattle.std.specs.Prelude.{◌≡◌, ℕ, List, Option}
use Rattle.scales.specs.Measure.{Measure}
use Rattle.words.specs.Joint.{Task}
use Rattle.words.specs.Rests.{Knows}

-- the costs of the rest are known, and that they may be asked for is one fact
pub record Tells {C : Type 0} (S : Measure C) (K : Task) (most : ℕ) (asked : ℕ → List ℕ → Type 0) (known : ℕ → List ℕ → Option C) : Type 0 where
  pub knows : Knows S K most asked known
  pub once : (left : ℕ) (at : List ℕ) (a b : asked left at) → a ≡ b
