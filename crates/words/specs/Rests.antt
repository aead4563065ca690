-- What costs of the rest have to be, for a sheet to be read off them.
use Rattle.std.specs.Prelude.{◌≡◌, ℕ, ◌<◌, ◌≤◌, List, length, Option, slice_index}
use Rattle.scales.specs.Measure.{Measure}
use Rattle.words.specs.Joint.{Task}
use Rattle.words.specs.Tasks.{rest_from}

-- the first j trains stand on the layout
abbrev pub On : Task → (j : ℕ) → List ℕ → Type 0
On K j at = (i : ℕ) → i < j → slice_index at i < K.sections

-- of up to so many steps left, the costs known are the least costs of the rest, for every joint position on the layout
pub record Knows {C : Type 0} (S : Measure C) (K : Task) (most : ℕ) (asked : ℕ → List ℕ → Type 0) (known : ℕ → List ℕ → Option C) : Type 0 where
  pub may_be_asked : (left : ℕ) (at : List ℕ) → left ≤ most → K.trains ≤ length at → On K K.trains at → asked left at
  pub least_of_the_rest : (left : ℕ) (at : List ℕ) → left ≤ most → K.trains ≤ length at → On K K.trains at → known left at ≡ rest_from S K left at
