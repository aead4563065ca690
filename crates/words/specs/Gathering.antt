-- The rows of a group in rising order.
use Rattle.std.specs.Prelude.{◌≡◌, ℕ, zero, suc, ◌<◌, cond, ◌&&◌, ◌==◌}
use Rattle.sheets.specs.Problem.{Group, Problem, Member}
use Rattle.sheets.specs.Problem.{count}
use Rattle.words.specs.Bridge.{Picks}

-- the k rows of a group, each at the place that says how many of its rows lie below
pub record Gathered (Q : Problem) (G : Group) (k : ℕ) (row : ℕ → ℕ) : Type 0 where
  pub size : k ≡ count Q.rows G
  pub member : (i : ℕ) → i < k → Member Q G (row i)
  pub place : (i : ℕ) → i < k → count (row i) G ≡ i

abbrev pub row_at : Group → (n i : ℕ) → ℕ
row_at G zero i = 0
row_at G (suc n) i = cond (G n && count n G == i) n (row_at G n i)

-- every group that has a row has its rows in rising order
abbrev pub EveryGroupPicks : Type 0
EveryGroupPicks = (Q : Problem) (G : Group) (r : ℕ) → Member Q G r → Picks Q G (count Q.rows G) (row_at G Q.rows) (λ q. count q G)
