-- The first of the least of a run of cells, each of which holds one cost or none.
use Rattle.std.specs.Prelude.{◌≡◌, ℕ, ◌<◌, true, cond, ◌⊎◌, Some, None, Option}
use Rattle.scales.specs.Measure.{Measure}

-- of the cells 0 .. n - 1, the one at this place has the least cost, and no earlier one has it
pub record LeastAt {C : Type 0} (S : Measure C) (n : ℕ) (run : ℕ → Option C) (place : ℕ) (c : C) : Type 0 where
  pub within : place < n
  pub here : run place ≡ Some c
  pub earlier : (i : ℕ) (d : C) → i < place → run i ≡ Some d → S.lower c d ≡ true
  pub every : (i : ℕ) (d : C) → i < n → run i ≡ Some d → (c ≡ d) ⊎ (S.lower c d ≡ true)

-- nothing where the cells 0 .. n - 1 are empty, otherwise the place and the cost of the first of the least
abbrev pub FirstLeast : {C : Type 0} → Measure C → ℕ → (ℕ → Option C) → Option (ℕ × C) → Type 0
FirstLeast S n run None = (i : ℕ) → i < n → run i ≡ None
FirstLeast S n run (Some p) = LeastAt S n run p.0 p.1

-- one cell more: it takes the place of the best so far only where it is lower
abbrev pub nearer : {C : Type 0} → Measure C → Option (ℕ × C) → ℕ → Option C → Option (ℕ × C)
nearer S best i None = best
nearer S None i (Some c) = Some (i, c)
nearer S (Some p) i (Some c) = cond (S.lower c p.1) (Some (i, c)) (Some p)
