-- The moves to be tried.
use Rattle.std.specs.Prelude.{◌≡◌, ℕ, ◌<◌, ◌≤◌, Bool, true, ◌||◌, List, length, is_some, ◌==◌, slice_index}
use Rattle.track.specs.Layouts.{look}
use Rattle.track.specs.declared.layout.Layout.{Layout}

-- a train in a can stand there or run there, whether it is open or not
abbrev pub reached : Layout → ℕ → ℕ → Bool
reached l a x = a == x || is_some (look l a x)

-- just the sections below n that are in reach, in rising order
pub record Candidates (n : ℕ) (reach : ℕ → Bool) (xs : List ℕ) : Type 0 where
  pub few : length xs ≤ 33
  pub rising : (i j : ℕ) → i < j → j < length xs → slice_index xs i < slice_index xs j
  pub in_reach : (i : ℕ) → i < length xs → reach (slice_index xs i) ≡ true
  pub inside : (i : ℕ) → i < length xs → slice_index xs i < n
  pub every : (x : ℕ) → x < n → reach x ≡ true → (i : ℕ) × (i < length xs) × (slice_index xs i ≡ x)
