-- What a layout answers, and what holds of every layout.
use Rattle.std.specs.Prelude.{◌≡◌, ℕ, ◌<◌, ◌≤◌, Bool, true, List, length, is_some, Some, Option, slice_index}
use Rattle.track.specs.Fouls.{fouled_by}
use Rattle.track.specs.Links.{points_of}
use Rattle.track.specs.Model.{laid}
use Rattle.track.specs.declared.layout.Layout.{Layout}

-- how many sections there are
unfoldable pub sections_of : Layout → ℕ
sections_of l = (laid l).sections

-- the points on the way from a to b, if a link leads there
unfoldable pub look : Layout → ℕ → ℕ → Option ℕ
look l a b = points_of (laid l).links a b

-- whether the links a-b and c-d foul
unfoldable pub fouled : Layout → ℕ → ℕ → ℕ → ℕ → Bool
fouled l a b c d = fouled_by (laid l).fouls a b c d

-- the sections that a link leads to from a: in rising order, each of them linked, and every one that is
pub record Neighbours (l : Layout) (a : ℕ) (xs : List ℕ) : Type 0 where
  pub rising : (i j : ℕ) → i < j → j < length xs → slice_index xs i < slice_index xs j
  pub linked : (i : ℕ) → i < length xs → is_some (look l a (slice_index xs i)) ≡ true
  pub every : (b : ℕ) → is_some (look l a b) ≡ true → (i : ℕ) × (i < length xs) × (slice_index xs i ≡ b)

pub record LayoutLaws (l : Layout) : Type 0 where
  pub at_most_32_sections : sections_of l ≤ 32
  -- a link has at most 7 points
  pub few_points : (a b p : ℕ) → look l a b ≡ Some p → p ≤ 7
  -- a link has both ends on the layout
  pub ends_inside : (a b p : ℕ) → look l a b ≡ Some p → (a < sections_of l) × (b < sections_of l)
  -- the two links of a foul may be named in either order
  pub in_either_order : (a b c d : ℕ) → fouled l a b c d ≡ fouled l c d a b
  -- and each from either end
  pub from_either_end : (a b c d : ℕ) → fouled l a b c d ≡ fouled l b a c d
