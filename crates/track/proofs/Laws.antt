-- What holds of every layout.
use Rattle.std.proofs.Common.{◌≡◌, ℕ, ◌<◌, ◌≤◌, false, is_some, Some}
use Rattle.track.specs.Layouts.{sections_of, look, fouled, LayoutLaws}
use Rattle.track.specs.Model.{laid}
use Rattle.track.specs.declared.layout.Layout.{Layout}
use Rattle.track.proofs.Linking.{points_few, points_inside, points_self}
use Rattle.track.proofs.Fouling.{fouled_by_swapped, fouled_by_turned}

pub sections_most : (l : Layout) → sections_of l ≤ 32
unfolding sections_of
sections_most l = l.drawing.few

pub look_few : (l : Layout) (a b p : ℕ) → look l a b ≡ Some p → p ≤ 7
unfolding look
look_few l a b p e = points_few (laid l).sections (laid l).links a b p l.drawing.sound e

pub look_inside : (l : Layout) (a b p : ℕ) → look l a b ≡ Some p → (a < sections_of l) × (b < sections_of l)
unfolding look sections_of
look_inside l a b p e = points_inside (laid l).sections (laid l).links a b p l.drawing.sound e

-- no link leads from a section to itself
pub look_self : (l : Layout) (a : ℕ) → is_some (look l a a) ≡ false
unfolding look
look_self l a = points_self (laid l).sections (laid l).links a l.drawing.sound

pub fouled_swapped : (l : Layout) (a b c d : ℕ) → fouled l a b c d ≡ fouled l c d a b
unfolding fouled
fouled_swapped l a b c d = fouled_by_swapped (laid l).fouls a b c d

pub fouled_turned : (l : Layout) (a b c d : ℕ) → fouled l a b c d ≡ fouled l b a c d
unfolding fouled
fouled_turned l a b c d = fouled_by_turned (laid l).fouls a b c d

pub laws : (l : Layout) → LayoutLaws l
laws l =
    record {
      at_most_32_sections = sections_most l;
      few_points = look_few l;
      ends_inside = look_inside l;
      in_either_order = fouled_swapped l;
      from_either_end = fouled_turned l;
    }
