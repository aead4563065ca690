-- What a drawing and a layout stand for, when a call is declined, and what it changes otherwise.
use Rattle.std.specs.Prelude.{◌≡◌, ℕ, ◌+◌, Bool, not, ◌||◌, List, [], ◌∷◌, ◌++◌, length, None, Option, ◌==◌, nat_le, nat_lt}
use Rattle.track.specs.Fouls.{fouled_by}
use Rattle.track.specs.Links.{same_link, points_of, linked_either}
use Rattle.track.specs.Refusals.{met}
use Rattle.track.specs.declared.drawing.Drawing.{Drawing}
use Rattle.track.specs.declared.foul.Foul.{Foul}
use Rattle.track.specs.declared.layout.Layout.{Layout}
use Rattle.track.specs.declared.link.Link.{Link}

-- the sections are numbered from 0; the links and the fouls stand in the order in which they were drawn
pub record Model : Type 0 where
  pub sections : ℕ
  pub links : List Link
  pub fouls : List Foul

-- what has been drawn so far
abbrev pub drawn : Drawing → Model
drawn d =
    record {
      sections = d.sections;
      links = d.links;
      fouls = d.fouls;
    }

-- what the layout holds
abbrev pub laid : Layout → Model
laid l = drawn l.drawing

-- nothing drawn
abbrev pub blank : Model
blank = record { sections = 0; links = []; fouls = [] }

-- whether the section a is not on the drawing
abbrev pub off : Model → ℕ → Bool
off m a = nat_le m.sections a

-- the number of the first condition that declines k more sections
abbrev pub sections_declined : Model → ℕ → Option ℕ
sections_declined m k = met 2 (nat_lt 32 (m.sections + k)) None

-- the number of the first condition that declines a link between a and b with p points
abbrev pub link_declined : Model → ℕ → ℕ → ℕ → Option ℕ
link_declined m a b p =
    met 1 (off m a || off m b)
    (met 3 (a == b)
    (met 4 (nat_lt 7 p)
    (met 5 (linked_either m.links a b)
    (met 6 (nat_le 64 (length m.links)) None))))

-- the number of the first condition that declines the foul of a-b and c-d
abbrev pub foul_declined : Model → ℕ → ℕ → ℕ → ℕ → Option ℕ
foul_declined m a b c d =
    met 1 (off m a || (off m b || (off m c || off m d)))
    (met 7 (not (linked_either m.links a b) || not (linked_either m.links c d))
    (met 8 (same_link a b c d)
    (met 9 (fouled_by m.fouls a b c d)
    (met 10 (nat_le 32 (length m.fouls)) None))))

-- with k more sections
abbrev pub widened : Model → ℕ → Model
widened m k = record { sections = m.sections + k; links = m.links; fouls = m.fouls }

abbrev pub link_of : ℕ → ℕ → ℕ → Link
link_of a b p = record { a = a; b = b; points = p }

abbrev pub foul_of : ℕ → ℕ → ℕ → ℕ → Foul
foul_of a b c d = record { a = a; b = b; c = c; d = d }

-- with a link between a and b with p points, after the others
abbrev pub with_link : Model → ℕ → ℕ → ℕ → Model
with_link m a b p = record { sections = m.sections; links = m.links ++ (link_of a b p ∷ []); fouls = m.fouls }

-- with the foul of a-b and c-d, after the others
abbrev pub with_foul : Model → ℕ → ℕ → ℕ → ℕ → Model
with_foul m a b c d = record { sections = m.sections; links = m.links; fouls = m.fouls ++ (foul_of a b c d ∷ []) }

-- every link leads both ways, over the same points
abbrev pub BothWays : Model → Type 0
BothWays m = (a b : ℕ) → points_of m.links a b ≡ points_of m.links b a
