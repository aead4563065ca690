-- Links as a list, in the order in which they were drawn.
use Rattle.std.specs.Prelude.{ℕ, Bool, true, not, ◌&&◌, ◌||◌, List, [], ◌∷◌, find, is_some, Option, ◌==◌, nat_le, nat_lt}
use Rattle.std.specs.List.{list_all}
use Rattle.std.specs.Option.{option_map}
use Rattle.track.specs.declared.link.Link.{Link}

-- whether a-b and c-d name the same two sections, from whichever end
abbrev pub same_link : ℕ → ℕ → ℕ → ℕ → Bool
same_link a b c d = (a == c && b == d) || (a == d && b == c)

-- whether the link leads from a to b
abbrev pub joins : Link → ℕ → ℕ → Bool
joins l a b = same_link l.a l.b a b

-- the points of the first link that leads from a to b
abbrev pub points_of : List Link → ℕ → ℕ → Option ℕ
points_of ls a b = option_map (λ (l : Link). l.points) (find (λ (l : Link). joins l a b) ls)

-- whether there is a link between a and b, from whichever end
abbrev pub linked_either : List Link → ℕ → ℕ → Bool
linked_either ls a b = is_some (points_of ls a b) || is_some (points_of ls b a)

-- whether the link may stand on a drawing of n sections:
-- its ends are on the drawing, they are two sections, and it has at most 7 points
abbrev pub link_good : ℕ → Link → Bool
link_good n l = nat_lt l.a n && (nat_lt l.b n && (not (l.a == l.b) && nat_le l.points 7))

-- whether every link may stand on a drawing of n sections
abbrev pub links_good : ℕ → List Link → Bool
links_good n ls = list_all (λ (l : Link). link_good n l) ls

-- whether no two sections are linked twice
abbrev pub links_apart : List Link → Bool
links_apart [] = true
links_apart (l ∷ ls) = not (linked_either ls l.a l.b) && links_apart ls
