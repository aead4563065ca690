-- Fouls as a list, in the order in which they were drawn.
use Rattle.std.specs.Prelude.{ℕ, Bool, true, not, ◌&&◌, ◌||◌, List, [], ◌∷◌}
use Rattle.std.specs.List.{list_any, list_all}
use Rattle.track.specs.Links.{same_link, linked_either}
use Rattle.track.specs.declared.foul.Foul.{Foul}
use Rattle.track.specs.declared.link.Link.{Link}

-- whether the foul's two links are a-b and c-d, in either order, each from either end
abbrev pub crosses : Foul → ℕ → ℕ → ℕ → ℕ → Bool
crosses f a b c d =
    (same_link f.a f.b a b && same_link f.c f.d c d)
    || (same_link f.a f.b c d && same_link f.c f.d a b)

-- whether one of the fouls is of the links a-b and c-d
abbrev pub fouled_by : List Foul → ℕ → ℕ → ℕ → ℕ → Bool
fouled_by fs a b c d = list_any (λ (f : Foul). crosses f a b c d) fs

-- whether the foul names two links that are there, and two different ones
abbrev pub foul_good : List Link → Foul → Bool
foul_good ls f =
    linked_either ls f.a f.b
    && (linked_either ls f.c f.d && not (same_link f.a f.b f.c f.d))

-- whether every foul names two different links that are there
abbrev pub fouls_good : List Link → List Foul → Bool
fouls_good ls fs = list_all (λ (f : Foul). foul_good ls f) fs

-- whether no foul is there twice
abbrev pub fouls_apart : List Foul → Bool
fouls_apart [] = true
fouls_apart (f ∷ fs) = not (fouled_by fs f.a f.b f.c f.d) && fouls_apart fs
