-- The ways from each section, as the links give them.
use Rattle.std.specs.Prelude.{ℕ, Bool, List, filter, map, is_some, Option}
use Rattle.std.specs.List.{range_with_len}
use Rattle.track.specs.Links.{points_of}
use Rattle.track.specs.declared.link.Link.{Link}

-- the numbers below n that pass the test, in rising order
unfoldable pub passing : (ℕ → Bool) → ℕ → List ℕ
passing test n = filter test (range_with_len 0 n)

-- the sections that a link leads to from a, in rising order
unfoldable pub neighbours_of : List Link → ℕ → List ℕ
neighbours_of ls a = passing (λ b. is_some (points_of ls a b)) 32

-- the points on the way from a to each section, if a link leads there
unfoldable pub points_along : List Link → ℕ → List (Option ℕ)
points_along ls a = map (λ b. points_of ls a b) (range_with_len 0 32)

-- the points on the way from each section to each
unfoldable pub charted : List Link → List (List (Option ℕ))
charted ls = map (λ a. points_along ls a) (range_with_len 0 32)
