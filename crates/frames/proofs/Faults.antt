-- The first wrong place of a line, by how many bytes from its start may stand where they do.
use Rattle.std.proofs.Common.{◌≡◌, ℕ, ◌+◌, ◌<◌, List, [], ◌∷◌, length, Some, ap, arith}
use Rattle.std.specs.List.{prefix_len, enumerate_from}
use Rattle.std.proofs.lemmas.Bool.Decides.{nat_tests}
use Rattle.frames.specs.Lines.{right, fault_from}

abbrev from_start : ℕ → List ℕ → ℕ
from_start i xs = prefix_len (λ p. right p.0 p.1) (enumerate_from i xs)

pub right_to_the_end : (i : ℕ) (xs : List ℕ) → prefix_len (λ p. right p.0 p.1) (enumerate_from i xs) ≡ length xs → fault_from i xs ≡ fault_from (i + length xs) []
unfolding fault_from
right_to_the_end i [] h = ap (λ (k : ℕ). fault_from k []) (omega arith)
right_to_the_end i (x ∷ xs) h = let ih = right_to_the_end (i + 1) xs in grind (arith, nat_tests)

pub wrong_there : (i : ℕ) (xs : List ℕ) → prefix_len (λ p. right p.0 p.1) (enumerate_from i xs) < length xs → fault_from i xs ≡ Some (i + prefix_len (λ p. right p.0 p.1) (enumerate_from i xs))
unfolding fault_from
wrong_there i [] h = absurd (omega arith)
wrong_there i (x ∷ xs) h = let ih = wrong_there (i + 1) xs in grind (arith, nat_tests)
