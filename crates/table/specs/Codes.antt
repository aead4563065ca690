-- The number of a joint position: its sections as digits, the first train's the highest.
use Rattle.std.specs.Prelude.{ℕ, zero, suc, ◌+◌, ◌*◌, ◌/◌, ◌%◌, List, [], ◌∷◌, ◌++◌, slice_index}

-- the k digits of a number to the base n
unfoldable pub digits : (n k : ℕ) → ℕ → List ℕ
digits n zero c = []
digits n (suc k) c = digits n k (c / n) ++ ((c % n) ∷ [])

-- the number whose digits to the base n are the first k of the list
unfoldable pub code_of : (n k : ℕ) → List ℕ → ℕ
code_of n zero at = 0
code_of n (suc k) at = code_of n k at * n + slice_index at k
