-- A line writes bytes: each as two upper-case hexadecimal digits, one space between two of them. It holds 1 to 64 characters, the ending 0A not counted.
use Rattle.std.specs.Prelude.{ℕ, ◌+◌, ◌-◌, ◌*◌, ◌%◌, min, Bool, cond, ◌&&◌, List, [], ◌∷◌, length, Some, None, Option, is_some, unwrap_or, ◌==◌, nat_le, nat_lt}

-- what a digit stands for: 0 to 9 and A to F
abbrev pub value_of : ℕ → Option ℕ
value_of x = cond (nat_le 48 x && nat_le x 57) (Some (x - 48)) (cond (nat_le 65 x && nat_le x 70) (Some (x - 55)) None)

abbrev pub digit : ℕ → Bool
digit x = is_some (value_of x)

-- what is no digit counts 0
abbrev pub digit_value : ℕ → ℕ
digit_value x = unwrap_or (value_of x) 0

-- the byte that two digits write
abbrev pub pair_value : (high low : ℕ) → ℕ
pair_value high low = digit_value high * 16 + digit_value low

-- whether x may stand at the place i: the places go digit, digit, space
abbrev pub right : ℕ → ℕ → Bool
right i x = cond (i % 3 == 2) (x == 32) (digit x)

-- the first wrong place of a line of which xs stands from the place i on: it ends behind a second digit
unfoldable pub fault_from : ℕ → List ℕ → Option ℕ
fault_from i [] = cond (i % 3 == 2) None (Some i)
fault_from i (x ∷ xs) = cond (right i x) (fault_from (i + 1) xs) (Some i)

-- the place of a line's first fault, if it has one
abbrev pub fault_of : List ℕ → Option ℕ
fault_of xs = cond (length xs == 0) (Some 0) (cond (nat_lt 64 (length xs)) (Some 64) (fault_from 0 xs))

-- the bytes that a line writes
unfoldable pub bytes_of : List ℕ → List ℕ
bytes_of [] = []
bytes_of (a ∷ []) = []
bytes_of (a ∷ (b ∷ [])) = pair_value a b ∷ []
bytes_of (a ∷ (b ∷ (s ∷ xs))) = pair_value a b ∷ bytes_of xs

-- how many bytes a frame of the kind has, the kind among them; 0 where there is no such kind
abbrev pub size_of : ℕ → ℕ
size_of k = cond (k == 1) 2 (cond (k == 2) 4 (cond (k == 3) 5 (cond (k == 4) 1 (cond (k == 5) 5 (cond (k == 6) 3 (cond (k == 7) 2 0))))))

-- the place at which the fields begin: behind the kind and a space, or at the end of a line that has but a kind
abbrev pub place_of : List ℕ → ℕ
place_of xs = min 3 (length xs)
