-- Steps: a step that is priced costs 1, and the size is the number.
use Rattle.std.specs.Prelude.{ℕ, ◌+◌, min, cond, ltb}
use Rattle.scales.specs.Measure.{Measure}

-- the sum of two numbers of 16 bits: it stays at 65,535 where it would pass that
abbrev pub plus : ℕ → ℕ → ℕ
plus a b = min (a + b) 65535

abbrev pub steps : Measure ℕ
steps = record { lower = ltb; join = plus; nothing = 0; price = λ points rests. cond rests 0 1; size = λ a. a }
