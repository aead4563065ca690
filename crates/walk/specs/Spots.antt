-- How the walk goes on from a spot.
use Rattle.std.specs.Prelude.{ℕ, ◌+◌, ◌-◌}
use Rattle.words.specs.Turns.{begun, after as turn_after}
use Rattle.walk.specs.declared.spot.Spot.{Spot}

-- the next train has gone to x
abbrev pub after : {C : Type 0} → Spot C → (x : ℕ) → (sofar : C) → Spot C
after s x c = record { turn = turn_after s.turn x; place = s.place + 1; sofar = c }

-- all have gone, and the next step begins
abbrev pub next_step : {C : Type 0} → Spot C → Spot C
next_step s = record s { turn = begun (s.turn.left - 1) s.turn.to }
