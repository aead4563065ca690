-- How the trains of a group move in a joint step, one after the other.
use Rattle.std.specs.Prelude.{ℕ, ◌+◌, ◌-◌, ◌*◌, List, take, replicate, slice_set, Option}
use Rattle.scales.specs.Measure.{Measure}
use Rattle.words.specs.Words.{rest, choice}
use Rattle.words.specs.Joint.{Task, Joint, turned, process}
use Rattle.words.specs.declared.turn.Turn.{Turn}

-- no train has moved
abbrev pub begun : (left : ℕ) → (at : List ℕ) → Turn
begun left at = record { left = left; at = at; to = replicate 8 0; moved = 0 }

-- the next train has gone to x
abbrev pub after : Turn → (x : ℕ) → Turn
after t x = record t { to = slice_set t.to t.moved x; moved = t.moved + 1 }

-- the moves to come: the trains from j on have yet to move in this step, and `left` steps come after it
abbrev pub todo : Task → (left j : ℕ) → ℕ
todo K left j = (K.trains - j) + K.trains * left

-- where the trains of the task stood, and where those have gone that moved
abbrev pub joint : Task → Turn → Joint
joint K t = turned K.trains (take K.trains t.at) (take t.moved t.to)

-- the least cost of what is to come
abbrev pub rest_of : {C : Type 0} → Measure C → Task → Turn → Option C
rest_of S K t = rest S (process S K) (todo K t.left t.moved) (joint K t)

-- what the move of the next train to a section costs, with all that is still to come
abbrev pub move_cost : {C : Type 0} → Measure C → Task → Turn → ℕ → Option C
move_cost S K t = choice S (process S K) (todo K t.left (t.moved + 1)) (record { at = take K.trains t.at; to = take t.moved t.to })
