-- What the search of one joint step answers.
use Rattle.std.specs.Prelude.{◌≡◌, ℕ, ◌+◌, ◌≤◌, true, List, ◌++◌, take, is_some, Some, None, Option, option_map}
use Rattle.scales.specs.Measure.{Measure}
use Rattle.words.specs.Words.{first}
use Rattle.words.specs.Joint.{Task}
use Rattle.words.specs.Tasks.{rest_from, best_from}
use Rattle.words.specs.Rests.{On}
use Rattle.words.specs.Turns.{move_cost, rest_of}
use Rattle.words.specs.declared.turn.Turn.{Turn}
use Rattle.table.specs.declared.pick.Pick.{Pick}

-- the section of the move, if there is one
abbrev pub MovesTo : {C : Type 0} → Option (Pick C) → ℕ → Type 0
MovesTo None x = Unit {0}
MovesTo (Some p) x = p.section ≡ x

-- the search of a step may go on from here, if the costs of the rest are known for up to `most` steps
pub record Ready (K : Task) (most : ℕ) (t : Turn) : Type 0 where
  pub known : t.left ≤ most
  pub in_group : t.moved ≤ K.trains
  pub at_inside : On K K.trains t.at
  pub to_inside : On K t.moved t.to

-- the least cost of the rest of the step and of all the steps after it; and the first move of the next train that makes it up
pub record Picked {C : Type 0} (S : Measure C) (K : Task) (t : Turn) (r : Option (Pick C)) : Type 0 where
  pub cost : option_map (λ p. p.cost) r ≡ rest_of S K t
  pub goes : MovesTo r (first S K.sections (move_cost S K t))

-- there is a way to go on for so many steps
abbrev pub Can : {C : Type 0} → Measure C → Task → (steps : ℕ) → List ℕ → Type 0
Can S K steps at = is_some (rest_from S K steps at) ≡ true

-- the joint step to take with `left` more steps after it: the best word goes on from there
pub record Stepped {C : Type 0} (S : Measure C) (K : Task) (left : ℕ) (at to : List ℕ) : Type 0 where
  pub word : take K.trains to ++ best_from S K left to ≡ best_from S K (left + 1) at
  pub can : Can S K left to
  pub inside : On K K.trains to
