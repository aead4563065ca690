-- What a walk from a place on answers.
use Rattle.std.specs.Prelude.{◌≡◌, ℕ, ◌+◌, ◌*◌, ◌<◌, ◌≤◌, Bool, false, cond, not, length, take, drop, Some, None, Option, slice_set}
use Rattle.scales.specs.Measure.{Measure}
use Rattle.words.specs.Words.{best, under, with}
use Rattle.words.specs.Joint.{Task, RunsFew, process}
use Rattle.words.specs.Tasks.{cost_of, Goes}
use Rattle.words.specs.Turns.{todo, joint, rest_of}
use Rattle.words.specs.declared.found.Found.{Found}
use Rattle.walk.specs.declared.spot.Spot.{Spot}

-- what is lower than the bound
abbrev pub cut : {C : Type 0} → Measure C → Option C → Option C → Option C
cut S b o = cond (under S b o) o None

-- the cost so far is no longer lower than the bound
abbrev pub spent_up : {C : Type 0} → Measure C → Option C → C → Bool
spent_up S None a = false
spent_up S (Some b) a = not (S.lower a b)

-- the walk may go on from here: there is room for the plan, and no cost grows too large
pub record Ready {C : Type 0} (S : Measure C) (K : Task) (s : Spot C) : Type 0 where
  pub runs_few : RunsFew K
  pub trains_some : 1 ≤ K.trains
  pub trains_most : K.trains ≤ 8
  pub left_most : s.turn.left < 16
  pub in_group : s.turn.moved ≤ K.trains
  pub room : s.place + todo K s.turn.left s.turn.moved ≤ 128
  pub size : S.size s.sofar + 16 * todo K s.turn.left s.turn.moved ≤ 60000

-- of the words from here on the best, if with what is spent it costs less than the bound; it is written from the spot's place on
pub record Walked {C : Type 0} (S : Measure C) (K : Task) (s : Spot C) (bound : Option C) (r : Option (Found C)) : Type 0 where
  pub cost : cost_of r ≡ cut S bound (with S s.sofar (rest_of S K s.turn))
  pub goes : Goes r (λ plan. take (todo K s.turn.left s.turn.moved) (drop s.place plan) ≡ best S (process S K) (todo K s.turn.left s.turn.moved) (joint K s.turn))
  pub long : Goes r (λ plan. length plan ≡ 128)

abbrev pub put_at : {C : Type 0} → ℕ → ℕ → Option (Found C) → Option (Found C)
put_at p x None = None
put_at p x (Some f) = Some (record { cost = f.cost; plan = slice_set f.plan p x })
