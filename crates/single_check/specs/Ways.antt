-- How a train alone gets from one section to another, in how many steps, and which trains are stuck.
use Rattle.std.specs.Prelude.{◌≡◌, ℕ, ◌+◌, ◌<◌, ◌≤◌, true, false, Some, None, Option}
use Rattle.sheets.specs.Problem.{Problem, Group, Member, allowed}
use Rattle.sheets.specs.Inquiry.{Inquiry}

-- a way of k steps from the section a to the section b over open sections: x tells the section at each time
pub record Way (Q : Problem) (k a b : ℕ) (x : ℕ → ℕ) : Type 0 where
  pub begins : x 0 ≡ a
  pub ends : x k ≡ b
  pub moves : (t : ℕ) → t < k → allowed Q (x t) (x (t + 1)) ≡ true
  pub inside : (t : ℕ) → t ≤ k → x t < Q.sections
  pub not_closed : (t : ℕ) → t ≤ k → Q.closed (x t) ≡ false

-- a train alone can get from a to b in k steps
abbrev pub Reaches : Problem → (k a b : ℕ) → Type 0
Reaches Q k a b = (x : ℕ → ℕ) × Way Q k a b x

-- the fewest steps, up to the last, from a to b; nothing where all the steps do not suffice
abbrev pub FewestBetween : Problem → (a b : ℕ) → Option ℕ → Type 0
FewestBetween Q a b (Some k) = (k ≤ Q.steps) × Reaches Q k a b × ((j : ℕ) → j < k → Reaches Q j a b → ⊥)
FewestBetween Q a b None = (j : ℕ) → j ≤ Q.steps → Reaches Q j a b → ⊥

-- the fewest steps in which the train of a row alone reaches its goal
abbrev pub Fewest : Problem → (r : ℕ) → Option ℕ → Type 0
Fewest Q r = FewestBetween Q (Q.start r) (Q.goal r)

-- the train of a row is of the group, and alone cannot reach its goal in the steps that there are
pub record StuckTrain (Q : Problem) (G : Group) (r : ℕ) : Type 0 where
  pub member : Member Q G r
  pub no_way : Reaches Q Q.steps (Q.start r) (Q.goal r) → ⊥

-- some train of the group is stuck
abbrev pub StuckIn : Problem → Group → Type 0
StuckIn Q G = (r : ℕ) × StuckTrain Q G r

-- the same of what a search is asked
abbrev pub Stuck : {C : Type 0} → Inquiry C → Type 0
Stuck i = StuckIn i.problem i.group
