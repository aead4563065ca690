-- Which sheets are lawful for a group of rows, what they cost, which comes first, and which is best.
use Rattle.std.specs.Prelude.{◌≡◌, ℕ, ◌+◌, ◌<◌, ◌≤◌, Bool, true, false, cond, ◌&&◌, ◌⊎◌, ◌==◌, ◌≢◌}
use Rattle.scales.specs.Measure.{Measure, joined}
use Rattle.sheets.specs.Problem.{Problem, Group, Member, allowed, run_over}

-- what a sheet tells: the section in which a row stands at a time
abbrev pub Plan : Type 0
Plan = (row time : ℕ) → ℕ

-- the rows r and q conflict in the step that begins at the time t
abbrev pub clash : Problem → Plan → (t r q : ℕ) → Bool
clash Q x t r q = Q.conflicts (x r t) (x r (t + 1)) (x q t) (x q (t + 1))

pub record Lawful (Q : Problem) (G : Group) (x : Plan) : Type 0 where
  pub starts : (r : ℕ) → Member Q G r → x r 0 ≡ Q.start r
  pub arrives : (r : ℕ) → Member Q G r → x r Q.steps ≡ Q.goal r
  pub moves : (r t : ℕ) → Member Q G r → t < Q.steps → allowed Q (x r t) (x r (t + 1)) ≡ true
  pub inside : (r t : ℕ) → Member Q G r → t ≤ Q.steps → x r t < Q.sections
  pub not_closed : (r t : ℕ) → Member Q G r → t ≤ Q.steps → Q.closed (x r t) ≡ false
  pub apart : (r q t : ℕ) → Member Q G r → Member Q G q → (r ≢ q) → t < Q.steps → clash Q x t r q ≡ false

-- no sheet is lawful for the group
abbrev pub Without : Problem → Group → Type 0
Without Q G = (x : Plan) → Lawful Q G x → ⊥

-- a row's step is priced by its points, and by whether the train stands at its goal through it
abbrev pub step_cost : {C : Type 0} → Measure C → Problem → Plan → (r t : ℕ) → C
step_cost S Q x r t = S.price (run_over Q (x r t) (x r (t + 1))) (x r t == Q.goal r && x r (t + 1) == Q.goal r)

-- the prices of a row's steps joined, and those of all rows of a group
unfoldable pub row_cost : {C : Type 0} → Measure C → Problem → Plan → ℕ → C
row_cost S Q x r = joined S Q.steps (step_cost S Q x r)

unfoldable pub cost : {C : Type 0} → Measure C → Problem → Group → Plan → C
cost S Q G x = joined S Q.rows (λ r. cond (G r) (row_cost S Q x r) S.nothing)

-- two sheets count as one for a group: they differ nowhere in its rows at times 0 to the last
abbrev pub SameOn : Problem → Group → Plan → Plan → Type 0
SameOn Q G x y = (r t : ℕ) → Member Q G r → t ≤ Q.steps → x r t ≡ y r t

-- places are read by time, and at one time by row
abbrev pub Earlier : (t r u q : ℕ) → Type 0
Earlier t r u q = (t < u) ⊎ ((t ≡ u) × (r < q))

-- x comes first: at the first place where the two differ in the group's rows, it has the lower section
pub record Before (Q : Problem) (G : Group) (x y : Plan) : Type 0 where
  pub time : ℕ
  pub row : ℕ
  pub in_time : time ≤ Q.steps
  pub in_group : Member Q G row
  pub less : x row time < y row time
  pub same : (t r : ℕ) → Member Q G r → Earlier t r time row → x r t ≡ y r t

-- the two count as one, or x costs less, or they cost the same and x comes first
abbrev pub Wins : {C : Type 0} → Measure C → Problem → Group → Plan → Plan → Type 0
Wins S Q G x y =
    SameOn Q G x y
    ⊎ ((S.lower (cost S Q G x) (cost S Q G y) ≡ true) ⊎ ((cost S Q G x ≡ cost S Q G y) × Before Q G x y))

-- the best sheet of a group is lawful, and wins against every lawful one
pub record Best {C : Type 0} (S : Measure C) (Q : Problem) (G : Group) (x : Plan) : Type 0 where
  pub lawful : Lawful Q G x
  pub wins : (y : Plan) → Lawful Q G y → Wins S Q G x y
