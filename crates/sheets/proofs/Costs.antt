-- The costs of groups.
use Rattle.std.proofs.Common.{◌≡◌, ℕ, ◌+◌, ◌≤◌, Bool, true, false, cond, ◌&&◌, eqb, refl, sym, ◌∙◌, arith}
use Rattle.scales.specs.Measure.{Measure, MeasureLaws}
use Rattle.sheets.specs.Problem.{Group, Problem, ProblemLaws, run_over}
use Rattle.sheets.specs.Plan.{Plan, SameOn, step_cost, row_cost, cost}
use Rattle.scales.proofs.Joins.{joined_size, joined_same, price_small}
use Rattle.std.proofs.lemmas.Bool.{and_parts, cond-true, eqb-true, eq-eqb}

-- a train that stands at its goal through a step runs over no points
pub still_runs_none : (Q : Problem) (a b g : ℕ) → (eqb a g && eqb b g) ≡ true → run_over Q a b ≡ 0
still_runs_none Q a b g h =
    let p = and_parts (eqb a g) (eqb b g) h in
    cond-true (eqb a b) 0 _ (eq-eqb a b (eqb-true a g p.0 ∙ sym (eqb-true b g p.1)))

-- what is only looked at where a test is true
gate : {C : Type 0} (b : Bool) (v w n : C) → (b ≡ true → v ≡ w) → cond b v n ≡ cond b w n
gate true v w n h = h refl
gate false v w n h = refl

module _ {C : Type 0} (S : Measure C) (L : MeasureLaws S) (Q : Problem) (K : ProblemLaws Q) where
  pub step_cost_size : (x : Plan) (r t : ℕ) → S.size (step_cost S Q x r t) ≤ 16
  step_cost_size x r t = price_small S L _ _ (K.points_most _ _) (still_runs_none Q (x r t) (x r (t + 1)) (Q.goal r))

  pub row_size : (x : Plan) (r : ℕ) → S.size (row_cost S Q x r) ≤ 256
  unfolding row_cost
  row_size x r =
      let k = K.steps_most in
      omega (arith, joined_size S L 16 Q.steps (step_cost S Q x r) (λ t h. step_cost_size x r t) (omega arith))

  pub gated_size : (b : Bool) (x : Plan) (r : ℕ) → S.size (cond b (row_cost S Q x r) S.nothing) ≤ 256
  gated_size true x r = row_size x r
  gated_size false x r = omega (arith, L.size_nothing)

  pub cost_size : (G : Group) (x : Plan) → S.size (cost S Q G x) ≤ 2048
  unfolding cost
  cost_size G x =
      let k = K.rows_most in
      omega (
        arith,
        joined_size S L 256 Q.rows (λ r. cond (G r) (row_cost S Q x r) S.nothing) (λ r h. gated_size (G r) x r) (omega arith),
      )

  row_same : (x y : Plan) (r : ℕ) → ((t : ℕ) → t ≤ Q.steps → x r t ≡ y r t) → row_cost S Q x r ≡ row_cost S Q y r
  unfolding row_cost
  row_same x y r h =
      joined_same S L Q.steps (step_cost S Q x r) (step_cost S Q y r)
      (λ t k. cc (h t (omega arith), h (t + 1) (omega arith)))

  pub cost_same : (G : Group) (x y : Plan) → SameOn Q G x y → cost S Q G x ≡ cost S Q G y
  unfolding cost
  cost_same G x y h =
      joined_same S L Q.rows _ _
      (λ r k. gate (G r) _ _ _ (λ e. row_same x y r (λ t j. h r t (record { a_row = k; of_group = e }) j)))
