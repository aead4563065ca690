-- Of two lawful sheets one wins, and who wins against a winner wins against the loser: what a search for the best sheet goes by.
use Rattle.std.proofs.Common.{◌≡◌, ℕ, suc, ◌<◌, true, false, ◌⊎◌, sym, ◌∙◌, inl, inr, arith}
use Rattle.std.proofs.lemmas.Bool.{cases_order, cases_Bool, both_ways}
use Rattle.scales.specs.Measure.{Measure, MeasureLaws}
use Rattle.sheets.specs.Problem.{Group, Problem, ProblemLaws, Member}
use Rattle.sheets.specs.Plan.{Plan, SameOn, Earlier, Before, Wins, cost}
use Rattle.sheets.proofs.Least.{least}
use Rattle.sheets.proofs.Places.{earlier_trans, earlier_time, places, same_sym}
use Rattle.sheets.proofs.Costs.{cost_same}
use Rattle.sheets.proofs.Sheets.{before_same}

module _ (Q : Problem) (G : Group) (x y : Plan) where
  abbrev AtSame : (t r : ℕ) → Type 0
  AtSame t r = Member Q G r → x r t ≡ y r t

  abbrev AtOther : (t r : ℕ) → Type 0
  AtOther t r = Member Q G r × ((x r t < y r t) ⊎ (y r t < x r t))

  abbrev StepSame : ℕ → Type 0
  StepSame t = (r : ℕ) → r < Q.rows → AtSame t r

  abbrev StepOther : ℕ → Type 0
  StepOther t = (r : ℕ) × (r < Q.rows) × AtOther t r × ((q : ℕ) → q < r → AtSame t q)

  at : (t r : ℕ) → r < Q.rows → AtSame t r ⊎ AtOther t r
  at t r h = go (cases_Bool (G r)) (cases_order (x r t) (y r t))
    where
      go : (G r ≡ true) ⊎ (G r ≡ false) → (x r t ≡ y r t) ⊎ ((x r t < y r t) ⊎ (y r t < x r t)) → AtSame t r ⊎ AtOther t r
      go (inr e) d = inl (λ m. absurd (both_ways (G r) e m.of_group))
      go (inl e) (inl d) = inl (λ m. d)
      go (inl e) (inr d) = inr (record { a_row = h; of_group = e }, d)

  -- two sheets agree on a group, or one comes before the other
  pub before_cases : SameOn Q G x y ⊎ (Before Q G x y ⊎ Before Q G y x)
  before_cases =
      go (least (suc Q.steps) StepSame StepOther (λ t h. least Q.rows (AtSame t) (AtOther t) (λ r i. at t r i)))
    where
      go : ((t : ℕ) → t < suc Q.steps → StepSame t) ⊎ ((t : ℕ) × (t < suc Q.steps) × StepOther t × ((u : ℕ) → u < t → StepSame u))
          → SameOn Q G x y ⊎ (Before Q G x y ⊎ Before Q G y x)
      go (inl f) = inl (λ r t m k. f t (omega arith) r m.a_row m)
      go (inr (t, h, (r, i, (m, d), fr), ft)) = inr (side d)
        where
          same : (u q : ℕ) → Member Q G q → Earlier u q t r → x q u ≡ y q u
          same u q n (inl e) = ft u e q n.a_row n
          same u q n (inr (e, l)) = rw e (fr q l n)

          side : (x r t < y r t) ⊎ (y r t < x r t) → Before Q G x y ⊎ Before Q G y x
          side (inl l) = inl (record { time = t; row = r; in_time = omega arith; in_group = m; less = l; same = same })
          side (inr l) =
              inr (record { time = t; row = r; in_time = omega arith; in_group = m; less = l; same = λ u q n e. sym (same u q n e) })

module _ (Q : Problem) (G : Group) where
  pub before_trans : (x y z : Plan) → Before Q G x y → Before Q G y z → Before Q G x z
  before_trans x y z f g = go (places f.time f.row g.time g.row)
    where
      go : Earlier f.time f.row g.time g.row
          ⊎ (((f.time ≡ g.time) × (f.row ≡ g.row)) ⊎ Earlier g.time g.row f.time f.row) → Before Q G x z
      go (inl e) =
          record {
            time = f.time;
            row = f.row;
            in_time = f.in_time;
            in_group = f.in_group;
            less = omega (arith, f.less, g.same f.time f.row f.in_group e);
            same = λ t r m k. f.same t r m k ∙ g.same t r m (earlier_trans t r f.time f.row g.time g.row k e);
          }
      go (inr (inl (a, b))) =
          record {
            time = f.time;
            row = f.row;
            in_time = f.in_time;
            in_group = f.in_group;
            less =
                let l : y f.row f.time < z f.row f.time = rw (a, b) g.less in
                omega (arith, f.less);
            same = λ t r m k. f.same t r m k ∙ g.same t r m (rw (a, b) at k);
          }
      go (inr (inr e)) =
          record {
            time = g.time;
            row = g.row;
            in_time = g.in_time;
            in_group = g.in_group;
            less = omega (arith, g.less, f.same g.time g.row g.in_group e);
            same = λ t r m k. f.same t r m (earlier_trans t r g.time g.row f.time f.row k e) ∙ g.same t r m k;
          }

  before_same_right : (x y z : Plan) → Before Q G x y → SameOn Q G y z → Before Q G x z
  before_same_right x y z f e =
      record {
        time = f.time;
        row = f.row;
        in_time = f.in_time;
        in_group = f.in_group;
        less = omega (arith, f.less, e f.row f.time f.in_group f.in_time);
        same = λ t r m k.
            let h = earlier_time t r f.time f.row k in
            f.same t r m k ∙ e r t m (omega (arith, f.in_time));
      }

module _ {C : Type 0} (S : Measure C) (L : MeasureLaws S) (Q : Problem) (K : ProblemLaws Q) (G : Group) where
  pub wins_cases : (x y : Plan) → Wins S Q G x y ⊎ Wins S Q G y x
  wins_cases x y = go (L.lower_cases (cost S Q G x) (cost S Q G y)) (before_cases Q G x y)
    where
      go : (cost S Q G x ≡ cost S Q G y)
          ⊎ ((S.lower (cost S Q G x) (cost S Q G y) ≡ true) ⊎ (S.lower (cost S Q G y) (cost S Q G x) ≡ true))
          → SameOn Q G x y ⊎ (Before Q G x y ⊎ Before Q G y x) → Wins S Q G x y ⊎ Wins S Q G y x
      go c (inl e) = inl (inl e)
      go (inl c) (inr (inl b)) = inl (inr (inr (c, b)))
      go (inl c) (inr (inr b)) = inr (inr (inr (sym c, b)))
      go (inr (inl c)) (inr b) = inl (inr (inl c))
      go (inr (inr c)) (inr b) = inr (inr (inl c))

  pub wins_trans : (x y z : Plan) → Wins S Q G x y → Wins S Q G y z → Wins S Q G x z
  wins_trans x y z (inl e) (inl f) = inl (λ r t m k. e r t m k ∙ f r t m k)
  wins_trans x y z (inl e) (inr (inl c)) = inr (inl (rw (cost_same S L Q K G x y e) c))
  wins_trans x y z (inl e) (inr (inr c)) =
      inr (inr (cost_same S L Q K G x y e ∙ c.0, before_same Q G y x z (same_sym Q G x y e) c.1))
  wins_trans x y z (inr (inl c)) (inl f) = inr (inl (rw (← cost_same S L Q K G y z f) c))
  wins_trans x y z (inr (inl c)) (inr (inl d)) = inr (inl (L.lower_trans (cost S Q G x) (cost S Q G y) (cost S Q G z) c d))
  wins_trans x y z (inr (inl c)) (inr (inr d)) = inr (inl (rw (← d.0) c))
  wins_trans x y z (inr (inr c)) (inl f) = inr (inr (c.0 ∙ cost_same S L Q K G y z f, before_same_right Q G x y z c.1 f))
  wins_trans x y z (inr (inr c)) (inr (inl d)) = inr (inl (rw c.0 d))
  wins_trans x y z (inr (inr c)) (inr (inr d)) = inr (inr (c.0 ∙ d.0, before_trans Q G x y z c.1 d.1))
