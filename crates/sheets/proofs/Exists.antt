-- A group has a best sheet, or none that is lawful.
use Rattle.std.proofs.Common.{◌≡◌, ℕ, zero, suc, ◌<◌, ◌≤◌, min, cond, ◌&&◌, eqb, ltb, ◌⊎◌, sym, refl, ◌∙◌, inl, inr, arith}
use Rattle.std.proofs.lemmas.Bool.{cases_eq, cases_lt, cond-true, cond-false, and_from, and_left, and_right, eq-eqb, ne_eqb, lt-ltb, le-ltb}
use Rattle.scales.specs.Measure.{Measure, MeasureLaws}
use Rattle.sheets.specs.Problem.{Group, Problem, ProblemLaws}
use Rattle.sheets.specs.Plan.{Plan, Lawful, SameOn, Wins, Best}
use Rattle.sheets.specs.Plan.{Without}
use Rattle.sheets.proofs.Places.{same_sym}
use Rattle.sheets.proofs.Sheets.{lawful_same}
use Rattle.sheets.proofs.Order.{wins_cases, wins_trans}
use Rattle.sheets.proofs.Decide.{told_lawful}

-- x with v for row r at time t
set : Plan → (r t v : ℕ) → Plan
set x r t v q u = cond (eqb q r && eqb u t) v (x q u)

set_at : (x : Plan) (r t v q u : ℕ) → q ≡ r → u ≡ t → set x r t v q u ≡ v
unfolding set
set_at x r t v q u a b = cond-true (eqb q r && eqb u t) v (x q u) (and_from (eqb q r) (eqb u t) (eq-eqb q r a) (eq-eqb u t b))

set_off : (x : Plan) (r t v q u : ℕ) → (q ≡ r → ⊥) ⊎ (u ≡ t → ⊥) → set x r t v q u ≡ x q u
unfolding set
set_off x r t v q u (inl a) = cond-false (eqb q r && eqb u t) v (x q u) (and_left (eqb q r) (eqb u t) (ne_eqb q r a))
set_off x r t v q u (inr a) = cond-false (eqb q r && eqb u t) v (x q u) (and_right (eqb q r) (eqb u t) (ne_eqb u t a))

module _ {C : Type 0} (S : Measure C) (L : MeasureLaws S) (Q : Problem) (K : ProblemLaws Q) (G : Group) where
  -- of the sheets with P none is lawful, or a lawful sheet wins against each that is
  abbrev Settled : (Plan → Type 0) → Type 0
  Settled P =
      ((h : Plan) → P h → Lawful Q G h → ⊥)
      ⊎ ((g : Plan) × Lawful Q G g × ((h : Plan) → P h → Lawful Q G h → Wins S Q G g h))

  fewer : (P R : Plan → Type 0) → ((h : Plan) → P h → R h) → Settled R → Settled P
  fewer P R i (inl n) = inl (λ h p. n h (i h p))
  fewer P R i (inr (g, l, w)) = inr (g, l, λ h p. w h (i h p))

  both : (P R : Plan → Type 0) → Settled P → Settled R → Settled (λ h. P h ⊎ R h)
  both P R (inl n) (inl m) = inl go
    where
      go : (h : Plan) → P h ⊎ R h → Lawful Q G h → ⊥
      go h (inl p) = n h p
      go h (inr p) = m h p
  both P R (inl n) (inr (g, l, w)) = inr (g, l, go)
    where
      go : (h : Plan) → P h ⊎ R h → Lawful Q G h → Wins S Q G g h
      go h (inl p) k = absurd (n h p k)
      go h (inr p) k = w h p k
  both P R (inr (g, l, w)) (inl n) = inr (g, l, go)
    where
      go : (h : Plan) → P h ⊎ R h → Lawful Q G h → Wins S Q G g h
      go h (inl p) k = w h p k
      go h (inr p) k = absurd (n h p k)
  both P R (inr (g, l, w)) (inr (f, k, v)) = pick (wins_cases S L Q K G g f)
    where
      left : Wins S Q G g f → (h : Plan) → P h ⊎ R h → Lawful Q G h → Wins S Q G g h
      left c h (inl p) j = w h p j
      left c h (inr p) j = wins_trans S L Q K G g f h c (v h p j)

      right : Wins S Q G f g → (h : Plan) → P h ⊎ R h → Lawful Q G h → Wins S Q G f h
      right c h (inl p) j = wins_trans S L Q K G f g h c (w h p j)
      right c h (inr p) j = v h p j

      pick : Wins S Q G g f ⊎ Wins S Q G f g → Settled (λ h. P h ⊎ R h)
      pick (inl c) = inr (g, l, left c)
      pick (inr c) = inr (f, k, right c)

  -- a sheet that is x but at the places of A, where it has any section up to the last
  abbrev Near : (ℕ → ℕ → Type 0) → Plan → Plan → Type 0
  Near A x h = (r t : ℕ) → (h r t ≡ x r t) ⊎ (A r t × (h r t ≤ Q.sections))

  near_none : (x : Plan) → Settled (Near (λ r t. ⊥) x)
  near_none x = go (told_lawful Q G x)
    where
      same : (h : Plan) → Near (λ r t. ⊥) x h → SameOn Q G h x
      same h n r t m k = at (n r t)
        where
          at : (h r t ≡ x r t) ⊎ (⊥ × (h r t ≤ Q.sections)) → h r t ≡ x r t
          at (inl e) = e
          at (inr e) = absurd e.0

      go : Lawful Q G x ⊎ (Lawful Q G x → ⊥) → Settled (Near (λ r t. ⊥) x)
      go (inl l) = inr (x, l, λ h n k. inl (same_sym Q G h x (same h n)))
      go (inr c) = inl (λ h n k. c (lawful_same Q G h x (same h n) k))

  -- one place more
  abbrev With : (ℕ → ℕ → Type 0) → (r t : ℕ) → ℕ → ℕ → Type 0
  With A r t q u = A q u ⊎ ((q ≡ r) × (u ≡ t))

  near_more : (A : ℕ → ℕ → Type 0) → ((x : Plan) → Settled (Near A x)) → (r t : ℕ) (x : Plan) → Settled (Near (With A r t) x)
  near_more A s r t x = fewer _ (λ h. Near A x h ⊎ Some (suc Q.sections) h) cover (both _ _ (s x) (upto (suc Q.sections)))
    where
      Some : ℕ → Plan → Type 0
      Some n h = (v : ℕ) × (v < n) × Near A (set x r t v) h

      upto : (n : ℕ) → Settled (Some n)
      upto zero = inl (λ h p. absurd (omega (arith, p.1)))
      upto (suc n) = fewer _ (λ h. Some n h ⊎ Near A (set x r t n) h) split (both _ _ (upto n) (s (set x r t n)))
        where
          split : (h : Plan) → Some (suc n) h → Some n h ⊎ Near A (set x r t n) h
          split h (v, k, p) = go (cases_lt v n)
            where
              go : (v < n) ⊎ (n ≤ v) → Some n h ⊎ Near A (set x r t n) h
              go (inl e) = inl (v, e, p)
              go (inr e) = let z : v ≡ n = omega arith in inr (rw z at p)

      cover : (h : Plan) → Near (With A r t) x h → Near A x h ⊎ Some (suc Q.sections) h
      cover h n = go (n r t)
        where
          go : (h r t ≡ x r t) ⊎ (With A r t r t × (h r t ≤ Q.sections)) → Near A x h ⊎ Some (suc Q.sections) h
          go (inl e) = inl (λ q u. at q u (n q u))
            where
              at : (q u : ℕ) → (h q u ≡ x q u) ⊎ (With A r t q u × (h q u ≤ Q.sections)) → (h q u ≡ x q u) ⊎ (A q u × (h q u ≤ Q.sections))
              at q u (inl f) = inl f
              at q u (inr (inl a, b)) = inr (a, b)
              at q u (inr (inr (a, c), b)) = inl (rw (a, c) e)
          go (inr (w, b)) = inr (h r t, omega arith, λ q u. at q u (cases_eq q r) (cases_eq u t) (n q u))
            where
              z : Plan
              z = set x r t (h r t)

              off : (q u : ℕ) → (q ≡ r → ⊥) ⊎ (u ≡ t → ⊥) → (h q u ≡ x q u) ⊎ (With A r t q u × (h q u ≤ Q.sections))
                  → (h q u ≡ z q u) ⊎ (A q u × (h q u ≤ Q.sections))
              off q u d (inl f) = inl (f ∙ sym (set_off x r t (h r t) q u d))
              off q u d (inr (inl a, b)) = inr (a, b)
              off q u (inl d) (inr (inr (a, c), b)) = absurd (d a)
              off q u (inr d) (inr (inr (a, c), b)) = absurd (d c)

              at : (q u : ℕ) → (q ≡ r) ⊎ (q ≡ r → ⊥) → (u ≡ t) ⊎ (u ≡ t → ⊥) → (h q u ≡ x q u) ⊎ (With A r t q u × (h q u ≤ Q.sections))
                  → (h q u ≡ z q u) ⊎ (A q u × (h q u ≤ Q.sections))
              at q u (inl a) (inl c) f = inl (rw (a, c) (sym (set_at x r t (h r t) r t refl refl)))
              at q u (inr d) c f = off q u (inl d) f
              at q u (inl a) (inr d) f = off q u (inr d) f

  -- the places of the rows below m, and of the row m those before n
  abbrev Box : (m n : ℕ) → ℕ → ℕ → Type 0
  Box m n r t = ((r < m) × (t ≤ Q.steps)) ⊎ ((r ≡ m) × (t < n))

  near_sub : (A B : ℕ → ℕ → Type 0) → ((r t : ℕ) → A r t → B r t) → (x : Plan) → Settled (Near B x) → Settled (Near A x)
  near_sub A B i x = fewer (Near A x) (Near B x) (λ h n r t. at h r t (n r t))
    where
      at : (h : Plan) (r t : ℕ) → (h r t ≡ x r t) ⊎ (A r t × (h r t ≤ Q.sections)) → (h r t ≡ x r t) ⊎ (B r t × (h r t ≤ Q.sections))
      at h r t (inl e) = inl e
      at h r t (inr (a, b)) = inr (i r t a, b)

  row_box : (m : ℕ) → ((x : Plan) → Settled (Near (Box m 0) x)) → (n : ℕ) (x : Plan) → Settled (Near (Box m n) x)
  row_box m s zero x = s x
  row_box m s (suc n) x = near_sub (Box m (suc n)) (With (Box m n) m n) sub x (near_more (Box m n) (row_box m s n) m n x)
    where
      sub : (r t : ℕ) → Box m (suc n) r t → With (Box m n) m n r t
      sub r t (inl a) = inl (inl a)
      sub r t (inr (a, b)) = go (cases_lt t n)
        where
          go : (t < n) ⊎ (n ≤ t) → With (Box m n) m n r t
          go (inl c) = inl (inr (a, c))
          go (inr c) = inr (a, omega arith)

  box : (m : ℕ) (x : Plan) → Settled (Near (Box m 0) x)
  box zero x = near_sub (Box 0 0) (λ r t. ⊥) none x (near_none x)
    where
      none : (r t : ℕ) → Box 0 0 r t → ⊥
      none r t b = omega arith
  box (suc m) x = near_sub (Box (suc m) 0) (Box m (suc Q.steps)) sub x (row_box m (box m) (suc Q.steps) x)
    where
      sub : (r t : ℕ) → Box (suc m) 0 r t → Box m (suc Q.steps) r t
      sub r t (inl (a, b)) = go (cases_lt r m)
        where
          go : (r < m) ⊎ (m ≤ r) → Box m (suc Q.steps) r t
          go (inl c) = inl (c, b)
          go (inr c) = inr (omega arith, omega arith)
      sub r t (inr (a, b)) = absurd (omega arith)

  -- a sheet cut to the rows, the times and the sections that there are
  cut : Plan → Plan
  cut y r t = cond (ltb r Q.rows && ltb t (suc Q.steps)) (min (y r t) Q.sections) 0

  cut_in : (y : Plan) (r t : ℕ) → r < Q.rows → t ≤ Q.steps → cut y r t ≡ min (y r t) Q.sections
  unfolding cut
  cut_in y r t a b = cond-true _ _ _ (and_from _ _ (lt-ltb r Q.rows a) (lt-ltb t (suc Q.steps) (omega arith)))

  cut_out : (y : Plan) (r t : ℕ) → (Q.rows ≤ r) ⊎ (suc Q.steps ≤ t) → cut y r t ≡ 0
  unfolding cut
  cut_out y r t (inl a) = cond-false _ _ _ (and_left _ _ (le-ltb r Q.rows a))
  cut_out y r t (inr b) = cond-false _ _ _ (and_right _ _ (le-ltb t (suc Q.steps) b))

  cut_near : (y : Plan) → Near (Box Q.rows 0) (λ r t. 0) (cut y)
  cut_near y r t = go (cases_lt r Q.rows) (cases_lt t (suc Q.steps))
    where
      go : (r < Q.rows) ⊎ (Q.rows ≤ r) → (t < suc Q.steps) ⊎ (suc Q.steps ≤ t)
          → (cut y r t ≡ 0) ⊎ (Box Q.rows 0 r t × (cut y r t ≤ Q.sections))
      go (inl a) (inl b) = inr (inl (a, omega arith), omega (arith, cut_in y r t a (omega arith)))
      go (inr a) b = inl (cut_out y r t (inl a))
      go (inl a) (inr b) = inl (cut_out y r t (inr b))

  cut_same : (y : Plan) → Lawful Q G y → SameOn Q G (cut y) y
  cut_same y l r t m k = omega (arith, cut_in y r t m.a_row k, l.inside r t m k)

  pub best_or_none : ((y : Plan) × Best S Q G y) ⊎ Without Q G
  best_or_none = go (box Q.rows (λ r t. 0))
    where
      cut_lawful : (y : Plan) → Lawful Q G y → Lawful Q G (cut y)
      cut_lawful y l = lawful_same Q G y (cut y) (same_sym Q G (cut y) y (cut_same y l)) l

      go : Settled (Near (Box Q.rows 0) (λ r t. 0)) → ((y : Plan) × Best S Q G y) ⊎ Without Q G
      go (inl n) = inr (λ y l. n (cut y) (cut_near y) (cut_lawful y l))
      go (inr (g, l, w)) =
          inl (
            g,
            record {
              lawful = l;
              wins = λ y k. wins_trans S L Q K G g (cut y) y (w (cut y) (cut_near y) (cut_lawful y k)) (inl (cut_same y k));
            },
          )
