-- Ways of one step more and of one step fewer.
use Rattle.std.proofs.Common.{◌≡◌, ℕ, zero, suc, ◌+◌, ◌-◌, ◌<◌, ◌≤◌, true, false, cond, eqb, leb, is_some, sym, refl, ap, ◌∙◌, subst, ap₂, ⊎_elim, arith}
use Rattle.std.proofs.lemmas.Bool.{cases_lt, le-leb, lt-leb, cond-true, cond-false, or_left, eq-eqb}
use Rattle.sheets.specs.Problem.{Problem, allowed}
use Rattle.single_check.specs.Ways.{Way, Reaches}

-- the way x up to the time k, and then in the section c
abbrev then : (ℕ → ℕ) → (k c : ℕ) → (ℕ → ℕ)
then x k c t = cond (leb t k) (x t) c

then_before : (x : ℕ → ℕ) (k c t : ℕ) → t ≤ k → then x k c t ≡ x t
then_before x k c t h = cond-true (leb t k) (x t) c (le-leb t k h)

then_after : (x : ℕ → ℕ) (k c t : ℕ) → k < t → then x k c t ≡ c
then_after x k c t h = cond-false (leb t k) (x t) c (lt-leb t k h)

module _ (Q : Problem) (k a b : ℕ) where
  way_more : (c : ℕ) (x : ℕ → ℕ) → Way Q k a b x → allowed Q b c ≡ true → c < Q.sections → Q.closed c ≡ false → Way Q (k + 1) a c (then x k c)
  way_more c x w move inside unclosed =
      let early = then_before x k c in
      let late = then_after x k c in
      record {
        begins = early 0 (omega arith) ∙ w.begins;
        ends = late (k + 1) (omega arith);
        moves = λ t h.
            ⊎_elim
            (λ l. ap₂ (allowed Q) (early t (omega arith)) (early (t + 1) (omega arith)) ∙ w.moves t l)
            (λ l. let e : t ≡ k = omega arith in ap₂ (allowed Q) (early t (omega arith) ∙ ap x e ∙ w.ends) (late (t + 1) (omega arith)) ∙ move)
            (cases_lt t k);
        inside = λ t h.
            ⊎_elim
            (λ l. subst (λ z. z < Q.sections) (sym (late t l)) inside)
            (λ l. subst (λ z. z < Q.sections) (sym (early t l)) (w.inside t l))
            (cases_lt k t);
        not_closed = λ t h.
            ⊎_elim
            (λ l. ap Q.closed (late t l) ∙ unclosed)
            (λ l. ap Q.closed (early t l) ∙ w.not_closed t l)
            (cases_lt k t);
      }

  pub reaches_more : (c : ℕ) → Reaches Q k a b → allowed Q b c ≡ true → c < Q.sections → Q.closed c ≡ false → Reaches Q (k + 1) a c
  reaches_more c r move inside unclosed = (then r.0 k c, way_more c r.0 r.1 move inside unclosed)

  -- the last section of a way is on the layout, and open
  pub reaches_inside : Reaches Q k a b → b < Q.sections
  reaches_inside r = subst (λ z. z < Q.sections) r.1.ends (r.1.inside k (omega arith))

  pub reaches_open : Reaches Q k a b → Q.closed b ≡ false
  reaches_open r = ap Q.closed (sym r.1.ends) ∙ r.1.not_closed k (omega arith)

  -- a train that has arrived stands
  pub reaches_later : Reaches Q k a b → Reaches Q (k + 1) a b
  reaches_later r = reaches_more b r (or_left (eqb b b) (is_some (Q.points b b)) (eq-eqb b b refl)) (reaches_inside r) (reaches_open r)

  -- the last step of a way
  pub record LastStep : Type 0 where
    pub from : ℕ
    pub first : Reaches Q k a from
    pub move : allowed Q from b ≡ true

  pub last_step : Reaches Q (k + 1) a b → LastStep
  last_step r =
      let x = r.0 in
      let w = r.1 in
      record {
        from = x k;
        first = (x, record { begins = w.begins; ends = refl; moves = λ t h. w.moves t (omega arith); inside = λ t h. w.inside t (omega arith); not_closed = λ t h. w.not_closed t (omega arith) });
        move = ap (allowed Q (x k)) (sym w.ends) ∙ w.moves k (omega arith);
      }

-- a way of no step
pub reaches_none : (Q : Problem) (a : ℕ) → a < Q.sections → Q.closed a ≡ false → Reaches Q 0 a a
reaches_none Q a inside unclosed = (λ t. a, record { begins = refl; ends = refl; moves = λ t h. absurd (omega arith); inside = λ t h. inside; not_closed = λ t h. unclosed })

pub reaches_same : (Q : Problem) (a b : ℕ) → Reaches Q 0 a b → b ≡ a
reaches_same Q a b r = sym r.1.ends ∙ r.1.begins

-- what is reached in k steps is reached in any more
reaches_after : (Q : Problem) (k a b n : ℕ) → Reaches Q k a b → Reaches Q (k + n) a b
reaches_after Q k a b zero r = let e : k ≡ k + 0 = omega arith in subst (λ z. Reaches Q z a b) e r
reaches_after Q k a b (suc n) r = let e : (k + n) + 1 ≡ k + suc n = omega arith in subst (λ z. Reaches Q z a b) e (reaches_later Q (k + n) a b (reaches_after Q k a b n r))

pub reaches_by : (Q : Problem) (k n a b : ℕ) → k ≤ n → Reaches Q k a b → Reaches Q n a b
reaches_by Q k n a b h r = let e : k + (n - k) ≡ n = omega arith in subst (λ z. Reaches Q z a b) e (reaches_after Q k a b (n - k) r)
