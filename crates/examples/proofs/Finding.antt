-- The first conflict between the parts of a group, found by tests that compute.
use Rattle.std.proofs.Common.{◌≡◌, ℕ, zero, suc, ◌<◌, ◌≤◌, Bool, true, false, not, ◌&&◌, eqb, ltb, refl, ap, inl, inr, arith}
use Rattle.std.proofs.lemmas.Bool.{and_parts, and_from, both_ways, ltb-true, ltb-false, lt-ltb, eqb-false, ne_eqb, not-true}
use Rattle.sheets.specs.Problem.{Problem, Group, Member}
use Rattle.sheets.specs.Plan.{Plan, clash}
use Rattle.groups.specs.Parts.{Naming, NoClash, Sooner, FirstClash}

-- the first number below n that passes the test, or n
abbrev pub first_of : ℕ → (ℕ → Bool) → ℕ
first_of zero f = zero
first_of (suc n) f = elim (f zero) [ true ↦ zero | false ↦ suc (first_of n (λ i. f (suc i))) ]

-- where it stands: it passes, unless it is n, and none before it does
pub record At (n : ℕ) (f : ℕ → Bool) (k : ℕ) : Type 0 where
  pub passes : k < n → f k ≡ true
  pub before : (i : ℕ) → i < k → f i ≡ false

pub first_at : (n : ℕ) (f : ℕ → Bool) → At n f (first_of n f)
first_at zero f = record { passes = λ h. absurd (omega arith); before = λ i h. absurd (omega arith) }
first_at (suc n) f = go (f zero) refl (first_at n (λ i. f (suc i)))
  where
    go : (b : Bool) → f zero ≡ b → At n (λ i. f (suc i)) (first_of n (λ i. f (suc i)))
        → At (suc n) f (elim b [ true ↦ zero | false ↦ suc (first_of n (λ i. f (suc i))) ])
    go true e h = record { passes = λ l. e; before = λ i l. absurd (omega arith) }
    go false e h = record { passes = λ l. h.passes (omega arith); before = at }
      where
        at : (i : ℕ) → i < suc (first_of n (λ i. f (suc i))) → f i ≡ false
        at zero l = e
        at (suc i) l = h.before i (omega arith)

module _ (Q : Problem) (G : Group) (name : Naming) (x : Plan) where
  -- rows r and q are of the group and of different parts, r below q, and conflict in the step at t
  abbrev hit : (t r q : ℕ) → Bool
  hit t r q = ltb r q && ((G r && G q) && (not (eqb (name r) (name q)) && clash Q x t r q))

  abbrev pub first_other : (t r : ℕ) → ℕ
  first_other t r = first_of Q.rows (hit t r)

  abbrev pub first_row : (t : ℕ) → ℕ
  first_row t = first_of Q.rows (λ r. ltb (first_other t r) Q.rows)

  abbrev pub first_step : ℕ
  first_step = first_of Q.steps (λ t. ltb (first_row t) Q.rows)

  -- what is no hit does not conflict, where the rows are of different parts
  free : (t r q : ℕ) → hit t r q ≡ false → r < q → Member Q G r → Member Q G q → (name r ≡ name q → ⊥) → clash Q x t r q ≡ false
  free t r q e l m n d = go (clash Q x t r q) refl
    where
      go : (b : Bool) → clash Q x t r q ≡ b → clash Q x t r q ≡ false
      go false z = z
      go true z =
          absurd
          (both_ways (hit t r q) e
          (and_from _ _ (lt-ltb r q l) (and_from _ _ (and_from _ _ m.of_group n.of_group) (and_from _ _ (ap not (ne_eqb (name r) (name q) d)) z))))

  -- no hit in this step with this row before the first; none in this step before the first row
  other_free : (t r o : ℕ) → o < first_other t r → hit t r o ≡ false
  other_free t r o l = (first_at Q.rows (hit t r)).before o l

  row_free : (t p o : ℕ) → p < first_row t → o < Q.rows → hit t p o ≡ false
  row_free t p o l h =
      let e = ltb-false _ _ ((first_at Q.rows (λ r. ltb (first_other t r) Q.rows)).before p l) in
      other_free t p o (omega arith)

  step_free : (u p o : ℕ) → u < first_step → p < Q.rows → o < Q.rows → hit u p o ≡ false
  step_free u p o l i h =
      let e = ltb-false _ _ ((first_at Q.steps (λ t. ltb (first_row t) Q.rows)).before u l) in
      row_free u p o (omega arith) h

  pub nowhere : Q.steps ≤ first_step → NoClash Q G name x
  nowhere h t r q i l m n d = free t r q (step_free t r q (omega arith) m.a_row n.a_row) l m n d

  pub somewhere : first_step < Q.steps → FirstClash Q G name x first_step (first_row first_step) (first_other first_step (first_row first_step))
  somewhere h =
      record {
        in_time = h;
        rising = ltb-true _ _ a.0;
        row = record { a_row = hr; of_group = c.0 };
        other = record { a_row = hq; of_group = c.1 };
        differ = eqb-false _ _ (not-true _ d.0);
        conflict = d.1;
        first = at;
      }
    where
      t : ℕ
      t = first_step

      r : ℕ
      r = first_row t

      q : ℕ
      q = first_other t r

      hr : r < Q.rows
      hr = ltb-true _ _ ((first_at Q.steps (λ u. ltb (first_row u) Q.rows)).passes h)

      hq : q < Q.rows
      hq = ltb-true _ _ ((first_at Q.rows (λ p. ltb (first_other t p) Q.rows)).passes hr)

      a : (ltb r q ≡ true) × (((G r && G q) && (not (eqb (name r) (name q)) && clash Q x t r q)) ≡ true)
      a = and_parts _ _ ((first_at Q.rows (hit t r)).passes hq)

      b : ((G r && G q) ≡ true) × ((not (eqb (name r) (name q)) && clash Q x t r q) ≡ true)
      b = and_parts _ _ a.1

      c : (G r ≡ true) × (G q ≡ true)
      c = and_parts _ _ b.0

      d : (not (eqb (name r) (name q)) ≡ true) × (clash Q x t r q ≡ true)
      d = and_parts _ _ b.1

      at : (u p o : ℕ) → p < o → Member Q G p → Member Q G o → (name p ≡ name o → ⊥) → Sooner u p o t r q → clash Q x u p o ≡ false
      at u p o l m n v (inl z) = free u p o (step_free u p o z m.a_row n.a_row) l m n v
      at u p o l m n v (inr (z, inl w)) = free u p o (rw z (row_free t p o w n.a_row)) l m n v
      at u p o l m n v (inr (z, inr (y, w))) = free u p o (rw (z, y) (other_free t r o w)) l m n v
