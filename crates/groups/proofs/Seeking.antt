-- The first of all conflicts, by three loops.
use Rattle.std.proofs.Common.{◌≡◌, ℕ, ◌+◌, ◌<◌, ◌≤◌, Bool, true, false, not, ◌&&◌, eqb, sym, refl, ap, ◌∙◌, subst, inl, inr, ⊎_elim, arith}
use Rattle.std.proofs.lemmas.Bool.{cases_lt, and_from, and_parts, and_left, and_right, eqb-false, ne_eqb, not-true, both_ways}
use Rattle.sheets.specs.Problem.{Problem, Group, Member}
use Rattle.sheets.specs.Plan.{Plan, clash}
use Rattle.groups.specs.Parts.{Naming, NoClash, Sooner, FirstClash}

module _ (Q : Problem) (G : Group) (name : Naming) (x : Plan) where
  -- rows r and q are of the group and of different parts, and conflict in the step at t
  pub hit : (t r q : ℕ) → Bool
  hit t r q = ((G r && G q) && not (eqb (name r) (name q))) && clash Q x t r q

  -- none before the step t; none of it before the row r; none of this with a row before q
  abbrev pub StepsClear : ℕ → Type 0
  StepsClear t = (u p o : ℕ) → u < t → p < o → o < Q.rows → hit u p o ≡ false

  abbrev pub RowsClear : (t r : ℕ) → Type 0
  RowsClear t r = (p o : ℕ) → p < r → p < o → o < Q.rows → hit t p o ≡ false

  abbrev pub OthersClear : (t r q : ℕ) → Type 0
  OthersClear t r q = (o : ℕ) → r < o → o < q → hit t r o ≡ false

  pub others_more : (t r q : ℕ) → OthersClear t r q → hit t r q ≡ false → OthersClear t r (q + 1)
  others_more t r q h e o a b =
      ⊎_elim (λ l. h o a l) (λ l. let z : q ≡ o = omega arith in subst (λ (k : ℕ). hit t r k ≡ false) z e) (cases_lt o q)

  pub rows_more : (t r q : ℕ) → Q.rows ≤ q → RowsClear t r → OthersClear t r q → RowsClear t (r + 1)
  rows_more t r q end h e p o a b d =
      ⊎_elim (λ l. h p o l b d) (λ l. let z : r ≡ p = omega arith in subst (λ (k : ℕ). hit t k o ≡ false) z (e o (omega arith) (omega arith))) (cases_lt p r)

  pub steps_more : (t r : ℕ) → Q.rows ≤ r → StepsClear t → RowsClear t r → StepsClear (t + 1)
  steps_more t r end h e u p o a b d =
      ⊎_elim (λ l. h u p o l b d) (λ l. let z : t ≡ u = omega arith in subst (λ (k : ℕ). hit k p o ≡ false) z (e p o (omega arith) b d)) (cases_lt u t)

  -- what is no hit does not conflict, where the rows are of different parts
  clear : (t r q : ℕ) → hit t r q ≡ false → Member Q G r → Member Q G q → (name r ≡ name q → ⊥) → clash Q x t r q ≡ false
  unfolding hit
  clear t r q e m n d = go (clash Q x t r q) refl
    where
      both : ((G r && G q) && not (eqb (name r) (name q))) ≡ true
      both = and_from _ _ (and_from _ _ m.of_group n.of_group) (ap not (ne_eqb (name r) (name q) d))

      go : (b : Bool) → clash Q x t r q ≡ b → clash Q x t r q ≡ false
      go false z = z
      go true z = absurd (both_ways _ e (and_from _ _ both z))

  pub no_hit_apart : (a : Bool) (t r q : ℕ) → a ≡ ((G r && G q) && not (eqb (name r) (name q))) → a ≡ false → hit t r q ≡ false
  unfolding hit
  no_hit_apart a t r q e h = and_left _ _ (sym e ∙ h)

  pub no_hit_clash : (b : Bool) (t r q : ℕ) → b ≡ clash Q x t r q → b ≡ false → hit t r q ≡ false
  unfolding hit
  no_hit_clash b t r q e h = and_right _ _ (sym e ∙ h)

  pub none_found : (t : ℕ) → Q.steps ≤ t → StepsClear t → NoClash Q G name x
  none_found t end h u r q a b m n d = clear u r q (h u r q (omega arith) b n.a_row) m n d

  pub first_found : (a b : Bool) (t r q : ℕ) → t < Q.steps → r < q → q < Q.rows
      → a ≡ ((G r && G q) && not (eqb (name r) (name q))) → a ≡ true → b ≡ clash Q x t r q → b ≡ true
      → StepsClear t → RowsClear t r → OthersClear t r q → FirstClash Q G name x t r q
  first_found a b t r q it ri ro e ea f eb steps rows others =
      let p = and_parts (G r && G q) (not (eqb (name r) (name q))) (sym e ∙ ea) in
      let g = and_parts (G r) (G q) p.0 in
      record {
        in_time = it;
        rising = ri;
        row = record { a_row = omega arith; of_group = g.0 };
        other = record { a_row = ro; of_group = g.1 };
        differ = eqb-false (name r) (name q) (not-true _ p.1);
        conflict = sym f ∙ eb;
        first = at;
      }
    where
      at : (u p o : ℕ) → p < o → Member Q G p → Member Q G o → (name p ≡ name o → ⊥) → Sooner u p o t r q → clash Q x u p o ≡ false
      at u p o k m n d (inl z) = clear u p o (steps u p o z k n.a_row) m n d
      at u p o k m n d (inr (z, inl w)) = clear u p o (subst (λ (i : ℕ). hit i p o ≡ false) (sym z) (rows p o w k n.a_row)) m n d
      at u p o k m n d (inr (z, inr (v, w))) =
          clear u p o (subst (λ (i : ℕ). hit i p o ≡ false) (sym z) (subst (λ (i : ℕ). hit t i o ≡ false) (sym v) (others o (omega arith) w))) m n d
