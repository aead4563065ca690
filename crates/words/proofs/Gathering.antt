-- The rows of a group in rising order.
use Rattle.std.proofs.Common.{◌≡◌, ℕ, zero, suc, ◌+◌, ◌<◌, ◌≤◌, Bool, true, false, cond, ◌&&◌, eqb, List, [], ◌∷◌, ◌++◌, length, get_or, take, sym, refl, ap, ◌∙◌, subst, ⊎_elim, arith, take-suc}
use Rattle.std.proofs.lemmas.Bool.{cases_lt, cases_order, cases_Bool, and_parts, and_cases, eqb-true, eqb-false, both_ways}
use Rattle.sheets.specs.Problem.{Group, Problem, Member}
use Rattle.sheets.specs.Problem.{count}
use Rattle.words.specs.Bridge.{Picks, counted}
use Rattle.words.specs.Gathering.{Gathered, row_at, EveryGroupPicks}

pub take_counted : (xs : List ℕ) (m : ℕ) (h : ℕ → ℕ) → m ≤ length xs → ((i : ℕ) → i < m → get_or xs i 0 ≡ h i) → take m xs ≡ counted m h
take_counted [] zero h l e = refl
take_counted (x ∷ xs) zero h l e = refl
take_counted xs (suc m) h l e =
    let ih = take_counted xs m h (omega arith) (λ i k. e i (omega arith)) in
    take-suc xs m 0 (omega arith) ∙ ap (λ w. w ++ (get_or xs m 0 ∷ [])) ih ∙ ap (λ v. counted m h ++ (v ∷ [])) (e m (omega arith))

module _ (G : Group) where
  pub count_more : (n : ℕ) → G n ≡ true → count (suc n) G ≡ count n G + 1
  count_more n e = ap (λ b. count n G + cond b 1 0) e

  pub count_less : (n : ℕ) → G n ≡ false → count (suc n) G ≡ count n G + 0
  count_less n e = ap (λ b. count n G + cond b 1 0) e

  pub count_mono : (n m : ℕ) → m ≤ n → count m G ≤ count n G
  count_mono zero m h = let e : m ≡ 0 = omega arith in subst (λ z. count z G ≤ count 0 G) (sym e) (omega arith)
  count_mono (suc n) m h =
      ⊎_elim (λ l. let ih = count_mono n m (omega arith) in omega arith)
      (λ l. let e : m ≡ suc n = omega arith in subst (λ z. count z G ≤ count (suc n) G) (sym e) (omega arith)) (cases_lt m (suc n))

  count_same : (r q : ℕ) → G r ≡ true → G q ≡ true → count r G ≡ count q G → r ≡ q
  count_same r q gr gq e =
      ⊎_elim (λ z. z)
      (⊎_elim (λ l. absurd (omega (arith, count_mono q (suc r) l, count_more r gr)))
      (λ l. absurd (omega (arith, count_mono r (suc q) l, count_more q gq)))) (cases_order r q)

  pub gathered_picks : (Q : Problem) (k : ℕ) (row : ℕ → ℕ) → Gathered Q G k row → 1 ≤ k → Picks Q G k row (λ r. count r G)
  gathered_picks Q k row H k1 = record {
    some = k1;
    member = H.member;
    rising = λ i j l h. ⊎_elim (λ z. z) (λ z. absurd (omega (arith, count_mono (row i) (row j) z, H.place i (omega arith), H.place j h))) (cases_lt (row i) (row j));
    within = λ r m. within r m;
    back = λ r m. count_same (row (count r G)) r (H.member (count r G) (within r m)).of_group m.of_group (H.place (count r G) (within r m));
  }
    where
      within : (r : ℕ) → Member Q G r → count r G < k
      within r m = omega (arith, count_mono Q.rows (suc r) m.a_row, count_more r m.of_group, H.size)

  abbrev RowFacts : (n i r : ℕ) → Type 0
  RowFacts n i r = (r < n) × (G r ≡ true) × (count r G ≡ i)

  row_facts : (n i : ℕ) → i < count n G → RowFacts n i (row_at G n i)
  row_facts zero i h = absurd (omega arith)
  row_facts (suc n) i h = go (G n && eqb (count n G) i) refl (λ l. row_facts n i l)
    where
      earlier : (G n && eqb (count n G) i) ≡ false → i < count n G
      earlier e =
          ⊎_elim
          (λ g. ⊎_elim (λ f. absurd (both_ways (G n) f g)) (λ f. ⊎_elim (λ l. l) (λ l. absurd (eqb-false _ _ f (omega (arith, count_more n g)))) (cases_lt i (count n G))) (and_cases _ _ e))
          (λ g. omega (arith, count_less n g))
          (cases_Bool (G n))

      go : (b : Bool) → (G n && eqb (count n G) i) ≡ b → (i < count n G → RowFacts n i (row_at G n i)) → RowFacts (suc n) i (cond b n (row_at G n i))
      go true e ih = let p = and_parts _ _ e in (omega arith, p.0, eqb-true _ _ p.1)
      go false e ih = let f = ih (earlier e) in (omega (arith, f.0), f.1, f.2)

pub every_group_picks : EveryGroupPicks
every_group_picks Q G r m =
    gathered_picks G Q (count Q.rows G) (row_at G Q.rows)
    (record {
      size = refl;
      member = λ i h. (let f = row_facts G Q.rows i h in record { a_row = f.0; of_group = f.1 });
      place = λ i h. (row_facts G Q.rows i h).2;
    })
    (omega (arith, count_mono G Q.rows (suc r) m.a_row, count_more G r m.of_group))
