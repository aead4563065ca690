-- The neighbours of a section and itself, put together in rising order.
use Rattle.std.proofs.Common.{◌≡◌, ℕ, zero, suc, ◌+◌, ◌-◌, ◌<◌, ◌≤◌, true, false, eqb, List, length, get_or, is_some, Some, None, Option, sym, refl, ap, ◌∙◌, subst, ⊎_elim, arith}
use Rattle.std.proofs.lemmas.Bool.{cases_lt, or_cases, or_left, or_right, eqb-true, eq-eqb, both_ways}
use Rattle.std.proofs.lemmas.List.Edits.{length-insert, get_or-insert_below, get_or-insert_at, get_or-insert_above}
use Rattle.std.specs.List.{insert}
use Rattle.track.specs.Layouts.{sections_of, look, Neighbours}
use Rattle.track.specs.declared.layout.Layout.{Layout}
use Rattle.track.proofs.Laws.{look_inside, look_self, sections_most}
use Rattle.table.specs.Candidates.{Candidates, reached}

-- numbers that rise are no fewer than their places
rises : (xs : List ℕ) → ((i j : ℕ) → i < j → j < length xs → get_or xs i 0 < get_or xs j 0) → (i : ℕ) → i < length xs → i ≤ get_or xs i 0
rises xs up zero h = omega arith
rises xs up (suc i) h = let a = rises xs up i (omega arith) in let b = up i (suc i) (omega arith) h in omega arith

module _ (l : Layout) (a : ℕ) (xs : List ℕ) (N : Neighbours l a xs) where
  on : (i : ℕ) → i < length xs → get_or xs i 0 < sections_of l
  on i h = go (look l a (get_or xs i 0)) (λ p e. (look_inside l a (get_or xs i 0) p e).1) (N.linked i h)
    where
      go : (o : Option ℕ) → ((p : ℕ) → o ≡ Some p → get_or xs i 0 < sections_of l) → is_some o ≡ true → get_or xs i 0 < sections_of l
      go None f e = absurd (both_ways false refl e)
      go (Some p) f e = f p refl

  -- there are fewer of them than sections
  pub few : length xs ≤ 32
  few = ⊎_elim
      (λ h. let u = rises xs N.rising (length xs - 1) (omega arith) in let v = on (length xs - 1) (omega arith) in omega (arith, sections_most l))
      (λ h. omega arith)
      (cases_lt 32 (length xs))

  pub not_falling : (i j : ℕ) → i ≤ j → j < length xs → get_or xs i 0 ≤ get_or xs j 0
  not_falling i j h k = ⊎_elim (λ u. omega (arith, N.rising i j u k)) (λ u. let e : i ≡ j = omega arith in omega (arith, ap (λ z. get_or xs z 0) e)) (cases_lt i j)

  linked : (i : ℕ) → i < length xs → reached l a (get_or xs i 0) ≡ true
  linked i h = or_right (eqb a (get_or xs i 0)) (is_some (look l a (get_or xs i 0))) (N.linked i h)

  -- the section itself is none of them
  apart : (i : ℕ) → i < length xs → a ≡ get_or xs i 0 → ⊥
  apart i h e = both_ways (is_some (look l a a)) (look_self l a) (subst (λ z. is_some (look l a z) ≡ true) (sym e) (N.linked i h))

  -- it is put in before the first that is higher
  module _ (cut : ℕ) (c : cut ≤ length xs) (low : (i : ℕ) → i < cut → get_or xs i 0 < a) (high : (i : ℕ) → cut ≤ i → i < length xs → a ≤ get_or xs i 0) where
    abbrev ys : List ℕ
    ys = insert xs cut a

    long : length ys ≡ length xs + 1
    long = length-insert xs cut a c

    above : (i : ℕ) → cut ≤ i → i < length xs → a < get_or xs i 0
    above i h k = ⊎_elim (λ z. z) (λ z. absurd (apart i k (let v = high i h k in omega arith))) (cases_lt a (get_or xs i 0))

    -- what stands at a place
    before : (i : ℕ) → i < cut → get_or ys i 0 ≡ get_or xs i 0
    before i h = get_or-insert_below xs cut a 0 i h c

    here : get_or ys cut 0 ≡ a
    here = get_or-insert_at xs cut a 0 c

    after : (i : ℕ) → cut < i → get_or ys i 0 ≡ get_or xs (i - 1) 0
    after i h = let e : i - 1 + 1 ≡ i = omega arith in subst (λ z. get_or ys z 0 ≡ get_or xs (i - 1) 0) e (get_or-insert_above xs cut a 0 (i - 1) (omega arith) c)

    -- a property of each place
    each : (P : ℕ → ℕ → Type 0) → ((i : ℕ) → i < cut → P i (get_or xs i 0)) → P cut a → ((i : ℕ) → cut < i → i < length ys → P i (get_or xs (i - 1) 0)) → (i : ℕ) → i < length ys → P i (get_or ys i 0)
    each P f g k i h =
        ⊎_elim
        (λ u. subst (P i) (sym (before i u)) (f i u))
        (λ u. ⊎_elim
        (λ v. subst (P i) (sym (after i v)) (k i v h))
        (λ v. let e : cut ≡ i = omega arith in subst (λ z. P z (get_or ys z 0)) e (subst (P cut) (sym here) g))
        (cases_lt cut i))
        (cases_lt i cut)

    up : (i j : ℕ) → i < j → j < length ys → get_or ys i 0 < get_or ys j 0
    up i j u h =
        each (λ q y. i < q → get_or ys i 0 < y)
        (λ q v w. subst (λ z. z < get_or xs q 0) (sym (before i (omega arith))) (N.rising i q w (omega arith)))
        (λ w. subst (λ z. z < a) (sym (before i w)) (low i w))
        (λ q v k w. let qx : q - 1 < length xs = omega (arith, long) in
        each (λ p y. p < q → y < get_or xs (q - 1) 0)
        (λ p m n. N.rising p (q - 1) (omega arith) qx)
        (λ n. above (q - 1) (omega arith) qx)
        (λ p m n o. N.rising (p - 1) (q - 1) (omega arith) qx)
        i (omega arith) w)
        j h u

    pub candidates_all : a < sections_of l → Candidates (sections_of l) (reached l a) ys
    candidates_all h = record {
      few = omega (arith, long, few);
      rising = up;
      in_reach = each (λ i y. reached l a y ≡ true) (λ i v. linked i (omega arith)) (or_left (eqb a a) (is_some (look l a a)) (eq-eqb a a refl)) (λ i v k. linked (i - 1) (omega (arith, long)));
      inside = each (λ i y. y < sections_of l) (λ i v. on i (omega arith)) h (λ i v k. on (i - 1) (omega (arith, long)));
      every = λ x k e. ⊎_elim
          (λ u. (cut, omega (arith, long), here ∙ eqb-true a x u))
          (λ u. let w = N.every x u in ⊎_elim
          (λ v. (w.0, omega (arith, long, w.1), before w.0 v ∙ w.2))
          (λ v. (w.0 + 1, omega (arith, long, w.1), get_or-insert_above xs cut a 0 w.0 v c ∙ w.2))
          (cases_lt w.0 cut))
          (or_cases (eqb a x) (is_some (look l a x)) e);
    }
