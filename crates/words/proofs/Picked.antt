-- A group's rows in rising order, as the rows of a question of their own.
use Rattle.std.proofs.Common.{◌≡◌, ℕ, zero, suc, ◌-◌, ◌*◌, ◌<◌, ◌≤◌, Bool, true, false, cond, sym, refl, ap, ◌∙◌, subst, ap₂, inl, inr, ⊎_elim, true≢false, arith}
use Rattle.std.proofs.lemmas.Bool.{cases_lt, cases_order, cases_Bool}
use Rattle.scales.specs.Measure.{Measure, MeasureLaws, joined}
use Rattle.sheets.specs.Problem.{Problem, ProblemLaws, Posed, Group, Member, everyone}
use Rattle.sheets.specs.Plan.{Plan, Lawful, Before, Earlier, row_cost, cost, clash}
use Rattle.scales.proofs.Joins.{joined_size}
use Rattle.sheets.proofs.Costs.{row_size}
use Rattle.words.specs.Bridge.{Picks, alone, seen, Starts}
use Rattle.words.proofs.Orders.{Gap}

module _ (Q : Problem) (G : Group) (k : ℕ) (row place : ℕ → ℕ) (P : Picks Q G k row place) where
  pub row_same : (i j : ℕ) → i < k → j < k → row i ≡ row j → i ≡ j
  row_same i j hi hj e =
      ⊎_elim (λ z. z) (⊎_elim (λ l. absurd (omega (arith, P.rising i j l hj))) (λ l. absurd (omega (arith, P.rising j i l hi)))) (cases_order i j)

  pub place_row : (i : ℕ) → i < k → place (row i) ≡ i
  place_row i h = row_same _ i (P.within (row i) (P.member i h)) h (P.back (row i) (P.member i h))

  row_high : (i : ℕ) → i < k → i ≤ row i
  row_high zero h = omega arith
  row_high (suc i) h = omega (arith, row_high i (omega arith), P.rising i (suc i) (omega arith) h)

  pub few : k ≤ Q.rows
  few = let s = P.some in let h : k - 1 < k = omega arith in omega (arith, row_high (k - 1) h, (P.member (k - 1) h).a_row)

  pub laws_alone : ProblemLaws Q → ProblemLaws (alone Q k row)
  laws_alone L = record {
    rows_most = omega (arith, L.rows_most, few);
    steps_most = L.steps_most;
    points_most = L.points_most;
    rule = L.rule;
  }

  pub posed_alone : Posed Q → Posed (alone Q k row)
  posed_alone L = record {
    start_inside = λ i h. L.start_inside (row i) (P.member i h).a_row;
    start_open = λ i h. L.start_open (row i) (P.member i h).a_row;
    goal_inside = λ i h. L.goal_inside (row i) (P.member i h).a_row;
    goal_open = λ i h. L.goal_open (row i) (P.member i h).a_row;
  }

  pub lawful_alone : (x : Plan) → Lawful Q G x → Lawful (alone Q k row) everyone (seen row x)
  lawful_alone x H = record {
    starts = λ i m. H.starts (row i) (P.member i m.a_row);
    arrives = λ i m. H.arrives (row i) (P.member i m.a_row);
    moves = λ i t m h. H.moves (row i) t (P.member i m.a_row) h;
    inside = λ i t m h. H.inside (row i) t (P.member i m.a_row) h;
    not_closed = λ i t m h. H.not_closed (row i) t (P.member i m.a_row) h;
    apart = λ i j t m n d h. H.apart (row i) (row j) t (P.member i m.a_row) (P.member j n.a_row) (λ e. d (row_same i j m.a_row n.a_row e)) h;
  }

  at_place : (r : ℕ) → Member Q G r → Member (alone Q k row) everyone (place r)
  at_place r m = record { a_row = P.within r m; of_group = refl }

  pub alone_lawful : (x : Plan) → Lawful (alone Q k row) everyone (seen row x) → Lawful Q G x
  alone_lawful x H = record {
    starts = λ r m. subst (λ z. x z 0 ≡ Q.start z) (P.back r m) (H.starts (place r) (at_place r m));
    arrives = λ r m. subst (λ z. x z Q.steps ≡ Q.goal z) (P.back r m) (H.arrives (place r) (at_place r m));
    moves = λ r t m h. let e = P.back r m in rw e at (H.moves (place r) t (at_place r m) h);
    inside = λ r t m h. let e = P.back r m in rw e at (H.inside (place r) t (at_place r m) h);
    not_closed = λ r t m h. let e = P.back r m in rw e at (H.not_closed (place r) t (at_place r m) h);
    apart = λ r q t m n d h.
        subst (λ z. clash Q x t z q ≡ false) (P.back r m)
        (subst (λ z. clash Q x t (row (place r)) z ≡ false) (P.back q n)
        (H.apart (place r) (place q) t (at_place r m) (at_place q n) (λ e. d (sym (P.back r m) ∙ ap row e ∙ P.back q n)) h));
  }

  -- from the first gap of the words to the first place of the sheets
  pub gap_before : (x y : Plan) → Starts Q G x → Starts Q G y → Gap (seen row x) (seen row y) k 0 Q.steps → Before Q G x y
  gap_before x y sx sy g = record {
    time = g.time;
    row = row g.train;
    in_time = omega (arith, g.until);
    in_group = P.member g.train g.a_train;
    less = g.less;
    same = same;
  }
    where
      before : (r t : ℕ) → Member Q G r → t < g.time → x r t ≡ y r t
      before r zero m h = sx r m ∙ sym (sy r m)
      before r (suc t) m h = subst (λ z. x z (suc t) ≡ y z (suc t)) (P.back r m) (g.same_before (suc t) (place r) (omega arith) h (P.within r m))

      lower : (r : ℕ) → Member Q G r → r < row g.train → place r < g.train
      lower r m h =
          ⊎_elim (λ e. absurd (let z : row (place r) ≡ row g.train = ap row e in omega (arith, P.back r m)))
          (⊎_elim (λ l. l) (λ l. absurd (omega (arith, P.rising g.train (place r) l (P.within r m), P.back r m)))) (cases_order (place r) g.train)

      same : (t r : ℕ) → Member Q G r → Earlier t r g.time (row g.train) → x r t ≡ y r t
      same t r m (inl h) = before r t m h
      same t r m (inr (e, h)) = subst (λ u. x r u ≡ y r u) (sym e) (subst (λ z. x z g.time ≡ y z g.time) (P.back r m) (g.same_time (place r) (lower r m h)))

  pub before_gap : (x y : Plan) → Starts Q G x → Starts Q G y → Before Q G x y → Gap (seen row x) (seen row y) k 0 Q.steps
  before_gap x y sx sy b = record {
    time = b.time;
    train = place b.row;
    after = later b.time refl;
    until = omega (arith, b.in_time);
    a_train = P.within b.row b.in_group;
    less = subst (λ z. x z b.time < y z b.time) (sym (P.back b.row b.in_group)) b.less;
    same_time = λ q h. b.same b.time (row q) (P.member q (omega (arith, P.within b.row b.in_group)))
        (inr (refl, omega (arith, P.rising q (place b.row) h (P.within b.row b.in_group), P.back b.row b.in_group)));
    same_before = λ u q a h l. b.same u (row q) (P.member q l) (inl h);
  }
    where
      later : (t : ℕ) → b.time ≡ t → 0 < b.time
      later zero e = absurd (omega (arith, b.less, subst (λ t. x b.row t ≡ y b.row t) (sym e) (sx b.row b.in_group ∙ sym (sy b.row b.in_group))))
      later (suc t) e = omega arith

  module _ {C : Type 0} (S : Measure C) (L : MeasureLaws S) (f : ℕ → C) where
    abbrev pub gated : ℕ → C
    gated r = cond (G r) (f r) S.nothing

    -- the costs of the first m rows of the group, which are those below n
    pub record First (n m : ℕ) : Type 0 where
      pub most : m ≤ k
      pub below : (i : ℕ) → i < m → row i < n
      pub every : (r : ℕ) → r < n → Member Q G r → place r < m

    fits : (n : ℕ) → n ≤ Q.rows → n * 256 ≤ 60000 → ((r : ℕ) → r < Q.rows → S.size (f r) ≤ 256) → S.size (joined S n gated) ≤ 60000
    fits n h b F = omega (arith, joined_size S L 256 n gated (λ r l. gate (G r) r (F r (omega arith))) (omega arith))
      where
        gate : (t : Bool) (r : ℕ) → S.size (f r) ≤ 256 → S.size (cond t (f r) S.nothing) ≤ 256
        gate true r h = h
        gate false r h = omega (arith, L.size_nothing)

    -- n is not a row of the group
    pass : (n m : ℕ) → n < Q.rows → G n ≡ false → First (suc n) m → First n m
    pass n m hn e w = record {
      most = w.most;
      below = λ i h. ⊎_elim (λ l. l)
          (λ l. absurd (let q : row i ≡ n = omega (arith, w.below i h) in
          true≢false (sym (P.member i (omega (arith, w.most))).of_group ∙ ap G q ∙ e))) (cases_lt (row i) n);
      every = λ r h m. w.every r (omega arith) m;
    }

    -- n is the last of the group's rows up to it
    last : (n m : ℕ) → n < Q.rows → G n ≡ true → First (suc n) m → suc (place n) ≡ m
    last n m hn e w =
        let me : Member Q G n = record { a_row = hn; of_group = e } in
        let h = w.every n (omega arith) me in
        ⊎_elim (λ l. absurd (omega (arith, P.rising (place n) (suc (place n)) (omega arith) (omega (arith, w.most)), P.back n me, w.below (suc (place n)) l)))
        (λ l. omega arith) (cases_lt (suc (place n)) m)

    front : (n m : ℕ) → n < Q.rows → G n ≡ true → First (suc n) (suc m) → place n ≡ m → First n m
    front n m hn e w q =
        let me : Member Q G n = record { a_row = hn; of_group = e } in
        record {
          most = omega (arith, w.most);
          below = λ i h. omega (arith, P.rising i (place n) (omega arith) (P.within n me), P.back n me);
          every = λ r h mr.
              ⊎_elim (λ l. l)
              (λ l. absurd (let z : place r ≡ place n = omega (arith, w.every r (omega arith) mr) in
              let y : r ≡ n = sym (P.back r mr) ∙ ap row z ∙ P.back n me in omega arith))
              (cases_lt (place r) m);
        }

    pub gather : ((r : ℕ) → r < Q.rows → S.size (f r) ≤ 256) → (n : ℕ) → n ≤ Q.rows → n * 256 ≤ 60000 → (m : ℕ) → First n m → joined S n gated ≡ joined S m (λ i. f (row i))
    gather F zero hn b zero w = refl
    gather F zero hn b (suc m) w = absurd (omega (arith, w.below m (omega arith)))
    gather F (suc n) hn b m w =
        ⊎_elim
        (λ e. more e (last n m (omega arith) e w) (λ v. gather F n (omega arith) (omega arith) (place n) v))
        (λ e. let g = gather F n (omega arith) (omega arith) m (pass n m (omega arith) e w) in
        ap (λ t. S.join (joined S n gated) (cond t (f n) S.nothing)) e
        ∙ L.join_nothing (joined S n gated) (omega (arith, fits n (omega arith) (omega arith) F)) ∙ g)
        (cases_Bool (G n))
      where
        more : G n ≡ true → suc (place n) ≡ m → (First n (place n) → joined S n gated ≡ joined S (place n) (λ i. f (row i))) → joined S (suc n) gated ≡ joined S m (λ i. f (row i))
        more e q ih =
            let me : Member Q G n = record { a_row = omega arith; of_group = e } in
            let w' : First (suc n) (suc (place n)) = subst (First (suc n)) (sym q) w in
            subst (λ z. joined S (suc n) gated ≡ joined S z (λ i. f (row i))) q
            (ap₂ S.join (ih (front n (place n) (omega arith) e w' refl)) (ap (λ t. cond t (f n) S.nothing) e ∙ ap f (sym (P.back n me))))

  pub cost_alone : {C : Type 0} (S : Measure C) → MeasureLaws S → ProblemLaws Q → (x : Plan) → cost S Q G x ≡ cost S (alone Q k row) everyone (seen row x)
  unfolding cost row_cost
  cost_alone S L M x =
      let r8 = M.rows_most in
      gather S L (row_cost S Q x) (λ r h. row_size S L Q M x r) Q.rows (omega arith) (omega arith) k
      (record { most = omega arith; below = λ i h. (P.member i h).a_row; every = λ r h m. P.within r m })
