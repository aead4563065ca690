-- Best sheets of parts that do not conflict make the best sheet of the group.
use Rattle.std.proofs.Common.{◌≡◌, ℕ, zero, suc, ◌+◌, ◌<◌, ◌≤◌, Bool, true, false, cond, ◌&&◌, ◌||◌, eqb, ltb, ◌⊎◌, sym, refl, ap, ◌∙◌, ap₂, inl, inr, ⊎_elim, true≢false, arith}
use mathlib.Core.Bool.{false≢true}
use Rattle.std.proofs.Math.Bool.{and_comm, or_comm}
use Rattle.std.proofs.lemmas.Bool.{cases_order, or_cases, or_left, or_right, both_ways, and_from, and_parts, and_right, eqb-true, eq-eqb, ne_eqb, ltb-true, lt-ltb, le-ltb}
use Rattle.scales.specs.Measure.{Measure, MeasureLaws, joined}
use Rattle.scales.proofs.Joins.{joined_same, joined_join, nothing_join, join_lower_both}
use Rattle.sheets.specs.Problem.{Problem, ProblemLaws, Group, Member}
use Rattle.sheets.specs.Plan.{Plan, Lawful, SameOn, Earlier, Before, Best, Wins, clash, row_cost, cost}
use Rattle.sheets.proofs.Places.{earlier_trans, earlier_time, places}
use Rattle.sheets.proofs.Costs.{row_size, gated_size, cost_size, cost_same}
use Rattle.sheets.proofs.Sheets.{best_same}
use Rattle.groups.specs.Parts.{Naming, Names, part, NoClash, assembled}
use Rattle.groups.specs.Laws.{PartsApartAreBestTogether, APartWithoutASheetLeavesNone}

-- the rows of G are those of A and those of B, and none is of both
pub record Split (Q : Problem) (G A B : Group) : Type 0 where
  pub all : (r : ℕ) → r < Q.rows → G r ≡ (A r || B r)
  pub never : (r : ℕ) → r < Q.rows → (A r && B r) ≡ false

module _ (Q : Problem) where
  pub lawful_sub : (G A : Group) (x : Plan) → ((r : ℕ) → Member Q A r → Member Q G r) → Lawful Q G x → Lawful Q A x
  lawful_sub G A x i h =
      record {
        starts = λ r m. h.starts r (i r m);
        arrives = λ r m. h.arrives r (i r m);
        moves = λ r t m. h.moves r t (i r m);
        inside = λ r t m. h.inside r t (i r m);
        not_closed = λ r t m. h.not_closed r t (i r m);
        apart = λ r q t m n. h.apart r q t (i r m) (i q n);
      }

  split_flip : (G A B : Group) → Split Q G A B → Split Q G B A
  split_flip G A B p = record { all = λ r h. p.all r h ∙ or_comm (A r) (B r); never = λ r h. and_comm (B r) (A r) ∙ p.never r h }

  module _ (G A B : Group) (p : Split Q G A B) where
    pub in_left : (r : ℕ) → Member Q A r → Member Q G r
    in_left r m = record { a_row = m.a_row; of_group = p.all r m.a_row ∙ or_left (A r) (B r) m.of_group }

    pub in_right : (r : ℕ) → Member Q B r → Member Q G r
    in_right r m = record { a_row = m.a_row; of_group = p.all r m.a_row ∙ or_right (A r) (B r) m.of_group }

    pub in_either : (r : ℕ) → Member Q G r → Member Q A r ⊎ Member Q B r
    in_either r m = go (or_cases (A r) (B r) (sym (p.all r m.a_row) ∙ m.of_group))
      where
        go : (A r ≡ true) ⊎ (B r ≡ true) → Member Q A r ⊎ Member Q B r
        go (inl e) = inl (record { a_row = m.a_row; of_group = e })
        go (inr e) = inr (record { a_row = m.a_row; of_group = e })

    pub in_never : (r : ℕ) → Member Q A r → Member Q B r → ⊥
    in_never r m n = both_ways (A r && B r) (p.never r m.a_row) (and_from (A r) (B r) m.of_group n.of_group)

    -- a first place in A, before which nothing in B differs
    before_left : (x y : Plan) (f : Before Q A x y)
        → ((t r : ℕ) → Member Q B r → Earlier t r f.time f.row → x r t ≡ y r t) → Before Q G x y
    before_left x y f rest =
        record {
          time = f.time;
          row = f.row;
          in_time = f.in_time;
          in_group = in_left f.row f.in_group;
          less = f.less;
          same = λ t r m e. go t r e (in_either r m);
        }
      where
        go : (t r : ℕ) → Earlier t r f.time f.row → Member Q A r ⊎ Member Q B r → x r t ≡ y r t
        go t r e (inl m) = f.same t r m e
        go t r e (inr m) = rest t r m e

    lawful_split : (x : Plan) → ProblemLaws Q → Lawful Q A x → Lawful Q B x
        → ((t r q : ℕ) → t < Q.steps → Member Q A r → Member Q B q → clash Q x t r q ≡ false) → Lawful Q G x
    lawful_split x K a b c =
        record {
          starts = λ r m. ⊎_elim (λ n. a.starts r n) (λ n. b.starts r n) (in_either r m);
          arrives = λ r m. ⊎_elim (λ n. a.arrives r n) (λ n. b.arrives r n) (in_either r m);
          moves = λ r t m k. ⊎_elim (λ n. a.moves r t n k) (λ n. b.moves r t n k) (in_either r m);
          inside = λ r t m k. ⊎_elim (λ n. a.inside r t n k) (λ n. b.inside r t n k) (in_either r m);
          not_closed = λ r t m k. ⊎_elim (λ n. a.not_closed r t n k) (λ n. b.not_closed r t n k) (in_either r m);
          apart = λ r q t m n d k. go r q t d k (in_either r m) (in_either q n);
        }
      where
        go : (r q t : ℕ) → (r ≡ q → ⊥) → t < Q.steps → Member Q A r ⊎ Member Q B r → Member Q A q ⊎ Member Q B q → clash Q x t r q ≡ false
        go r q t d k (inl m) (inl n) = a.apart r q t m n d k
        go r q t d k (inl m) (inr n) = c t r q k m n
        go r q t d k (inr m) (inl n) = K.rule.symmetric (x r t) (x r (t + 1)) (x q t) (x q (t + 1)) ∙ c t q r k n m
        go r q t d k (inr m) (inr n) = b.apart r q t m n d k

  before_both : (G A B : Group) → Split Q G A B → (x y : Plan) → Before Q A x y → Before Q B x y → Before Q G x y
  before_both G A B p x y f g = go (places f.time f.row g.time g.row)
    where
      go : Earlier f.time f.row g.time g.row
          ⊎ (((f.time ≡ g.time) × (f.row ≡ g.row)) ⊎ Earlier g.time g.row f.time f.row) → Before Q G x y
      go (inl e) =
          before_left G A B p x y f
          (λ t r m k. g.same t r m (earlier_trans t r f.time f.row g.time g.row k e))
      go (inr (inl (a, b))) = absurd (in_never G A B p g.row (rw b at f.in_group) g.in_group)
      go (inr (inr e)) =
          before_left G B A (split_flip G A B p) x y g
          (λ t r m k. f.same t r m (earlier_trans t r g.time g.row f.time f.row k e))

module _ {C : Type 0} (S : Measure C) (L : MeasureLaws S) (Q : Problem) (K : ProblemLaws Q) where
  share : (a b : Bool) (w : C) → S.size w ≤ 65535 → (a && b) ≡ false
      → cond (a || b) w S.nothing ≡ S.join (cond a w S.nothing) (cond b w S.nothing)
  share true true w s e = absurd (true≢false e)
  share true false w s e = sym (L.join_nothing w s)
  share false true w s e = sym (nothing_join S L w s)
  share false false w s e = sym (L.join_nothing S.nothing (omega (arith, L.size_nothing)))

  -- the cost of a group that splits is the join of the parts' costs
  pub cost_split : (G A B : Group) (x : Plan) → Split Q G A B → cost S Q G x ≡ S.join (cost S Q A x) (cost S Q B x)
  unfolding cost
  cost_split G A B x p =
      let k = K.rows_most in
      joined_same S L Q.rows _ _
      (λ r h. rw (p.all r h) (share (A r) (B r) (row_cost S Q x r) (omega (arith, row_size S L Q K x r)) (p.never r h)))
      ∙ joined_join S L 256 Q.rows (λ r. cond (A r) (row_cost S Q x r) S.nothing) (λ r. cond (B r) (row_cost S Q x r) S.nothing)
      (λ r h. gated_size S L Q K (A r) x r)
      (λ r h. gated_size S L Q K (B r) x r)
      (omega arith)

  pub cost_none : (G : Group) (x : Plan) → ((r : ℕ) → r < Q.rows → G r ≡ false) → cost S Q G x ≡ S.nothing
  unfolding cost
  cost_none G x h = go Q.rows h
    where
      go : (n : ℕ) → ((r : ℕ) → r < n → G r ≡ false) → joined S n (λ r. cond (G r) (row_cost S Q x r) S.nothing) ≡ S.nothing
      go zero h = refl
      go (suc n) h =
          ap₂ S.join (go n (λ r k. h r (omega arith))) (ap (λ b. cond b (row_cost S Q x n) S.nothing) (h n (omega arith)))
          ∙ L.join_nothing S.nothing (omega (arith, L.size_nothing))

module _ {C : Type 0} (S : Measure C) (L : MeasureLaws S) (Q : Problem) (K : ProblemLaws Q) where
  split_lower : (G A B : Group) (x y : Plan) → Split Q G A B → S.lower (cost S Q A x) (cost S Q A y) ≡ true
      → (cost S Q B x ≡ cost S Q B y) ⊎ (S.lower (cost S Q B x) (cost S Q B y) ≡ true)
      → S.lower (cost S Q G x) (cost S Q G y) ≡ true
  split_lower G A B x y p u v =
      let ax = cost_size S L Q K A x in
      let ay = cost_size S L Q K A y in
      let bx = cost_size S L Q K B x in
      let by = cost_size S L Q K B y in
      rw (cost_split S L Q K G A B x p, cost_split S L Q K G A B y p)
      (join_lower_both S L (cost S Q A x) (cost S Q A y) (cost S Q B x) (cost S Q B y) (omega arith) (omega arith) (omega arith) u v)

  split_equal : (G A B : Group) (x y : Plan) → Split Q G A B → cost S Q A x ≡ cost S Q A y → cost S Q B x ≡ cost S Q B y
      → cost S Q G x ≡ cost S Q G y
  split_equal G A B x y p u v = cc (cost_split S L Q K G A B x p, cost_split S L Q K G A B y p)

  -- a sheet that is best for two groups apart, between which there is no conflict, is best for the two together
  pub combine : (G A B : Group) (x : Plan) → Split Q G A B → Best S Q A x → Best S Q B x
      → ((t r q : ℕ) → t < Q.steps → Member Q A r → Member Q B q → clash Q x t r q ≡ false) → Best S Q G x
  combine G A B x p a b c =
      record {
        lawful = lawful_split Q G A B p x K a.lawful b.lawful c;
        wins = λ y h. go y
            (a.wins y (lawful_sub Q G A y (in_left Q G A B p) h))
            (b.wins y (lawful_sub Q G B y (in_right Q G A B p) h));
      }
    where
      q : Split Q G B A
      q = split_flip Q G A B p

      same_before : (A B : Group) → Split Q G A B → (y : Plan) → Before Q A x y → SameOn Q B x y → Before Q G x y
      same_before A B p y f e =
          before_left Q G A B p x y f
          (λ t r m k.
          let h = earlier_time t r f.time f.row k in
          e r t m (omega (arith, f.in_time)))

      go : (y : Plan) → Wins S Q A x y → Wins S Q B x y → Wins S Q G x y
      go y (inl e) (inl f) = inl (λ r t m k. ⊎_elim (λ n. e r t n k) (λ n. f r t n k) (in_either Q G A B p r m))
      go y (inl e) (inr (inl v)) = inr (inl (split_lower G B A x y q v (inl (cost_same S L Q K A x y e))))
      go y (inl e) (inr (inr v)) =
          inr (inr (split_equal G A B x y p (cost_same S L Q K A x y e) v.0, same_before B A q y v.1 e))
      go y (inr (inl u)) (inl f) = inr (inl (split_lower G A B x y p u (inl (cost_same S L Q K B x y f))))
      go y (inr (inl u)) (inr (inl v)) = inr (inl (split_lower G A B x y p u (inr v)))
      go y (inr (inl u)) (inr (inr v)) = inr (inl (split_lower G A B x y p u (inl v.0)))
      go y (inr (inr u)) (inl f) =
          inr (inr (split_equal G A B x y p u.0 (cost_same S L Q K B x y f), same_before A B p y u.1 f))
      go y (inr (inr u)) (inr (inl v)) = inr (inl (split_lower G B A x y q v (inl u.0)))
      go y (inr (inr u)) (inr (inr v)) = inr (inr (split_equal G A B x y p u.0 v.0, before_both Q G A B p x y u.1 v.1))

  -- a group with no row
  pub best_none : (G : Group) (x : Plan) → ((r : ℕ) → r < Q.rows → G r ≡ false) → Best S Q G x
  best_none G x h =
      record {
        lawful = record {
          starts = λ r m. absurd (none r m);
          arrives = λ r m. absurd (none r m);
          moves = λ r t m. absurd (none r m);
          inside = λ r t m. absurd (none r m);
          not_closed = λ r t m. absurd (none r m);
          apart = λ r q t m. absurd (none r m);
        };
        wins = λ y k. inl (λ r t m. absurd (none r m));
      }
    where
      none : (r : ℕ) → Member Q G r → ⊥
      none r m = both_ways (G r) (h r m.a_row) m.of_group

-- the rows of the parts below k
under : Group → Naming → ℕ → Group
under G name k r = G r && ltb (name r) k

under_split : (Q : Problem) (G : Group) (name : Naming) (k : ℕ) → Split Q (under G name (suc k)) (under G name k) (part G name k)
unfolding under part
under_split Q G name k = record { all = λ r h. go (G r) (name r) (cases_order (name r) k); never = λ r h. no_both (G r) (name r) (cases_order (name r) k) }
  where
    go : (b : Bool) (n : ℕ) → (n ≡ k) ⊎ ((n < k) ⊎ (k < n)) → (b && ltb n (suc k)) ≡ ((b && ltb n k) || (b && eqb n k))
    go false n h = refl
    go true n (inl e) = rw (lt-ltb n (suc k) (omega arith), le-ltb n k (omega arith), eq-eqb n k e)
    go true n (inr (inl e)) = rw (lt-ltb n (suc k) (omega arith), lt-ltb n k e)
    go true n (inr (inr e)) = rw (le-ltb n (suc k) (omega arith), le-ltb n k (omega arith), ne_eqb n k (λ z. omega arith))

    no_both : (b : Bool) (n : ℕ) → (n ≡ k) ⊎ ((n < k) ⊎ (k < n)) → ((b && ltb n k) && (b && eqb n k)) ≡ false
    no_both false n h = refl
    no_both true n (inl e) = rw (le-ltb n k (omega arith))
    no_both true n (inr (inl e)) = rw (lt-ltb n k e, ne_eqb n k (λ z. omega arith))
    no_both true n (inr (inr e)) = rw (le-ltb n k (omega arith))

under_none : (G : Group) (name : Naming) (r : ℕ) → under G name 0 r ≡ false
unfolding under
under_none G name r = and_right (G r) _ (le-ltb (name r) 0 (omega arith))

module _ (Q : Problem) (G : Group) (name : Naming) where
  under_member : (k r : ℕ) → Member Q (under G name k) r → Member Q G r × (name r < k)
  unfolding under
  under_member k r m = let p = and_parts (G r) (ltb (name r) k) m.of_group in (record { a_row = m.a_row; of_group = p.0 }, ltb-true (name r) k p.1)

  -- a row of a part is one of the group, and the part is its own
  pub part_member : (g r : ℕ) → Member Q (part G name g) r → Member Q G r × (name r ≡ g)
  unfolding part
  part_member g r m = let p = and_parts (G r) (eqb (name r) g) m.of_group in (record { a_row = m.a_row; of_group = p.0 }, eqb-true (name r) g p.1)

  pub member_part : (g r : ℕ) → Member Q G r → name r ≡ g → Member Q (part G name g) r
  unfolding part
  member_part g r m e = record { a_row = m.a_row; of_group = and_from (G r) (eqb (name r) g) m.of_group (eq-eqb (name r) g e) }

  -- rows of different parts do not conflict, whichever comes first
  pub no_clash : ProblemLaws Q → (x : Plan) → NoClash Q G name x
      → (t r q : ℕ) → t < Q.steps → Member Q G r → Member Q G q → (name r ≡ name q → ⊥) → clash Q x t r q ≡ false
  no_clash K x n t r q i j k d = go (cases_order r q)
    where
      go : (r ≡ q) ⊎ ((r < q) ⊎ (q < r)) → clash Q x t r q ≡ false
      go (inl e) = absurd (d (ap name e))
      go (inr (inl e)) = n t r q i e j k d
      go (inr (inr e)) = K.rule.symmetric (x r t) (x r (t + 1)) (x q t) (x q (t + 1)) ∙ n t q r i e k j (λ z. d (sym z))

module _ {C : Type 0} (S : Measure C) (L : MeasureLaws S) (Q : Problem) (K : ProblemLaws Q) (G : Group) (name : Naming) where
  under_best : (x : Plan) → ((g : ℕ) → g < Q.rows → Best S Q (part G name g) x) → NoClash Q G name x → (k : ℕ) → k ≤ Q.rows
      → Best S Q (under G name k) x
  under_best x b n zero h = best_none S L Q K (under G name 0) x (λ r i. under_none G name r)
  under_best x b n (suc k) h =
      combine S L Q K (under G name (suc k)) (under G name k) (part G name k) x
      (under_split Q G name k)
      (under_best x b n k (omega arith))
      (b k (omega arith))
      (λ t r q i m o.
      let lo = under_member Q G name k r m in
      let at = part_member Q G name k q o in
      no_clash Q G name K x n t r q i lo.0 at.0 (λ e. omega (arith, lo.1, at.1)))

  under_cost : (x : Plan) (k : ℕ) → k ≤ Q.rows → cost S Q (under G name k) x ≡ joined S k (λ g. cost S Q (part G name g) x)
  under_cost x zero h = cost_none S L Q K (under G name 0) x (λ r i. under_none G name r)
  under_cost x (suc k) h =
      cost_split S L Q K (under G name (suc k)) (under G name k) (part G name k) x (under_split Q G name k)
      ∙ ap (λ c. S.join c (cost S Q (part G name k) x)) (under_cost x k (omega arith))

  all_split : Names Q G name → Split Q G (under G name Q.rows) (λ r. false)
  unfolding under
  all_split h = record { all = λ r i. whole r i (G r) refl; never = λ r i. and_right (G r && ltb (name r) Q.rows) false refl }
    where
      whole : (r : ℕ) → r < Q.rows → (b : Bool) → G r ≡ b → b ≡ ((b && ltb (name r) Q.rows) || false)
      whole r i false e = refl
      whole r i true e = rw (lt-ltb (name r) Q.rows (h.a_member r (record { a_row = i; of_group = e })).a_row)

  -- one sheet that is best for each part, and in which no two parts conflict, is best for the group
  pub all_best : Names Q G name → (x : Plan) → ((g : ℕ) → g < Q.rows → Best S Q (part G name g) x) → NoClash Q G name x → Best S Q G x
  all_best h x b n =
      combine S L Q K G (under G name Q.rows) (λ r. false) x (all_split h)
      (under_best x b n Q.rows (omega arith))
      (best_none S L Q K (λ r. false) x (λ r i. refl))
      (λ t r q i m o. absurd (false≢true o.of_group))

  pub all_cost : Names Q G name → (x : Plan) → cost S Q G x ≡ joined S Q.rows (λ g. cost S Q (part G name g) x)
  all_cost h x =
      cost_split S L Q K G (under G name Q.rows) (λ r. false) x (all_split h)
      ∙ ap (λ c. S.join (cost S Q (under G name Q.rows) x) c) (cost_none S L Q K (λ r. false) x (λ r i. refl))
      ∙ L.join_nothing (cost S Q (under G name Q.rows) x) (omega (arith, cost_size S L Q K (under G name Q.rows) x))
      ∙ under_cost x Q.rows (omega arith)

  assembled_same : (s : ℕ → Plan) (g : ℕ) → SameOn Q (part G name g) (s g) (assembled name s)
  unfolding assembled
  assembled_same s g r t m k = ap (λ i. s i r t) (sym (part_member Q G name g r m).1)

pub parts_apart_are_best_together : {C : Type 0} (S : Measure C) → MeasureLaws S → (Q : Problem) → ProblemLaws Q → (G : Group) → PartsApartAreBestTogether S Q G
parts_apart_are_best_together S L Q K G name h s b n = (
  all_best S L Q K G name h x (λ g i. best_same S L Q K (part G name g) (s g) x (assembled_same S L Q K G name s g) (b g i)) n,
  all_cost S L Q K G name h x
      ∙ joined_same S L Q.rows _ _ (λ g i. sym (cost_same S L Q K (part G name g) (s g) x (assembled_same S L Q K G name s g))),
)
  where
    x : Plan
    x = assembled name s

pub a_part_without_a_sheet_leaves_none : (Q : Problem) (G : Group) → APartWithoutASheetLeavesNone Q G
a_part_without_a_sheet_leaves_none Q G F i h y l = h y (lawful_sub Q G F y i l)
