-- A lawful sheet of all rows, read by time and then by row, is a run of the process; and back.
use Rattle.std.proofs.Common.{◌≡◌, ℕ, zero, suc, ◌+◌, ◌*◌, ◌<◌, ◌≤◌, true, false, not, ◌&&◌, List, [], ◌∷◌, ◌++◌, length, get_or, sym, refl, ◌∙◌, subst, ⊎_elim, mul-zero, mul-suc, add-one, arith, length-append}
use Rattle.std.proofs.lemmas.List.{get_or_append_left, get_or_at}
use Rattle.std.proofs.lemmas.Bool.{cases_lt, cases_order, and_from, and_parts, eq-eqb, eqb-true, not_from_false, not-true}
use Rattle.scales.specs.Measure.{Measure}
use Rattle.sheets.specs.Problem.{Problem, ProblemLaws, Posed, Member, everyone, allowed}
use Rattle.sheets.specs.Plan.{Plan, Lawful, clash}
use Rattle.sheets.proofs.Alls.{all_at, all_from}
use Rattle.words.proofs.Turns.{turned_full, turned_part}
use Rattle.words.specs.Words.{Run}
use Rattle.words.specs.Joint.{Task, turned, clear, may_move, home, process}
use Rattle.words.specs.Bridge.{counted, task_of_problem, row_word, sheet_word}

pub length_counted : (n : ℕ) (f : ℕ → ℕ) → length (counted n f) ≡ n
length_counted zero f = refl
length_counted (suc n) f = let e = length_counted n f in simp (length-append) (omega arith)

pub get_d_counted : (n : ℕ) (f : ℕ → ℕ) (i : ℕ) → i < n → get_or (counted n f) i 0 ≡ f i
get_d_counted zero f i h = absurd (omega arith)
get_d_counted (suc n) f i h =
    let l = length_counted n f in
    ⊎_elim
    (λ k. get_or_append_left (counted n f) (f n ∷ []) 0 i (omega arith) ∙ get_d_counted n f i k)
    (λ k. let e : i ≡ n = omega arith in subst (λ z. get_or (counted (suc n) f) z 0 ≡ f z) (sym e) (get_or_at (counted n f) (f n) [] 0 n l))
    (cases_lt i n)

pub counted_same : (n : ℕ) (f g : ℕ → ℕ) → ((i : ℕ) → i < n → f i ≡ g i) → counted n f ≡ counted n g
counted_same zero f g h = refl
counted_same (suc n) f g h = let a = counted_same n f g (λ i k. h i (omega arith)) in let b = h n (omega arith) in simp (a, b)

module _ (Q : Problem) (x : Plan) where
  abbrev pub K : Task
  K = task_of_problem Q

  abbrev pub row : ℕ → List ℕ
  row t = counted Q.rows (λ r. x r t)

  abbrev pub next : ℕ → ℕ → ℕ
  next t r = x r (t + 1)

  pub turned_all : (t j : ℕ) → j ≡ Q.rows → turned Q.rows (row t) (counted j (next t)) ≡ record { at = row (t + 1); to = [] }
  turned_all t j q =
      subst (λ i. turned Q.rows (row t) (counted i (next t)) ≡ record { at = row (t + 1); to = [] }) (sym q)
      (turned_full Q.rows (row t) (row (t + 1)) (length_counted Q.rows _))

  -- the train j's move in step t may be made
  abbrev pub Fact : ℕ → ℕ → Type 0
  Fact t j = (x j (t + 1) < Q.sections) × (may_move K (row t) (counted j (next t)) j (x j (t + 1)) ≡ true)

  module _ {C : Type 0} (S : Measure C) where
    run_row : (t : ℕ) (b : ℕ) (w : List ℕ) → Run (process S K) b (record { at = row (t + 1); to = [] }) w
        → ((j : ℕ) → j < Q.rows → Fact t j)
        → (d j : ℕ) → j + d ≡ Q.rows
        → Run (process S K) (d + b) (turned Q.rows (row t) (counted j (next t))) (row_word (next t) j d ++ w)
    unfolding process
    run_row t b w R F zero j e =
        let z : 0 + b ≡ b = omega arith in
        subst (λ m. Run (process S K) m (turned Q.rows (row t) (counted j (next t))) w) (sym z)
        (subst (λ u. Run (process S K) b u w) (sym (turned_all t j (omega arith))) R)
    run_row t b w R F (suc d) j e =
        let l = length_counted j (next t) in
        let s = turned_part Q.rows (row t) (counted j (next t)) (omega arith) in
        let z : suc d + b ≡ suc (d + b) = omega arith in
        let ih : Run (process S K) (d + b) (turned Q.rows (row t) (counted (suc j) (next t))) (row_word (next t) (j + 1) d ++ w) =
        subst (λ i. Run (process S K) (d + b) (turned Q.rows (row t) (counted i (next t))) (row_word (next t) (j + 1) d ++ w)) (add-one j)
        (run_row t b w R F d (j + 1) (omega arith)) in
        let f = F j (omega arith) in
        let m : may_move K (row t) (counted j (next t)) (length (counted j (next t))) (x j (t + 1)) ≡ true =
        subst (λ i. may_move K (row t) (counted j (next t)) i (x j (t + 1)) ≡ true) (sym l) f.1 in
        subst (λ i. Run (process S K) i (turned Q.rows (row t) (counted j (next t))) (row_word (next t) j (suc d) ++ w)) (sym z)
        (subst (λ u. Run (process S K) (suc (d + b)) u (row_word (next t) j (suc d) ++ w)) (sym s)
        (f.0, m, ih))

    pub run_sheet : 1 ≤ Q.rows → ((t j : ℕ) → t < Q.steps → j < Q.rows → Fact t j) → home K (row Q.steps) ≡ true
        → (l t : ℕ) → t + l ≡ Q.steps → Run (process S K) (Q.rows * l) (record { at = row t; to = [] }) (sheet_word x Q.rows t l)
    unfolding process
    run_sheet k1 F h zero t e =
        let z : Q.rows * 0 ≡ 0 = mul-zero Q.rows in
        let q : t ≡ Q.steps = omega arith in
        subst (λ m. Run (process S K) m (record { at = row t; to = [] }) []) (sym z) (subst (λ u. home K (row u) ≡ true) (sym q) h)
    run_sheet k1 F h (suc l) t e =
        let z : Q.rows * suc l ≡ Q.rows + Q.rows * l = (let a = mul-suc Q.rows l in omega arith) in
        let ih = run_sheet k1 F h l (t + 1) (omega arith) in
        let s = turned_part Q.rows (row t) [] (omega arith) in
        subst (λ m. Run (process S K) m (record { at = row t; to = [] }) (sheet_word x Q.rows t (suc l))) (sym z)
        (subst (λ u. Run (process S K) (Q.rows + Q.rows * l) u (sheet_word x Q.rows t (suc l))) s
        (run_row t (Q.rows * l) (sheet_word x Q.rows (t + 1) l) ih (λ j k. F t j (omega arith) k) Q.rows 0 (omega arith)))

    facts_row : (t : ℕ) (b : ℕ) (w : List ℕ) (d j : ℕ) → j + d ≡ Q.rows
        → Run (process S K) (d + b) (turned Q.rows (row t) (counted j (next t))) (row_word (next t) j d ++ w)
        → ((i : ℕ) → j ≤ i → i < Q.rows → Fact t i) × Run (process S K) b (record { at = row (t + 1); to = [] }) w
    unfolding process
    facts_row t b w zero j e R =
        let z : 0 + b ≡ b = omega arith in (
          (λ i l h. absurd (omega arith)),
          subst (λ u. Run (process S K) b u w) (turned_all t j (omega arith))
              (subst (λ m. Run (process S K) m (turned Q.rows (row t) (counted j (next t))) w) z R),
        )
    facts_row t b w (suc d) j e R =
        let l = length_counted j (next t) in
        let s = turned_part Q.rows (row t) (counted j (next t)) (omega arith) in
        let z : suc d + b ≡ suc (d + b) = omega arith in
        let R' : Run (process S K) (suc (d + b)) (record { at = row t; to = counted j (next t) }) (row_word (next t) j (suc d) ++ w) =
        subst (λ u. Run (process S K) (suc (d + b)) u (row_word (next t) j (suc d) ++ w)) s
        (subst (λ i. Run (process S K) i (turned Q.rows (row t) (counted j (next t))) (row_word (next t) j (suc d) ++ w)) z R) in
        let ih = facts_row t b w d (j + 1) (omega arith)
        (subst (λ i. Run (process S K) (d + b) (turned Q.rows (row t) (counted i (next t))) (row_word (next t) (j + 1) d ++ w)) (sym (add-one j)) R'.2) in
        let m : may_move K (row t) (counted j (next t)) j (x j (t + 1)) ≡ true =
        subst (λ i. may_move K (row t) (counted j (next t)) i (x j (t + 1)) ≡ true) l R'.1 in (
          (λ i a h. ⊎_elim (λ k. ih.0 i (omega arith) h) (λ k. let q : j ≡ i = omega arith in subst (Fact t) q (R'.0, m)) (cases_lt j i)),
          ih.1,
        )

    pub facts_sheet : 1 ≤ Q.rows → (l t : ℕ) → t + l ≡ Q.steps → Run (process S K) (Q.rows * l) (record { at = row t; to = [] }) (sheet_word x Q.rows t l)
        → ((u j : ℕ) → t ≤ u → u < Q.steps → j < Q.rows → Fact u j) × (home K (row Q.steps) ≡ true)
    unfolding process
    facts_sheet k1 zero t e R =
        let z : Q.rows * 0 ≡ 0 = mul-zero Q.rows in
        let q : t ≡ Q.steps = omega arith in (
          (λ u j a b h. absurd (omega arith)),
          subst (λ u. home K (row u) ≡ true) q (subst (λ m. Run (process S K) m (record { at = row t; to = [] }) []) z R),
        )
    facts_sheet k1 (suc l) t e R =
        let z : Q.rows * suc l ≡ Q.rows + Q.rows * l = (let a = mul-suc Q.rows l in omega arith) in
        let s = turned_part Q.rows (row t) [] (omega arith) in
        let f = facts_row t (Q.rows * l) (sheet_word x Q.rows (t + 1) l) Q.rows 0 (omega arith)
        (subst (λ u. Run (process S K) (Q.rows + Q.rows * l) u (sheet_word x Q.rows t (suc l))) (sym s)
        (subst (λ m. Run (process S K) m (record { at = row t; to = [] }) (sheet_word x Q.rows t (suc l))) z R)) in
        let ih = facts_sheet k1 l (t + 1) (omega arith) f.1 in (
          (λ u j a b h. ⊎_elim (λ k. ih.0 u j (omega arith) b h) (λ k. let q : t ≡ u = omega arith in subst (λ v. Fact v j) q (f.0 j (omega arith) h)) (cases_lt t u)),
          ih.1,
        )

  member : (r : ℕ) → r < Q.rows → Member Q everyone r
  member r h = record { a_row = h; of_group = refl }

  fact_of : Lawful Q everyone x → (t j : ℕ) → t < Q.steps → j < Q.rows → Fact t j
  fact_of H t j ht hj =
      let a : get_or (row t) j 0 ≡ x j t = get_d_counted Q.rows (λ r. x r t) j hj in
      let o : allowed Q (x j t) (x j (t + 1)) ≡ true = H.moves j t (member j hj) ht in
      let c : not (Q.closed (x j (t + 1))) ≡ true = not_from_false _ (H.not_closed j (t + 1) (member j hj) (omega arith)) in
      let f : clear K (row t) (counted j (next t)) j (x j t) (x j (t + 1)) ≡ true =
      all_from j _ (λ i l. not_from_false _
      (let u = get_d_counted Q.rows (λ r. x r t) i (omega arith) in
      let v = get_d_counted j (next t) i l in
      let e = H.apart i j t (member i (omega arith)) (member j hj) (λ q. omega arith) ht in
      simp (u, v) e)) in (
        H.inside j (t + 1) (member j hj) (omega arith),
        subst (λ z. (K.opens z (x j (t + 1)) && clear K (row t) (counted j (next t)) j z (x j (t + 1))) ≡ true) (sym a)
            (and_from _ _ (and_from _ _ o c) f),
      )

  home_of : Lawful Q everyone x → home K (row Q.steps) ≡ true
  home_of H = all_from Q.rows _ (λ i k. eq-eqb _ _ (get_d_counted Q.rows _ i k ∙ H.arrives i (member i k) ∙ sym (get_d_counted Q.rows Q.goal i k)))

  pub lawful_run : {C : Type 0} (S : Measure C) → 1 ≤ Q.rows → Lawful Q everyone x
      → Run (process S K) (Q.rows * Q.steps) (record { at = counted Q.rows Q.start; to = [] }) (sheet_word x Q.rows 0 Q.steps)
  lawful_run S k1 H =
      let e : row 0 ≡ counted Q.rows Q.start = counted_same Q.rows _ _ (λ i k. H.starts i (member i k)) in
      subst (λ z. Run (process S K) (Q.rows * Q.steps) (record { at = z; to = [] }) (sheet_word x Q.rows 0 Q.steps)) e
      (run_sheet S k1 (fact_of H) (home_of H) Q.steps 0 (omega arith))

  -- what a fact says of the sheet
  pub record Says (t j : ℕ) : Type 0 where
    pub moves : allowed Q (x j t) (x j (t + 1)) ≡ true
    pub opened : Q.closed (x j (t + 1)) ≡ false
    pub apart : (i : ℕ) → i < j → clash Q x t i j ≡ false

  says : (t j : ℕ) → j < Q.rows → may_move K (row t) (counted j (next t)) j (x j (t + 1)) ≡ true → Says t j
  says t j hj m =
      let a : get_or (row t) j 0 ≡ x j t = get_d_counted Q.rows (λ r. x r t) j hj in
      let m' : (K.opens (x j t) (x j (t + 1)) && clear K (row t) (counted j (next t)) j (x j t) (x j (t + 1))) ≡ true =
      subst (λ z. (K.opens z (x j (t + 1)) && clear K (row t) (counted j (next t)) j z (x j (t + 1))) ≡ true) a m in
      let p = and_parts _ _ m' in
      let o = and_parts _ _ p.0 in
      record {
        moves = o.0;
        opened = not-true _ o.1;
        apart = λ i l.
            (let u = get_d_counted Q.rows (λ r. x r t) i (omega arith) in
            let v = get_d_counted j (next t) i l in
            simp (u, v) at (not-true _ (all_at j _ p.1 i l)));
      }

  pub run_lawful : {C : Type 0} (S : Measure C) → 1 ≤ Q.rows → ProblemLaws Q → Posed Q → ((i : ℕ) → i < Q.rows → x i 0 ≡ Q.start i)
      → Run (process S K) (Q.rows * Q.steps) (record { at = counted Q.rows Q.start; to = [] }) (sheet_word x Q.rows 0 Q.steps)
      → Lawful Q everyone x
  run_lawful S k1 L P st R =
      record {
        starts = λ r m. st r m.a_row;
        arrives = λ r m. sym (get_d_counted Q.rows _ r m.a_row) ∙ eqb-true _ _ (all_at Q.rows _ f.1 r m.a_row) ∙ get_d_counted Q.rows Q.goal r m.a_row;
        moves = λ r t m h. (told t r h m.a_row).moves;
        inside = λ r t m h. inside r t m.a_row h;
        not_closed = λ r t m h. opened r t m.a_row h;
        apart = λ r q t m n d h. ⊎_elim (λ e. absurd (d e))
            (⊎_elim (λ l. (told t q h n.a_row).apart r l) (λ l. L.rule.symmetric _ _ _ _ ∙ (told t r h m.a_row).apart q l)) (cases_order r q);
      }
    where
      e : row 0 ≡ counted Q.rows Q.start
      e = counted_same Q.rows _ _ st

      f : ((u j : ℕ) → 0 ≤ u → u < Q.steps → j < Q.rows → Fact u j) × (home K (row Q.steps) ≡ true)
      f = facts_sheet S k1 Q.steps 0 (omega arith)
          (subst (λ z. Run (process S K) (Q.rows * Q.steps) (record { at = z; to = [] }) (sheet_word x Q.rows 0 Q.steps)) (sym e) R)

      told : (t j : ℕ) → t < Q.steps → j < Q.rows → Says t j
      told t j h k = says t j k (f.0 t j (omega arith) h k).1

      inside : (r t : ℕ) → r < Q.rows → t ≤ Q.steps → x r t < Q.sections
      inside r zero k h = let s = st r k in let p = P.start_inside r k in rw s p
      inside r (suc t) k h = subst (λ z. x r z < Q.sections) (add-one t) (f.0 t r (omega arith) (omega arith) k).0

      opened : (r t : ℕ) → r < Q.rows → t ≤ Q.steps → Q.closed (x r t) ≡ false
      opened r zero k h = let s = st r k in let p = P.start_open r k in rw s p
      opened r (suc t) k h = subst (λ z. Q.closed (x r z) ≡ false) (add-one t) (told t r (omega arith) k).opened
