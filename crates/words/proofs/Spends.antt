-- What a word of a sheet spends is the sheet's cost.
use Rattle.std.proofs.Common.{◌≡◌, ℕ, zero, suc, ◌+◌, ◌*◌, ◌<◌, ◌≤◌, ◌&&◌, eqb, List, [], ◌∷◌, ◌++◌, length, get_or, sym, refl, ap, ◌∙◌, subst, ap₂, mul-le-mul, mul-zero, mul-suc, add-one, arith, length-append}
use Rattle.scales.specs.Measure.{Measure, MeasureLaws, joined}
use Rattle.sheets.specs.Problem.{Problem, ProblemLaws, everyone, run_over}
use Rattle.sheets.specs.Plan.{Plan, step_cost, row_cost, cost}
use Rattle.scales.proofs.Joins.{joined_size, joined_join, nothing_join}
use Rattle.sheets.proofs.Costs.{step_cost_size}
use Rattle.words.specs.Words.{Process, spent}
use Rattle.words.specs.Joint.{Joint, turned, move_price, process}
use Rattle.words.specs.Bridge.{counted, row_word, sheet_word}
use Rattle.words.proofs.Prices.{runs_few, price_size}
use Rattle.words.proofs.Turns.{turned_part}
use Rattle.words.proofs.Runs.{length_counted, get_d_counted, counted_same, turned_all, row, next, K}

pub length_row_word : (f : ℕ → ℕ) (j d : ℕ) → length (row_word f j d) ≡ d
length_row_word f j zero = refl
length_row_word f j (suc d) = ap suc (length_row_word f (j + 1) d)

pub length_sheet_word : (x : Plan) (k t l : ℕ) → length (sheet_word x k t l) ≡ k * l
length_sheet_word x k t zero = sym (mul-zero k)
length_sheet_word x k t (suc l) =
    let a = length_row_word (λ r. x r (t + 1)) 0 k in
    let b = length_sheet_word x k (t + 1) l in
    let c = mul-suc k l in
    simp (length-append) (omega arith)

module _ {St C : Type 0} (S : Measure C) (L : MeasureLaws S) (G : Process St C) (P : (s : St) (x : ℕ) → S.size (G.price s x) ≤ 16) where
  pub spent_len : (s : St) (w : List ℕ) → 16 * length w ≤ 60000 → S.size (spent S G s w) ≤ 16 * length w
  spent_len s [] h = omega (arith, L.size_nothing)
  spent_len s (x ∷ w) h =
      let ih = spent_len (G.after s x) w (omega arith) in
      let p = P s x in
      omega (arith, L.size_join (G.price s x) (spent S G (G.after s x) w) (omega arith))

module _ {C : Type 0} (S : Measure C) (L : MeasureLaws S) (Q : Problem) (M : ProblemLaws Q) (x : Plan) where
  prices : (s : Joint) (y : ℕ) → S.size ((process S (K Q x)).price s y) ≤ 16
  prices = price_size S L (K Q x) (runs_few Q M.points_most)

  abbrev step : ℕ → ℕ → C
  step t i = step_cost S Q x i t

  abbrev time : ℕ → C
  time t = joined S Q.rows (step t)

  price_is : (t j : ℕ) → j < Q.rows → move_price S (K Q x) (row Q x t) (length (counted j (next Q x t))) (x j (t + 1)) ≡ step t j
  price_is t j h =
      let l = length_counted j (next Q x t) in
      let a = get_d_counted Q.rows (λ r. x r t) j h in
      let g = get_d_counted Q.rows Q.goal j h in
      ap (λ i. move_price S (K Q x) (row Q x t) i (x j (t + 1))) l
      ∙ ap (λ z. S.price (run_over Q z (x j (t + 1))) (eqb z (get_or (counted Q.rows Q.goal) j 0) && eqb (x j (t + 1)) (get_or (counted Q.rows Q.goal) j 0))) a
      ∙ ap (λ z. S.price (run_over Q (x j t) (x j (t + 1))) (eqb (x j t) z && eqb (x j (t + 1)) z)) g

  one_size : (t i : ℕ) → S.size (step t i) ≤ 16
  one_size t i = step_cost_size S L Q M x i t

  step_size : (t j : ℕ) → j ≤ Q.rows → S.size (joined S j (step t)) ≤ j * 16
  step_size t j h = let r = M.rows_most in joined_size S L 16 j (step t) (λ i k. one_size t i) (omega arith)

  spend_row : (t : ℕ) (w : List ℕ) → length w ≤ 3000 → (d j : ℕ) → j + d ≡ Q.rows
      → S.join (joined S j (step t)) (spent S (process S (K Q x)) (turned Q.rows (row Q x t) (counted j (next Q x t))) (row_word (next Q x t) j d ++ w))
      ≡ S.join (time t) (spent S (process S (K Q x)) (record { at = row Q x (t + 1); to = [] }) w)
  unfolding process
  spend_row t w n zero j e =
      let q : j ≡ Q.rows = omega arith in
      ap₂ S.join (ap (λ i. joined S i (step t)) q) (ap (λ u. spent S (process S (K Q x)) u w) (turned_all Q x t j q))
  spend_row t w n (suc d) j e =
      let r = M.rows_most in
      let s = turned_part Q.rows (row Q x t) (counted j (next Q x t)) (omega (arith, length_counted j (next Q x t))) in
      let tail = spent S (process S (K Q x)) (turned Q.rows (row Q x t) (counted (suc j) (next Q x t))) (row_word (next Q x t) (j + 1) d ++ w) in
      let ih : S.join (joined S (suc j) (step t)) tail ≡ S.join (time t) (spent S (process S (K Q x)) (record { at = row Q x (t + 1); to = [] }) w) =
      subst (λ i. S.join (joined S i (step t)) (spent S (process S (K Q x)) (turned Q.rows (row Q x t) (counted i (next Q x t))) (row_word (next Q x t) (j + 1) d ++ w)) ≡ S.join (time t) (spent S (process S (K Q x)) (record { at = row Q x (t + 1); to = [] }) w)) (add-one j)
      (spend_row t w n d (j + 1) (omega arith)) in
      let len : length (row_word (next Q x t) (j + 1) d ++ w) ≡ d + length w =
      (let a = length_row_word (next Q x t) (j + 1) d in simp length-append (omega arith)) in
      let ts = spent_len S L (process S (K Q x)) prices (turned Q.rows (row Q x t) (counted (suc j) (next Q x t))) (row_word (next Q x t) (j + 1) d ++ w) (omega arith) in
      let js = step_size t j (omega arith) in
      let ps = one_size t j in
      let here : spent S (process S (K Q x)) (turned Q.rows (row Q x t) (counted j (next Q x t))) (row_word (next Q x t) j (suc d) ++ w) ≡ S.join (step t j) tail =
      ap (λ u. spent S (process S (K Q x)) u (row_word (next Q x t) j (suc d) ++ w)) s ∙ ap (λ p. S.join p tail) (price_is t j (omega arith)) in
      ap (S.join (joined S j (step t))) here ∙ sym (L.join_assoc (joined S j (step t)) (step t j) tail (omega arith)) ∙ ih

  time_size : (t : ℕ) → S.size (time t) ≤ 128
  time_size t = let r = M.rows_most in let s = step_size t Q.rows (omega arith) in omega arith

  times_size : (t : ℕ) → t ≤ Q.steps → S.size (joined S t time) ≤ 2048
  times_size t h = let m = M.steps_most in omega (arith, joined_size S L 128 t time (λ i k. time_size i) (omega arith))

  word_few : (l : ℕ) → l ≤ Q.steps → Q.rows * l ≤ 128
  word_few l h = let m = M.steps_most in let h16 : l ≤ 16 = omega arith in let p : Q.rows * l ≤ 8 * 16 = mul-le-mul M.rows_most h16 in omega arith

  spend_sheet : 1 ≤ Q.rows → (l t : ℕ) → t + l ≡ Q.steps
      → S.join (joined S t time) (spent S (process S (K Q x)) (record { at = row Q x t; to = [] }) (sheet_word x Q.rows t l)) ≡ joined S Q.steps time
  spend_sheet k1 zero t e =
      let q : t ≡ Q.steps = omega arith in
      L.join_nothing (joined S t time) (omega (arith, times_size t (omega arith))) ∙ ap (λ i. joined S i time) q
  spend_sheet k1 (suc l) t e =
      let w = sheet_word x Q.rows (t + 1) l in
      let lw : length w ≡ Q.rows * l = length_sheet_word x Q.rows (t + 1) l in
      let few = word_few l (omega arith) in
      let s = turned_part Q.rows (row Q x t) [] (omega arith) in
      let tail = spent S (process S (K Q x)) (record { at = row Q x (t + 1); to = [] }) w in
      let ts : S.size tail ≤ 16 * length w = spent_len S L (process S (K Q x)) prices (record { at = row Q x (t + 1); to = [] }) w (omega arith) in
      let all = spent S (process S (K Q x)) (record { at = row Q x t; to = [] }) (sheet_word x Q.rows t (suc l)) in
      let la = length_sheet_word x Q.rows t (suc l) in
      let fewa = word_few (suc l) (omega arith) in
      let asz : S.size all ≤ 16 * length (sheet_word x Q.rows t (suc l)) = spent_len S L (process S (K Q x)) prices (record { at = row Q x t; to = [] }) (sheet_word x Q.rows t (suc l)) (omega arith) in
      let one : all ≡ S.join (time t) tail =
      sym (nothing_join S L all (omega arith))
      ∙ ap (λ u. S.join S.nothing (spent S (process S (K Q x)) u (sheet_word x Q.rows t (suc l)))) (sym s)
      ∙ spend_row t w (omega arith) Q.rows 0 (omega arith) in
      let tm = times_size t (omega arith) in
      let tt' = time_size t in
      let ih : S.join (joined S (suc t) time) tail ≡ joined S Q.steps time =
      subst (λ i. S.join (joined S i time) tail ≡ joined S Q.steps time) (add-one t) (spend_sheet k1 l (t + 1) (omega arith)) in
      ap (S.join (joined S t time)) one ∙ sym (L.join_assoc (joined S t time) (time t) tail (omega arith)) ∙ ih

  swap : (n : ℕ) → n ≤ Q.rows → joined S n (λ i. joined S Q.steps (λ t. step t i)) ≡ joined S Q.steps (λ t. joined S n (step t))
  swap zero h = sym (none Q.steps)
    where
      none : (m : ℕ) → joined S m (λ t. S.nothing) ≡ S.nothing
      none zero = refl
      none (suc m) = ap (λ z. S.join z S.nothing) (none m) ∙ L.join_nothing S.nothing (omega (arith, L.size_nothing))
  swap (suc n) h =
      let r = M.rows_most in
      let m = M.steps_most in
      ap (λ z. S.join z (joined S Q.steps (λ t. step t n))) (swap n (omega arith))
      ∙ sym (joined_join S L 128 Q.steps (λ t. joined S n (step t)) (λ t. step t n)
      (λ t k. omega (arith, step_size t n (omega arith)))
      (λ t k. (let p = one_size t n in omega arith))
      (omega arith))

  pub spent_cost : 1 ≤ Q.rows → ((i : ℕ) → i < Q.rows → x i 0 ≡ Q.start i)
      → spent S (process S (K Q x)) (record { at = counted Q.rows Q.start; to = [] }) (sheet_word x Q.rows 0 Q.steps) ≡ cost S Q everyone x
  unfolding cost row_cost
  spent_cost k1 st =
      let e : row Q x 0 ≡ counted Q.rows Q.start = counted_same Q.rows _ _ st in
      let all = spent S (process S (K Q x)) (record { at = row Q x 0; to = [] }) (sheet_word x Q.rows 0 Q.steps) in
      let la = length_sheet_word x Q.rows 0 Q.steps in
      let few = word_few Q.steps (omega arith) in
      let asz : S.size all ≤ 16 * length (sheet_word x Q.rows 0 Q.steps) = spent_len S L (process S (K Q x)) prices (record { at = row Q x 0; to = [] }) (sheet_word x Q.rows 0 Q.steps) (omega arith) in
      ap (λ z. spent S (process S (K Q x)) (record { at = z; to = [] }) (sheet_word x Q.rows 0 Q.steps)) (sym e)
      ∙ sym (nothing_join S L all (omega arith))
      ∙ spend_sheet k1 Q.steps 0 (omega arith)
      ∙ sym (swap Q.rows (omega arith))
