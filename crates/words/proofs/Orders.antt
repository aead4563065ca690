-- Lexicographic order of words of sheets is the order of the sheets.
use Rattle.std.proofs.Common.{◌≡◌, ℕ, zero, suc, ◌+◌, ◌<◌, ◌≤◌, ◌⊎◌, List, ◌∷◌, ◌++◌, sym, refl, subst, ap₂, inl, inr, ⊎_elim, arith}
use Rattle.std.proofs.lemmas.Bool.{cases_lt, cases_order}
use Rattle.sheets.specs.Plan.{Plan}
use Rattle.words.specs.Words.{Ahead}
use Rattle.words.specs.Bridge.{row_word, sheet_word}

abbrev RowSame : (f g : ℕ → ℕ) (j d : ℕ) → Type 0
RowSame f g j d = (q : ℕ) → j ≤ q → q < j + d → f q ≡ g q

record RowLess (f g : ℕ → ℕ) (j d : ℕ) : Type 0 where
  at : ℕ
  low : j ≤ at
  high : at < j + d
  less : f at < g at
  same : (q : ℕ) → j ≤ q → q < at → f q ≡ g q

from_j : (f g : ℕ → ℕ) (j e : ℕ) → f j ≡ g j → ((q : ℕ) → j + 1 ≤ q → q < e → f q ≡ g q) → (q : ℕ) → j ≤ q → q < e → f q ≡ g q
from_j f g j e h s q a b = ⊎_elim (λ k. s q (omega arith) b) (λ k. let z : j ≡ q = omega arith in subst (λ i. f i ≡ g i) z h) (cases_lt j q)

row_differ : (f g : ℕ → ℕ) (d j : ℕ) (w v : List ℕ) → Ahead (row_word f j d ++ w) (row_word g j d ++ v) → RowLess f g j d ⊎ (RowSame f g j d × Ahead w v)
row_differ f g zero j w v h = inr ((λ q a b. absurd (omega arith)), h)
row_differ f g (suc d) j w v (inl l) = inl (record { at = j; low = omega arith; high = omega arith; less = l; same = λ q a b. absurd (omega arith) })
row_differ f g (suc d) j w v (inr (e, a)) = go (row_differ f g d (j + 1) w v a)
  where
    go : RowLess f g (j + 1) d ⊎ (RowSame f g (j + 1) d × Ahead w v) → RowLess f g j (suc d) ⊎ (RowSame f g j (suc d) × Ahead w v)
    go (inl r) = inl (record { at = r.at; low = omega (arith, r.low); high = omega (arith, r.high); less = r.less; same = from_j f g j r.at e r.same })
    go (inr (s, b)) = inr (from_j f g j (j + suc d) e (λ q l h. s q l (omega arith)), b)

row_less : (f g : ℕ → ℕ) (d j : ℕ) (w v : List ℕ) → RowLess f g j d → Ahead (row_word f j d ++ w) (row_word g j d ++ v)
row_less f g zero j w v r = absurd (omega (arith, r.low, r.high))
row_less f g (suc d) j w v r =
    ⊎_elim
    (λ e. inl (subst (λ i. f i < g i) (sym e) r.less))
    (⊎_elim
    (λ l. inr (
      r.same j (omega arith) l,
      row_less f g d (j + 1) w v (record { at = r.at; low = omega arith; high = omega (arith, r.high); less = r.less; same = λ q a b. r.same q (omega arith) b }),
    ))
    (λ l. absurd (omega (arith, r.low))))
    (cases_order j r.at)

pub row_equal : (f g : ℕ → ℕ) (d j : ℕ) → RowSame f g j d → row_word f j d ≡ row_word g j d
row_equal f g zero j s = refl
row_equal f g (suc d) j s = ap₂ (λ a b. a ∷ b) (s j (omega arith) (omega arith)) (row_equal f g d (j + 1) (λ q a b. s q (omega arith) (omega arith)))

row_past : (f g : ℕ → ℕ) (d j : ℕ) (w v : List ℕ) → RowSame f g j d → Ahead w v → Ahead (row_word f j d ++ w) (row_word g j d ++ v)
row_past f g zero j w v s h = h
row_past f g (suc d) j w v s h = inr (s j (omega arith) (omega arith), row_past f g d (j + 1) w v (λ q a b. s q (omega arith) (omega arith)) h)

row_split : (f g : ℕ → ℕ) (d j : ℕ) (w v : List ℕ) → row_word f j d ++ w ≡ row_word g j d ++ v → RowSame f g j d × (w ≡ v)
row_split f g zero j w v e = ((λ q a b. absurd (omega arith)), e)
row_split f g (suc d) j w v e =
    let h : f j ≡ g j = cc in
    let t : row_word f (j + 1) d ++ w ≡ row_word g (j + 1) d ++ v = cc in
    let ih = row_split f g d (j + 1) w v t in
    (from_j f g j (j + suc d) h (λ q a b. ih.0 q a (omega arith)), ih.1)

-- the first place where two sheets of k trains differ after time t, and there the first is lower
pub record Gap (x y : Plan) (k t l : ℕ) : Type 0 where
  pub time : ℕ
  pub train : ℕ
  pub after : t < time
  pub until : time ≤ t + l
  pub a_train : train < k
  pub less : x train time < y train time
  pub same_time : (q : ℕ) → q < train → x q time ≡ y q time
  pub same_before : (u q : ℕ) → t < u → u < time → q < k → x q u ≡ y q u

pub gap_of : (x y : Plan) (k l t : ℕ) → Ahead (sheet_word x k t l) (sheet_word y k t l) → Gap x y k t l
gap_of x y k zero t h = absurd h
gap_of x y k (suc l) t h = go (row_differ (λ r. x r (t + 1)) (λ r. y r (t + 1)) k 0 (sheet_word x k (t + 1) l) (sheet_word y k (t + 1) l) h) (λ a. gap_of x y k l (t + 1) a)
  where
    go : RowLess (λ r. x r (t + 1)) (λ r. y r (t + 1)) 0 k ⊎ (RowSame (λ r. x r (t + 1)) (λ r. y r (t + 1)) 0 k × Ahead (sheet_word x k (t + 1) l) (sheet_word y k (t + 1) l)) → (Ahead (sheet_word x k (t + 1) l) (sheet_word y k (t + 1) l) → Gap x y k (t + 1) l) → Gap x y k t (suc l)
    go (inl r) ih = record {
      time = t + 1;
      train = r.at;
      after = omega arith;
      until = omega arith;
      a_train = omega (arith, r.high);
      less = r.less;
      same_time = λ q b. r.same q (omega arith) b;
      same_before = λ u q a b c. absurd (omega arith);
    }
    go (inr (s, a)) ih =
        let g = ih a in
        record {
          time = g.time;
          train = g.train;
          after = omega (arith, g.after);
          until = omega (arith, g.until);
          a_train = g.a_train;
          less = g.less;
          same_time = g.same_time;
          same_before = λ u q a b c. ⊎_elim (λ m. g.same_before u q m b c)
              (λ m. let e : t + 1 ≡ u = omega arith in subst (λ z. x q z ≡ y q z) e (s q (omega arith) (omega arith))) (cases_lt (t + 1) u);
        }

pub gap_ahead : (x y : Plan) (k l t : ℕ) → Gap x y k t l → Ahead (sheet_word x k t l) (sheet_word y k t l)
gap_ahead x y k zero t g = absurd (omega (arith, g.after, g.until))
gap_ahead x y k (suc l) t g =
    ⊎_elim
    (λ m. row_past (λ r. x r (t + 1)) (λ r. y r (t + 1)) k 0 (sheet_word x k (t + 1) l) (sheet_word y k (t + 1) l)
    (λ q a b. g.same_before (t + 1) q (omega arith) m (omega arith))
    (gap_ahead x y k l (t + 1) (record {
      time = g.time;
      train = g.train;
      after = m;
      until = omega (arith, g.until);
      a_train = g.a_train;
      less = g.less;
      same_time = g.same_time;
      same_before = λ u q a b c. g.same_before u q (omega arith) b c;
    })))
    (λ m. let e : g.time ≡ t + 1 = omega (arith, g.after) in
    row_less (λ r. x r (t + 1)) (λ r. y r (t + 1)) k 0 (sheet_word x k (t + 1) l) (sheet_word y k (t + 1) l)
    (record {
      at = g.train;
      low = omega arith;
      high = omega (arith, g.a_train);
      less = subst (λ u. x g.train u < y g.train u) e g.less;
      same = λ q a b. subst (λ u. x q u ≡ y q u) e (g.same_time q b);
    }))
    (cases_lt (t + 1) g.time)

pub sheet_equal : (x y : Plan) (k l t : ℕ) → ((u q : ℕ) → t < u → u ≤ t + l → q < k → x q u ≡ y q u) → sheet_word x k t l ≡ sheet_word y k t l
sheet_equal x y k zero t s = refl
sheet_equal x y k (suc l) t s =
    ap₂ (λ a b. a ++ b) (row_equal (λ r. x r (t + 1)) (λ r. y r (t + 1)) k 0 (λ q a b. s (t + 1) q (omega arith) (omega arith) (omega arith)))
    (sheet_equal x y k l (t + 1) (λ u q a b c. s u q (omega arith) (omega arith) c))

pub sheet_split : (x y : Plan) (k l t : ℕ) → sheet_word x k t l ≡ sheet_word y k t l → (u q : ℕ) → t < u → u ≤ t + l → q < k → x q u ≡ y q u
sheet_split x y k zero t e u q a b c = absurd (omega arith)
sheet_split x y k (suc l) t e u q a b c =
    let s = row_split (λ r. x r (t + 1)) (λ r. y r (t + 1)) k 0 (sheet_word x k (t + 1) l) (sheet_word y k (t + 1) l) e in
    ⊎_elim (λ m. sheet_split x y k l (t + 1) s.1 u q m (omega arith) c)
    (λ m. let z : t + 1 ≡ u = omega arith in subst (λ i. x q i ≡ y q i) z (s.0 q (omega arith) (omega arith))) (cases_lt (t + 1) u)
