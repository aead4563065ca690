-- How many rows pass a test.
use Rattle.std.proofs.Common.{◌≡◌, ℕ, zero, suc, ◌+◌, ◌<◌, ◌≤◌, Bool, true, false, cond, ◌&&◌, ◌⊎◌, sym, refl, ap, ◌∙◌, inl, inr, arith}
use Rattle.std.specs.Prelude.{◌==◌, ◌≢◌}
use Rattle.std.proofs.lemmas.Bool.{cases_eq, eq-eqb, ne_eqb, and_from, and_right}
use Rattle.sheets.specs.Problem.{Group, count}

count_none : (n : ℕ) (f : ℕ → Bool) → ((i : ℕ) → i < n → f i ≡ false) → count n f ≡ 0
count_none zero f h = refl
count_none (suc n) f h = rw (h n (omega arith)) (omega (arith, count_none n f (λ i k. h i (omega arith))))

-- a row is one train
pub count_row : (n : ℕ) (G : Group) (k : ℕ) → k < n → G k ≡ true → count n (λ r. G r && r == k) ≡ 1
count_row zero G k h g = absurd (omega arith)
count_row (suc n) G k h g = go (cases_eq k n) (λ j. count_row n G k j g)
  where
    off : (r : ℕ) → (r ≢ k) → (G r && r == k) ≡ false
    off r d = and_right (G r) _ (ne_eqb r k d)

    go : (k ≡ n) ⊎ (k ≢ n) → (k < n → count n (λ r. G r && r == k) ≡ 1) → count n (λ r. G r && r == k) + cond (G n && n == k) 1 0 ≡ 1
    go (inl e) rec =
        let here : (G n && n == k) ≡ true = and_from (G n) (n == k) (ap G (sym e) ∙ g) (eq-eqb n k (sym e)) in
        rw here (omega (arith, count_none n (λ r. G r && r == k) (λ r i. off r (λ z. omega arith))))
    go (inr e) rec =
        let here : (G n && n == k) ≡ false = off n (λ z. e (sym z)) in
        rw here (omega (arith, rec (omega arith)))

pub count_some : (n : ℕ) (f : ℕ → Bool) (i : ℕ) → i < n → f i ≡ true → 1 ≤ count n f
count_some zero f i h e = absurd (omega arith)
count_some (suc n) f i h e = go (cases_eq i n) (λ j. count_some n f i j e)
  where
    go : (i ≡ n) ⊎ (i ≢ n) → (i < n → 1 ≤ count n f) → 1 ≤ count n f + cond (f n) 1 0
    go (inl z) rec = rw (sym (ap f z) ∙ e) (omega arith)
    go (inr z) rec = omega (arith, rec (omega arith))

-- two rows are two trains
pub count_two : (n : ℕ) (f : ℕ → Bool) (i j : ℕ) → i < j → j < n → f i ≡ true → f j ≡ true → 2 ≤ count n f
count_two zero f i j h k a b = absurd (omega arith)
count_two (suc n) f i j h k a b = go (cases_eq j n) (λ l. count_two n f i j h l a b)
  where
    go : (j ≡ n) ⊎ (j ≢ n) → (j < n → 2 ≤ count n f) → 2 ≤ count n f + cond (f n) 1 0
    go (inl z) rec = rw (sym (ap f z) ∙ b) (omega (arith, count_some n f i (omega arith) a))
    go (inr z) rec = omega (arith, rec (omega arith))
