-- Tests of the numbers below a bound.
use Rattle.std.proofs.Common.{◌≡◌, ℕ, zero, suc, ◌+◌, ◌<◌, Bool, true, false, cond, ◌&&◌, sym, refl, ap, ◌∙◌, subst, ap₂, ⊎_elim, add-zero, add-one, arith}
use Rattle.std.proofs.lemmas.Bool.{cases_lt, and_from, and_left, and_right, and_parts}
use Rattle.sheets.specs.Problem.{all, count}

pub all_more : (n : ℕ) (f : ℕ → Bool) → all n f ≡ true → f n ≡ true → all (n + 1) f ≡ true
all_more n f a h = rw add-one (and_from (all n f) (f n) a h)

pub all_false : (n : ℕ) (f : ℕ → Bool) (i : ℕ) → i < n → f i ≡ false → all n f ≡ false
all_false zero f i l h = absurd (omega arith)
all_false (suc n) f i l h =
    ⊎_elim
    (λ k. and_left (all n f) (f n) (all_false n f i k h))
    (λ k. let e : i ≡ n = omega arith in and_right (all n f) (f n) (subst (λ z. f z ≡ false) e h))
    (cases_lt i n)

pub all_at : (n : ℕ) (f : ℕ → Bool) → all n f ≡ true → (i : ℕ) → i < n → f i ≡ true
all_at zero f h i k = absurd (omega arith)
all_at (suc n) f h i k =
    let p = and_parts (all n f) (f n) h in
    ⊎_elim (λ l. all_at n f p.0 i l) (λ l. let e : n ≡ i = omega arith in subst (λ z. f z ≡ true) e p.1) (cases_lt i n)

pub all_from : (n : ℕ) (f : ℕ → Bool) → ((i : ℕ) → i < n → f i ≡ true) → all n f ≡ true
all_from zero f h = refl
all_from (suc n) f h = and_from (all n f) (f n) (all_from n f (λ i k. h i (omega arith))) (h n (omega arith))

pub all_same : (n : ℕ) (f g : ℕ → Bool) → ((i : ℕ) → i < n → f i ≡ g i) → all n f ≡ all n g
all_same zero f g h = refl
all_same (suc n) f g h = ap₂ (λ a b. a && b) (all_same n f g (λ i k. h i (omega arith))) (h n (omega arith))

-- a loop that came to the end has tested all
pub all_to : (n i : ℕ) (f : ℕ → Bool) → i ≡ n → all i f ≡ true → true ≡ all n f
all_to n i f e h = sym h ∙ ap (λ k. all k f) e

-- one number more
pub count_yes : (n : ℕ) (f : ℕ → Bool) → f n ≡ true → count (n + 1) f ≡ count n f + 1
count_yes n f e = rw add-one (ap (λ b. count n f + cond b 1 0) e)

pub count_no : (n : ℕ) (f : ℕ → Bool) → f n ≡ false → count (n + 1) f ≡ count n f
count_no n f e = rw add-one (ap (λ b. count n f + cond b 1 0) e ∙ add-zero (count n f))
