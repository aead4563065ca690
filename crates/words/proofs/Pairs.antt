-- Tests of the pairs of two lists, and of the numbers of their places.
use Rattle.std.proofs.Common.{◌≡◌, ℕ, zero, suc, ◌≤◌, Bool, ◌&&◌, eqb, List, [], ◌∷◌, length, get_or, take, sym, refl, ap, ◌∙◌, arith}
use Rattle.std.proofs.Math.Bool.{and_assoc}
use Rattle.std.specs.List.{list_all, zip}
use Rattle.std.specs.Cmp.Lexicographic.{pointwise}
use Rattle.sheets.specs.Problem.{all}

all_first : (n : ℕ) (f : ℕ → Bool) → all (suc n) f ≡ (f 0 && all n (λ i. f (suc i)))
all_first zero f = grind arith
all_first (suc n) f = ap (λ b. b && f (suc n)) (all_first n f) ∙ and_assoc (f 0) (all n (λ i. f (suc i))) (f (suc n))

pub all_zip : (f : ℕ → ℕ → Bool) (j : ℕ) (p q : List ℕ) → j ≤ length p → j ≤ length q
    → list_all (λ m. f m.0 m.1) (zip (take j p) (take j q)) ≡ all j (λ i. f (get_or p i 0) (get_or q i 0))
all_zip f zero p q hp hq = refl
all_zip f (suc j) [] q hp hq = absurd (omega arith)
all_zip f (suc j) (x ∷ p) [] hp hq = absurd (omega arith)
all_zip f (suc j) (x ∷ p) (y ∷ q) hp hq =
    ap (λ b. f x y && b) (all_zip f j p q (omega arith) (omega arith)) ∙ sym (all_first j (λ i. f (get_or (x ∷ p) i 0) (get_or (y ∷ q) i 0)))

pub all_pointwise : (k : ℕ) (p q : List ℕ) → k ≤ length p → k ≤ length q
    → pointwise eqb (take k p) (take k q) ≡ all k (λ i. eqb (get_or (take k p) i 0) (get_or (take k q) i 0))
all_pointwise zero p q hp hq = refl
all_pointwise (suc k) [] q hp hq = absurd (omega arith)
all_pointwise (suc k) (x ∷ p) [] hp hq = absurd (omega arith)
all_pointwise (suc k) (x ∷ p) (y ∷ q) hp hq =
    ap (λ b. eqb x y && b) (all_pointwise k p q (omega arith) (omega arith)) ∙ sym (all_first k (λ i. eqb (get_or (take (suc k) (x ∷ p)) i 0) (get_or (take (suc k) (y ∷ q)) i 0)))
