-- What holds of the front of a list, told by its places.
use Rattle.std.proofs.Common.{◌≡◌, ℕ, zero, suc, ◌+◌, ◌≤◌, Bool, true, false, cond, not, ◌&&◌, ◌||◌, ltb, List, [], ◌∷◌, length, get_or, take, drop, sym, refl, ap, ◌∙◌, ap₂, add-one, arith}
use Rattle.std.specs.List.{list_all, count_by}
use Rattle.std.specs.Cmp.Lexicographic.{pointwise}
use Rattle.std.proofs.lemmas.List.Sums.{count_by_more_yes, count_by_more_no}
use Rattle.std.proofs.lemmas.Bool.Decides.{nat_tests}
use Rattle.std.proofs.Math.Seq.{take-length}
use Rattle.std.specs.List.{range_with_len}
use Rattle.std.proofs.lemmas.List.FromFn.{length-range_with_len, get_or-range_with_len}
use Rattle.sheets.specs.Problem.{all, count}
use Rattle.sheets.proofs.Alls.{all_same}

-- the first number apart from the others
and_turned : (a b c : Bool) → ((a && b) && c) ≡ (a && (b && c))
and_turned a b c = grind (arith, nat_tests)

all_front : (n : ℕ) (f : ℕ → Bool) → all (suc n) f ≡ (f zero && all n (λ i. f (suc i)))
all_front zero f = grind (arith, nat_tests)
all_front (suc n) f = ap (λ b. b && f (suc n)) (all_front n f) ∙ and_turned (f zero) _ _

pub front_all : {A : Type 0} (p : A → Bool) (xs : List A) (d : A) (n : ℕ) → n ≤ length xs → list_all p (take n xs) ≡ all n (λ i. p (get_or xs i d))
front_all p xs d zero h = refl
front_all p [] d (suc n) h = absurd (omega arith)
front_all p (x ∷ xs) d (suc n) h = ap (λ b. p x && b) (front_all p xs d n (omega arith)) ∙ sym (all_front n (λ i. p (get_or (x ∷ xs) i d)))

pub front_count : (xs : List Bool) (n : ℕ) → n ≤ length xs → count_by (λ b. b) (take n xs) ≡ count n (λ i. get_or xs i false)
front_count xs zero h = refl
front_count xs (suc n) h = ap (λ (k : ℕ). count_by (λ b. b) (take k xs)) (sym (add-one n)) ∙ one_more (get_or xs n false) refl (front_count xs n (omega arith))
  where
    one_more : (b : Bool) → get_or xs n false ≡ b → count_by (λ b. b) (take n xs) ≡ count n (λ i. get_or xs i false) → count_by (λ b. b) (take (n + 1) xs) ≡ count (suc n) (λ i. get_or xs i false)
    one_more true e rest = count_by_more_yes (λ b. b) xs n false (omega arith) e ∙ ap₂ (λ j k. j + k) rest (rw e refl)
    one_more false e rest = count_by_more_no (λ b. b) xs n false (omega arith) e ∙ rest ∙ (let z : cond {A = ℕ} (get_or xs n false) 1 0 ≡ 0 = rw e refl in omega (arith, z))

pub front_same : (e : ℕ → ℕ → Bool) (xs ys : List ℕ) (n : ℕ) → n ≤ length xs → n ≤ length ys → pointwise e (take n xs) (take n ys) ≡ all n (λ i. e (get_or xs i 0) (get_or ys i 0))
front_same e xs ys zero h k = refl
front_same e [] ys (suc n) h k = absurd (omega arith)
front_same e (x ∷ xs) [] (suc n) h k = absurd (omega arith)
front_same e (x ∷ xs) (y ∷ ys) (suc n) h k = ap (λ b. e x y && b) (front_same e xs ys n (omega arith) (omega arith)) ∙ sym (all_front n (λ i. e (get_or (x ∷ xs) i 0) (get_or (y ∷ ys) i 0)))

not_first : (b : Bool) (r : ℕ) → not b ≡ (not b || ltb r 0)
not_first b r = grind (arith, nat_tests)

not_next : (b : Bool) (r n : ℕ) → (not b || ltb r n) ≡ (not b || ltb (suc r) (suc n))
not_next b r n = grind (arith, nat_tests)

below : (b : Bool) (n : ℕ) (rest : Bool) → rest ≡ ((not b || ltb zero (suc n)) && rest)
below b n rest = grind (arith, nat_tests)

-- none of the marks from the place n on is set
pub back_none : (xs : List Bool) (n : ℕ) → n ≤ length xs → list_all not (drop n xs) ≡ all (length xs) (λ r. not (get_or xs r false) || ltb r n)
back_none xs zero h =
    ap (list_all not) (sym (take-length xs)) ∙ front_all not xs false (length xs) (omega arith)
    ∙ all_same (length xs) _ _ (λ r l. not_first (get_or xs r false) r)
back_none [] (suc n) h = absurd (omega arith)
back_none (x ∷ xs) (suc n) h =
    back_none xs n (omega arith) ∙ all_same (length xs) _ _ (λ r l. not_next (get_or xs r false) r n)
    ∙ below x n _ ∙ sym (all_front (length xs) (λ r. not (get_or (x ∷ xs) r false) || ltb r (suc n)))

-- the numbers below n, one after the other
pub range_all : (n : ℕ) (f : ℕ → Bool) → list_all f (range_with_len 0 n) ≡ all n f
range_all n f =
    let xs = range_with_len 0 n in
    ap (list_all f) (sym (take-length xs)) ∙ front_all f xs 0 (length xs) (omega arith)
    ∙ ap (λ (k : ℕ). all k (λ i. f (get_or xs i 0))) (length-range_with_len 0 n)
    ∙ all_same n _ _ (λ i l. let here : get_or xs i 0 ≡ i = omega (arith, get_or-range_with_len 0 n i 0 l) in ap f here)
