-- Numbers of joint positions.
use Rattle.std.proofs.Common.{◌≡◌, ℕ, zero, suc, ◌+◌, ◌-◌, ◌*◌, ◌/◌, ◌%◌, ◌^◌, ◌<◌, ◌≤◌, List, [], ◌∷◌, ◌++◌, length, get_or, take, drop, set, sym, refl, ap, ◌∙◌, subst, ⊎_elim, mod-lt, pow-suc, add-one, arith, length-append, length-set, length-take, drop-cons, get_or-take, take-suc, get_or-set_same, drop-set-lt}
use native.Mathlib.Nat.{pow-zero, pow-le-pow_left, pow-le-pow_right}
use lib.Arith.{digits_lt, digits_div, digits_mod}
use lib.ListN.{get_or-append}
use lib.Seq.{take-set-lt, append_snoc, get_or-append_seam}
use Rattle.std.proofs.lemmas.Bool.{cases_lt}
use Rattle.table.specs.Codes.{digits, code_of}

pub decode_step : (n k i c : ℕ) (at whole : List ℕ) → 0 < i → i ≤ k → k ≤ length at → digits n i c ++ drop i (take k at) ≡ whole
    → digits n (i - 1) (c / n) ++ drop (i - 1) (take k (set at (i - 1) (c % n))) ≡ whole
unfolding digits
decode_step n k zero c at whole p ik kl e = absurd (omega arith)
decode_step n k (suc i) c at whole p ik kl e =
    let j : suc i - 1 ≡ i = omega arith in
    let lk : i < k = omega arith in
    let lt : i < length (take k at) = simp length-take (omega arith) in
    let ls : i < length (set (take k at) i (c % n)) = simp length-set lt in
    let li : i < suc i = omega arith in
    let a : take k (set at i (c % n)) ≡ set (take k at) i (c % n) = take-set-lt k at i (c % n) lk in
    let b : drop i (set (take k at) i (c % n)) ≡ (c % n) ∷ drop (suc i) (take k at) =
    drop-cons (set (take k at) i (c % n)) i 0 ls ∙ (let u = get_or-set_same (take k at) i (c % n) 0 lt in let v = drop-set-lt (suc i) (take k at) i (c % n) li in simp (u, v)) in
    let f : digits n i (c / n) ++ ((c % n) ∷ drop (suc i) (take k at)) ≡ whole = sym (append_snoc (digits n i (c / n)) (c % n) (drop (suc i) (take k at))) ∙ e in
    rw j (rw (a, b) f)

-- eight trains on 32 sections have 2 ^ 40 joint positions
pub power_size : (n k : ℕ) → n ≤ 32 → k ≤ 8 → n ^ k ≤ 2 ^ 40
power_size n k nn kk =
    let a = pow-le-pow_left nn k in
    let z : 0 < 32 = omega arith in
    let b = pow-le-pow_right z kk in
    omega arith

-- a number below a power has a base
pub base_some : (n k count c : ℕ) → count ≡ n ^ k → c < count → 0 < k → 0 < n
base_some zero zero count c e h p = absurd (omega arith)
base_some zero (suc k) count c e h p = absurd (omega (arith, pow-suc 0 k))
base_some (suc n) k count c e h p = omega arith

module _ (n : ℕ) (at : List ℕ) where
  pub code_below : (k : ℕ) → ((i : ℕ) → i < k → get_or at i 0 < n) → code_of n k at < n ^ k
  unfolding code_of
  code_below zero h = rw pow-zero (omega arith)
  code_below (suc k) h = rw pow-suc (digits_lt (code_below k (λ i l. h i (omega arith))) (h k (omega arith)))

  pub code_fits : (i k : ℕ) {base code digit : ℕ} → n ≤ 32 → k ≤ 8 → i < k → ((i : ℕ) → i < k → get_or at i 0 < n) → base ≡ n → code ≡ code_of n i at → digit ≡ get_or at i 0
      → code * base + digit < 2 ^ 40
  unfolding code_of
  code_fits i k nn kk ik h x y z =
      let a = code_below (suc i) (λ z l. h z (omega arith)) in
      let s : suc i ≤ 8 = omega arith in
      let b = power_size n (suc i) nn s in
      rw (x, y, z) (omega arith)

  -- one digit more
  pub code_more : (i : ℕ) {base code digit : ℕ} → base ≡ n → code ≡ code_of n i at → digit ≡ get_or at i 0 → code * base + digit ≡ code_of n (i + 1) at
  unfolding code_of
  code_more i b c d = rw (b, c, d, add-one)

  -- a joint position has the digits of its number
  pub code_digits : (k : ℕ) → k ≤ length at → ((i : ℕ) → i < k → get_or at i 0 < n) → digits n k (code_of n k at) ≡ take k at
  unfolding digits code_of
  code_digits zero l h = take_zero at
    where
      take_zero : (l : List ℕ) → [] ≡ take 0 l
      take_zero [] = refl
      take_zero (x ∷ l) = refl
  code_digits (suc k) l h =
      let x = h k (omega arith) in
      let ih = code_digits k (omega arith) (λ i z. h i (omega arith)) in
      let d = digits_div (code_of n k at) x in
      let m = digits_mod (code_of n k at) x in
      let t = take-suc at k 0 (omega arith) in
      simp (d, m, ih) (sym t)

pub length_digits : (n k c : ℕ) → length (digits n k c) ≡ k
unfolding digits
length_digits n zero c = refl
length_digits n (suc k) c = let e = length_digits n k (c / n) in simp (length-append, e) (omega arith)

-- every digit is below the base
pub digit_below : (n k c i : ℕ) → 1 ≤ n → i < k → get_or (digits n k c) i 0 < n
unfolding digits
digit_below n zero c i n1 h = absurd (omega arith)
digit_below n (suc k) c i n1 h =
    let l = length_digits n k (c / n) in
    ⊎_elim
    (λ z. let e : get_or (digits n k (c / n) ++ ((c % n) ∷ [])) i 0 ≡ get_or (digits n k (c / n)) i 0 = get_or-append (digits n k (c / n)) ((c % n) ∷ []) 0 i (omega arith) in rw e (digit_below n k (c / n) i n1 z))
    (λ z. let q : i ≡ k = omega arith in
    let e : get_or (digits n k (c / n) ++ ((c % n) ∷ [])) i 0 ≡ c % n = subst (λ j. get_or (digits n k (c / n) ++ ((c % n) ∷ [])) j 0 ≡ c % n) (l ∙ sym q) (get_or-append_seam (digits n k (c / n)) (c % n) [] 0) in rw e (mod-lt c n1))
    (cases_lt i k)

pub on_digits : (n k c : ℕ) (at : List ℕ) → 1 ≤ n → take k at ≡ digits n k c → (i : ℕ) → i < k → get_or at i 0 < n
on_digits n k c at n1 e i h = subst (λ z. z < n) (ap (λ l. get_or l i 0) (sym e) ∙ get_or-take k at i 0 h) (digit_below n k c i n1 h)
