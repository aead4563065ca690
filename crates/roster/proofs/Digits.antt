-- The set digits of a number, by place.
use Rattle.std.proofs.Common.{◌≡◌, ℕ, zero, suc, ◌+◌, ◌*◌, ◌/◌, ◌%◌, ◌^◌, ◌<◌, ◌≤◌, true, false, cond, ◌||◌, eqb, sym, refl, ap, ◌∙◌, pow-suc, div-one, one-add, arith, pow_mono}
use native.Mathlib.Nat.{zero-div, div-eq_of_lt, mod-one}
use lib.Bits.{bit_or, shifted_half, shifted_even}
use lib.Count.{ones, count_trailing_zeros, under, ones_cat}
use Rattle.std.proofs.lemmas.Nat.{shr-shr, or_shr, or_mod, mod_below, mod-pow-add, pow_pos}
use Rattle.std.proofs.lemmas.Bool.{eq-eqb, ne_eqb}
use Rattle.std.proofs.lemmas.Bool.Decides.{nat_tests}
use Rattle.roster.specs.Trains.{has}
use Rattle.roster.specs.Book.{how_many}

-- a place one higher is a place of the half
pub has_suc : (m k : ℕ) → has m (suc k) ≡ has (m / 2) k
has_suc m k = ap (λ (x : ℕ). eqb (x % 2) 1) (ap (λ (j : ℕ). m / 2 ^ j) (sym (one-add k)) ∙ sym (shr-shr m 1 k))

pub has_zero : (m : ℕ) → has m 0 ≡ eqb (m % 2) 1
has_zero m = ap (λ (x : ℕ). eqb (x % 2) 1) (div-one m)

-- ---- a set with one section, and a union
pub has_empty : (k : ℕ) → has 0 k ≡ false
has_empty k = ap (λ (x : ℕ). eqb (x % 2) 1) (zero-div (2 ^ k))

-- a set of sections below 32 has no other
pub has_past : (m k : ℕ) → m < 2 ^ 32 → 32 ≤ k → has m k ≡ false
has_past m k h l = ap (λ (x : ℕ). eqb (x % 2) 1) (div-eq_of_lt (omega (arith, pow_mono l)))

same_eqb : (k s : ℕ) → eqb k s ≡ eqb (suc k) (suc s)
same_eqb k s = grind (arith, nat_tests)

pub has_one : (s k : ℕ) → has (1 * 2 ^ s) k ≡ eqb k s
has_one zero zero = refl
has_one zero (suc k) = has_suc 1 k ∙ has_empty k ∙ sym (ne_eqb (suc k) 0 (λ e. omega arith))
has_one (suc s) zero = has_zero (1 * 2 ^ suc s) ∙ ap (λ (x : ℕ). eqb x 1) (shifted_even 1 s) ∙ sym (ne_eqb 0 (suc s) (λ e. omega arith))
has_one (suc s) (suc k) = has_suc (1 * 2 ^ suc s) k ∙ ap (λ (x : ℕ). has x k) (shifted_half 1 s) ∙ has_one s k ∙ same_eqb k s

two : (a b : ℕ) → a < 2 → b < 2 → eqb (bit_or a b) 1 ≡ (eqb a 1 || eqb b 1)
two zero zero h g = refl
two zero (suc zero) h g = refl
two zero (suc (suc b)) h g = absurd (omega arith)
two (suc zero) zero h g = refl
two (suc zero) (suc zero) h g = refl
two (suc zero) (suc (suc b)) h g = absurd (omega arith)
two (suc (suc a)) b h g = absurd (omega arith)

pub has_or : (a b k : ℕ) → has (bit_or a b) k ≡ (has a k || has b k)
has_or a b k =
    ap (λ (x : ℕ). eqb (x % 2) 1) (or_shr a b k) ∙ ap (λ (x : ℕ). eqb x 1) (or_mod (a / 2 ^ k) (b / 2 ^ k) 1) ∙ two (a / 2 ^ k % 2) (b / 2 ^ k % 2) (mod_below _ 2 (omega arith)) (mod_below _ 2 (omega arith))

-- ---- how many
digit : (d : ℕ) → d < 2 → ones d ≡ cond (eqb d 1) 1 0
unfolding ones
digit zero h = refl
digit (suc zero) h = refl
digit (suc (suc d)) h = absurd (omega arith)

pub ones_below : (m n : ℕ) → ones (m % 2 ^ n) ≡ how_many n (has m)
unfolding ones how_many
ones_below m zero = ap ones (mod-one m)
ones_below m (suc n) =
    let bit = m / 2 ^ n % 2 in
    let rest = m % 2 ^ n in
    let cut : ones (m % 2 ^ suc n) ≡ ones (bit * 2 ^ n + rest) = ap ones (ap (λ (j : ℕ). m % 2 ^ j) (sym (one-add n)) ∙ mod-pow-add m 1 n) in
    let parts = ones_cat n bit rest (mod_below m (2 ^ n) (pow_pos n)) in
    let one = digit bit (mod_below (m / 2 ^ n) 2 (omega arith)) in
    let less = ones_below m n in
    omega (arith, cut, parts, one, less)

-- ---- the lowest
abbrev pub Lowest : ℕ → ℕ → ℕ → Type 0
Lowest k m t = (t < k) × (has m t ≡ true) × ((j : ℕ) → j < t → has m j ≡ false)

step : (k m d : ℕ) → m % 2 ≡ d → (m % 2 ≡ 0 → Lowest k (m / 2) (count_trailing_zeros k (m / 2))) → Lowest (suc k) m (under d (count_trailing_zeros k (m / 2)))
step k m zero e h =
    let p = h e in
    (omega arith, has_suc m _ ∙ p.1, λ j. elim j as (λ i. i < suc (count_trailing_zeros k (m / 2)) → has m i ≡ false) [ zero ↦ λ _. has_zero m ∙ ap (λ (x : ℕ). eqb x 1) e | suc i ↦ λ l. has_suc m i ∙ p.2 i (omega arith) ])
step k m (suc d) e h = (omega arith, has_zero m ∙ eq-eqb (m % 2) 1 (omega (arith, mod_below m 2 (omega arith))), λ j l. absurd (omega arith))

pub lowest : (k m : ℕ) → 0 < m → m < 2 ^ k → Lowest k m (count_trailing_zeros k m)
unfolding count_trailing_zeros
lowest zero m p h = absurd (omega arith)
lowest (suc k) m p h = step k m (m % 2) refl (λ e. lowest k (m / 2) (omega arith) (omega (arith, pow-suc 2 k)))
