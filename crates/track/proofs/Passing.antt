-- The numbers below n that pass a test, in rising order.
use Rattle.std.proofs.Common.{◌≡◌, ℕ, zero, suc, ◌<◌, ◌≤◌, Bool, true, List, [], ◌∷◌, length, get_or, filter, sym, ap, ◌∙◌, subst, arith}
use Rattle.std.proofs.lemmas.Bool.{cond-true, cond_both}
use Rattle.std.proofs.lemmas.List.{get_or_default}
use Rattle.std.proofs.lemmas.List.Elements.{All-filter, Contains-append_right, filter_passes}
use Rattle.std.proofs.lemmas.List.FromFn.{length-range_with_len, get_or-range_with_len}
use Rattle.std.proofs.lemmas.List.Kept.{AllPairs-filter}
use Rattle.std.proofs.lemmas.List.Sums.{length-filter, count_by-le-length}
use Rattle.std.specs.List.{All, AllPairs, Contains, range_with_len}
use Rattle.track.specs.Ways.{passing}

-- an element that passes stays
in_filter : (t : ℕ → Bool) (xs : List ℕ) (k x : ℕ) → k < length xs → get_or xs k x ≡ x → t x ≡ true → Contains (filter t xs) x
in_filter t [] k x h e g = absurd (omega arith)
in_filter t (y ∷ ys) zero x h e g =
    subst (λ (zs : List ℕ). Contains zs x) (sym (cond-true (t y) (y ∷ filter t ys) (filter t ys) (ap t e ∙ g))) (0, omega arith, e)
in_filter t (y ∷ ys) (suc k) x h e g =
    let more = in_filter t ys k x (omega arith) e g in
    cond_both (t y) (y ∷ filter t ys) (filter t ys) (λ (zs : List ℕ). Contains zs x)
    (λ _. Contains-append_right (y ∷ []) (filter t ys) x more) (λ _. more)

-- no more pass than there are
pub few : (t : ℕ → Bool) (n : ℕ) → length (filter t (range_with_len 0 n)) ≤ n
few t n =
    let counted = length-filter t (range_with_len 0 n) in
    let most = count_by-le-length t (range_with_len 0 n) in
    let numbers = length-range_with_len 0 n in
    omega arith

-- what holds of the list
pub record Passing (t : ℕ → Bool) (n : ℕ) (xs : List ℕ) : Type 0 where
  pub below : (i : ℕ) → i < length xs → get_or xs i 0 < n
  pub rising : (i j : ℕ) → i < j → j < length xs → get_or xs i 0 < get_or xs j 0
  pub passes : (i : ℕ) → i < length xs → t (get_or xs i 0) ≡ true
  pub every : (b : ℕ) → b < n → t b ≡ true → (i : ℕ) × (i < length xs) × (get_or xs i 0 ≡ b)

module _ (t : ℕ → Bool) (n : ℕ) where
  abbrev numbers : List ℕ
  numbers = range_with_len 0 n

  numbers_at : (i d : ℕ) → i < length numbers → get_or numbers i d ≡ i
  numbers_at i d h = let long = length-range_with_len 0 n in let e = get_or-range_with_len 0 n i d (omega arith) in omega (arith, e)

  numbers_below : All (λ x. x < n) numbers
  numbers_below k d h = let long = length-range_with_len 0 n in let e = numbers_at k d h in omega arith

  numbers_rise : AllPairs (λ x y. x < y) numbers
  numbers_rise i j d l h = let e = numbers_at i d (omega arith) in let f = numbers_at j d h in omega arith

  pub passing_has : Passing t n (passing t n)
  unfolding passing
  passing_has =
      record {
        below = λ i h. All-filter t (λ x. x < n) numbers numbers_below i 0 h;
        rising = λ i j l h. AllPairs-filter (λ x y. x < y) t numbers numbers_rise i j 0 l h;
        passes = λ i h. filter_passes t numbers i 0 h;
        every = λ b h g.
            let long = length-range_with_len 0 n in
            let found = in_filter t numbers b b (omega arith) (numbers_at b b (omega arith)) g in
            (found.0, found.1, get_or_default (filter t numbers) found.0 0 b found.1 ∙ found.2);
      }
