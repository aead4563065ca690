-- Trains whose numbers rise, by place.
use Rattle.std.proofs.Common.{◌≡◌, ℕ, zero, suc, ◌+◌, ◌<◌, ◌≤◌, Bool, true, false, cond, not, ◌||◌, is_some, Option, refl, eqb, ltb, List, [], ◌∷◌, length, get_or, Some, None, sym, ap, ◌∙◌, ⊎_elim, arith}
use Rattle.std.specs.Prelude.{Result, Ok, Err}
use Rattle.std.proofs.lemmas.Bool.{and_parts, ltb-true, cond-true, cond-false, cases_lt}
use Rattle.std.proofs.lemmas.Bool.Decides.{nat_tests}
use Rattle.std.proofs.lemmas.Cmp.{nat_cmp_total}
use Rattle.std.proofs.lemmas.Iterator.Adapters.{position_from-zero}
use Rattle.std.proofs.lemmas.List.Sorted.{searchable_from_sorted}
use Rattle.std.proofs.lemmas.List.Sums.{prefix_len_is}
use Rattle.std.specs.List.{prefix_len}
use Rattle.std.specs.List.Sorted.{IsNonDecreasingBy, IsBinarySearchResult, IsSearchInRange}
use Rattle.std.specs.Ordering.{nat_cmp}
use Rattle.std.specs.Result.{result_ok}
use Rattle.roster.specs.Trains.{above, rising, number_of, taken, place_from}
use Rattle.roster.specs.Model.{no_train}
use Rattle.roster.specs.declared.train.Train.{Train}

above_at : (n : ℕ) (xs : List Train) → above n xs ≡ true → (j : ℕ) (d : Train) → j < length xs → n < (get_or xs j d).number
above_at n [] h j d l = absurd (omega arith)
above_at n (x ∷ xs) h zero d l = let p = and_parts (ltb n x.number) (above n xs) h in ltb-true n x.number p.0
above_at n (x ∷ xs) h (suc j) d l = let p = and_parts (ltb n x.number) (above n xs) h in above_at n xs p.1 j d (omega arith)

rising_at : (xs : List Train) → rising xs ≡ true → (i j : ℕ) (d : Train) → i < j → j < length xs → (get_or xs i d).number < (get_or xs j d).number
rising_at [] h i j d k l = absurd (omega arith)
rising_at (x ∷ xs) h i zero d k l = absurd (omega arith)
rising_at (x ∷ xs) h zero (suc j) d k l = let p = and_parts (above x.number xs) (rising xs) h in above_at x.number xs p.0 j d (omega arith)
rising_at (x ∷ xs) h (suc i) (suc j) d k l = let p = and_parts (above x.number xs) (rising xs) h in rising_at xs p.1 i j d (omega arith) (omega arith)

pub not_falling : (xs : List Train) → rising xs ≡ true → IsNonDecreasingBy number_of xs
not_falling [] h i j d k l = absurd (omega arith)
not_falling (x ∷ xs) h zero zero d k l = omega arith
not_falling (x ∷ xs) h (suc i) zero d k l = absurd (omega arith)
not_falling (x ∷ xs) h zero (suc j) d k l = let m = rising_at (x ∷ xs) h 0 (suc j) d (omega arith) l in omega (arith, m)
not_falling (x ∷ xs) h (suc i) (suc j) d k l = let p = and_parts (above x.number xs) (rising xs) h in not_falling xs p.1 i j d (omega arith) (omega arith)

-- the first with the number v is at the place k, or k is past the last
first_at : (v : ℕ) (xs : List Train) (k : ℕ) → k ≤ length xs → ((j : ℕ) → j < k → eqb (get_or xs j no_train).number v ≡ false) → (k < length xs → eqb (get_or xs k no_train).number v ≡ true) → cond (ltb k (length xs)) (Some k) None ≡ place_from 0 v xs
first_at v xs k l before there =
    let e : prefix_len (λ (x : Train). not (eqb x.number v)) xs ≡ k = prefix_len_is (λ (x : Train). not (eqb x.number v)) xs k no_train l (λ j h. ap not (before j h)) (λ h. ap not (there h)) in
    ap (λ (n : ℕ). cond (ltb n (length xs)) (Some n) None) (sym e) ∙ position_from-zero (λ (x : Train). eqb x.number v) xs

-- what a search by halves finds
pub found_first : (xs : List Train) (v : ℕ) (r : Result ℕ ℕ) → rising xs ≡ true → IsSearchInRange r (length xs) → IsBinarySearchResult (λ (x : Train). nat_cmp x.number v) xs r → result_ok r ≡ place_from 0 v xs
found_first xs v (Ok k) h b p =
    let at = p no_train in
    sym (cond-true (ltb k (length xs)) (Some k) None (grind (arith, nat_tests)))
    ∙ first_at v xs k (omega arith) (λ j l. let m = rising_at xs h j k no_train l b in grind (arith, nat_tests)) (λ _. grind (arith, nat_tests))
found_first xs v (Err i) h b p =
    let P = p (searchable_from_sorted nat_cmp_total number_of xs v (λ k d l m. let e = rising_at xs h k (k + 1) d (omega arith) m in grind (arith, nat_tests))) in
    sym (cond-false (ltb (length xs) (length xs)) (Some (length xs)) None (grind (arith, nat_tests)))
    ∙ first_at v xs (length xs) (omega arith) (λ j l. ⊎_elim (λ m. let e = P.0 j no_train (omega arith) m in grind (arith, nat_tests)) (λ m. let e = P.1 j no_train m l in grind (arith, nat_tests)) (cases_lt j i)) (λ l. absurd (omega arith))

-- a number is found where a train has it
found_under : (b : Bool) (i : ℕ) (o : Option ℕ) → is_some (cond b (Some i) o) ≡ (b || is_some o)
found_under true i o = refl
found_under false i o = refl

pub found_taken : (v i : ℕ) (xs : List Train) → is_some (place_from i v xs) ≡ taken number_of v xs
found_taken v i [] = refl
found_taken v i (x ∷ xs) =
    found_under (eqb x.number v) i (place_from (i + 1) v xs) ∙ ap (λ (b : Bool). eqb x.number v || b) (found_taken v (i + 1) xs)
