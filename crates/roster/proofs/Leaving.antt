-- What the trains keep when one is withdrawn.
use Rattle.std.proofs.Common.{◌≡◌, ℕ, suc, ◌+◌, ◌-◌, ◌<◌, ◌≤◌, Bool, true, false, cond, not, eqb, List, [], ◌∷◌, length, Some, None, sym, refl, ap, ◌∙◌, arith}
use Rattle.std.specs.List.{remove}
use Rattle.std.proofs.lemmas.Bool.{cond_both, cond-true, cond-false, and_from, and_parts, or_parts, not-true}
use Rattle.roster.specs.Trains.{above, rising, taken, apart_by, runs, all_open, without, place_from, number_of, no_number, all_numbered}
use Rattle.roster.specs.declared.train.Train.{Train}

above_without : (n v : ℕ) (xs : List Train) → above n xs ≡ true → above n (without v xs) ≡ true
above_without n v [] h = refl
above_without n v (x ∷ xs) h =
    let p = and_parts _ (above n xs) h in
    cond_both (eqb x.number v) xs (x ∷ without v xs) (λ ys. above n ys ≡ true) (λ _. p.1) (λ _. and_from _ _ p.0 (above_without n v xs p.1))

pub rising_without : (v : ℕ) (xs : List Train) → rising xs ≡ true → rising (without v xs) ≡ true
rising_without v [] h = refl
rising_without v (x ∷ xs) h =
    let p = and_parts (above x.number xs) (rising xs) h in
    cond_both (eqb x.number v) xs (x ∷ without v xs) (λ ys. rising ys ≡ true) (λ _. p.1) (λ _. and_from _ _ (above_without x.number v xs p.0) (rising_without v xs p.1))

taken_without : (f : Train → ℕ) (w v : ℕ) (xs : List Train) → taken f w xs ≡ false → taken f w (without v xs) ≡ false
taken_without f w v [] h = refl
taken_without f w v (x ∷ xs) h =
    let p = or_parts (eqb (f x) w) (taken f w xs) h in
    cond_both (eqb x.number v) xs (x ∷ without v xs) (λ ys. taken f w ys ≡ false) (λ _. p.1) (λ _. rw p.0 (taken_without f w v xs p.1))

pub apart_without : (f : Train → ℕ) (v : ℕ) (xs : List Train) → apart_by f xs ≡ true → apart_by f (without v xs) ≡ true
apart_without f v [] h = refl
apart_without f v (x ∷ xs) h =
    let p = and_parts (not (taken f (f x) xs)) (apart_by f xs) h in
    cond_both (eqb x.number v) xs (x ∷ without v xs) (λ ys. apart_by f ys ≡ true) (λ _. p.1) (λ _. and_from _ _ (ap not (taken_without f (f x) v xs (not-true _ p.0))) (apart_without f v xs p.1))

pub open_without : (m v : ℕ) (xs : List Train) → all_open m xs ≡ true → all_open m (without v xs) ≡ true
open_without m v [] h = refl
open_without m v (x ∷ xs) h =
    let p = and_parts (runs m x) (all_open m xs) h in
    cond_both (eqb x.number v) xs (x ∷ without v xs) (λ ys. all_open m ys ≡ true) (λ _. p.1) (λ _. and_from _ _ p.0 (open_without m v xs p.1))

pub numbered_without : (v : ℕ) (xs : List Train) → all_numbered xs ≡ true → all_numbered (without v xs) ≡ true
numbered_without v [] h = refl
numbered_without v (x ∷ xs) h =
    let p = and_parts (not (no_number x.number)) (all_numbered xs) h in
    cond_both (eqb x.number v) xs (x ∷ without v xs) (λ ys. all_numbered ys ≡ true) (λ _. p.1) (λ _. and_from _ _ p.0 (numbered_without v xs p.1))

-- ---- the place that the search finds
pub record Gone (v : ℕ) (xs : List Train) (i k : ℕ) : Type 0 where
  pub from : i ≤ k
  pub inside : k < i + length xs
  pub is : remove xs (k - i) ≡ without v xs
  pub there : taken number_of v xs ≡ true

at_head : (v : ℕ) (x : Train) (xs : List Train) (i k : ℕ) (b : Bool) → eqb x.number v ≡ b → ((k : ℕ) → place_from (i + 1) v xs ≡ Some k → Gone v xs (i + 1) k) → cond b (Some i) (place_from (i + 1) v xs) ≡ Some k → Gone v (x ∷ xs) i k
at_head v x xs i k true e rec h =
    let s : i ≡ k = cc in
    let z : k - i ≡ 0 = omega arith in
    record { from = omega arith; inside = omega arith; is = ap (λ (j : ℕ). remove (x ∷ xs) j) z ∙ sym (cond-true _ _ _ e); there = rw e }
at_head v x xs i k false e rec h =
    let g = rec k h in
    let z : k - i ≡ suc (k - (i + 1)) = omega (arith, g.from) in
    record { from = omega (arith, g.from); inside = omega (arith, g.inside); is = ap (λ (j : ℕ). remove (x ∷ xs) j) z ∙ ap (λ (ys : List Train). x ∷ ys) g.is ∙ sym (cond-false _ _ _ e); there = rw e g.there }

pub gone : (v : ℕ) (xs : List Train) (i k : ℕ) → place_from i v xs ≡ Some k → Gone v xs i k
gone v [] i k h = absurd (let z : ◌≡◌ {A = ℕ} 0 1 = cc in omega arith)
gone v (x ∷ xs) i k h = at_head v x xs i k (eqb x.number v) refl (λ k. gone v xs (i + 1) k) h

pub record Absent (v : ℕ) (xs : List Train) : Type 0 where
  pub is : without v xs ≡ xs
  pub there : taken number_of v xs ≡ false

not_head : (v : ℕ) (x : Train) (xs : List Train) (i : ℕ) (b : Bool) → eqb x.number v ≡ b → (place_from (i + 1) v xs ≡ None → Absent v xs) → cond b (Some i) (place_from (i + 1) v xs) ≡ None → Absent v (x ∷ xs)
not_head v x xs i true e rec h = absurd (let z : ◌≡◌ {A = ℕ} 0 1 = cc in omega arith)
not_head v x xs i false e rec h = let g = rec h in record { is = cond-false _ _ _ e ∙ ap (λ (ys : List Train). x ∷ ys) g.is; there = rw e g.there }

pub absent : (v : ℕ) (xs : List Train) (i : ℕ) → place_from i v xs ≡ None → Absent v xs
absent v [] i h = record { is = refl; there = refl }
absent v (x ∷ xs) i h = not_head v x xs i (eqb x.number v) refl (absent v xs (i + 1)) h
