-- What a train that is entered keeps.
use Rattle.std.proofs.Common.{◌≡◌, ℕ, ◌+◌, Bool, true, false, cond, not, eqb, ltb, leb, List, [], ◌∷◌, sym, refl, ap, ◌∙◌, one-add, arith}
use Rattle.std.specs.List.{prefix_len, insert}
use Rattle.std.proofs.lemmas.Bool.{cond_both, cond-true, cond-false, and_from, and_parts, or_parts, not-true}
use Rattle.std.proofs.lemmas.Bool.Decides.{nat_tests}
use Rattle.roster.specs.Trains.{above, rising, taken, apart_by, runs, all_open, entered, number_of, no_number, all_numbered}
use Rattle.roster.specs.declared.train.Train.{Train}

above_entered : (n : ℕ) (t : Train) (xs : List Train) → above n xs ≡ true → ltb n t.number ≡ true → above n (entered t xs) ≡ true
above_entered n t [] h g = and_from _ _ g refl
above_entered n t (x ∷ xs) h g =
    let p = and_parts (ltb n x.number) (above n xs) h in
    cond_both (ltb t.number x.number) (t ∷ (x ∷ xs)) (x ∷ entered t xs) (λ ys. above n ys ≡ true)
    (λ e. and_from _ _ g h) (λ e. and_from _ _ p.0 (above_entered n t xs p.1 g))

above_lower : (m n : ℕ) (xs : List Train) → ltb m n ≡ true → above n xs ≡ true → above m xs ≡ true
above_lower m n [] e h = refl
above_lower m n (x ∷ xs) e h =
    let p = and_parts (ltb n x.number) (above n xs) h in
    let q : ltb m x.number ≡ true = let k = p.0 in grind (arith, nat_tests) in
    and_from _ _ q (above_lower m n xs e p.1)

pub rising_entered : (t : Train) (xs : List Train) → rising xs ≡ true → taken number_of t.number xs ≡ false → rising (entered t xs) ≡ true
rising_entered t [] h g = refl
rising_entered t (x ∷ xs) h g =
    let p = and_parts (above x.number xs) (rising xs) h in
    let q = or_parts (eqb x.number t.number) (taken number_of t.number xs) g in
    cond_both (ltb t.number x.number) (t ∷ (x ∷ xs)) (x ∷ entered t xs) (λ ys. rising ys ≡ true)
    (λ e. and_from _ _ (and_from _ _ e (above_lower t.number x.number xs e p.0)) h)
    (λ e. let k : ltb x.number t.number ≡ true = let z = q.0 in grind (arith, nat_tests) in and_from _ _ (above_entered x.number t xs p.0 k) (rising_entered t xs p.1 q.1))

-- nothing that v was not
taken_entered : (f : Train → ℕ) (v : ℕ) (t : Train) (xs : List Train) → eqb (f t) v ≡ false → taken f v xs ≡ false → taken f v (entered t xs) ≡ false
taken_entered f v t [] e h = rw e
taken_entered f v t (x ∷ xs) e h =
    let q = or_parts (eqb (f x) v) (taken f v xs) h in
    cond_both (ltb t.number x.number) (t ∷ (x ∷ xs)) (x ∷ entered t xs) (λ ys. taken f v ys ≡ false)
    (λ _. rw e h) (λ _. rw q.0 (taken_entered f v t xs e q.1))

pub apart_entered : (f : Train → ℕ) (t : Train) (xs : List Train) → apart_by f xs ≡ true → taken f (f t) xs ≡ false → apart_by f (entered t xs) ≡ true
apart_entered f t [] h g = refl
apart_entered f t (x ∷ xs) h g =
    let p = and_parts (not (taken f (f x) xs)) (apart_by f xs) h in
    let q = or_parts (eqb (f x) (f t)) (taken f (f t) xs) g in
    let other : eqb (f t) (f x) ≡ false = let z = q.0 in grind (arith, nat_tests) in
    cond_both (ltb t.number x.number) (t ∷ (x ∷ xs)) (x ∷ entered t xs) (λ ys. apart_by f ys ≡ true)
    (λ _. and_from _ _ (ap not g) h)
    (λ _. and_from _ _ (ap not (taken_entered f (f x) t xs other (not-true _ p.0))) (apart_entered f t xs p.1 q.1))

pub open_entered : (m : ℕ) (t : Train) (xs : List Train) → all_open m xs ≡ true → runs m t ≡ true → all_open m (entered t xs) ≡ true
open_entered m t [] h g = and_from _ _ g refl
open_entered m t (x ∷ xs) h g =
    let p = and_parts (runs m x) (all_open m xs) h in
    cond_both (ltb t.number x.number) (t ∷ (x ∷ xs)) (x ∷ entered t xs) (λ ys. all_open m ys ≡ true)
    (λ _. and_from _ _ g h) (λ _. and_from _ _ p.0 (open_entered m t xs p.1 g))

pub numbered_entered : (t : Train) (xs : List Train) → all_numbered xs ≡ true → no_number t.number ≡ false → all_numbered (entered t xs) ≡ true
numbered_entered t [] h g = and_from _ _ (ap not g) refl
numbered_entered t (x ∷ xs) h g =
    let p = and_parts (not (no_number x.number)) (all_numbered xs) h in
    cond_both (ltb t.number x.number) (t ∷ (x ∷ xs)) (x ∷ entered t xs) (λ ys. all_numbered ys ≡ true)
    (λ _. and_from _ _ (ap not g) h) (λ _. and_from _ _ p.0 (numbered_entered t xs p.1 g))

-- the place that the search gives is the place in the order
split : (t x : Train) (xs : List Train) (b : Bool) → leb x.number t.number ≡ b → insert xs (prefix_len (λ y. leb y.number t.number) xs) t ≡ entered t xs → insert (x ∷ xs) (cond b (1 + prefix_len (λ y. leb y.number t.number) xs) 0) t ≡ entered t (x ∷ xs)
split t x xs true e h =
    let k : ltb t.number x.number ≡ false = grind (arith, nat_tests) in
    ap (λ (n : ℕ). insert (x ∷ xs) n t) (one-add (prefix_len (λ y. leb y.number t.number) xs)) ∙ ap (λ (ys : List Train). x ∷ ys) h ∙ sym (cond-false _ _ _ k)
split t x xs false e h =
    let k : ltb t.number x.number ≡ true = grind (arith, nat_tests) in
    sym (cond-true _ _ _ k)

pub inserted_entered : (t : Train) (xs : List Train) → insert xs (prefix_len (λ y. leb y.number t.number) xs) t ≡ entered t xs
inserted_entered t [] = refl
inserted_entered t (x ∷ xs) = split t x xs (leb x.number t.number) refl (inserted_entered t xs)
