-- What every roster keeps, said of its rows.
use Rattle.std.proofs.Common.{◌≡◌, ℕ, zero, suc, ◌<◌, ◌≤◌, true, false, not, eqb, ltb, List, [], ◌∷◌, length, get_or, sym, refl, inl, inr, arith}
use Rattle.std.specs.List.{slice_get}
use Rattle.std.proofs.lemmas.Option.{slice_get-get_or, slice_get_past}
use Rattle.std.proofs.lemmas.Bool.{cases_lt, and_parts, or_parts, not-true, eqb-false, ltb-true}
use Rattle.roster.specs.Trains.{has, above, rising, taken, apart_by, runs, all_open, start_of, goal_of}
use Rattle.roster.specs.Model.{held, no_train, rows_of, number_at, start_at, goal_at, closed_of, RowIs, RosterLaws}
use Rattle.roster.specs.declared.train.Train.{Train}
use Rattle.roster.specs.declared.roster.Roster.{Roster}

open_at : (m : ℕ) (xs : List Train) (r : ℕ) (d : Train) → all_open m xs ≡ true → r < length xs → runs m (get_or xs r d) ≡ true
open_at m [] r d h l = absurd (omega arith)
open_at m (x ∷ xs) zero d h l = (and_parts (runs m x) (all_open m xs) h).0
open_at m (x ∷ xs) (suc r) d h l = open_at m xs r d (and_parts (runs m x) (all_open m xs) h).1 (omega arith)

free_at : (f : Train → ℕ) (v : ℕ) (xs : List Train) (r : ℕ) (d : Train) → taken f v xs ≡ false → r < length xs → eqb (f (get_or xs r d)) v ≡ false
free_at f v [] r d h l = absurd (omega arith)
free_at f v (x ∷ xs) zero d h l = (or_parts (eqb (f x) v) (taken f v xs) h).0
free_at f v (x ∷ xs) (suc r) d h l = free_at f v xs r d (or_parts (eqb (f x) v) (taken f v xs) h).1 (omega arith)

apart_at : (f : Train → ℕ) (xs : List Train) (r q : ℕ) (d : Train) → apart_by f xs ≡ true → r < q → q < length xs → f (get_or xs r d) ≡ f (get_or xs q d) → ⊥
apart_at f [] r q d h i l e = absurd (omega arith)
apart_at f (x ∷ xs) r zero d h i l e = absurd (omega arith)
apart_at f (x ∷ xs) zero (suc q) d h i l e =
    let p = and_parts (not (taken f (f x) xs)) (apart_by f xs) h in
    eqb-false _ _ (free_at f (f x) xs q d (not-true _ p.0) (omega arith)) (sym e)
apart_at f (x ∷ xs) (suc r) (suc q) d h i l e =
    apart_at f xs r q d (and_parts (not (taken f (f x) xs)) (apart_by f xs) h).1 (omega arith) (omega arith) e

pub rows_most : (o : Roster) → rows_of o ≤ 8
unfolding rows_of
rows_most o = o.room

pub start_open : (o : Roster) (r : ℕ) → r < rows_of o → closed_of o (start_at o r) ≡ false
unfolding rows_of start_at closed_of
start_open o r l = not-true _ (and_parts (not (has o.closed (get_or (held o) r no_train).start)) _ (open_at o.closed (held o) r no_train o.free l)).0

pub goal_open : (o : Roster) (r : ℕ) → r < rows_of o → closed_of o (goal_at o r) ≡ false
unfolding rows_of goal_at closed_of
goal_open o r l = not-true _ (and_parts _ (not (has o.closed (get_or (held o) r no_train).goal)) (open_at o.closed (held o) r no_train o.free l)).1

pub starts_differ : (o : Roster) (r q : ℕ) → r < q → q < rows_of o → start_at o r ≡ start_at o q → ⊥
unfolding rows_of start_at
starts_differ o r q i l e = apart_at start_of (held o) r q no_train o.starts i l e

pub goals_differ : (o : Roster) (r q : ℕ) → r < q → q < rows_of o → goal_at o r ≡ goal_at o q → ⊥
unfolding rows_of goal_at
goals_differ o r q i l e = apart_at goal_of (held o) r q no_train o.goals i l e

above_at : (n : ℕ) (xs : List Train) (r : ℕ) (d : Train) → above n xs ≡ true → r < length xs → n < (get_or xs r d).number
above_at n [] r d h l = absurd (omega arith)
above_at n (x ∷ xs) zero d h l = ltb-true n x.number (and_parts (ltb n x.number) (above n xs) h).0
above_at n (x ∷ xs) (suc r) d h l = above_at n xs r d (and_parts (ltb n x.number) (above n xs) h).1 (omega arith)

rising_at : (xs : List Train) (r q : ℕ) (d : Train) → rising xs ≡ true → r < q → q < length xs → (get_or xs r d).number < (get_or xs q d).number
rising_at [] r q d h i l = absurd (omega arith)
rising_at (x ∷ xs) r zero d h i l = absurd (omega arith)
rising_at (x ∷ xs) zero (suc q) d h i l = above_at x.number xs q d (and_parts (above x.number xs) (rising xs) h).0 (omega arith)
rising_at (x ∷ xs) (suc r) (suc q) d h i l = rising_at xs r q d (and_parts (above x.number xs) (rising xs) h).1 (omega arith) (omega arith)

pub numbers_rise : (o : Roster) (r q : ℕ) → r < q → q < rows_of o → number_at o r < number_at o q
unfolding rows_of number_at
numbers_rise o r q i l = rising_at (held o) r q no_train o.ordered i l

row_here : (o : Roster) (row : ℕ) → row < length (held o) → RowIs o row (slice_get (held o) row)
unfolding rows_of start_at goal_at
row_here o row inside = rw (slice_get-get_or (held o) row no_train inside) (record { inside = inside; start = refl; goal = refl })

row_past : (o : Roster) (row : ℕ) → length (held o) ≤ row → RowIs o row (slice_get (held o) row)
unfolding rows_of
row_past o row past = rw (slice_get_past (held o) row past) past

-- what the list of trains has at a row is the train of the row
pub row_is : (o : Roster) (row : ℕ) → RowIs o row (slice_get (held o) row)
row_is o row = elim (cases_lt row (length (held o))) [ inl inside ↦ row_here o row inside | inr past ↦ row_past o row past ]

pub laws : (o : Roster) → RosterLaws o
laws o =
    record { rows_most = rows_most o; numbers_rise = numbers_rise o; start_open = start_open o; goal_open = goal_open o; starts_differ = starts_differ o; goals_differ = goals_differ o }
