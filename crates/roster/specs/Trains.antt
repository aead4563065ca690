-- Trains in the order of their numbers.
use Rattle.std.specs.Prelude.{ℕ, ◌/◌, ◌%◌, ◌^◌, Bool, true, cond, not, ◌&&◌, ◌||◌, List, [], ◌∷◌, Option, ◌==◌, nat_lt}
use Rattle.std.specs.List.{list_all, list_any, position_from}
use Rattle.roster.specs.declared.train.Train.{Train}

abbrev pub number_of : Train → ℕ
number_of t = t.number

abbrev pub start_of : Train → ℕ
start_of t = t.start

abbrev pub goal_of : Train → ℕ
goal_of t = t.goal

-- whether the section k is in the set m: whether the bit k of m is set
abbrev pub has : ℕ → ℕ → Bool
has m k = m / 2 ^ k % 2 == 1

-- whether every number is above n
abbrev pub above : ℕ → List Train → Bool
above n [] = true
above n (x ∷ xs) = nat_lt n x.number && above n xs

-- whether each number is above those before it
abbrev pub rising : List Train → Bool
rising [] = true
rising (x ∷ xs) = above x.number xs && rising xs

-- a train number is 0 or above 9,999
abbrev pub no_number : ℕ → Bool
no_number v = v == 0 || nat_lt 9999 v

-- whether every train has a number from 1 to 9,999
abbrev pub all_numbered : List Train → Bool
all_numbered [] = true
all_numbered (x ∷ xs) = not (no_number x.number) && all_numbered xs

-- whether a train has v for its f
abbrev pub taken : (Train → ℕ) → ℕ → List Train → Bool
taken f v xs = list_any (λ x. f x == v) xs

-- whether no two trains have the same f
abbrev pub apart_by : (Train → ℕ) → List Train → Bool
apart_by f [] = true
apart_by f (x ∷ xs) = not (taken f (f x) xs) && apart_by f xs

-- whether neither section of the train is closed
abbrev pub runs : ℕ → Train → Bool
runs m t = not (has m t.start) && not (has m t.goal)

abbrev pub all_open : ℕ → List Train → Bool
all_open m [] = true
all_open m (x ∷ xs) = runs m x && all_open m xs

-- whether both sections of every train are below n
abbrev pub on_layout : ℕ → List Train → Bool
on_layout n xs = list_all (λ x. nat_lt x.start n && nat_lt x.goal n) xs

-- a train at its place in the order of numbers
abbrev pub entered : Train → List Train → List Train
entered t [] = t ∷ []
entered t (x ∷ xs) = cond (nat_lt t.number x.number) (t ∷ (x ∷ xs)) (x ∷ entered t xs)

-- the trains but for the first with the number v
abbrev pub without : ℕ → List Train → List Train
without v [] = []
without v (x ∷ xs) = cond (x.number == v) xs (x ∷ without v xs)

-- the place of the first with the number v, where xs stands from the place i on
abbrev pub place_from : ℕ → ℕ → List Train → Option ℕ
place_from i v xs = position_from (λ x. x.number == v) i xs
