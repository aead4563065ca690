-- A list of calls that meets every refusal of the book once, on a layout of 32 sections.
use Rattle.std.specs.Prelude.{◌≡◌, ℕ, ◌+◌, Bool, true, false, cond, ◌||◌, List, [], ◌∷◌, length, replicate, Some, None, Option, ◌==◌}
use Rattle.roster.specs.Book.{Call, enter, withdraw, possess, give_up, ask, plan, Book, empty, declined, after}

-- the refusal of each call, on the book that the calls before it leave
abbrev pub refusals : ℕ → Book → List Call → List (Option ℕ)
refusals n b [] = []
refusals n b (c ∷ cs) = declined n b c ∷ refusals n (after n b c) cs

-- a call, and its refusal
pub record Case : Type 0 where
  pub call : Call
  pub refusal : Option ℕ

abbrev passes : Call → Case
passes c = record { call = c; refusal = None }

abbrev fails : Call → ℕ → Case
fails c number = record { call = c; refusal = Some number }

abbrev pub calls_of : List Case → List Call
calls_of [] = []
calls_of (c ∷ cs) = c.call ∷ calls_of cs

abbrev pub refusals_of : List Case → List (Option ℕ)
refusals_of [] = []
refusals_of (c ∷ cs) = c.refusal ∷ refusals_of cs

abbrev pub cases : List Case
cases =
    fails (plan 4 160) 22
    ∷ fails (enter 1 0 32) 1
    ∷ fails (enter 10000 0 8) 11
    ∷ passes (possess 31)
    ∷ fails (possess 31) 18
    ∷ fails (enter 1 0 31) 13
    ∷ passes (enter 1 0 8)
    ∷ passes (enter 2 1 9)
    ∷ passes (enter 3 2 10)
    ∷ passes (enter 4 3 11)
    ∷ passes (enter 5 4 12)
    ∷ passes (enter 6 5 13)
    ∷ passes (enter 7 6 14)
    ∷ fails (enter 7 7 15) 12
    ∷ fails (enter 8 6 15) 14
    ∷ fails (enter 8 7 14) 15
    ∷ passes (enter 8 7 15)
    ∷ fails (enter 9 16 17) 16
    ∷ fails (withdraw 9) 17
    ∷ fails (possess 15) 19
    ∷ passes ask
    ∷ passes (give_up 31)
    ∷ fails (give_up 31) 20
    ∷ fails (plan 17 0) 21
    ∷ fails (plan 4 159) 23
    ∷ passes (plan 4 160)
    ∷ passes (withdraw 8)
    ∷ []

-- the numbers of the refusals of the book
abbrev pub numbers : List ℕ
numbers = 1 ∷ 11 ∷ 12 ∷ 13 ∷ 14 ∷ 15 ∷ 16 ∷ 17 ∷ 18 ∷ 19 ∷ 20 ∷ 21 ∷ 22 ∷ 23 ∷ []

abbrev pub is_one_of : List ℕ → ℕ → Bool
is_one_of [] k = false
is_one_of (n ∷ ns) k = k == n || is_one_of ns k

-- the book declines no call with another number
abbrev pub TheBookHasNoOtherNumbers : Type 0
TheBookHasNoOtherNumbers = (n : ℕ) (b : Book) (c : Call) (k : ℕ) → declined n b c ≡ Some k → is_one_of numbers k ≡ true

-- how many of the refusals have the number k
abbrev pub is : ℕ → Option ℕ → ℕ
is k (Some n) = cond (n == k) 1 0
is k None = 0

abbrev pub times : List (Option ℕ) → ℕ → ℕ
times [] k = 0
times (o ∷ os) k = is k o + times os k

abbrev pub each_times : List ℕ → List (Option ℕ) → List ℕ
each_times [] os = []
each_times (n ∷ ns) os = times os n ∷ each_times ns os

-- the calls above are refused as is said there, and meet each number once
pub record TheseCallsMeetEveryRefusalOnce : Type 0 where
  pub refused : refusals 32 empty (calls_of cases) ≡ refusals_of cases
  pub once : each_times numbers (refusals 32 empty (calls_of cases)) ≡ replicate (length numbers) 1
