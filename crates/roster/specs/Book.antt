-- The book: what a list of calls amounts to, worked out from the number of sections of the layout and from the arguments alone.
use Rattle.std.specs.Prelude.{ℕ, zero, suc, ◌+◌, ◌*◌, Bool, false, cond, not, ◌&&◌, ◌||◌, List, [], ◌∷◌, length, Some, None, Option, ◌==◌, nat_le, nat_lt}
use Rattle.std.specs.Option.{option_or}
use Rattle.roster.specs.declared.train.Train.{Train}
use Rattle.track.specs.Refusals.{met, unless}
use Rattle.roster.specs.Trains.{no_number, number_of, start_of, goal_of, taken, entered, without}

-- the calls that a planner gets: a train is entered or withdrawn; a section is closed (taken into possession) or opened again (given up);
-- which sections are closed is asked; a plan is made. A give-up goes by the section that its note names
pub data Call : Type 0 where
  enter : (number start goal : ℕ) → Call
  withdraw : (number : ℕ) → Call
  possess : (section : ℕ) → Call
  give_up : (section : ℕ) → Call
  ask : Call
  plan : (steps cells : ℕ) → Call

-- the trains in rising number, and which sections are closed
pub record Book : Type 0 where
  pub trains : List Train
  pub closed : ℕ → Bool

abbrev pub empty : Book
empty = record { trains = []; closed = λ s. false }

-- the number of the first condition that declines the call, on a layout of n sections
abbrev pub declined : (n : ℕ) → Book → Call → Option ℕ
declined n b (enter v s g) =
    met 1 (nat_le n s || nat_le n g)
    (met 11 (no_number v)
    (met 12 (taken number_of v b.trains)
    (met 13 (b.closed s || b.closed g)
    (met 14 (taken start_of s b.trains)
    (met 15 (taken goal_of g b.trains)
    (met 16 (nat_le 8 (length b.trains)) None))))))
declined n b (withdraw v) =
    met 11 (no_number v)
    (met 17 (not (taken number_of v b.trains)) None)
declined n b (possess s) =
    met 1 (nat_le n s)
    (met 18 (b.closed s)
    (met 19 (taken start_of s b.trains || taken goal_of s b.trains) None))
declined n b (give_up s) =
    met 1 (nat_le n s)
    (met 20 (not (b.closed s)) None)
declined n b ask = None
declined n b (plan steps cells) =
    met 21 (steps == 0 || nat_lt 16 steps)
    (met 22 (length b.trains == 0)
    (met 23 (nat_lt cells (n * (steps + 1))) None))

-- what a call does to the book, where it is not declined
abbrev pub changed : Book → Call → Book
changed b (enter v s g) = record { trains = entered (record { number = v; start = s; goal = g }) b.trains; closed = b.closed }
changed b (withdraw v) = record { trains = without v b.trains; closed = b.closed }
changed b (possess s) = record { trains = b.trains; closed = λ k. (k == s) || b.closed k }
changed b (give_up s) = record { trains = b.trains; closed = λ k. not (k == s) && b.closed k }
changed b ask = b
changed b (plan steps cells) = b

-- the book after a call
abbrev pub after : ℕ → Book → Call → Book
after n b c = unless (declined n b c) (changed b c) b

abbrev pub book_from : ℕ → Book → List Call → Book
book_from n b [] = b
book_from n b (c ∷ cs) = book_from n (after n b c) cs

-- the book of a list of calls
abbrev pub book_of : ℕ → List Call → Book
book_of n cs = book_from n empty cs

-- the call that enters a train
abbrev pub entry_of : Train → Call
entry_of t = enter t.number t.start t.goal

-- trains entered one after the other: the number of the first refusal, if there is one
abbrev pub first_declined : ℕ → Book → List Train → Option ℕ
first_declined n b [] = None
first_declined n b (t ∷ ts) = option_or (declined n b (entry_of t)) (first_declined n (after n b (entry_of t)) ts)

-- and the book after the last
abbrev pub entered_all : ℕ → Book → List Train → Book
entered_all n b [] = b
entered_all n b (t ∷ ts) = entered_all n (after n b (entry_of t)) ts

-- how many of the sections below n are closed, and which is the lowest
unfoldable pub how_many : ℕ → (ℕ → Bool) → ℕ
how_many zero f = zero
how_many (suc n) f = how_many n f + cond (f n) 1 0

unfoldable pub lowest : ℕ → (ℕ → Bool) → Option ℕ
lowest zero f = None
lowest (suc n) f = option_or (lowest n f) (cond (f n) (Some n) None)
