-- The starts and goals of every book are on the layout, and it has at most eight trains.
use Rattle.std.proofs.Common.{◌≡◌, ℕ, suc, ◌≤◌, Bool, true, false, ◌&&◌, ◌||◌, eqb, ltb, leb, List, [], ◌∷◌, length, Some, None, Option, refl, ap, arith}
use Rattle.std.proofs.lemmas.Bool.{cond_both, and_from, and_parts, or_parts, leb-false, lt-ltb}
use Rattle.roster.specs.declared.train.Train.{Train}
use Rattle.track.specs.Refusals.{met, unless}
use Rattle.roster.specs.Trains.{entered, without, taken, number_of, start_of, goal_of, on_layout, no_number}
use Rattle.roster.specs.Book.{Call, enter, withdraw, possess, give_up, ask, plan, Book, book_of, book_from, after, changed, empty}
use Rattle.roster.specs.Book.{declined as refusal}

pub met_none : (k : ℕ) (t : Bool) (others : Option ℕ) → met k t others ≡ None → (t ≡ false) × (others ≡ None)
met_none k true others e = absurd (let z : ◌≡◌ {A = ℕ} 0 1 = cc in omega arith)
met_none k false others e = (refl, e)

-- an entry that is not declined: its ends are on the layout, and there is room
pub entering : (t1 t2 t3 t4 t5 t6 t7 : Bool) → met 1 t1 (met 11 t2 (met 12 t3 (met 13 t4 (met 14 t5 (met 15 t6 (met 16 t7 None)))))) ≡ None → (t1 ≡ false) × (t7 ≡ false)
entering t1 t2 t3 t4 t5 t6 t7 e =
    let a1 = met_none 1 t1 (met 11 t2 (met 12 t3 (met 13 t4 (met 14 t5 (met 15 t6 (met 16 t7 None)))))) e in
    let a2 = met_none 11 t2 (met 12 t3 (met 13 t4 (met 14 t5 (met 15 t6 (met 16 t7 None))))) a1.1 in
    let a3 = met_none 12 t3 (met 13 t4 (met 14 t5 (met 15 t6 (met 16 t7 None)))) a2.1 in
    let a4 = met_none 13 t4 (met 14 t5 (met 15 t6 (met 16 t7 None))) a3.1 in
    let a5 = met_none 14 t5 (met 15 t6 (met 16 t7 None)) a4.1 in
    let a6 = met_none 15 t6 (met 16 t7 None) a5.1 in
    (a1.0, (met_none 16 t7 None a6.1).0)

on_entered : (n : ℕ) (t : Train) (xs : List Train) → (ltb t.start n && ltb t.goal n) ≡ true → on_layout n xs ≡ true → on_layout n (entered t xs) ≡ true
on_entered n t [] g h = and_from _ _ g refl
on_entered n t (x ∷ xs) g h =
    let p = and_parts (ltb x.start n && ltb x.goal n) (on_layout n xs) h in
    cond_both (ltb t.number x.number) (t ∷ (x ∷ xs)) (x ∷ entered t xs) (λ ys. on_layout n ys ≡ true)
    (λ _. and_from _ _ g h) (λ _. and_from _ _ p.0 (on_entered n t xs g p.1))

on_without : (n v : ℕ) (xs : List Train) → on_layout n xs ≡ true → on_layout n (without v xs) ≡ true
on_without n v [] h = refl
on_without n v (x ∷ xs) h =
    let p = and_parts (ltb x.start n && ltb x.goal n) (on_layout n xs) h in
    cond_both (eqb x.number v) xs (x ∷ without v xs) (λ ys. on_layout n ys ≡ true) (λ _. p.1) (λ _. and_from _ _ p.0 (on_without n v xs p.1))

either_on : (n : ℕ) (o : Option ℕ) (new old : Book) → (o ≡ None → on_layout n new.trains ≡ true) → on_layout n old.trains ≡ true → on_layout n (unless o new old).trains ≡ true
either_on n (Some k) new old a b = b
either_on n None new old a b = a refl

pub on_after : (n : ℕ) (b : Book) (c : Call) → on_layout n b.trains ≡ true → on_layout n (after n b c).trains ≡ true
on_after n b (enter v s g) h =
    either_on n (refusal n b (enter v s g)) (changed b (enter v s g)) b
    (λ e.
    let last = entering (leb n s || leb n g) (no_number v) (taken number_of v b.trains) (b.closed s || b.closed g) (taken start_of s b.trains) (taken goal_of g b.trains) (leb 8 (length b.trains)) e in
    let both = or_parts (leb n s) (leb n g) last.0 in
    on_entered n (record { number = v; start = s; goal = g }) b.trains (and_from _ _ (lt-ltb s n (leb-false n s both.0)) (lt-ltb g n (leb-false n g both.1))) h)
    h
on_after n b (withdraw v) h = either_on n (refusal n b (withdraw v)) (changed b (withdraw v)) b (λ e. on_without n v b.trains h) h
on_after n b (possess s) h = either_on n (refusal n b (possess s)) (changed b (possess s)) b (λ e. h) h
on_after n b (give_up s) h = either_on n (refusal n b (give_up s)) (changed b (give_up s)) b (λ e. h) h
on_after n b ask h = h
on_after n b (plan a c) h = either_on n (refusal n b (plan a c)) b b (λ e. h) h

pub empty_placed : (n : ℕ) (b : Book) → b ≡ empty → on_layout n b.trains ≡ true
empty_placed n b e = ap (λ (z : Book). on_layout n z.trains) e

-- no book has more than eight trains
length_entered : (t : Train) (xs : List Train) → length (entered t xs) ≡ suc (length xs)
length_entered t [] = refl
length_entered t (x ∷ xs) =
    cond_both (ltb t.number x.number) (t ∷ (x ∷ xs)) (x ∷ entered t xs) (λ ys. length ys ≡ suc (suc (length xs)))
    (λ _. refl) (λ _. ap suc (length_entered t xs))

length_without : (v : ℕ) (xs : List Train) → length (without v xs) ≤ length xs
length_without v [] = omega arith
length_without v (x ∷ xs) =
    let r = length_without v xs in
    cond_both (eqb x.number v) xs (x ∷ without v xs) (λ ys. length ys ≤ suc (length xs)) (λ _. omega arith) (λ _. omega arith)

abbrev Few : Book → Type 0
Few b = length b.trains ≤ 8

either_few : (o : Option ℕ) (new old : Book) → (o ≡ None → Few new) → Few old → Few (unless o new old)
either_few (Some k) new old a b = b
either_few None new old a b = a refl

few_after : (n : ℕ) (b : Book) (c : Call) → Few b → Few (after n b c)
few_after n b (enter v s g) h =
    either_few (refusal n b (enter v s g)) (changed b (enter v s g)) b
    (λ e.
    let last = entering (leb n s || leb n g) (no_number v) (taken number_of v b.trains) (b.closed s || b.closed g) (taken start_of s b.trains) (taken goal_of g b.trains) (leb 8 (length b.trains)) e in
    let room = leb-false 8 (length b.trains) last.1 in
    omega (arith, length_entered (record { number = v; start = s; goal = g }) b.trains, room))
    h
few_after n b (withdraw v) h = either_few (refusal n b (withdraw v)) (changed b (withdraw v)) b (λ e. omega (arith, length_without v b.trains)) h
few_after n b (possess s) h = either_few (refusal n b (possess s)) (changed b (possess s)) b (λ e. h) h
few_after n b (give_up s) h = either_few (refusal n b (give_up s)) (changed b (give_up s)) b (λ e. h) h
few_after n b ask h = h
few_after n b (plan a c) h = either_few (refusal n b (plan a c)) b b (λ e. h) h

few_from : (n : ℕ) (b : Book) (cs : List Call) → Few b → Few (book_from n b cs)
few_from n b [] h = h
few_from n b (c ∷ cs) h = few_from n (after n b c) cs (few_after n b c h)

pub few_trains : (n : ℕ) (cs : List Call) → Few (book_of n cs)
few_trains n cs = few_from n empty cs (omega arith)
