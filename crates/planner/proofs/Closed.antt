-- No call closes a section that is not on the layout, so a question may count 32 places.
use Rattle.std.proofs.Common.{◌≡◌, ℕ, ◌+◌, ◌-◌, ◌≤◌, Bool, true, false, cond, not, ◌&&◌, ◌||◌, eqb, leb, Some, None, Option, refl, ap, ◌∙◌, arith}
use Rattle.std.proofs.lemmas.Bool.{ne_eqb, leb-false}
use Rattle.track.specs.Refusals.{unless}
use Rattle.roster.specs.Book.{Call, enter, withdraw, possess, give_up, ask, plan, Book, after, changed, declined, empty, how_many, lowest}
use Rattle.planner.specs.Inside.{ClosedInside}
use Rattle.roster.proofs.Masks.{count_more, lowest_more}

either_way : (n : ℕ) (o : Option ℕ) (new old : Book) → ClosedInside n new → ClosedInside n old → ClosedInside n (unless o new old)
either_way n (Some k) new old a b = b
either_way n None new old a b = a

none : (x : Bool) → (x && false) ≡ false
none true = refl
none false = refl

closing : (n s : ℕ) (b : Book) (t : Bool) (o : Option ℕ) → leb n s ≡ t → ClosedInside n b → ClosedInside n (unless (cond t (Some 1) o) (changed b (possess s)) b)
closing n s b true o e h = h
closing n s b false o e h =
    let l = leb-false n s e in
    either_way n o (changed b (possess s)) b
    (λ k i. ap (λ (x : Bool). x || b.closed k) (ne_eqb k s (λ z. omega arith)) ∙ h k i) h

pub within_after : (n : ℕ) (b : Book) (c : Call) → ClosedInside n b → ClosedInside n (after n b c)
within_after n b (enter v s g) h = either_way n (declined n b (enter v s g)) (changed b (enter v s g)) b h h
within_after n b (withdraw v) h = either_way n (declined n b (withdraw v)) (changed b (withdraw v)) b h h
within_after n b (possess s) h = closing n s b (leb n s) _ refl h
within_after n b (give_up s) h = either_way n (declined n b (give_up s)) (changed b (give_up s)) b (λ k i. ap (λ (x : Bool). not (eqb k s) && x) (h k i) ∙ none (not (eqb k s))) h
within_after n b ask h = h
within_after n b (plan a c) h = either_way n (declined n b (plan a c)) b b h h

pub empty_inside : (n : ℕ) (b : Book) → b ≡ empty → ClosedInside n b
empty_inside n b e k i = ap (λ (z : Book). z.closed k) e

-- so a count of 32 places is one of the layout's sections, and the lowest of them is the lowest on the layout
pub count_all : (n : ℕ) (b : Book) → ClosedInside n b → n ≤ 32 → how_many 32 b.closed ≡ how_many n b.closed
count_all n b h l = let z : 32 ≡ n + (32 - n) = omega arith in ap (λ (m : ℕ). how_many m b.closed) z ∙ count_more n (32 - n) b.closed h

pub lowest_all : (n : ℕ) (b : Book) → ClosedInside n b → n ≤ 32 → lowest 32 b.closed ≡ lowest n b.closed
lowest_all n b h l = let z : 32 ≡ n + (32 - n) = omega arith in ap (λ (m : ℕ). lowest m b.closed) z ∙ lowest_more n (32 - n) b.closed h
