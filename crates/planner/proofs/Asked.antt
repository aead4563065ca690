-- The question of a plan call can be asked, and asks what the book says.
use Rattle.std.proofs.Common.{◌≡◌, ℕ, zero, suc, ◌+◌, ◌≤◌, Bool, true, false, cond, not, ◌||◌, eqb, ltb, List, None, sym, refl, ap, ◌∙◌, subst, arith}
use Rattle.std.proofs.lemmas.Bool.{lt-ltb, ne_eqb}
use Rattle.track.specs.Layouts.{sections_of}
use Rattle.track.specs.declared.layout.Layout.{Layout}
use Rattle.rules.specs.Conflicts.{Conflicts}
use Rattle.scales.specs.Measure.{Measure}
use Rattle.roster.specs.declared.roster.Roster.{Roster}
use Rattle.roster.specs.Trains.{on_layout}
use Rattle.roster.specs.Model.{held, seen, rows_of, number_at, start_at, goal_at, closed_of}
use Rattle.sheets.specs.Problem.{Group, count}
use Rattle.sheets.specs.Posing.{all_trains, marked, all_rows, question_declined}
use Rattle.sheets.specs.Inquiry.{Inquiry, inquiry, problem_of}
use Rattle.sheets.specs.declared.question.Question.{Question}
use Rattle.sheets.proofs.Alls.{all_from}
use Rattle.planner.specs.Promise.{setting, asked}

either : (b : Bool) → (not b || b) ≡ true
either true = refl
either false = refl

all_rows_lem : (o : Roster) (marks : List Bool) → marked marks ≡ all_trains (rows_of o) → all_rows o marks ≡ true
unfolding all_rows
all_rows_lem o marks e = all_from 8 _ (λ r i. subst (λ (G : Group). (not (G r) || ltb r (rows_of o)) ≡ true) (sym e) (either (ltb r (rows_of o))))

count_all : (n k : ℕ) → k ≤ n → count k (all_trains n) ≡ k
count_all n zero h = refl
count_all n (suc k) h =
    let i = count_all n k (omega arith) in
    let j = ap (λ (b : Bool). count k (all_trains n) + cond b 1 0) (lt-ltb k n (omega arith)) in
    omega arith

-- the conditions that a plan call has tested are those of its question
pub can_be_asked : (l : Layout) (o : Roster) (marks : List Bool) (steps : ℕ)
    → on_layout (sections_of l) (held o) ≡ true → marked marks ≡ all_trains (rows_of o) → (eqb steps 0 || ltb 16 steps) ≡ false → (rows_of o ≡ 0 → ⊥)
    → question_declined l o marks steps ≡ None
unfolding question_declined
can_be_asked l o marks steps placed all-marked within someone =
    let b = all_rows_lem o marks all-marked in
    let c : count (rows_of o) (marked marks) ≡ rows_of o = ap (count (rows_of o)) all-marked ∙ count_all (rows_of o) (rows_of o) (omega arith) in
    let d : eqb (count (rows_of o) (marked marks)) 0 ≡ false = ne_eqb _ _ (λ z. someone (sym c ∙ z)) in
    simp (placed, b, within, d)

-- and it asks for all trains of the book
pub asks_the_book : {C : Type 0} (conflicts : Layout → Conflicts) (m : Measure C) (takes : Inquiry C → ℕ → Type 0) (l : Layout) (o : Roster) (marks : List Bool) (steps : ℕ) (q : Question)
    → q.layout.now ≡ l → q.roster.now ≡ o → q.group ≡ marks → q.steps ≡ steps → marked marks ≡ all_trains (rows_of o)
    → inquiry conflicts m q ≡ asked (setting l (conflicts l) m takes) (seen o) steps
unfolding rows_of number_at start_at goal_at closed_of
asks_the_book conflicts m takes l o marks steps q a b c d e =
    (λ i. record {
      measure = m;
      layout = a i;
      number = number_at (b i);
      problem = problem_of (conflicts (a i)) (a i) (b i) (d i);
      group = (ap marked c ∙ e) i;
    })
