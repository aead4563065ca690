-- What a plan call that is answered has: no more groups than trains, and at most 16 steps.
use Rattle.std.proofs.Common.{ℕ, zero, suc, ◌+◌, ◌≤◌, Bool, true, false, cond, length, Some, None, Option, Ok, Err, Result, IfOk, eqb, ◌≡◌, refl, ap, ◌∙◌, sym, ◌⊎◌, ⊎_elim, inl, inr, List, ◌||◌, arith}
use Rattle.std.proofs.lemmas.Bool.Decides.{nat_tests}
use Rattle.scales.specs.Measure.{Measure}
use Rattle.track.specs.Refusals.{number_of}
use Rattle.track.specs.declared.refusal.Refusal.{Refusal}
use Rattle.roster.specs.Book.{Book, plan}
use Rattle.roster.specs.Book.{declined as refusal}
use Rattle.roster.specs.Model.{seen, rows_of}
use Rattle.roster.specs.declared.roster.Roster.{Roster}
use Rattle.roster.proofs.Laws.{rows_most}
use Rattle.sheets.specs.Problem.{Problem, Group, count}
use Rattle.sheets.specs.Plan.{Plan}
use Rattle.sheets.specs.declared.sheet.Sheet.{Sheet}
use Rattle.groups.specs.Parts.{Naming, parts}
use Rattle.groups.specs.Course.{Outcome, beyond, none, found, Course, Opening}
use Rattle.planner.specs.Promise.{Setting, Reply, declined, planned, PlanKept}
use Rattle.planner.specs.History.{says_plan}
use Rattle.planner.specs.Left.{NothingChangesIf}
use Rattle.planner.specs.declared.planner.Planner.{Planner}
use Rattle.machine.specs.Phases.{reply_of}
use Rattle.machine.specs.Lines.{by_planning, DeclinedLeaves}
use Rattle.machine.specs.declared.said.Said.{Said}

abbrev Few : ℕ → Outcome → Type 0
Few rows beyond = Unit {0}
Few rows none = Unit {0}
Few rows (found groups x) = groups ≤ rows

one_more : (c : ℕ) (n : ℕ) (b : Bool) → c ≤ n → c + cond b 1 0 ≤ suc n
one_more c n true h = omega arith
one_more c n false h = omega arith

count_few : (n : ℕ) (f : ℕ → Bool) → count n f ≤ n
count_few zero f = omega arith
count_few (suc n) f = one_more (count n f) n (f n) (count_few n f)

parts_few : (rows : ℕ) (G : Group) (name : Naming) → parts rows G name ≤ rows
unfolding parts
parts_few rows G name = count_few rows _

module _ {C : Type 0} {S : Measure C} {Q : Problem} {G : Group} {Taken : Group → Type 0} where
  course_few : {name : Naming} {x : Plan} {o : Outcome} → Course S Q G Taken name x o → Few Q.rows o
  course_few {name} (Course.stands h) = parts_few Q.rows G name
  course_few (Course.not_taken t r q a b) = tt
  course_few (Course.without t r q a b d) = tt
  course_few (Course.joins t r q y a b d h) = course_few h

  opening_few : {k : ℕ} {x : Plan} {o : Outcome} → Opening S Q G Taken k x o → Few Q.rows o
  opening_few (Opening.all_asked e h) = course_few h
  opening_few (Opening.passes a b h) = opening_few h
  opening_few (Opening.not_taken a b d) = tt
  opening_few (Opening.without a b d e) = tt
  opening_few (Opening.asks y a b d e h) = opening_few h

few_trains : (o : Roster) → length (seen o).trains ≤ 8
unfolding rows_of
few_trains o = rows_most o

module _ {C : Type 0} (w : Setting C) (b : Book) (steps cells : ℕ) (old new : Sheet) where
  few_kept : (o : Option ℕ) (c : C) (n : ℕ) → PlanKept w b steps cells o (planned c n) old new → n ≤ length b.trains
  few_kept (Some k) c n h = absurd (cc (h.0))
  few_kept None c n h = opening_few h.sheet_or_none.groups.1

pub few_groups : {C : Type 0} (w : Setting C) (ro : Roster) (steps cells : ℕ) (old new : Sheet) (o : Option ℕ) (r : Result (C × ℕ) Refusal)
    → PlanKept w (seen ro) steps cells o (says_plan r) old new → IfOk r (λ p. p.1 ≤ 8)
few_groups w ro steps cells old new o (Ok p) h =
    let few = few_trains ro in
    omega (arith, few_kept w (seen ro) steps cells old new o p.0 p.1 h)
few_groups w ro steps cells old new o (Err e) h = tt

not_declined : {C : Type 0} (w : Setting C) (b : Book) (steps cells : ℕ) (old new : Sheet) (o : Option ℕ) (c : C) (n : ℕ)
    → PlanKept w b steps cells o (planned c n) old new → o ≡ None
not_declined w b steps cells old new (Some k) c n h = absurd (cc (h.0))
not_declined w b steps cells old new None c n h = refl

few_if_not_declined : (n : ℕ) (b : Book) (steps cells : ℕ) → refusal n b (plan steps cells) ≡ None → steps ≤ 16
few_if_not_declined n b steps cells h = grind (arith, nat_tests)

pub few_steps : {C : Type 0} (w : Setting C) (b : Book) (n steps cells : ℕ) (old new : Sheet) (r : Result (C × ℕ) Refusal)
    → PlanKept w b steps cells (refusal n b (plan steps cells)) (says_plan r) old new → IfOk r (λ p. steps ≤ 16)
few_steps w b n steps cells old new (Ok p) h =
    few_if_not_declined n b steps cells (not_declined w b steps cells old new (refusal n b (plan steps cells)) p.0 p.1 h)
few_steps w b n steps cells old new (Err e) h = tt

told_by_planning : (e : Refusal) → (number_of e ≡ 24) ⊎ (number_of e ≡ 25) → by_planning e ≡ true
told_by_planning e h = ⊎_elim (λ (i : number_of e ≡ 24). grind (arith, nat_tests)) (λ (i : number_of e ≡ 25). grind (arith, nat_tests)) h

-- what a plan call leaves that is declined
pub plan_leaves : {R S Q C : Type 0} (w : Setting C) (b : Book) (p q : Planner R S Q) (steps cells : ℕ) (had has : List (Option C)) (old new : Sheet) (o : Option ℕ)
    (r : Result (C × ℕ) Refusal) → PlanKept w b steps cells o (says_plan r) old new → NothingChangesIf o p q had has old new → DeclinedLeaves r p q had has old new
plan_leaves w b p q steps cells had has old new o (Ok x) h n = tt
plan_leaves w b p q steps cells had has old new (Some k) (Err e) h n = record { sheet = n.sheet; machine = λ i. n.planner; cells_too = λ i. n.cells }
plan_leaves w b p q steps cells had has old new None (Err e) h n =
    let t : by_planning e ≡ true = told_by_planning e (⊎_elim (λ x. inl x.0) (λ x. inr x.0) h.sheet_or_none.reason) in
    record {
      sheet = h.sheet_or_none.untouched;
      machine = λ i. absurd (cc (sym t ∙ i));
      cells_too = λ i. absurd (cc (sym t ∙ i));
    }

same_number : {C : Type 0} (k n : ℕ) → ◌≡◌ {A = Reply C} (declined k) (declined n) → k ≡ n
same_number k n h = cc

-- and so does the reply that tells its answer
pub told_leaves : {C M : Type 0} (was now : M) (had has : List (Option C)) (old new : Sheet) (t : Result (Said C) Refusal) (r : Result (C × ℕ) Refusal)
    → reply_of t ≡ says_plan r → DeclinedLeaves r was now had has old new → DeclinedLeaves t was now had has old new
told_leaves was now had has old new (Ok s) r e h = tt
told_leaves was now had has old new (Err d) (Ok p) e h = absurd (cc e)
told_leaves {C} was now had has old new (Err d) (Err x) e h =
    let n : by_planning x ≡ by_planning d = ap (λ (k : ℕ). (eqb k 24) || (eqb k 25)) (sym (same_number {C = C} (number_of d) (number_of x) e)) in
    record { sheet = h.sheet; machine = λ i. h.machine (n ∙ i); cells_too = λ i. h.cells_too (n ∙ i) }
