-- A plan call that the book does not decline: its question can be asked, and the answer of the grouping gives its reply.
use Rattle.std.proofs.Common.{◌≡◌, ℕ, Bool, false, ◌||◌, eqb, ltb, List, length, Some, None, Ok, Err, Option, Result, sym, refl, subst, arith}
use Rattle.std.proofs.lemmas.Bool.{or_parts, ltb-false, eqb-false}
use Rattle.track.specs.declared.refusal.Refusal.{Refusal}
use Rattle.track.specs.declared.layout.Layout.{Layout}
use Rattle.rules.specs.Conflicts.{RuleLaws}
use Rattle.scales.specs.Measure.{MeasureLaws}
use Rattle.roster.specs.Book.{plan, Book}
use Rattle.roster.specs.Model.{seen, held, rows_of}
use Rattle.roster.proofs.Laws.{rows_most}
use Rattle.sheets.specs.Problem.{ProblemLaws}
use Rattle.sheets.specs.Posing.{all_trains, marked, question_declined}
use Rattle.sheets.specs.Inquiry.{inquiry}
use Rattle.sheets.specs.declared.question.Question.{Question}
use Rattle.sheets.specs.declared.sheet.Sheet.{Sheet}
use Rattle.search.specs.Reasons.{reason}
use Rattle.search.specs.declared.answer.Unplanned.{Unplanned}
use Rattle.search.specs.declared.answer.Unplanned.TheVariants.{BeyondReach, NoSheet}
use Rattle.grouping.specs.Ends.{Told}
use Rattle.planner.specs.declared.planner.Planner.{Planner}
use Rattle.planner.specs.Promise.{Setting, Reply, declined, problem, asked, PlanAnswered, PlanKept}
use Rattle.planner.specs.History.{Meaning, setting_of, judged, says_plan, Step, event}
use Rattle.planner.specs.Left.{NothingChangesIf, PlanningLeaves}
use Rattle.planner.proofs.Asked.{can_be_asked, asks_the_book}
use Rattle.planner.proofs.Placed.{met_none}
use Rattle.planner.proofs.Plans.{problem_laws, answered_found, answered_none, answered_beyond}
use Rattle.planner.proofs.Runs.{step_of}

-- what a `?` makes of the answer of the grouping
abbrev pub carried : {A : Type 0} → Result A Unplanned → Result A Refusal
carried (Ok a) = Ok a
carried (Err u) = Err (reason u)

module _ {R S Q C : Type 0} (k : Meaning R S Q C) (p : Planner R S Q) (steps cells : ℕ) where
  -- what `plan` owes, where the planner q is left
  pub record PlanDone (q : Planner R S Q) (reply : Reply C) (had has : List (Option C)) (old new : Sheet) : Type 0 where
    pub answer : PlanKept (setting_of k p) (seen p.roster) steps cells (judged p (plan steps cells)) reply old new
    pub declined : NothingChangesIf (judged p (plan steps cells)) p q had has old new
    pub leaves : PlanningLeaves k p q
    pub step : Step k p (event (plan steps cells) reply old new) q

  -- from how the book judges the call
  plan_done : (q : Planner R S Q) (o : Option ℕ) → o ≡ judged p (plan steps cells) → (reply : Reply C) (had has : List (Option C)) (old new : Sheet)
      → PlanKept (setting_of k p) (seen p.roster) steps cells o reply old new → NothingChangesIf o p q had has old new → PlanningLeaves k p q
      → PlanDone q reply had has old new
  plan_done q o e reply had has old new a d l =
      let answer = subst (λ (z : Option ℕ). PlanKept (setting_of k p) (seen p.roster) steps cells z reply old new) e a in
      record {
        answer = answer;
        declined = subst (λ (z : Option ℕ). NothingChangesIf z p q had has old new) e d;
        leaves = l;
        step = step_of k p q (event (plan steps cells) reply old new) answer l;
      }

  pub is_declined : (n : ℕ) (had : List (Option C)) (s : Sheet) → Some n ≡ judged p (plan steps cells) → PlanDone p (declined n) had had s s
  is_declined n had s e =
      plan_done p (Some n) e (declined n) had had s s (refl, refl) (record { planner = refl; cells = refl; sheet = refl })
      (record { layout = refl; rule = refl; scale = refl; roster = refl; takes = λ i j. record { to = λ h. h; back = λ h. h } })

  module _ (passes : None ≡ judged p (plan steps cells)) where
    steps_right : (eqb steps 0 || ltb 16 steps) ≡ false
    steps_right = (met_none 21 (eqb steps 0 || ltb 16 steps) _ (sym passes)).0

    some_train : eqb (length (held p.roster)) 0 ≡ false
    some_train = (met_none 22 (eqb (length (held p.roster)) 0) _ (met_none 21 (eqb steps 0 || ltb 16 steps) _ (sym passes)).1).0

    module _ (marks : List Bool) (all_marked : marked marks ≡ all_trains (rows_of p.roster)) where
      never : (o : Option ℕ) (n : ℕ) → Some n ≡ o → o ≡ None → ⊥
      never o n a b = let z : ◌≡◌ {A = ℕ} 0 1 = cc in omega arith

      -- the question is not declined
      pub is_asked : (n : ℕ) → Some n ≡ question_declined p.layout p.roster marks steps → ⊥
      unfolding rows_of
      is_asked n e = never _ n e (can_be_asked p.layout p.roster marks steps p.placed all_marked steps_right (eqb-false _ _ some_train))

      pub is_answered : (ruled : (r : R) (l : Layout) → RuleLaws (k.conflicts r l)) (measured : (s : S) → MeasureLaws (k.measure s))
          → (q : Planner R S Q) → PlanningLeaves k p q
          → (question : Question) → question.layout.now ≡ p.layout → question.roster.now ≡ p.roster → question.group ≡ marks → question.steps ≡ steps
          → (had has : List (Option C)) (old new : Sheet) (a : Result (C × ℕ) Unplanned)
          → Told (k.takes p.search.below) (inquiry (k.conflicts p.rule) (k.measure p.scale) question) cells old new a
          → PlanDone q (says_plan (carried a)) had has old new
      unfolding rows_of
      is_answered ruled measured q leaves question l o m s had has old new a told =
          plan_done q None passes (says_plan (carried a)) had has old new
          (go a (subst (λ i. Told w.takes i cells old new a) e told)) tt leaves
        where
          w : Setting C
          w = setting_of k p

          b : Book
          b = seen p.roster

          e : inquiry (k.conflicts p.rule) (k.measure p.scale) question ≡ asked w b steps
          e = asks_the_book (k.conflicts p.rule) (k.measure p.scale) (k.takes p.search.below) p.layout p.roster marks steps question l o m s all_marked

          laws : ProblemLaws (problem w b steps)
          laws =
              problem_laws p.layout (k.conflicts p.rule p.layout) (k.measure p.scale) (k.takes p.search.below) b steps
              (ruled p.rule p.layout) (rows_most p.roster) (ltb-false 16 steps (or_parts (eqb steps 0) (ltb 16 steps) steps_right).1)

          go : (x : Result (C × ℕ) Unplanned) → Told w.takes (asked w b steps) cells old new x → PlanAnswered w b steps cells old new (says_plan (carried x))
          go (Err BeyondReach) h = answered_beyond w (measured p.scale) b steps cells laws old new h
          go (Err NoSheet) h = answered_none w (measured p.scale) b steps cells laws old new h
          go (Ok f) h = answered_found w (measured p.scale) b steps cells laws old new f h
