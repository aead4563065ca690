-- What the end of a course says of the reply to a plan call.
use Rattle.std.proofs.Common.{◌≡◌, ℕ, ◌≤◌, length, Ok, Err, refl, inl, inr, arith}
use Rattle.track.specs.declared.layout.Layout.{Layout}
use Rattle.rules.specs.Conflicts.{Conflicts, RuleLaws}
use Rattle.scales.specs.Measure.{Measure, MeasureLaws}
use Rattle.roster.specs.Book.{Book}
use Rattle.sheets.specs.Problem.{ProblemLaws}
use Rattle.sheets.specs.Inquiry.{Inquiry, plan_of}
use Rattle.sheets.specs.declared.sheet.Sheet.{Sheet}
use Rattle.sheets.proofs.Posed.{over_few}
use Rattle.sheets.proofs.Sheets.{best_same}
use Rattle.search.specs.declared.answer.Unplanned.TheVariants.{BeyondReach, NoSheet}
use Rattle.groups.specs.Course.{Outcome, beyond, none, found}
use Rattle.groups.specs.Laws.{Agree, Says}
use Rattle.groups.proofs.Once.{a_course_has_one_outcome}
use Rattle.groups.proofs.Right.{a_course_is_right}
use Rattle.grouping.specs.Ends.{Told, about}
use Rattle.sheets.specs.Posing.{all_trains}
use Rattle.planner.specs.Promise.{Setting, setting, Reply, declined, planned, problem, asked, GroupingEnds, PlanAnswered}

pub problem_laws : {C : Type 0} (l : Layout) (conflicts : Conflicts) (m : Measure C) (takes : Inquiry C → ℕ → Type 0) (b : Book) (steps : ℕ)
    → RuleLaws conflicts → length b.trains ≤ 8 → steps ≤ 16 → ProblemLaws (problem (setting l conflicts m takes) b steps)
problem_laws l conflicts m takes b steps rule r s =
    record { rows_most = r; steps_most = s; points_most = over_few l; rule = rule }

not_declined : {C : Type 0} (c : C) (n k : ℕ) → planned c n ≡ declined k → ⊥
not_declined c n k e = let z : ◌≡◌ {A = ℕ} 0 1 = cc in omega arith

not_24 : {C : Type 0} → ◌≡◌ {A = Reply C} (declined 25) (declined 24) → ⊥
not_24 {C} e = let z : ◌≡◌ {A = ℕ} 25 24 = cc in omega arith

module _ {C : Type 0} (w : Setting C) (L : MeasureLaws w.measure) (b : Book) (steps cells : ℕ) (K : ProblemLaws (problem w b steps)) where
  pub once : (o p : Outcome) → GroupingEnds w b steps cells o → GroupingEnds w b steps cells p → Agree (problem w b steps) (all_trains (length b.trains)) o p
  once o p c d =
      a_course_has_one_outcome w.measure L (problem w b steps) K (all_trains (length b.trains)) (λ F. w.takes (about (asked w b steps) F) cells) o p c d

  right : (o : Outcome) → GroupingEnds w b steps cells o → Says w.measure (problem w b steps) (all_trains (length b.trains)) o
  right o c =
      a_course_is_right w.measure L (problem w b steps) K (all_trains (length b.trains)) (λ F. w.takes (about (asked w b steps) F) cells) o c

  module _ (old new : Sheet) where
    pub answered_found : (p : C × ℕ) → Told w.takes (asked w b steps) cells old new (Ok p) → PlanAnswered w b steps cells old new (planned p.0 p.1)
    answered_found p h =
        record {
          sheet_or_none =
              record {
                groups = (h.plan, h.ends);
                best = best_same w.measure L (problem w b steps) K (all_trains (length b.trains)) h.plan (plan_of new) h.same (right (found p.1 h.plan) h.ends);
                costs = h.costs;
                elsewhere = h.others;
              };
          beyond_reach = record { to = λ z. absurd (not_declined p.0 p.1 24 z); back = λ z. absurd (once (found p.1 h.plan) beyond h.ends z) };
        }

    pub answered_none : Told w.takes (asked w b steps) cells old new (Err NoSheet) → PlanAnswered w b steps cells old new (declined 25)
    answered_none h =
        record {
          sheet_or_none = record { untouched = h.1; reason = inr (refl, h.0, right none h.0) };
          beyond_reach = record { to = λ z. absurd (not_24 z); back = λ z. absurd (once none beyond h.0 z) };
        }

    pub answered_beyond : Told w.takes (asked w b steps) cells old new (Err BeyondReach) → PlanAnswered w b steps cells old new (declined 24)
    answered_beyond h =
        record {
          sheet_or_none = record { untouched = h.1; reason = inl (refl, h.0) };
          beyond_reach = record { to = λ z. h.0; back = λ z. refl };
        }
