-- Which groups the grouping takes, and what its answers say of the group.
use Rattle.std.specs.Prelude.{◌≡◌, ℕ, Err}
use Rattle.scales.specs.Measure.{MeasureLaws}
use Rattle.sheets.specs.Problem.{ProblemLaws}
use Rattle.sheets.specs.Inquiry.{Inquiry, plan_of}
use Rattle.sheets.specs.declared.sheet.Sheet.{Sheet}
use Rattle.sheets.proofs.Sheets.{best_same}
use Rattle.search.specs.Answers.{SameMeaning, Answered, Solved}
use Rattle.search.specs.declared.answer.Unplanned.{Unplanned}
use Rattle.search.specs.declared.answer.Unplanned.TheVariants.{BeyondReach, NoSheet}
use Rattle.groups.specs.Course.{Outcome, beyond, none, found}
use Rattle.groups.specs.Laws.{Agree}
use Rattle.groups.proofs.Once.{a_course_has_one_outcome}
use Rattle.groups.proofs.Right.{a_course_is_right}
use Rattle.groups.proofs.Moved.{whole_moved}
use Rattle.grouping.specs.Ends.{taken, ending, Ends, NeverBeyond, Given}

-- the meaning is left as it was
pub meaning_moved : {C : Type 0} (was now : Inquiry C → ℕ → Type 0) → SameMeaning now was → SameMeaning (NeverBeyond now) (NeverBeyond was)
meaning_moved was now same i n = record {
  to = λ h b. h (whole_moved i.measure i.problem i.group (taken was i n) (taken now i n) (λ F. record { to = (same _ n).back; back = (same _ n).to }) beyond b);
  back = λ h b. h (whole_moved i.measure i.problem i.group (taken now i n) (taken was i n) (λ F. same _ n) beyond b);
}

-- the answers
module _ {C : Type 0} (takes : Inquiry C → ℕ → Type 0) (i : Inquiry C) (L : MeasureLaws i.measure) (K : ProblemLaws i.problem) (cells : ℕ) where
  once : (o p : Outcome) → Ends takes i cells o → Ends takes i cells p → Agree i.problem i.group o p
  once o p a b = a_course_has_one_outcome i.measure L i.problem K i.group (taken takes i cells) o p a b

  pub ended_answered : (old new : Sheet) (why : Unplanned) → Ends takes i cells (ending why) × (new ≡ old) → Answered i (NeverBeyond takes i cells) old new (Err why)
  ended_answered old new BeyondReach h = ((λ never. never h.0), h.1)
  ended_answered old new NoSheet h = ((λ b. once none beyond h.0 b), h.1, a_course_is_right i.measure L i.problem K i.group (taken takes i cells) none h.0)

  pub found_answered : (old new : Sheet) (c : C) (n : ℕ) → Given takes i cells old new c n → NeverBeyond takes i cells × Solved i old new c
  found_answered old new c n h = (
    (λ b. once (found n h.plan) beyond h.ends b),
    record {
      best = best_same i.measure L i.problem K i.group h.plan (plan_of new) h.same (a_course_is_right i.measure L i.problem K i.group (taken takes i cells) (found n h.plan) h.ends);
      costs = h.costs;
      others = h.others;
    },
  )
