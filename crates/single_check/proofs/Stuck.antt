-- Stuck trains, and the answers that follow from one, or from none.
use Rattle.std.proofs.Common.{◌≡◌, ℕ, ◌<◌, Bool, true, false, not, ◌⊎◌, length, get_or, is_some, Some, None, Option, refl, subst, inl, inr, ⊎_elim, arith}
use Rattle.std.specs.Bool.{MatchBool}
use Rattle.std.specs.List.{HoldsAt, AllWithin, range_with_len}
use Rattle.std.proofs.lemmas.Bool.{false≢true}
use Rattle.std.proofs.lemmas.List.FromFn.{length-range_with_len, get_or-range_with_len}
use Rattle.rules.specs.Conflicts.{Conflicts}
use Rattle.roster.specs.Model.{rows_of}
use Rattle.sheets.specs.Posing.{marked}
use Rattle.sheets.specs.declared.question.Question.{Question}
use Rattle.sheets.specs.Problem.{Problem, Group, Member}
use Rattle.sheets.specs.Plan.{Plan, Lawful, Without}
use Rattle.sheets.specs.Inquiry.{Inquiry, problem_asked}
use Rattle.sheets.specs.Theorems.{Same}
use Rattle.sheets.specs.declared.sheet.Sheet.{Sheet}
use Rattle.search.specs.Answers.{Answered}
use Rattle.std.specs.Prelude.{Ok, Err, Result}
use Rattle.search.specs.declared.answer.Unplanned.{Unplanned}
use Rattle.search.specs.declared.answer.Unplanned.TheVariants.{BeyondReach, NoSheet}
use Rattle.single_check.specs.Ways.{Reaches, Fewest, StuckTrain, StuckIn, Stuck}
use Rattle.single_check.proofs.Ways.{reaches_by}

-- the row of a lawful sheet is a way of all the steps
row_is_way : (Q : Problem) (G : Group) (x : Plan) (r : ℕ) → Member Q G r → Lawful Q G x → Reaches Q Q.steps (Q.start r) (Q.goal r)
row_is_way Q G x r m L = (
  x r,
  record { begins = L.starts r m; ends = L.arrives r m; moves = λ t h. L.moves r t m h; inside = λ t h. L.inside r t m h; not_closed = λ t h. L.not_closed r t m h },
)

stuck_without : (Q : Problem) (G : Group) → StuckIn Q G → Without Q G
stuck_without Q G s x L = s.1.no_way (row_is_way Q G x s.0 s.1.member L)

-- a train of the group is stuck exactly if no number of steps is the fewest
pub stuck_exactly : (Q : Problem) (G : Group) (r : ℕ) (o : Option ℕ) (b : Bool) → Member Q G r → Fewest Q r o → is_some o ≡ not b → Same (b ≡ true) (StuckTrain Q G r)
stuck_exactly Q G r None true m h e = record { to = λ _. record { member = m; no_way = h Q.steps (omega arith) }; back = λ _. refl }
stuck_exactly Q G r (Some k) false m h e = record {
  to = λ i. absurd (let z : ◌≡◌ {A = ℕ} 0 1 = cc in omega arith);
  back = λ s. absurd (s.no_way (reaches_by Q k Q.steps (Q.start r) (Q.goal r) h.0 h.1));
}
stuck_exactly Q G r None false m h e = absurd (let z : ◌≡◌ {A = ℕ} 0 1 = cc in omega arith)
stuck_exactly Q G r (Some k) true m h e = absurd (let z : ◌≡◌ {A = ℕ} 0 1 = cc in omega arith)

-- where a train is stuck, no sheet is the right answer
pub answered_stuck : {C : Type 0} (i : Inquiry C) (Taken : Type 0) (s : Sheet) → Stuck i → Answered i (Stuck i ⊎ Taken) s s (Err NoSheet)
answered_stuck i Taken s h = (inl h, refl, stuck_without i.problem i.group h)

-- where no train is stuck, the answer from below is right of what is taken here
pub answered_below : {C : Type 0} (i : Inquiry C) (Taken : Type 0) (old new : Sheet) (a : Result C Unplanned) → (Stuck i → ⊥) → Answered i Taken old new a → Answered i (Stuck i ⊎ Taken) old new a
answered_below i Taken old new (Err BeyondReach) n h = (⊎_elim n h.0, h.1)
answered_below i Taken old new (Err NoSheet) n h = (inr h.0, h.1, h.2)
answered_below i Taken old new (Ok c) n h = (inr h.0, h.1)

-- taken here for the same groups, if taken below for the same
pub taken_same : {C : Type 0} (i : Inquiry C) (T U : Type 0) → Same T U → Same (Stuck i ⊎ T) (Stuck i ⊎ U)
taken_same i T U s = record { to = ⊎_elim inl (λ t. inr (s.to t)); back = ⊎_elim inl (λ u. inr (s.back u)) }

-- what is told of a row: whether its train is stuck
abbrev pub Told : Question → Bool → (r : ℕ) → Type 0
Told q b r = (k : Conflicts) → Same (b ≡ true) (StuckTrain (problem_asked k q) (marked q.group) r)

-- some of the rows is told to be stuck, or all are told not to be
pub stuck_among : (q : Question) (n : ℕ) → n ≡ rows_of q.roster.now → (b : Bool)
    → MatchBool b ((i : ℕ) × (i < length (range_with_len 0 n)) × HoldsAt (Told q true) (range_with_len 0 n) i) (AllWithin (Told q false) (range_with_len 0 n) 0 (length (range_with_len 0 n)))
    → (k : Conflicts) → Same (b ≡ true) (StuckIn (problem_asked k q) (marked q.group))
stuck_among q n e true h k = record { to = λ z. (_, (h.2 0 k).to refl); back = λ s. refl }
stuck_among q n e false h k = record {
  to = λ z. absurd (false≢true z);
  back = λ s.
      let l : s.0 < n = omega (arith, s.1.member.a_row) in
      let here : get_or (range_with_len 0 n) s.0 0 ≡ s.0 = omega (arith, get_or-range_with_len 0 n s.0 0 l) in
      let told : Told q false s.0 = subst (Told q false) here (h s.0 0 (omega arith) (omega (arith, length-range_with_len 0 n))) in
      (told k).back s.1;
}
