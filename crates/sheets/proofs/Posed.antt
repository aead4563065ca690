-- What a question's invariant says of its problem.
use Rattle.std.proofs.Common.{◌≡◌, ℕ, zero, suc, ◌<◌, ◌≤◌, Bool, true, false, cond, not, ◌&&◌, ◌||◌, eqb, ltb, List, [], ◌∷◌, length, get_or, is_some, Some, None, Option, unwrap_or, refl, arith}
use Rattle.std.proofs.lemmas.Bool.{and_parts, or_parts, ltb-true, ltb-false, eqb-false, not-false}
use Rattle.track.specs.Refusals.{met}
use Rattle.track.specs.Layouts.{sections_of, look}
use Rattle.track.specs.declared.layout.Layout.{Layout}
use Rattle.track.proofs.Laws.{look_few}
use Rattle.roster.specs.Trains.{on_layout}
use Rattle.roster.specs.Model.{held, no_train, rows_of, start_at, goal_at}
use Rattle.roster.specs.declared.train.Train.{Train}
use Rattle.roster.proofs.Laws.{rows_most, start_open, goal_open}
use Rattle.rules.specs.Conflicts.{Conflicts, RuleLaws}
use Rattle.sheets.specs.Problem.{ProblemLaws, Posed, count}
use Rattle.sheets.specs.Posing.{marked, all_rows, question_declined}
use Rattle.sheets.specs.Inquiry.{over, problem_of}
use Rattle.sheets.specs.declared.question.Question.{Question}

-- a condition that does not decline is not met, and nor are those after it
passed : (k : ℕ) (b : Bool) (o : Option ℕ) → is_some (met k b o) ≡ false → (b ≡ false) × (is_some o ≡ false)
passed k true o h = absurd (let z : ◌≡◌ {A = ℕ} 0 1 = cc in omega arith)
passed k false o h = (refl, h)

pub record Sound (q : Question) : Type 0 where
  pub ends : on_layout (sections_of q.layout.now) (held q.roster.now) ≡ true
  pub rows : all_rows q.roster.now q.group ≡ true
  pub steps_some : 1 ≤ q.steps
  pub steps_most : q.steps ≤ 16
  pub someone : 0 < count (rows_of q.roster.now) (marked q.group)

pub sound : (q : Question) → Sound q
unfolding question_declined
sound q =
    let o = q.roster.now in
    let a = passed 1 (not (on_layout (sections_of q.layout.now) (held o))) _ q.sound in
    let b = passed 17 (not (all_rows o q.group)) _ a.1 in
    let c = passed 21 (eqb q.steps 0 || ltb 16 q.steps) _ b.1 in
    let d = passed 22 (eqb (count (rows_of o) (marked q.group)) 0) None c.1 in
    let s = or_parts (eqb q.steps 0) (ltb 16 q.steps) c.0 in
    let n = eqb-false q.steps 0 s.0 in
    let m = eqb-false (count (rows_of o) (marked q.group)) 0 d.0 in
    record {
      ends = not-false _ a.0;
      rows = not-false _ b.0;
      steps_some = omega arith;
      steps_most = ltb-false 16 q.steps s.1;
      someone = omega arith;
    }

few : (l : Layout) (a b : ℕ) (o : Option ℕ) → look l a b ≡ o → unwrap_or o 0 ≤ 7
few l a b None e = omega arith
few l a b (Some p) e = look_few l a b p e

-- the points run over are few, on every layout
pub over_few : (l : Layout) (a b : ℕ) → over l a b ≤ 7
over_few l a b = go (eqb a b)
  where
    go : (t : Bool) → cond t 0 (unwrap_or (look l a b) 0) ≤ 7
    go true = omega arith
    go false = few l a b (look l a b) refl

pub laws_of : (conflicts : Conflicts) → RuleLaws conflicts → (q : Question) → ProblemLaws (problem_of conflicts q.layout.now q.roster.now q.steps)
laws_of conflicts R q = record {
  rows_most = rows_most q.roster.now;
  steps_most = (sound q).steps_most;
  points_most = over_few q.layout.now;
  rule = R;
}

-- each train of a list on the layout is on it
on_at : (n : ℕ) (xs : List Train) (d : Train) (r : ℕ) → on_layout n xs ≡ true → r < length xs
    → (ltb (get_or xs r d).start n && ltb (get_or xs r d).goal n) ≡ true
on_at n [] d r h l = absurd (omega arith)
on_at n (x ∷ xs) d zero h l = (and_parts (ltb x.start n && ltb x.goal n) (on_layout n xs) h).0
on_at n (x ∷ xs) d (suc r) h l = on_at n xs d r (and_parts (ltb x.start n && ltb x.goal n) (on_layout n xs) h).1 (omega arith)

row_on : (q : Question) (r : ℕ) → r < rows_of q.roster.now
    → (ltb (start_at q.roster.now r) (sections_of q.layout.now) && ltb (goal_at q.roster.now r) (sections_of q.layout.now)) ≡ true
unfolding rows_of start_at goal_at
row_on q r h = on_at (sections_of q.layout.now) (held q.roster.now) no_train r (sound q).ends h

pub posed_of : (conflicts : Conflicts) (q : Question) → Posed (problem_of conflicts q.layout.now q.roster.now q.steps)
posed_of conflicts q =
    let s = sound q in
    let o = q.roster.now in
    record {
      start_inside = λ r h. ltb-true _ _ (and_parts _ _ (row_on q r h)).0;
      start_open = start_open o;
      goal_inside = λ r h. ltb-true _ _ (and_parts _ _ (row_on q r h)).1;
      goal_open = goal_open o;
    }
