-- Some rows of a question's group make a question too.
use Rattle.std.proofs.Common.{◌≡◌, ℕ, ◌<◌, ◌≤◌, Bool, true, false, not, ◌||◌, eqb, ltb, List, is_some, sym, refl, ap, ◌∙◌, subst, arith}
use Rattle.std.proofs.lemmas.Bool.{and_from, and_parts, eq-eqb, ne_eqb, le-ltb}
use Rattle.track.specs.Layouts.{sections_of}
use Rattle.roster.specs.Trains.{on_layout}
use Rattle.roster.specs.Model.{held, rows_of}
use Rattle.sheets.specs.Problem.{Group, count}
use Rattle.sheets.specs.Posing.{marked, all_rows, question_declined}
use Rattle.sheets.specs.declared.question.Question.{Question}
use Rattle.sheets.proofs.Alls.{all_at, all_from}
use Rattle.sheets.proofs.Posed.{sound}
use Rattle.groups.specs.Parts.{Naming, part}
use Rattle.groups.proofs.Counting.{count_some}
use Rattle.grouping.specs.Asking.{SomeRows}

pub some_rows : (q : Question) (marks : List Bool) → SomeRows q marks
    → is_some (question_declined q.layout.now q.roster.now marks q.steps) ≡ false
unfolding question_declined all_rows
some_rows q marks h =
    let s = sound q in
    let o = q.roster.now in
    let a : on_layout (sections_of q.layout.now) (held o) ≡ true = s.ends in
    let b : all_rows o marks ≡ true = all_from 8 _ (λ r k. row r k (marked marks r) refl) in
    let t : (eqb q.steps 0 || ltb 16 q.steps) ≡ false = within s.steps_some s.steps_most in
    let m : eqb (count (rows_of o) (marked marks)) 0 ≡ false = ne_eqb _ _ (λ z. omega (arith, z, count_some (rows_of o) (marked marks) h.row h.a_row h.is_marked)) in
    simp (a, b, t, m)
  where
    within : 1 ≤ q.steps → q.steps ≤ 16 → (eqb q.steps 0 || ltb 16 q.steps) ≡ false
    within l k = rw (ne_eqb q.steps 0 (λ z. omega arith), le-ltb 16 q.steps k)

    row : (r : ℕ) → r < 8 → (v : Bool) → marked marks r ≡ v → (not v || ltb r (rows_of q.roster.now)) ≡ true
    row r k false e = refl
    row r k true e =
        let g = all_at 8 (λ p. not (marked q.group p) || ltb p (rows_of q.roster.now)) (sound q).rows r k in
        subst (λ (v : Bool). (not v || ltb r (rows_of q.roster.now)) ≡ true) (h.of_group r e) g

-- the rows of a part that has a row of the group
pub part_rows : (q : Question) (marks : List Bool) (name : Naming) (g r : ℕ) → marked marks ≡ part (marked q.group) name g
    → r < rows_of q.roster.now → marked q.group r ≡ true → name r ≡ g → SomeRows q marks
unfolding part
part_rows q marks name g r e l m n =
    record {
      of_group = λ p h. (and_parts (marked q.group p) (eqb (name p) g) (sym (ap (λ (F : Group). F p) e) ∙ h)).0;
      row = r;
      a_row = l;
      is_marked = ap (λ (F : Group). F r) e ∙ and_from (marked q.group r) (eqb (name r) g) m (eq-eqb (name r) g n);
    }
