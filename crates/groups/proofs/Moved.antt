-- A course rests only on which groups are taken.
use Rattle.std.proofs.Common.{ℕ}
use Rattle.scales.specs.Measure.{Measure}
use Rattle.sheets.specs.Problem.{Problem, Group}
use Rattle.sheets.specs.Plan.{Plan}
use Rattle.sheets.specs.Theorems.{Same}
use Rattle.groups.specs.Parts.{Naming}
use Rattle.groups.specs.Course.{Outcome, Course, Opening, Whole}

module _ {C : Type 0} (S : Measure C) (Q : Problem) (G : Group) (A B : Group → Type 0) (e : (F : Group) → Same (A F) (B F)) where
  pub course_moved : {name : Naming} {x : Plan} {o : Outcome} → Course S Q G A name x o → Course S Q G B name x o
  course_moved (Course.stands n) = Course.stands n
  course_moved (Course.not_taken t r q f k) = Course.not_taken t r q f (λ h. k ((e _).back h))
  course_moved (Course.without t r q f k w) = Course.without t r q f ((e _).to k) w
  course_moved (Course.joins t r q y f k m c) = Course.joins t r q y f ((e _).to k) m (course_moved c)

  opening_moved : {k : ℕ} {x : Plan} {o : Outcome} → Opening S Q G A k x o → Opening S Q G B k x o
  opening_moved (Opening.all_asked h c) = Opening.all_asked h (course_moved c)
  opening_moved (Opening.passes h n c) = Opening.passes h n (opening_moved c)
  opening_moved (Opening.not_taken h n k) = Opening.not_taken h n (λ t. k ((e _).back t))
  opening_moved (Opening.without h n k w) = Opening.without h n ((e _).to k) w
  opening_moved (Opening.asks y h n k m c) = Opening.asks y h n ((e _).to k) m (opening_moved c)

  pub whole_moved : (o : Outcome) → Whole S Q G A o → Whole S Q G B o
  whole_moved o c = opening_moved c
