-- The course of a group of one train: it asks for groups of one train alone.
use Rattle.std.proofs.Common.{◌≡◌, ℕ, Bool, true, false, refl, arith}
use Rattle.std.specs.Prelude.{◌≢◌}
use Rattle.std.proofs.lemmas.Bool.{both_ways}
use Rattle.scales.specs.Measure.{Measure}
use Rattle.sheets.specs.Problem.{Problem, Group, count}
use Rattle.sheets.specs.Plan.{Plan}
use Rattle.groups.specs.Parts.{Naming, part, FirstClash}
use Rattle.groups.specs.Course.{Outcome, beyond, none, found, Course, Opening, Whole}
use Rattle.groups.proofs.Counting.{count_row, count_two}

abbrev is_beyond : Outcome → Bool
is_beyond beyond = true
is_beyond none = false
is_beyond (found n x) = false

module _ {C : Type 0} (S : Measure C) (Q : Problem) (G : Group) (Taken : Group → Type 0) (one : count Q.rows G ≡ 1) (law : (F : Group) → count Q.rows F ≡ 1 → Taken F) where
  never_two : (name : Naming) (x : Plan) (t r q : ℕ) → FirstClash Q G name x t r q → ⊥
  never_two name x t r q f =
      let two = count_two Q.rows G r q f.rising f.other.a_row f.row.of_group f.other.of_group in
      omega (arith, one)

  course_near : {name : Naming} {x : Plan} {o : Outcome} → Course S Q G Taken name x o → is_beyond o ≢ true
  course_near (Course.stands n) e = both_ways false refl e
  course_near {name} {x} (Course.not_taken t r q f k) e = never_two name x t r q f
  course_near (Course.without t r q f k w) e = both_ways false refl e
  course_near {name} {x} (Course.joins t r q y f k b c) e = never_two name x t r q f

  opening_near : {k : ℕ} {x : Plan} {o : Outcome} → Opening S Q G Taken k x o → is_beyond o ≢ true
  opening_near (Opening.all_asked h c) e = course_near c e
  opening_near (Opening.passes h n c) e = opening_near c e
  opening_near {k = r} (Opening.not_taken h n t) e = t (law _ (unfold part in count_row Q.rows G r h n))
  opening_near (Opening.without h n t w) e = both_ways false refl e
  opening_near (Opening.asks y h n t b c) e = opening_near c e

  -- where each group of one train is taken, the course of one train never ends beyond reach
  pub one_train_in_reach : Whole S Q G Taken beyond → ⊥
  one_train_in_reach c = opening_near c refl
