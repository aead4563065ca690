-- The course of the grouping by computation, for a search that takes every group.
use Rattle.std.proofs.Common.{◌≡◌, ℕ, zero, suc, ◌+◌, ◌<◌, Bool, true, false, cond, eqb, ltb, Some, None, Option, refl, subst, arith}
use Rattle.std.proofs.lemmas.Bool.{and_from, eq-eqb, ltb-false, ltb-true}
use Rattle.scales.specs.Measure.{Measure, MeasureLaws}
use Rattle.sheets.specs.Problem.{Problem, ProblemLaws, Posed, Group, Member}
use Rattle.sheets.specs.Plan.{Plan}
use Rattle.groups.specs.Parts.{Naming, part, alone, merged, union, parts, FirstClash, put}
use Rattle.groups.specs.Course.{Outcome, none, found, Course, Opening}
use Rattle.std.proofs.lemmas.Option.{none-some, same_Some}
use Rattle.examples.proofs.Finding.{first_step, first_row, first_other, nowhere, somewhere}
use Rattle.examples.proofs.Asking.{ask, ask_none, ask_some}

-- goes on with the sheet that was found, or ends without one
abbrev then : (Plan → Option Outcome) → Option Plan → Option Outcome
then rest None = Some none
then rest (Some y) = rest y

module _ {C : Type 0} (S : Measure C) (Q : Problem) (G : Group) where
  -- the course from a naming of parts on, over fewer joinings than n; nothing where they do not suffice
  abbrev course : ℕ → Naming → Plan → Option Outcome
  course zero name x = None
  course (suc n) name x =
      let t = first_step Q G name x in
      let r = first_row Q G name x t in
      let q = first_other Q G name x t r in
      cond (ltb t Q.steps)
      (then (λ y. course n (merged name r q) (put (union G name r q) y x)) (ask S Q (union G name r q)))
      (Some (found (parts Q.rows G name) x))

  -- the m rows from k on are asked for, each alone
  abbrev opening : (m k : ℕ) → Plan → Option Outcome
  opening zero k x = course (suc Q.rows) alone x
  opening (suc m) k x = then (λ y. opening m (suc k) (put (part G alone k) y x)) (ask S Q (part G alone k))

  abbrev pub whole : Option Outcome
  whole = opening Q.rows 0 (λ r t. 0)

  module _ (L : MeasureLaws S) (M : ProblemLaws Q) (D : Posed Q) (full : (k : ℕ) → k < Q.rows → G k ≡ true) (Taken : Group → Type 0) (taken : (F : Group) → Taken F) where
    -- a row is of its own part, and of the part that it is joined to
    alone_in : (k : ℕ) → k < Q.rows → Member Q (part G alone k) k
    unfolding part
    alone_in k h = record { a_row = h; of_group = and_from _ _ (full k h) (eq-eqb k k refl) }

    same_either : (b : Bool) (n : ℕ) → cond b n n ≡ n
    same_either true n = refl
    same_either false n = refl

    union_in : (name : Naming) (r q : ℕ) → Member Q G r → Member Q (union G name r q) r
    unfolding part merged
    union_in name r q m = record { a_row = m.a_row; of_group = and_from _ _ m.of_group (eq-eqb _ _ (same_either (eqb (name r) (name q)) (name r))) }

    course_is : (n : ℕ) (name : Naming) (x : Plan) (o : Outcome) → course n name x ≡ Some o → Course S Q G Taken name x o
    course_is zero name x o e = absurd (none-some o e)
    course_is (suc n) name x o e = go (λ name x z. course_is n name x o z) (ltb t Q.steps) refl (ask S Q F) refl e
      where
        t : ℕ
        t = first_step Q G name x

        r : ℕ
        r = first_row Q G name x t

        q : ℕ
        q = first_other Q G name x t r

        F : Group
        F = union G name r q

        go : ((next : Naming) (z : Plan) → course n next z ≡ Some o → Course S Q G Taken next z o) → (b : Bool) → ltb t Q.steps ≡ b → (a : Option Plan) → ask S Q F ≡ a
            → cond b (then (λ y. course n (merged name r q) (put F y x)) a) (Some (found (parts Q.rows G name) x)) ≡ Some o
            → Course S Q G Taken name x o
        go rec false h a k z = subst (Course S Q G Taken name x) (same_Some _ _ z) (Course.stands (nowhere Q G name x (ltb-false _ _ h)))
        go rec true h a k z = joining (somewhere Q G name x (ltb-true _ _ h)) a k z
          where
            joining : FirstClash Q G name x t r q → (a : Option Plan) → ask S Q F ≡ a → then (λ y. course n (merged name r q) (put F y x)) a ≡ Some o
                → Course S Q G Taken name x o
            joining f None k z =
                subst (Course S Q G Taken name x) (same_Some _ _ z) (Course.without t r q f (taken F) (ask_none S Q F L M D r (union_in name r q f.row) k))
            joining f (Some y) k z =
                Course.joins t r q y f (taken F) (ask_some S Q F L M D r (union_in name r q f.row) y k) (rec (merged name r q) (put F y x) z)

    opening_is : (m k : ℕ) (x : Plan) (o : Outcome) → k + m ≡ Q.rows → opening m k x ≡ Some o → Opening S Q G Taken k x o
    opening_is zero k x o h e = Opening.all_asked (omega arith) (course_is (suc Q.rows) alone x o e)
    opening_is (suc m) k x o h e =
        go (λ z e. opening_is m (suc k) z o (omega arith) e) (ask S Q (part G alone k)) refl e
      where
        in_rows : k < Q.rows
        in_rows = omega arith

        go : ((z : Plan) → opening m (suc k) z ≡ Some o → Opening S Q G Taken (suc k) z o) → (a : Option Plan) → ask S Q (part G alone k) ≡ a
            → then (λ y. opening m (suc k) (put (part G alone k) y x)) a ≡ Some o → Opening S Q G Taken k x o
        go rec None i z =
            subst (Opening S Q G Taken k x) (same_Some _ _ z)
            (Opening.without in_rows (full k in_rows) (taken (part G alone k)) (ask_none S Q (part G alone k) L M D k (alone_in k in_rows) i))
        go rec (Some y) i z =
            Opening.asks y in_rows (full k in_rows) (taken (part G alone k)) (ask_some S Q (part G alone k) L M D k (alone_in k in_rows) y i)
            (rec (put (part G alone k) y x) z)

    pub whole_is : (o : Outcome) → whole ≡ Some o → Opening S Q G Taken 0 (λ r t. 0) o
    whole_is o e = opening_is Q.rows 0 (λ r t. 0) o (omega arith) e
