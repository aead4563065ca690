-- There is a course wherever it is decided which groups are taken.
use Rattle.std.proofs.Common.{◌≡◌, ℕ, zero, suc, ◌+◌, ◌<◌, ◌≤◌, true, false, ◌⊎◌, ap, ◌∙◌, inl, inr, arith}
use Rattle.std.proofs.lemmas.Bool.{cases_Bool, cases_eq, cases_lt, both_ways}
use Rattle.scales.specs.Measure.{Measure, MeasureLaws}
use Rattle.sheets.specs.Problem.{Problem, ProblemLaws, Group, Member}
use Rattle.sheets.specs.Plan.{Plan, Best, Without, clash}
use Rattle.sheets.proofs.Least.{least}
use Rattle.sheets.proofs.Exists.{best_or_none}
use Rattle.groups.specs.Parts.{Naming, Names, part, alone, merged, union, parts, NoClash, Sooner, FirstClash, put}
use Rattle.groups.specs.Course.{Outcome, beyond, none, found, Course, Opening}
use Rattle.groups.specs.Laws.{ACourseExistsWhereTakingIsDecided}
use Rattle.groups.proofs.Right.{merged_names, alone_names}
use Rattle.groups.proofs.Fewer.{merged_fewer}

module _ (Q : Problem) (G : Group) (name : Naming) (x : Plan) where
  -- rows r and q of the group do not conflict at t, or they are of one part or not in order; and the contrary
  abbrev Free : (t r q : ℕ) → Type 0
  Free t r q = r < q → G r ≡ true → G q ≡ true → (name r ≡ name q → ⊥) → clash Q x t r q ≡ false

  abbrev Hit : (t r q : ℕ) → Type 0
  Hit t r q = (r < q) × (G r ≡ true) × (G q ≡ true) × (name r ≡ name q → ⊥) × (clash Q x t r q ≡ true)

  -- the first of a step with a row
  abbrev RowFree : (t r : ℕ) → Type 0
  RowFree t r = (q : ℕ) → q < Q.rows → Free t r q

  abbrev RowHit : (t r : ℕ) → Type 0
  RowHit t r = (q : ℕ) × (q < Q.rows) × Hit t r q × ((o : ℕ) → o < q → Free t r o)

  abbrev StepFree : (t : ℕ) → Type 0
  StepFree t = (r : ℕ) → r < Q.rows → RowFree t r

  abbrev StepHit : (t : ℕ) → Type 0
  StepHit t = (r : ℕ) × (r < Q.rows) × RowHit t r × ((p : ℕ) → p < r → RowFree t p)

  pair : (t r q : ℕ) → Free t r q ⊎ Hit t r q
  pair t r q = go (cases_lt r q) (cases_Bool (G r)) (cases_Bool (G q)) (cases_eq (name r) (name q)) (cases_Bool (clash Q x t r q))
    where
      go : (r < q) ⊎ (q ≤ r) → (G r ≡ true) ⊎ (G r ≡ false) → (G q ≡ true) ⊎ (G q ≡ false) → (name r ≡ name q) ⊎ (name r ≡ name q → ⊥)
          → (clash Q x t r q ≡ true) ⊎ (clash Q x t r q ≡ false) → Free t r q ⊎ Hit t r q
      go (inr a) m n b c = inl (λ h i j d. absurd (omega arith))
      go (inl a) (inr m) n b c = inl (λ h i j d. absurd (both_ways (G r) m i))
      go (inl a) (inl m) (inr n) b c = inl (λ h i j d. absurd (both_ways (G q) n j))
      go (inl a) (inl m) (inl n) (inl b) c = inl (λ h i j d. absurd (d b))
      go (inl a) (inl m) (inl n) (inr b) (inl c) = inr (a, m, n, b, c)
      go (inl a) (inl m) (inl n) (inr b) (inr c) = inl (λ h i j d. c)

  first_clash : NoClash Q G name x ⊎ ((t r q : ℕ) × FirstClash Q G name x t r q)
  first_clash =
      go
      (least Q.steps StepFree StepHit
      (λ t h. least Q.rows (RowFree t) (RowHit t) (λ r i. least Q.rows (Free t r) (Hit t r) (λ q j. pair t r q))))
    where
      go : ((t : ℕ) → t < Q.steps → StepFree t) ⊎ ((t : ℕ) × (t < Q.steps) × StepHit t × ((u : ℕ) → u < t → StepFree u))
          → NoClash Q G name x ⊎ ((t r q : ℕ) × FirstClash Q G name x t r q)
      go (inl f) = inl (λ t r q h i m n d. f t h r m.a_row q n.a_row i m.of_group n.of_group d)
      go (inr (t, h, (r, i, (q, j, (a, m, n, b, c), fq), fr), ft)) =
          inr (
            t,
            r,
            q,
            record {
              in_time = h;
              rising = a;
              row = record { a_row = i; of_group = m };
              other = record { a_row = j; of_group = n };
              differ = b;
              conflict = c;
              first = λ u p o k v w d e. at u p o k v w d e;
            },
          )
        where
          at : (u p o : ℕ) → p < o → Member Q G p → Member Q G o → (name p ≡ name o → ⊥) → Sooner u p o t r q → clash Q x u p o ≡ false
          at u p o k v w d (inl e) = ft u e p v.a_row o w.a_row k v.of_group w.of_group d
          at u p o k v w d (inr (e, inl l)) = rw e (fr p l o w.a_row k v.of_group w.of_group d)
          at u p o k v w d (inr (e, inr (s, l))) = rw (e, s) (fq o l (omega arith) m w.of_group (λ z. d (ap name s ∙ z)))

module _ {C : Type 0} (S : Measure C) (L : MeasureLaws S) (Q : Problem) (K : ProblemLaws Q) (G : Group) (Taken : Group → Type 0)
    (decided : (F : Group) → Taken F ⊎ (Taken F → ⊥)) where
  abbrev Onward : Naming → Plan → Type 0
  Onward name x = (o : Outcome) × Course S Q G Taken name x o

  course_step : (name : Naming) (x : Plan) → Names Q G name
      → ((next : Naming) (z : Plan) → Names Q G next → parts Q.rows G next < parts Q.rows G name → Onward next z)
      → Onward name x
  course_step name x w rec = go (first_clash Q G name x)
    where
      joining : (t r q : ℕ) → FirstClash Q G name x t r q → Taken (union G name r q) ⊎ (Taken (union G name r q) → ⊥) → Onward name x
      joining t r q f (inr k) = (beyond, Course.not_taken t r q f k)
      joining t r q f (inl k) = ask (best_or_none S L Q K (union G name r q))
        where
          ask : ((y : Plan) × Best S Q (union G name r q) y) ⊎ Without Q (union G name r q) → Onward name x
          ask (inr n) = (none, Course.without t r q f k n)
          ask (inl (y, b)) =
              let rest =
              rec (merged name r q) (put (union G name r q) y x)
              (merged_names Q G name r q f.row f.differ w)
              (omega (arith, merged_fewer Q G name r q f.row f.other f.differ w)) in
              (rest.0, Course.joins t r q y f k b rest.1)

      go : NoClash Q G name x ⊎ ((t r q : ℕ) × FirstClash Q G name x t r q) → Onward name x
      go (inl n) = (found (parts Q.rows G name) x, Course.stands n)
      go (inr (t, r, q, f)) = joining t r q f (decided (union G name r q))

  course_end : (n : ℕ) (name : Naming) (x : Plan) → Names Q G name → parts Q.rows G name ≤ n → Onward name x
  course_end zero name x w h = course_step name x w (λ next z v k. absurd (omega arith))
  course_end (suc n) name x w h = course_step name x w (λ next z v k. course_end n next z v (omega arith))

  opening_end : (m k : ℕ) (x : Plan) → k + m ≡ Q.rows → (o : Outcome) × Opening S Q G Taken k x o
  opening_end zero k x e =
      let rest = course_end (parts Q.rows G alone) alone x (alone_names Q G) (omega arith) in
      (rest.0, Opening.all_asked (omega arith) rest.1)
  opening_end (suc m) k x e = row (cases_Bool (G k)) (λ z. opening_end m (suc k) z (omega arith))
    where
      row : (G k ≡ true) ⊎ (G k ≡ false) → ((z : Plan) → (o : Outcome) × Opening S Q G Taken (suc k) z o) → (o : Outcome) × Opening S Q G Taken k x o
      row (inr g) rec = let rest = rec x in (rest.0, Opening.passes (omega arith) g rest.1)
      row (inl g) rec = ask (decided (part G alone k))
        where
          ask : Taken (part G alone k) ⊎ (Taken (part G alone k) → ⊥) → (o : Outcome) × Opening S Q G Taken k x o
          ask (inr t) = (beyond, Opening.not_taken (omega arith) g t)
          ask (inl t) = reply (best_or_none S L Q K (part G alone k))
            where
              reply : ((y : Plan) × Best S Q (part G alone k) y) ⊎ Without Q (part G alone k) → (o : Outcome) × Opening S Q G Taken k x o
              reply (inr n) = (none, Opening.without (omega arith) g t n)
              reply (inl (y, b)) = let rest = rec (put (part G alone k) y x) in (rest.0, Opening.asks y (omega arith) g t b rest.1)

pub a_course_exists : {C : Type 0} (S : Measure C) → MeasureLaws S → (Q : Problem) → ProblemLaws Q → (G : Group) (Taken : Group → Type 0)
    → ACourseExistsWhereTakingIsDecided S Q G Taken
a_course_exists S L Q K G Taken decided = opening_end S L Q K G Taken decided Q.rows 0 (λ r t. 0) (omega arith)
