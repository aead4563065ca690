-- A course has one outcome.
use Rattle.std.proofs.Common.{◌≡◌, ℕ, ◌+◌, ◌<◌, Bool, true, false, cond, ◌⊎◌, sym, refl, ◌∙◌, subst₂, inl, inr, arith}
use Rattle.std.proofs.lemmas.Bool.{cases_order, both_ways}
use Rattle.scales.specs.Measure.{Measure, MeasureLaws}
use Rattle.sheets.specs.Problem.{Problem, ProblemLaws, Group, Member}
use Rattle.sheets.specs.Plan.{Plan, Lawful, SameOn, Earlier, Best, Without, clash}
use Rattle.sheets.proofs.Places.{places}
use Rattle.sheets.proofs.Sheets.{best_unique}
use Rattle.groups.specs.Parts.{Naming, part, alone, merged, union, NoClash, Sooner, FirstClash, put}
use Rattle.groups.specs.Course.{Outcome, Course, Opening}
use Rattle.groups.specs.Laws.{Agree, ACourseHasOneOutcome}

-- sheets that agree conflict at the same places
pub clash_same : (Q : Problem) (G : Group) (x z : Plan) → SameOn Q G x z → (t r q : ℕ) → t < Q.steps → Member Q G r → Member Q G q
    → clash Q x t r q ≡ clash Q z t r q
clash_same Q G x z e t r q i j k =
    cc (e r t j (omega arith), e r (t + 1) j (omega arith), e q t k (omega arith), e q (t + 1) k (omega arith))

-- F is some of the rows of G
put_same : (Q : Problem) (G F : Group) (x z y w : Plan) → SameOn Q G x z → SameOn Q F y w → SameOn Q G (put F y x) (put F w z)
unfolding put
put_same Q G F x z y w e f r t m k = go (F r) (λ h. f r t (record { a_row = m.a_row; of_group = h }) k)
  where
    go : (b : Bool) → (b ≡ true → y r t ≡ w r t) → cond b (y r) (x r) t ≡ cond b (w r) (z r) t
    go true h = h refl
    go false h = e r t m k

module _ (Q : Problem) (G : Group) (name : Naming) (x z : Plan) (e : SameOn Q G x z) where
  clash_stands : (t r q : ℕ) → FirstClash Q G name x t r q → NoClash Q G name z → ⊥
  clash_stands t r q f n =
      both_ways (clash Q x t r q)
      (clash_same Q G x z e t r q f.in_time f.row f.other ∙ n t r q f.in_time f.rising f.row f.other f.differ)
      f.conflict

  -- a conflict that is first in x is not before the first of z
  clash_late : (t r q u p o : ℕ) → FirstClash Q G name x t r q → FirstClash Q G name z u p o → Sooner t r q u p o → ⊥
  clash_late t r q u p o f g h =
      both_ways (clash Q x t r q)
      (clash_same Q G x z e t r q f.in_time f.row f.other ∙ g.first t r q f.rising f.row f.other f.differ h)
      f.conflict

clash_once : (Q : Problem) (G : Group) (name : Naming) (x z : Plan) → SameOn Q G x z → (t r q u p o : ℕ)
    → FirstClash Q G name x t r q → FirstClash Q G name z u p o → (t ≡ u) × (r ≡ p) × (q ≡ o)
clash_once Q G name x z e t r q u p o f g = go (cases_order t u) (places r q p o)
  where
    e' : SameOn Q G z x
    e' r t m k = sym (e r t m k)

    go : (t ≡ u) ⊎ ((t < u) ⊎ (u < t)) → Earlier r q p o ⊎ (((r ≡ p) × (q ≡ o)) ⊎ Earlier p o r q) → (t ≡ u) × (r ≡ p) × (q ≡ o)
    go (inr (inl a)) b = absurd (clash_late Q G name x z e t r q u p o f g (inl a))
    go (inr (inr a)) b = absurd (clash_late Q G name z x e' u p o t r q g f (inl a))
    go (inl a) (inl b) = absurd (clash_late Q G name x z e t r q u p o f g (inr (a, b)))
    go (inl a) (inr (inl b)) = (a, b.0, b.1)
    go (inl a) (inr (inr b)) = absurd (clash_late Q G name z x e' u p o t r q g f (inr (sym a, b)))

-- what is so of the pair that conflicts first in z is so of the pair that does in x
move : (Q : Problem) (G : Group) (name : Naming) (x z : Plan) → SameOn Q G x z → (t r q u p o : ℕ)
    → FirstClash Q G name x t r q → FirstClash Q G name z u p o → (P : ℕ → ℕ → Type 0) → P p o → P r q
move Q G name x z e t r q u p o f g P h =
    let k = clash_once Q G name x z e t r q u p o f g in
    subst₂ P (sym k.1) (sym k.2) h

module _ {C : Type 0} (S : Measure C) (L : MeasureLaws S) (Q : Problem) (K : ProblemLaws Q) (G : Group) (Taken : Group → Type 0) where
  course_once : {name : Naming} {x z : Plan} {o p : Outcome} → SameOn Q G x z → Course S Q G Taken name x o → Course S Q G Taken name z p → Agree Q G o p
  course_once e (Course.stands n) (Course.stands m) = (refl, e)
  course_once {name} {x} {z} e (Course.stands n) (Course.not_taken u p v g j) = absurd (clash_stands Q G name z x (λ r t m k. sym (e r t m k)) u p v g n)
  course_once {name} {x} {z} e (Course.stands n) (Course.without u p v g j w) = absurd (clash_stands Q G name z x (λ r t m k. sym (e r t m k)) u p v g n)
  course_once {name} {x} {z} e (Course.stands n) (Course.joins u p v w g j b d) = absurd (clash_stands Q G name z x (λ r t m k. sym (e r t m k)) u p v g n)
  course_once {name} {x} {z} e (Course.not_taken t r q f k) (Course.stands m) = absurd (clash_stands Q G name x z e t r q f m)
  course_once e (Course.not_taken t r q f k) (Course.not_taken u p v g j) = tt
  course_once {name} {x} {z} e (Course.not_taken t r q f k) (Course.without u p v g j w) =
      k (move Q G name x z e t r q u p v f g (λ a b. Taken (union G name a b)) j)
  course_once {name} {x} {z} e (Course.not_taken t r q f k) (Course.joins u p v w g j b d) =
      absurd (k (move Q G name x z e t r q u p v f g (λ a b. Taken (union G name a b)) j))
  course_once {name} {x} {z} e (Course.without t r q f k w) (Course.stands m) = absurd (clash_stands Q G name x z e t r q f m)
  course_once {name} {x} {z} e (Course.without t r q f k w) (Course.not_taken u p v g j) =
      move Q G name x z e t r q u p v f g (λ a b. Taken (union G name a b) → ⊥) j k
  course_once e (Course.without t r q f k w) (Course.without u p v g j y) = tt
  course_once {name} {x} {z} e (Course.without t r q f k w) (Course.joins u p v y g j b d) =
      absurd (w y (move Q G name x z e t r q u p v f g (λ c d. Lawful Q (union G name c d) y) b.lawful))
  course_once {name} {x} {z} e (Course.joins t r q y f k b d) (Course.stands m) = absurd (clash_stands Q G name x z e t r q f m)
  course_once {name} {x} {z} e (Course.joins t r q y f k b d) (Course.not_taken u p v g j) =
      absurd (move Q G name x z e t r q u p v f g (λ a b. Taken (union G name a b) → ⊥) j k)
  course_once {name} {x} {z} e (Course.joins t r q y f k b d) (Course.without u p v g j w) =
      absurd (move Q G name x z e t r q u p v f g (λ c d. Without Q (union G name c d)) w y b.lawful)
  course_once {name} {x} {z} {p = o} e (Course.joins t r q y f k b d) (Course.joins u p v w g j a c) =
      let a' = move Q G name x z e t r q u p v f g (λ i l. Best S Q (union G name i l) w) a in
      let c' = move Q G name x z e t r q u p v f g (λ i l. Course S Q G Taken (merged name i l) (put (union G name i l) w z) o) c in
      course_once (put_same Q G (union G name r q) x z y w e (best_unique S L Q K (union G name r q) y w b a')) d c'

  neither : (b : Bool) → b ≡ true → b ≡ false → ⊥
  neither b h k = both_ways b k h

  opening_once : {k : ℕ} {x z : Plan} {o p : Outcome} → SameOn Q G x z → Opening S Q G Taken k x o → Opening S Q G Taken k z p → Agree Q G o p
  opening_once e (Opening.all_asked h c) (Opening.all_asked i d) = course_once e c d
  opening_once e (Opening.all_asked h c) (Opening.passes i n d) = absurd (omega arith)
  opening_once e (Opening.all_asked h c) (Opening.not_taken i m t) = absurd (omega arith)
  opening_once e (Opening.all_asked h c) (Opening.without i m t w) = absurd (omega arith)
  opening_once e (Opening.all_asked h c) (Opening.asks w i m t b d) = absurd (omega arith)
  opening_once e (Opening.passes h n c) (Opening.all_asked i d) = absurd (omega arith)
  opening_once e (Opening.passes h n c) (Opening.passes i m d) = opening_once e c d
  opening_once {k = v} e (Opening.passes h n c) (Opening.not_taken i m t) = absurd (neither (G v) m n)
  opening_once {k = v} e (Opening.passes h n c) (Opening.without i m t w) = absurd (neither (G v) m n)
  opening_once {k = v} e (Opening.passes h n c) (Opening.asks w i m t b d) = absurd (neither (G v) m n)
  opening_once e (Opening.not_taken h n k) (Opening.all_asked i d) = absurd (omega arith)
  opening_once {k = v} e (Opening.not_taken h n k) (Opening.passes i m d) = absurd (neither (G v) n m)
  opening_once e (Opening.not_taken h n k) (Opening.not_taken i m t) = tt
  opening_once e (Opening.not_taken h n k) (Opening.without i m t w) = k t
  opening_once e (Opening.not_taken h n k) (Opening.asks w i m t b d) = absurd (k t)
  opening_once e (Opening.without h n k w) (Opening.all_asked i d) = absurd (omega arith)
  opening_once {k = v} e (Opening.without h n k w) (Opening.passes i m d) = absurd (neither (G v) n m)
  opening_once e (Opening.without h n k w) (Opening.not_taken i m t) = t k
  opening_once e (Opening.without h n k w) (Opening.without i m t v) = tt
  opening_once e (Opening.without h n k w) (Opening.asks y i m t b d) = absurd (w y b.lawful)
  opening_once e (Opening.asks y h n k a c) (Opening.all_asked i d) = absurd (omega arith)
  opening_once {k = v} e (Opening.asks y h n k a c) (Opening.passes i m d) = absurd (neither (G v) n m)
  opening_once e (Opening.asks y h n k a c) (Opening.not_taken i m t) = absurd (t k)
  opening_once e (Opening.asks y h n k a c) (Opening.without i m t v) = absurd (v y a.lawful)
  opening_once {k = v} {x} {z} e (Opening.asks y h n k a c) (Opening.asks w i m t b d) =
      opening_once (put_same Q G (part G alone v) x z y w e (best_unique S L Q K (part G alone v) y w a b)) c d

  pub a_course_has_one_outcome : ACourseHasOneOutcome S Q G Taken
  a_course_has_one_outcome o p c d = opening_once (λ r t m k. refl) c d
