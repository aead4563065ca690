-- What a course ends with is so of the whole group.
use Rattle.std.proofs.Common.{◌≡◌, ℕ, suc, ◌<◌, ◌≤◌, Bool, false, ◌&&◌, eqb, ◌⊎◌, sym, refl, ap, ◌∙◌, inl, inr, arith}
use mathlib.Core.Path.{fun_ext}
use Rattle.std.proofs.lemmas.Bool.{cases_eq, eq-eqb, ne_eqb, cond-true, cond-false, and_left, and_right}
use Rattle.scales.specs.Measure.{Measure, MeasureLaws}
use Rattle.sheets.specs.Problem.{Problem, ProblemLaws, Group, Member}
use Rattle.sheets.specs.Plan.{Plan, SameOn, Best}
use Rattle.sheets.proofs.Sheets.{best_same}
use Rattle.groups.specs.Parts.{Naming, Names, part, alone, merged, union, put}
use Rattle.groups.specs.Course.{Outcome, Course, Opening}
use Rattle.groups.specs.Laws.{Says, ACourseIsRight}
use Rattle.groups.proofs.Apart.{best_none, all_best, a_part_without_a_sheet_leaves_none, part_member}

-- a naming after a joining, by its two cases
pub merged_in : (name : Naming) (r q p : ℕ) → name p ≡ name q → merged name r q p ≡ name r
unfolding merged
merged_in name r q p e = cond-true (eqb (name p) (name q)) (name r) (name p) (eq-eqb (name p) (name q) e)

pub merged_out : (name : Naming) (r q p : ℕ) → (name p ≡ name q → ⊥) → merged name r q p ≡ name p
unfolding merged
merged_out name r q p e = cond-false (eqb (name p) (name q)) (name r) (name p) (ne_eqb (name p) (name q) e)

pub alone_names : (Q : Problem) (G : Group) → Names Q G alone
alone_names Q G = record { a_member = λ r m. m; its_own = λ r m. refl }

module _ (Q : Problem) (G : Group) (name : Naming) (r q : ℕ) (hr : Member Q G r) (d : name r ≡ name q → ⊥) (own : Names Q G name) where
  pub merged_names : Names Q G (merged name r q)
  merged_names = record { a_member = λ p m. inside p m (cases_eq (name p) (name q)); its_own = λ p m. again p m (cases_eq (name p) (name q)) }
    where
      inside : (p : ℕ) → Member Q G p → (name p ≡ name q) ⊎ (name p ≡ name q → ⊥) → Member Q G (merged name r q p)
      inside p m (inl e) = rw (merged_in name r q p e) (own.a_member r hr)
      inside p m (inr e) = rw (merged_out name r q p e) (own.a_member p m)

      again : (p : ℕ) → Member Q G p → (name p ≡ name q) ⊎ (name p ≡ name q → ⊥) → merged name r q (merged name r q p) ≡ merged name r q p
      again p m (inl e) = rw (merged_in name r q p e) (merged_out name r q (name r) (λ z. d (sym (own.its_own r hr) ∙ z)) ∙ own.its_own r hr)
      again p m (inr e) = rw (merged_out name r q p e) (merged_out name r q (name p) (λ z. e (sym (own.its_own p m) ∙ z)) ∙ own.its_own p m)

-- no row is left in the part of q
merged_away : (G : Group) (name : Naming) (r q p : ℕ) → (name r ≡ name q → ⊥) → part G (merged name r q) (name q) p ≡ false
unfolding part
merged_away G name r q p d = go (cases_eq (name p) (name q))
  where
    go : (name p ≡ name q) ⊎ (name p ≡ name q → ⊥) → (G p && eqb (merged name r q p) (name q)) ≡ false
    go (inl e) = and_right (G p) _ (ne_eqb (merged name r q p) (name q) (λ z. d (sym (merged_in name r q p e) ∙ z)))
    go (inr e) = and_right (G p) _ (ne_eqb (merged name r q p) (name q) (λ z. e (sym (merged_out name r q p e) ∙ z)))

-- another part keeps its rows
merged_kept : (G : Group) (name : Naming) (r q g : ℕ) → (g ≡ name r → ⊥) → (g ≡ name q → ⊥) → part G (merged name r q) g ≡ part G name g
unfolding part
merged_kept G name r q g a b = fun_ext (λ p. ap (λ (v : Bool). G p && v) (go p (cases_eq (name p) (name q))))
  where
    go : (p : ℕ) → (name p ≡ name q) ⊎ (name p ≡ name q → ⊥) → eqb (merged name r q p) g ≡ eqb (name p) g
    go p (inl e) = ne_eqb (merged name r q p) g (λ z. a (sym z ∙ merged_in name r q p e)) ∙ sym (ne_eqb (name p) g (λ z. b (sym z ∙ e)))
    go p (inr e) = ap (λ n. eqb n g) (merged_out name r q p e)

module _ (Q : Problem) (G : Group) (y x : Plan) where
  pub put_in : SameOn Q G y (put G y x)
  unfolding put
  put_in r t m k = sym (ap (λ f. f t) (cond-true (G r) (y r) (x r) m.of_group))

  pub put_out : (F : Group) → ((r : ℕ) → Member Q F r → G r ≡ false) → SameOn Q F x (put G y x)
  unfolding put
  put_out F h r t m k = sym (ap (λ f. f t) (cond-false (G r) (y r) (x r) (h r m)))

-- a row of another part is not of this one
other_part : (Q : Problem) (G : Group) (name : Naming) (f g r : ℕ) → (f ≡ g → ⊥) → Member Q (part G name f) r → part G name g r ≡ false
other_part Q G name f g r d m =
    let e = part_member Q G name f r m in
    unfold part in and_right (G r) _ (ne_eqb (name r) g (λ z. d (sym e.1 ∙ z)))

-- the rows of a part are rows of the group
pub part_rows : (Q : Problem) (G : Group) (name : Naming) (g r : ℕ) → Member Q (part G name g) r → Member Q G r
part_rows Q G name g r m = (part_member Q G name g r m).0

module _ {C : Type 0} (S : Measure C) (L : MeasureLaws S) (Q : Problem) (K : ProblemLaws Q) (G : Group) where
  -- x is best for each part
  Known : Naming → Plan → Type 0
  Known name x = (g : ℕ) → g < Q.rows → Best S Q (part G name g) x

  merged_known : (name : Naming) (x y : Plan) (r q : ℕ) → (name r ≡ name q → ⊥) → Best S Q (union G name r q) y → Known name x
      → Known (merged name r q) (put (union G name r q) y x)
  unfolding Known
  merged_known name x y r q d b h g k = go (cases_eq g (name r)) (cases_eq g (name q))
    where
      z : Plan
      z = put (union G name r q) y x

      go : (g ≡ name r) ⊎ (g ≡ name r → ⊥) → (g ≡ name q) ⊎ (g ≡ name q → ⊥) → Best S Q (part G (merged name r q) g) z
      go (inl e) f = rw e (best_same S L Q K (union G name r q) y z (put_in Q (union G name r q) y x) b)
      go (inr e) (inl f) = rw f (best_none S L Q K (part G (merged name r q) (name q)) z (λ p i. merged_away G name r q p d))
      go (inr e) (inr f) =
          best_same S L Q K (part G (merged name r q) g) x z
          (put_out Q (union G name r q) y x (part G (merged name r q) g) (λ p m. other_part Q G (merged name r q) g (name r) p e m))
          (rw (merged_kept G name r q g e f) (h g k))

  module _ (Taken : Group → Type 0) where
    course_right : {name : Naming} {x : Plan} {o : Outcome} → Names Q G name → Known name x → Course S Q G Taken name x o → Says S Q G o
    course_right {name} {x} i h (Course.stands n) = unfold Known in all_best S L Q K G name i x h n
    course_right i h (Course.not_taken t r q f k) = tt
    course_right {name} i h (Course.without t r q f k w) =
        a_part_without_a_sheet_leaves_none Q G (union G name r q) (part_rows Q G (merged name r q) (name r)) w
    course_right {name} {x} i h (Course.joins t r q y f k b c) =
        course_right (merged_names Q G name r q f.row f.differ i) (merged_known name x y r q f.differ b h) c

    -- a part that is not a row of the group has no row
    no_row : (g : ℕ) (x : Plan) → G g ≡ false → Best S Q (part G alone g) x
    no_row g x e = best_none S L Q K (part G alone g) x (λ r i. unfold part in go r (cases_eq r g))
      where
        go : (r : ℕ) → (r ≡ g) ⊎ (r ≡ g → ⊥) → (G r && eqb r g) ≡ false
        go r (inl z) = and_left (G r) _ (ap G z ∙ e)
        go r (inr z) = and_right (G r) _ (ne_eqb r g z)

    opening_right : {k : ℕ} {x : Plan} {o : Outcome} → k ≤ Q.rows → ((g : ℕ) → g < k → Best S Q (part G alone g) x)
        → Opening S Q G Taken k x o → Says S Q G o
    opening_right {x} i h (Opening.all_asked e c) = course_right {name = alone} {x = x} (alone_names Q G) (unfold Known in λ g j. h g (omega arith)) c
    opening_right {k = n} {x} i h (Opening.passes j a c) = opening_right j (λ g l. go g l (cases_eq g n)) c
      where
        go : (g : ℕ) → g < suc n → (g ≡ n) ⊎ (g ≡ n → ⊥) → Best S Q (part G alone g) x
        go g l (inl e) = rw e (no_row n x a)
        go g l (inr e) = h g (omega arith)
    opening_right i h (Opening.not_taken j a t) = tt
    opening_right {k = n} i h (Opening.without j a t w) = a_part_without_a_sheet_leaves_none Q G (part G alone n) (part_rows Q G alone n) w
    opening_right {k = n} {x} i h (Opening.asks y j a t b c) = opening_right j (λ g l. go g l (cases_eq g n)) c
      where
        z : Plan
        z = put (part G alone n) y x

        go : (g : ℕ) → g < suc n → (g ≡ n) ⊎ (g ≡ n → ⊥) → Best S Q (part G alone g) z
        go g l (inl e) = rw e (best_same S L Q K (part G alone n) y z (put_in Q (part G alone n) y x) b)
        go g l (inr e) =
            best_same S L Q K (part G alone g) x z
            (put_out Q (part G alone n) y x (part G alone g) (λ r m. other_part Q G alone g n r e m))
            (h g (omega arith))

    pub a_course_is_right : ACourseIsRight S Q G Taken
    a_course_is_right o c = opening_right (omega arith) (λ g i. absurd (omega arith)) c
