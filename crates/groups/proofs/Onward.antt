-- The course seen from a program that follows it: what it keeps from one asking to the next, and what it may say at the end.
use Rattle.std.proofs.Common.{◌≡◌, ℕ, suc, ◌<◌, ◌≤◌, Bool, true, false, cond, eqb, ◌⊎◌, sym, refl, ap, ◌∙◌, inl, inr, arith}
use Rattle.std.proofs.lemmas.Bool.{cases_eq, and_from, eq-eqb, both_ways}
use Rattle.scales.specs.Measure.{Measure}
use Rattle.sheets.specs.Problem.{Problem, Group, Member}
use Rattle.sheets.specs.Plan.{Plan, SameOn, Best, Without}
use Rattle.groups.specs.Parts.{Naming, part, alone, merged, union, parts, NoClash, Sooner, FirstClash, put}
use Rattle.groups.specs.Course.{beyond, none, found, Course, Opening, Whole}
use Rattle.groups.specs.Onward.{Opened, Reached}
use Rattle.groups.proofs.Once.{clash_same}

-- the sheet z, after some rows were asked for, where it was y before: those rows are new, the others as they were
abbrev pub KeptBut : Problem → Group → Plan → Plan → Type 0
KeptBut Q F y z = (r t : ℕ) → r < Q.rows → F r ≡ false → t ≤ Q.steps → z r t ≡ y r t

put_rows : (F : Group) (x z : Plan) (r t : ℕ) → (F r ≡ false → x r t ≡ z r t) → put F z x r t ≡ z r t
unfolding put
put_rows F x z r t h = go (F r) h
  where
    go : (b : Bool) → (b ≡ false → x r t ≡ z r t) → cond b (z r) (x r) t ≡ z r t
    go true k = refl
    go false k = k refl

clash_moved : (Q : Problem) (G : Group) (name : Naming) (x z : Plan) → SameOn Q G x z → (t r q : ℕ) → FirstClash Q G name z t r q → FirstClash Q G name x t r q
clash_moved Q G name x z e t r q f =
    record {
      in_time = f.in_time;
      rising = f.rising;
      row = f.row;
      other = f.other;
      differ = f.differ;
      conflict = clash_same Q G x z e t r q f.in_time f.row f.other ∙ f.conflict;
      first = λ u p o i v w d h. clash_same Q G x z e u p o (early u h) v w ∙ f.first u p o i v w d h;
    }
  where
    early : (u : ℕ) {p o : ℕ} → Sooner u p o t r q → u < Q.steps
    early u (inl h) = omega (arith, f.in_time)
    early u (inr h) = omega (arith, f.in_time, h.0)

module _ {C : Type 0} (S : Measure C) (Q : Problem) (G : Group) (Taken : Group → Type 0) where
  pub opened_start : (z : Plan) → Opened S Q G Taken 0 z
  opened_start z = record { sheet = λ r t. 0; same = λ r t h m j. absurd (omega arith); onward = λ o c. c }

  pub opened_pass : (k : ℕ) (z : Plan) → Opened S Q G Taken k z → k < Q.rows → G k ≡ false → Opened S Q G Taken (suc k) z
  opened_pass k z h l g =
      record {
        sheet = h.sheet;
        same = λ r t i m j. go r t i m j (cases_eq r k);
        onward = λ o c. h.onward o (Opening.passes l g c);
      }
    where
      go : (r t : ℕ) → r < suc k → Member Q G r → t ≤ Q.steps → (r ≡ k) ⊎ (r ≡ k → ⊥) → h.sheet r t ≡ z r t
      go r t i m j (inl e) = absurd (both_ways (G r) (ap G e ∙ g) m.of_group)
      go r t i m j (inr e) = h.same r t (omega arith) m j

  pub opened_not_taken : (k : ℕ) (z : Plan) → Opened S Q G Taken k z → k < Q.rows → G k ≡ true → (Taken (part G alone k) → ⊥) → Whole S Q G Taken beyond
  opened_not_taken k z h l g t = h.onward beyond (Opening.not_taken l g t)

  pub opened_none : (k : ℕ) (z : Plan) → Opened S Q G Taken k z → k < Q.rows → G k ≡ true → Taken (part G alone k) → Without Q (part G alone k) → Whole S Q G Taken none
  opened_none k z h l g t w = h.onward none (Opening.without l g t w)

  pub opened_next : (k : ℕ) (y z : Plan) → Opened S Q G Taken k y → k < Q.rows → G k ≡ true → Taken (part G alone k) → Best S Q (part G alone k) z
      → KeptBut Q (part G alone k) y z → Opened S Q G Taken (suc k) z
  unfolding part
  opened_next k y z h l g t b e =
      record {
        sheet = put (part G alone k) z h.sheet;
        same = λ r u i m j. put_rows (part G alone k) h.sheet z r u (λ n. h.same r u (less r i m n (cases_eq r k)) m j ∙ sym (e r u m.a_row n j));
        onward = λ o c. h.onward o (Opening.asks z l g t b c);
      }
    where
      less : (r : ℕ) → r < suc k → Member Q G r → part G alone k r ≡ false → (r ≡ k) ⊎ (r ≡ k → ⊥) → r < k
      less r i m n (inl d) = absurd (both_ways (part G alone k r) n (and_from (G r) (eqb r k) m.of_group (eq-eqb r k d)))
      less r i m n (inr d) = omega arith

  pub reached_start : (k : ℕ) (z : Plan) → k ≡ Q.rows → Opened S Q G Taken k z → Reached S Q G Taken alone z
  reached_start k z e h =
      record { sheet = h.sheet; same = λ r t m l. h.same r t (omega (arith, m.a_row)) m l; onward = λ o c. h.onward o (Opening.all_asked e c) }

  module _ (name : Naming) where
    pub reached_not_taken : (z : Plan) (t r q : ℕ) → Reached S Q G Taken name z → FirstClash Q G name z t r q → (Taken (union G name r q) → ⊥) → Whole S Q G Taken beyond
    reached_not_taken z t r q h f n = h.onward beyond (Course.not_taken t r q (clash_moved Q G name h.sheet z h.same t r q f) n)

    pub reached_none : (z : Plan) (t r q : ℕ) → Reached S Q G Taken name z → FirstClash Q G name z t r q → Taken (union G name r q) → Without Q (union G name r q) → Whole S Q G Taken none
    reached_none z t r q h f n w = h.onward none (Course.without t r q (clash_moved Q G name h.sheet z h.same t r q f) n w)

    pub reached_next : (y z : Plan) (t r q : ℕ) → Reached S Q G Taken name y → FirstClash Q G name y t r q → Taken (union G name r q) → Best S Q (union G name r q) z
        → KeptBut Q (union G name r q) y z → Reached S Q G Taken (merged name r q) z
    reached_next y z t r q h f n b e =
        record {
          sheet = put (union G name r q) z h.sheet;
          same = λ p u m l. put_rows (union G name r q) h.sheet z p u (λ g. h.same p u m l ∙ sym (e p u m.a_row g l));
          onward = λ o c. h.onward o (Course.joins t r q z (clash_moved Q G name h.sheet y h.same t r q f) n b c);
        }

    -- no conflict is left: so many parts, in a sheet that agrees with z
    pub reached_end : (z : Plan) → Reached S Q G Taken name z → NoClash Q G name z → (x : Plan) × (Whole S Q G Taken (found (parts Q.rows G name) x) × SameOn Q G x z)
    reached_end z h n =
        (h.sheet, (h.onward (found (parts Q.rows G name) h.sheet) (Course.stands (λ t r q i j v w d. clash_same Q G h.sheet z h.same t r q i v w ∙ n t r q i j v w d)), h.same))
