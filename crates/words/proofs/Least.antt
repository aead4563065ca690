-- The first of the least.
use Rattle.std.proofs.lemmas.Option.{none-some, same_Some}
use Rattle.std.proofs.Common.{◌≡◌, ℕ, zero, suc, ◌+◌, ◌<◌, ◌≤◌, Bool, true, false, cond, ◌⊎◌, Some, None, Option, sym, refl, ap, ◌∙◌, subst, inl, inr, ⊎_elim, arith}
use Rattle.std.proofs.lemmas.Bool.{cases_lt, both_ways}
use Rattle.scales.specs.Measure.{Measure, MeasureLaws}
use Rattle.words.specs.Words.{FirstOf, Firstly, least, first, under}

pub below_suc : (P : ℕ → Type 0) (n : ℕ) → ((y : ℕ) → y < n → P y) → P n → (y : ℕ) → y < suc n → P y
below_suc P n h p y k = ⊎_elim (λ l. h y l) (λ l. subst P (omega arith) p) (cases_lt y n)

module _ {C : Type 0} (S : Measure C) (L : MeasureLaws S) where
  -- no higher than
  abbrev pub NoHigher : C → C → Type 0
  NoHigher a b = (a ≡ b) ⊎ (S.lower a b ≡ true)

  pub no_higher : (a b : C) → S.lower b a ≡ false → NoHigher a b
  no_higher a b e =
      ⊎_elim inl (⊎_elim inr (λ h. absurd (both_ways (S.lower b a) e h))) (L.lower_cases a b)

  pub lower_no_higher : (a b c : C) → S.lower a b ≡ true → NoHigher b c → S.lower a c ≡ true
  lower_no_higher a b c h (inl e) = rw (← e) h
  lower_no_higher a b c h (inr k) = L.lower_trans a b c h k

  pub no_higher_trans : (a b c : C) → NoHigher a b → NoHigher b c → NoHigher a c
  no_higher_trans a b c (inl e) k = rw e k
  no_higher_trans a b c (inr h) k = inr (lower_no_higher a b c h k)

  pub join_right : (a b c : C) → S.size a + S.size b ≤ 65535 → S.size a + S.size c ≤ 65535 → S.lower b c ≡ true
      → S.lower (S.join a b) (S.join a c) ≡ true
  join_right a b c ab ac h =
      rw (L.join_comm a b ab, L.join_comm a c ac) (L.join_lower b c a (omega arith) (omega arith) h)

  pub join_right_no_higher : (a b c : C) → S.size a + S.size b ≤ 65535 → S.size a + S.size c ≤ 65535 → NoHigher b c
      → NoHigher (S.join a b) (S.join a c)
  join_right_no_higher a b c ab ac (inl e) = inl (ap (S.join a) e)
  join_right_no_higher a b c ab ac (inr h) = inr (join_right a b c ab ac h)

  -- two costs that are not below nothing are not below it together
  pub nothing_over : (p d : C) → S.size p + S.size d ≤ 65535 → NoHigher S.nothing p → NoHigher S.nothing d → NoHigher S.nothing (S.join p d)
  nothing_over p d h np nd =
      let e : S.join p S.nothing ≡ p = L.join_nothing p (omega arith) in
      let up : NoHigher p (S.join p d) = subst (λ v. NoHigher v (S.join p d)) e (join_right_no_higher p S.nothing d (omega (arith, L.size_nothing)) (omega arith) nd) in
      no_higher_trans S.nothing p (S.join p d) np up

  module _ (n : ℕ) (f : ℕ → Option C) where
    keep : (a : C) (x : ℕ) → FirstOf S n f a x → ((d : C) → f n ≡ Some d → NoHigher a d) → FirstOf S (suc n) f a x
    keep a x F h =
        record {
          within = omega (arith, F.within);
          here = F.here;
          early = F.early;
          every = λ y d k. below_suc (λ z. (d : C) → f z ≡ Some d → NoHigher a d) n (λ z l d. F.every z d l) h y k d;
        }

    take_new : (b : C) → f n ≡ Some b → ((y : ℕ) (d : C) → y < n → f y ≡ Some d → S.lower b d ≡ true) → FirstOf S (suc n) f b n
    take_new b e h =
        record {
          within = omega arith;
          here = e;
          early = h;
          every = λ y d k. below_suc (λ z. (d : C) → f z ≡ Some d → NoHigher b d) n (λ z l d g. inr (h z d l g)) (λ d g. inl (same_Some _ _ (sym e ∙ g))) y k d;
        }

    pick : (a b : C) (x : ℕ) (l : Bool) → S.lower b a ≡ l → FirstOf S n f a x → f n ≡ Some b
        → Firstly S (suc n) f (cond l (Some b) (Some a)) (cond l n x)
    pick a b x true e F g = take_new b g (λ y d k h. lower_no_higher b a d e (F.every y d k h))
    pick a b x false e F g = keep a x F (λ d h. rw (same_Some _ _ (sym h ∙ g)) (no_higher a b e))

    pub firstly_step : (o q : Option C) (x : ℕ) → Firstly S n f o x → f n ≡ q
        → Firstly S (suc n) f (cond (under S o q) q o) (cond (under S o q) n x)
    firstly_step None None x F g = below_suc (λ z. f z ≡ None) n F g
    firstly_step None (Some b) x F g = take_new b g (λ y d k h. absurd (none-some d (sym (F y k) ∙ h)))
    firstly_step (Some a) None x F g = keep a x F (λ d h. absurd (none-some d (sym g ∙ h)))
    firstly_step (Some a) (Some b) x F g = pick a b x (S.lower b a) refl F g

  pub firstly : (n : ℕ) (f : ℕ → Option C) → Firstly S n f (least S n f) (first S n f)
  firstly zero f = λ y k. absurd (omega arith)
  firstly (suc n) f = firstly_step n f (least S n f) (f n) (first S n f) (firstly n f) refl
