-- A running best under a bound: what is kept, and what it is the best of.
use Rattle.std.proofs.lemmas.Option.{none-some}
use Rattle.std.proofs.Common.{◌≡◌, ℕ, ◌+◌, ◌≤◌, Bool, true, false, cond, Some, None, Option, sym, refl, ap, ◌∙◌, subst, inl, inr, ⊎_elim, true≢false, arith}
use Rattle.std.proofs.lemmas.Bool.{cases_Bool, both_ways, not-true}
use Rattle.scales.specs.Measure.{Measure, MeasureLaws}
use Rattle.words.specs.Words.{under, with}
use Rattle.words.proofs.Least.{NoHigher, no_higher, lower_no_higher, no_higher_trans, join_right, join_right_no_higher}
use Rattle.std.specs.Option.{option_or}
use Rattle.walk.specs.Walks.{cut, spent_up}

abbrev pub Sized : {C : Type 0} → Measure C → ℕ → Option C → Type 0
Sized S b None = Unit {0}
Sized S b (Some c) = S.size c ≤ b

pub sized_at : {C : Type 0} (S : Measure C) (b : ℕ) (o : Option C) → ((c : C) → o ≡ Some c → S.size c ≤ b) → Sized S b o
sized_at S b None h = tt
sized_at S b (Some c) h = h c refl

module _ {C : Type 0} (S : Measure C) (L : MeasureLaws S) where
  pub cut_none : (b : Option C) → cut S b None ≡ None
  cut_none None = refl
  cut_none (Some b) = refl

  not_lower : (a b : C) → NoHigher S L b a → S.lower a b ≡ false
  not_lower a b h = ⊎_elim (λ e. absurd (no h e)) (λ e. e) (cases_Bool (S.lower a b))
    where
      no : NoHigher S L b a → S.lower a b ≡ true → ⊥
      no (inl e) k = both_ways (S.lower a a) (L.lower_self a) (subst (λ z. S.lower a z ≡ true) e k)
      no (inr l) k = both_ways (S.lower a a) (L.lower_self a) (L.lower_trans a b a k l)

  module _ (b a n : C) where
    under_else : (p : Bool) → under S (option_or (cond p (Some a) None) (Some b)) (Some n) ≡ cond p (S.lower n a) (S.lower n b)
    under_else true = refl
    under_else false = refl

    cut_cond : (q : Bool) → cut S (Some b) (cond q (Some n) (Some a)) ≡ cond q (cond (S.lower n b) (Some n) None) (cond (S.lower a b) (Some a) None)
    cut_cond true = refl
    cut_cond false = refl

    table : (p q r : Bool) → (p ≡ true → q ≡ true → r ≡ true) → (p ≡ false → q ≡ false → r ≡ false)
        → option_or (cond (cond p q r) (Some n) None) (cond p (Some a) None) ≡ cond q (cond r (Some n) None) (cond p (Some a) None)
    table true true true h k = refl
    table true true false h k = absurd (true≢false (sym (h refl refl)))
    table true false true h k = refl
    table true false false h k = refl
    table false true true h k = refl
    table false true false h k = refl
    table false false true h k = absurd (true≢false (k refl refl))
    table false false false h k = refl

    step_some : option_or (cut S (option_or (cut S (Some b) (Some a)) (Some b)) (Some n)) (cut S (Some b) (Some a)) ≡ cut S (Some b) (cond (S.lower n a) (Some n) (Some a))
    step_some =
        ap (λ t. option_or (cond t (Some n) None) (cond (S.lower a b) (Some a) None)) (under_else (S.lower a b))
        ∙ table (S.lower a b) (S.lower n a) (S.lower n b)
        (λ e f. L.lower_trans n a b f e)
        (λ e f. not_lower n b (no_higher_trans S L b a n (no_higher S L b a e) (no_higher S L a n f)))
        ∙ sym (cut_cond (S.lower n a))

    of_cond : (p q r : Bool) → cond p q r ≡ true → (p ≡ false → r ≡ true → q ≡ true) → q ≡ true
    of_cond true q r e h = e
    of_cond false q r e h = h refl e

  else_none : (o : Option C) → option_or o None ≡ o
  else_none None = refl
  else_none (Some a) = refl

  pick_none : (t : Bool) (a n : C) → option_or (cond t (Some n) None) (Some a) ≡ cut S None (cond t (Some n) (Some a))
  pick_none true a n = refl
  pick_none false a n = refl

  -- the new one, found under the nearer bound, or else the old one
  pub cut_step : (b A N : Option C) → option_or (cut S (option_or (cut S b A) b) N) (cut S b A) ≡ cut S b (cond (under S A N) N A)
  cut_step None None None = refl
  cut_step None None (Some n) = refl
  cut_step None (Some a) None = refl
  cut_step None (Some a) (Some n) = pick_none (S.lower n a) a n
  cut_step (Some b) None None = refl
  cut_step (Some b) None (Some n) = else_none (cut S (Some b) (Some n))
  cut_step (Some b) (Some a) None = ap (λ z. option_or z (cut S (Some b) (Some a))) (cut_none (option_or (cut S (Some b) (Some a)) (Some b)))
  cut_step (Some b) (Some a) (Some n) = step_some b a n

  kept : (t : Bool) (n c : C) → cond t (Some n) None ≡ Some c → t ≡ true
  kept true n c e = refl
  kept false n c e = absurd (none-some c e)

  left_out : (t : Bool) (n : C) → cond t (Some n) None ≡ None → t ≡ false
  left_out true n e = absurd (none-some n (sym e))
  left_out false n e = refl

  -- what is found is lower than the old one
  pub found_lower : (b A N : Option C) (c : C) → cut S (option_or (cut S b A) b) N ≡ Some c → under S A N ≡ true
  found_lower b None (Some n) c e = refl
  found_lower b None None c e = absurd (none-some c (sym (cut_none _) ∙ e))
  found_lower b (Some a) None c e = absurd (none-some c (sym (cut_none _) ∙ e))
  found_lower None (Some a) (Some n) c e = kept (S.lower n a) n c e
  found_lower (Some b) (Some a) (Some n) c e =
      of_cond b a n (S.lower a b) (S.lower n a) (S.lower n b) (sym (under_else b a n (S.lower a b)) ∙ kept _ n c e)
      (λ f g. lower_no_higher S L n b a g (no_higher S L b a f))

  -- where nothing is found, the old one stays the least
  pub none_lower : (b A N : Option C) (c : C) → cut S (option_or (cut S b A) b) N ≡ None → cut S b A ≡ Some c → under S A N ≡ false
  none_lower b None N c e k = absurd (none-some c (sym (cut_none b) ∙ k))
  none_lower b (Some a) None c e k = refl
  none_lower None (Some a) (Some n) c e k = left_out (S.lower n a) n e
  none_lower (Some b) (Some a) (Some n) c e k = ap (λ t. cond t (S.lower n a) (S.lower n b)) (sym (kept (S.lower a b) a c k)) ∙ sym (under_else b a n (S.lower a b)) ∙ left_out _ n e

  pub with_cond : (s : C) (t : Bool) (n a : Option C) → with S s (cond t n a) ≡ cond t (with S s n) (with S s a)
  with_cond s true n a = refl
  with_cond s false n a = refl

  pub under_with : (s : C) (z : ℕ) (a n : Option C) → S.size s + z ≤ 65535 → Sized S z a → Sized S z n → under S (with S s a) (with S s n) ≡ under S a n
  under_with s z None None h x y = refl
  under_with s z None (Some n) h x y = refl
  under_with s z (Some a) None h x y = refl
  under_with s z (Some a) (Some n) h x y =
      ⊎_elim
      (λ e. join_right S L s n a (omega arith) (omega arith) e ∙ sym e)
      (λ e. not_lower (S.join s n) (S.join s a) (join_right_no_higher S L s a n (omega arith) (omega arith) (no_higher S L a n e)) ∙ sym e)
      (cases_Bool (S.lower n a))

  pub with_assoc : (s p : C) (z : ℕ) (o : Option C) → S.size s + S.size p + z ≤ 65535 → Sized S z o → with S (S.join s p) o ≡ with S s (with S p o)
  with_assoc s p z None h x = refl
  with_assoc s p z (Some d) h x = ap Some (L.join_assoc s p d (omega arith))

  -- nothing that comes after can go below the bound again
  pub spent_none : (b : Option C) (s : C) (z : ℕ) (o : Option C) → S.size s + z ≤ 65535 → Sized S z o
      → ((d : C) → o ≡ Some d → NoHigher S L S.nothing d) → spent_up S b s ≡ true → cut S b (with S s o) ≡ None
  spent_none None s z o h x n e = absurd (true≢false (sym e))
  spent_none (Some b) s z None h x n e = refl
  spent_none (Some b) s z (Some d) h x n e =
      let up : NoHigher S L (S.join s S.nothing) (S.join s d) = join_right_no_higher S L s S.nothing d (omega (arith, L.size_nothing)) (omega arith) (n d refl) in
      let up' : NoHigher S L s (S.join s d) = subst (λ v. NoHigher S L v (S.join s d)) (L.join_nothing s (omega arith)) up in
      let f : S.lower (S.join s d) b ≡ false = not_lower (S.join s d) b (no_higher_trans S L b s (S.join s d) (no_higher S L b s (not-true _ e)) up') in
      simp f
