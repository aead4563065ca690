-- The best word: each choice is the first of the least, and what follows is best from there.
use Rattle.std.proofs.lemmas.Option.{none-some, same_Some}
use Rattle.std.proofs.Common.{◌≡◌, ℕ, zero, suc, ◌*◌, ◌<◌, ◌≤◌, Bool, true, false, cond, List, [], ◌∷◌, Some, None, Option, sym, refl, ap, ◌∙◌, subst, inl, inr, ⊎_elim, arith}
use Rattle.std.proofs.lemmas.Bool.{cases_order}
use Rattle.scales.specs.Measure.{Measure, MeasureLaws}
use Rattle.words.specs.Words.{Process, Run, spent, Beats, BestWord, Answers, FirstOf, Firstly, least, first, with, rest, best, choice}
use Rattle.words.proofs.Least.{NoHigher, lower_no_higher, no_higher_trans, join_right, join_right_no_higher, nothing_over, firstly}

-- what a choice that can be made is
pub choice_some : {C : Type 0} (S : Measure C) (b : Bool) (a : C) (o : Option C) (c : C) → cond b (with S a o) None ≡ Some c
    → (b ≡ true) × ((d : C) × (o ≡ Some d) × (S.join a d ≡ c))
choice_some S true a None c e = absurd (none-some c e)
choice_some S true a (Some d) c e = (refl, (d, refl, same_Some _ _ e))
choice_some S false a o c e = absurd (none-some c e)

pub choice_at : {C : Type 0} (S : Measure C) (b : Bool) (a : C) (o : Option C) (d : C) → b ≡ true → o ≡ Some d
    → cond b (with S a o) None ≡ Some (S.join a d)
choice_at S b a o d e f = simp (e, f)

module _ {St C : Type 0} (S : Measure C) (L : MeasureLaws S) (G : Process St C) (P : (s : St) (x : ℕ) → S.size (G.price s x) ≤ 16) where
  pub spent_size : (m : ℕ) (s : St) (w : List ℕ) → 16 * m ≤ 65535 → Run G m s w → S.size (spent S G s w) ≤ 16 * m
  spent_size zero s [] h r = omega (arith, L.size_nothing)
  spent_size zero s (x ∷ w) h r = absurd r
  spent_size (suc m) s [] h r = absurd r
  spent_size (suc m) s (x ∷ w) h r =
      let ih = spent_size m (G.after s x) w (omega arith) r.2 in
      let p = P s x in
      omega (arith, L.size_join (G.price s x) (spent S G (G.after s x) w) (omega arith))

  beats_no_higher : (s : St) (w v : List ℕ) → Beats S G s w v → NoHigher S L (spent S G s w) (spent S G s v)
  beats_no_higher s w v (inl e) = inl (ap (spent S G s) e)
  beats_no_higher s w v (inr (inl h)) = inr h
  beats_no_higher s w v (inr (inr (e, a))) = inl e

  -- the same first choice before both
  beats_cons : (m : ℕ) (s : St) (x : ℕ) (w v : List ℕ) → 16 * suc m ≤ 65535 → Run G m (G.after s x) w → Run G m (G.after s x) v
      → Beats S G (G.after s x) w v → Beats S G s (x ∷ w) (x ∷ v)
  beats_cons m s x w v h rw' rv (inl e) = inl (ap (λ z. x ∷ z) e)
  beats_cons m s x w v h rw' rv (inr (inl l)) =
      let sw = spent_size m (G.after s x) w (omega arith) rw' in
      let sv = spent_size m (G.after s x) v (omega arith) rv in
      let p = P s x in
      inr (inl (join_right S L (G.price s x) _ _ (omega arith) (omega arith) l))
  beats_cons m s x w v h rw' rv (inr (inr (e, a))) = inr (inr (ap (S.join (G.price s x)) e, inr (refl, a)))

  module _ (m : ℕ) (s : St) (h : 16 * suc m ≤ 65535) (ih : (u : St) → Answers S G m u (rest S G m u)) where
    -- the word after y, if there is one
    after_y : (y : ℕ) (v : List ℕ) → Run G m (G.after s y) v
        → (o : Option C) → rest S G m (G.after s y) ≡ o → (d : C) × (rest S G m (G.after s y) ≡ Some d)
    after_y y v r None e = absurd ((ih (G.after s y)).none e v r)
    after_y y v r (Some d) e = (d, e)

    found : (c : C) (x : ℕ) → FirstOf S G.width (choice S G m s) c x → BestWord S G (suc m) s (x ∷ best S G m (G.after s x)) c
    found c x F =
        let ch = choice_some S (G.may s x) (G.price s x) (rest S G m (G.after s x)) c F.here in
        let bw = (ih (G.after s x)).found ch.1.0 ch.1.1 in
        let cost : spent S G s (x ∷ best S G m (G.after s x)) ≡ c = ap (S.join (G.price s x)) bw.costs ∙ ch.1.2 in
        record {
          runs = (F.within, ch.0, bw.runs);
          costs = cost;
          beats = against bw cost;
        }
      where
        against : {d : C} → BestWord S G m (G.after s x) (best S G m (G.after s x)) d
            → spent S G s (x ∷ best S G m (G.after s x)) ≡ c
            → (v : List ℕ) → Run G (suc m) s v → Beats S G s (x ∷ best S G m (G.after s x)) v
        against bw cost [] r = absurd r
        against bw cost (y ∷ v) r =
            let there = after_y y v r.2 (rest S G m (G.after s y)) refl in
            let by = (ih (G.after s y)).found there.0 there.1 in
            let chy = choice_at S (G.may s y) (G.price s y) (rest S G m (G.after s y)) there.0 r.1 there.1 in
            let se = spent_size m (G.after s y) (best S G m (G.after s y)) (omega arith) by.runs in
            let sv = spent_size m (G.after s y) v (omega arith) r.2 in
            let p = P s y in
            let tail : NoHigher S L there.0 (spent S G (G.after s y) v) = rw by.costs at (beats_no_higher _ _ _ (by.beats v r.2)) in
            let se' : S.size there.0 ≤ 16 * m = rw by.costs at se in
            let up = join_right_no_higher S L (G.price s y) there.0 (spent S G (G.after s y) v) (omega arith) (omega arith) tail in
            ⊎_elim
            (λ e. subst (λ z. Beats S G s (x ∷ best S G m (G.after s x)) (z ∷ v)) e
            (let rv : Run G m (G.after s x) v = rw e r.2 in
            beats_cons m s x (best S G m (G.after s x)) v h bw.runs rv (bw.beats v rv)))
            (⊎_elim
            (λ l. ⊎_elim
            (λ e. inr (inr (cost ∙ e, inl l)))
            (λ k. inr (inl (rw cost k)))
            (no_higher_trans S L c _ _ (F.every y _ r.0 chy) up))
            (λ l. inr (inl (rw cost (lower_no_higher S L c _ _ (F.early y _ l chy) up)))))
            (cases_order x y)

    none : ((y : ℕ) → y < G.width → choice S G m s y ≡ None) → (v : List ℕ) → Run G (suc m) s v → ⊥
    none F [] r = r
    none F (y ∷ v) r =
        let there = after_y y v r.2 (rest S G m (G.after s y)) refl in
        let chy = choice_at S (G.may s y) (G.price s y) (rest S G m (G.after s y)) there.0 r.1 there.1 in
        none-some _ (sym (F y r.0) ∙ chy)

    -- the least over the choices answers for one choice more
    bellman : (o : Option C) (x : ℕ) → Firstly S G.width (choice S G m s) o x
        → ((c : C) → o ≡ Some c → BestWord S G (suc m) s (x ∷ best S G m (G.after s x)) c)
        × (o ≡ None → (v : List ℕ) → Run G (suc m) s v → ⊥)
    bellman None x F = ((λ c e. absurd (none-some c e)), λ e. none F)
    bellman (Some a) x F = ((λ c e. subst (BestWord S G (suc m) s (x ∷ best S G m (G.after s x))) (same_Some _ _ e) (found a x F)), λ e. absurd (none-some a (sym e)))

  ends : (s : St) (b : Bool) → G.done s ≡ b
      → ((c : C) → cond b (Some S.nothing) None ≡ Some c → BestWord S G zero s [] c)
      × (cond b (Some S.nothing) None ≡ None → (v : List ℕ) → Run G zero s v → ⊥)
  ends s true e = ((λ c f. record { runs = e; costs = same_Some _ _ f; beats = only }), λ f. absurd (none-some S.nothing (sym f)))
    where
      only : (v : List ℕ) → Run G zero s v → Beats S G s [] v
      only [] r = inl refl
      only (x ∷ v) r = absurd r
  ends s false e = ((λ c f. absurd (none-some c f)), λ f. never)
    where
      never : (v : List ℕ) → Run G zero s v → ⊥
      never [] r = let z : true ≡ false = sym r ∙ e in (let q : ◌≡◌ {A = ℕ} 0 1 = cc in omega arith)
      never (x ∷ v) r = r

  pub answers : (m : ℕ) (s : St) → 16 * m ≤ 65535 → Answers S G m s (rest S G m s)
  unfolding rest best
  answers zero s h = let e = ends s (G.done s) refl in record { found = e.0; none = e.1 }
  answers (suc m) s h =
      let b = bellman m s h (λ u. answers m u (omega arith)) (least S G.width (choice S G m s)) (first S G.width (choice S G m s)) (firstly S L G.width (choice S G m s)) in
      record { found = b.0; none = b.1 }

  -- the size of what the search computes
  pub rest_size : (m : ℕ) (s : St) (c : C) → 16 * m ≤ 65535 → rest S G m s ≡ Some c → S.size c ≤ 16 * m
  rest_size m s c h e = let b = (answers m s h).found c e in rw b.costs at (spent_size m s _ h b.runs)

-- what is left of a process costs nothing or more
module _ {St C : Type 0} (S : Measure C) (L : MeasureLaws S) (G : Process St C) (P : (s : St) (x : ℕ) → S.size (G.price s x) ≤ 16)
    (N : (s : St) (x : ℕ) → NoHigher S L S.nothing (G.price s x)) where
  spent_over : (m : ℕ) (s : St) (w : List ℕ) → 16 * m ≤ 65535 → Run G m s w → NoHigher S L S.nothing (spent S G s w)
  spent_over zero s [] h r = inl refl
  spent_over zero s (x ∷ w) h r = absurd r
  spent_over (suc m) s [] h r = absurd r
  spent_over (suc m) s (x ∷ w) h r =
      let z = spent_size S L G P m (G.after s x) w (omega arith) r.2 in
      let p = P s x in
      nothing_over S L (G.price s x) (spent S G (G.after s x) w) (omega arith) (N s x) (spent_over m (G.after s x) w (omega arith) r.2)

  pub rest_over : (m : ℕ) (s : St) → 16 * m ≤ 65535 → (d : C) → rest S G m s ≡ Some d → NoHigher S L S.nothing d
  rest_over m s h d e = let b = (answers S L G P m s h).found d e in subst (NoHigher S L S.nothing) b.costs (spent_over m s _ h b.runs)
