-- The first of the least of the sections tried.
use Rattle.std.proofs.lemmas.Option.{none-some}
use Rattle.std.proofs.Common.{◌≡◌, ℕ, ◌<◌, Bool, true, false, ◌⊎◌, List, length, get_or, Some, None, Option, sym, refl, ap, ◌∙◌, inl, inr, ⊎_elim, arith}
use Rattle.std.proofs.lemmas.Bool.{cases_order, cases_Bool}
use Rattle.std.specs.Option.{option_map}
use Rattle.scales.specs.Measure.{Measure, MeasureLaws}
use Rattle.scales.specs.Runs.{FirstLeast}
use Rattle.scales.proofs.Joins.{lower_not, lower_asym}
use Rattle.words.specs.Words.{FirstOf, Firstly, least, first}
use Rattle.words.proofs.Least.{firstly}
use Rattle.table.specs.Candidates.{Candidates}
use Rattle.table.specs.Steps.{MovesTo}
use Rattle.table.specs.declared.pick.Pick.{Pick}

-- the section at the place of the first of the least
abbrev pub pick_at : {C : Type 0} → List ℕ → Option (ℕ × C) → Option (Pick C)
pick_at xs None = None
pick_at xs (Some p) = Some (record { cost = p.1; section = get_or xs p.0 0 })

-- two that are both the first of the least are one
module _ {C : Type 0} (S : Measure C) (L : MeasureLaws S) (n : ℕ) (f : ℕ → Option C) where
  clash : (c d : C) → S.lower c d ≡ true → (d ≡ c) ⊎ (S.lower d c ≡ true) → ⊥
  clash c d h (inl e) = lower_not S L c d (sym e) h
  clash c d h (inr k) = lower_asym S L c d h k

  one_place : (c d : C) (x y : ℕ) → FirstOf S n f c x → FirstOf S n f d y → x ≡ y
  one_place c d x y F G =
      ⊎_elim (λ e. e)
      (⊎_elim
      (λ l. absurd (clash d c (G.early x c l F.here) (F.every y d G.within G.here)))
      (λ l. absurd (clash c d (F.early y d l G.here) (G.every x c F.within F.here))))
      (cases_order x y)

  pub firstly_cost : (o p : Option C) (x y : ℕ) → Firstly S n f o x → Firstly S n f p y → o ≡ p
  firstly_cost None None x y F G = refl
  firstly_cost None (Some d) x y F G = absurd (none-some d (sym (F y G.within) ∙ G.here))
  firstly_cost (Some c) None x y F G = absurd (none-some c (sym (G x F.within) ∙ F.here))
  firstly_cost (Some c) (Some d) x y F G = sym F.here ∙ ap f (one_place c d x y F G) ∙ G.here

  pub firstly_place : (c d : C) (x y : ℕ) → FirstOf S n f c x → FirstOf S n f d y → x ≡ y
  firstly_place = one_place

-- the first of the least of the sections tried is the first of the least of all
module _ {C : Type 0} (S : Measure C) (L : MeasureLaws S) (n : ℕ) (reach : ℕ → Bool) (xs : List ℕ) (T : Candidates n reach xs) (f : ℕ → Option C)
    (shut : (x : ℕ) → reach x ≡ false → f x ≡ None) where
  abbrev run : ℕ → Option C
  run i = f (get_or xs i 0)

  -- a section that has a cost is among those tried
  tried : (x : ℕ) (d : C) → x < n → f x ≡ Some d → (i : ℕ) × (i < length xs) × (get_or xs i 0 ≡ x)
  tried x d h e = T.every x h (⊎_elim (λ o. o) (λ o. absurd (none-some d (sym (shut x o) ∙ e))) (cases_Bool (reach x)))

  abbrev section_of : Option (ℕ × C) → ℕ
  section_of None = 0
  section_of (Some p) = get_or xs p.0 0

  abbrev cost_of : Option (ℕ × C) → Option C
  cost_of None = None
  cost_of (Some p) = Some p.1

  below : (i j : ℕ) → get_or xs j 0 < get_or xs i 0 → j < length xs → j < i
  below i j l hj =
      ⊎_elim (λ e. absurd (omega (arith, ap (λ z. get_or xs z 0) e)))
      (⊎_elim (λ k. k) (λ k. absurd (omega (arith, T.rising i j k hj)))) (cases_order j i)

  among : (r : Option (ℕ × C)) → FirstLeast S (length xs) run r → Firstly S n f (cost_of r) (section_of r)
  among None F = λ x h. none x h (f x) refl
    where
      none : (x : ℕ) → x < n → (o : Option C) → f x ≡ o → f x ≡ None
      none x h None e = e
      none x h (Some d) e = let w = tried x d h e in absurd (none-some d (sym (F w.0 w.1) ∙ (ap f w.2 ∙ e)))
  among (Some p) F = record {
    within = T.inside p.0 F.within;
    here = F.here;
    early = λ x d l e. (
        let w = tried x d (omega (arith, T.inside p.0 F.within)) e in
        let k : get_or xs w.0 0 < get_or xs p.0 0 = rw w.2 l in
        F.earlier w.0 d (below p.0 w.0 k w.1) (ap f w.2 ∙ e)
        );
    every = λ x d l e. (let w = tried x d l e in F.every w.0 d w.1 (ap f w.2 ∙ e));
  }

  cost_is : (r : Option (ℕ × C)) → option_map (λ p. p.cost) (pick_at xs r) ≡ cost_of r
  cost_is None = refl
  cost_is (Some p) = refl

  moves_is : (r : Option (ℕ × C)) (o : Option C) (x : ℕ) → Firstly S n f (cost_of r) (section_of r) → Firstly S n f o x → MovesTo (pick_at xs r) x
  moves_is None o x F G = tt
  moves_is (Some p) None x F G = absurd (none-some p.1 (sym (G (get_or xs p.0 0) F.within) ∙ F.here))
  moves_is (Some p) (Some c) x F G = firstly_place S L n f p.1 c _ x F G

  pub tried_cost : (r : Option (ℕ × C)) → FirstLeast S (length xs) run r → option_map (λ p. p.cost) (pick_at xs r) ≡ least S n f
  tried_cost r F = cost_is r ∙ firstly_cost S L n f _ _ _ _ (among r F) (firstly S L n f)

  pub tried_moves : (r : Option (ℕ × C)) → FirstLeast S (length xs) run r → MovesTo (pick_at xs r) (first S n f)
  tried_moves r F = moves_is r (least S n f) (first S n f) (among r F) (firstly S L n f)
