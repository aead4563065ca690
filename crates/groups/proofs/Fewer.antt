-- There are at first as many parts as trains, and each joining leaves one fewer.
use Rattle.std.proofs.Common.{◌≡◌, ℕ, zero, suc, ◌+◌, ◌<◌, Bool, true, false, cond, ◌&&◌, eqb, ◌⊎◌, sym, refl, ap, ◌∙◌, inl, inr, arith}
use Rattle.std.proofs.lemmas.Bool.{cases_eq, eq-eqb, ne_eqb, and_from, and_right}
use Rattle.sheets.specs.Problem.{Problem, Group, Member, count}
use Rattle.groups.specs.Parts.{Naming, Names, merged, parts}
use Rattle.groups.specs.Laws.{AsManyPartsAsTrainsAtFirst, EachJoiningTakesOneAway}
use Rattle.groups.proofs.Right.{merged_in, merged_out, merged_names, alone_names}

pub count_same : (n : ℕ) (f g : ℕ → Bool) → ((i : ℕ) → i < n → g i ≡ f i) → count n g ≡ count n f
count_same zero f g h = refl
count_same (suc n) f g h = rw (h n (omega arith)) (ap (λ c. c + cond (f n) 1 0) (count_same n f g (λ i k. h i (omega arith))))

-- a test that fails at one number more counts for one less
count_less : (n k : ℕ) (f g : ℕ → Bool) → ((i : ℕ) → i < n → (i ≡ k → ⊥) → g i ≡ f i) → k < n → f k ≡ true → g k ≡ false
    → count n g + 1 ≡ count n f
count_less zero k f g h i a b = absurd (omega arith)
count_less (suc n) k f g h i a b = go (λ j. count_less n k f g (λ p l. h p (omega arith)) j a b) (cases_eq k n)
  where
    go : (k < n → count n g + 1 ≡ count n f) → (k ≡ n) ⊎ (k ≡ n → ⊥) → count n g + cond (g n) 1 0 + 1 ≡ count n f + cond (f n) 1 0
    go ih (inl e) =
        let a' : f n ≡ true = rw e at a in
        let b' : g n ≡ false = rw e at b in
        rw (a', b') (omega (arith, count_same n f g (λ p l. h p (omega arith) (λ z. omega arith))))
    go ih (inr e) = rw (h n (omega arith) (λ z. e (sym z))) (omega (arith, ih (omega arith)))

pub as_many_parts_as_trains_at_first : (Q : Problem) (G : Group) → AsManyPartsAsTrainsAtFirst Q G
unfolding parts
as_many_parts_as_trains_at_first Q G = (alone_names Q G, count_same Q.rows G (λ r. G r && eqb r r) (λ r h. go r (G r)))
  where
    go : (r : ℕ) (b : Bool) → (b && eqb r r) ≡ b
    go r true = eq-eqb r r refl
    go r false = refl

module _ (Q : Problem) (G : Group) (name : Naming) (r q : ℕ) (hr : Member Q G r) (hq : Member Q G q) (d : name r ≡ name q → ⊥) (own : Names Q G name) where
  pub merged_fewer : parts Q.rows G (merged name r q) + 1 ≡ parts Q.rows G name
  unfolding parts
  merged_fewer =
      count_less Q.rows (name q) (λ p. G p && eqb (name p) p) (λ p. G p && eqb (merged name r q p) p)
      (λ p h k. row p h k (G p) refl)
      (own.a_member q hq).a_row
      (and_from _ _ (own.a_member q hq).of_group (eq-eqb (name (name q)) (name q) (own.its_own q hq)))
      (and_right (G (name q)) _ (ne_eqb (merged name r q (name q)) (name q) (λ z. d (sym (merged_in name r q (name q) (own.its_own q hq)) ∙ z))))
    where
      go : (p : ℕ) → (p ≡ name q → ⊥) → (name p ≡ name q) ⊎ (name p ≡ name q → ⊥) → eqb (merged name r q p) p ≡ eqb (name p) p
      go p k (inl e) =
          ne_eqb (merged name r q p) p
          (λ z.
          let w : name r ≡ p = sym (merged_in name r q p e) ∙ z in
          d (sym (own.its_own r hr) ∙ ap name w ∙ e))
          ∙ sym (ne_eqb (name p) p (λ z. k (sym z ∙ e)))
      go p k (inr e) = ap (λ n. eqb n p) (merged_out name r q p e)

      row : (p : ℕ) → p < Q.rows → (p ≡ name q → ⊥) → (b : Bool) → G p ≡ b → (b && eqb (merged name r q p) p) ≡ (b && eqb (name p) p)
      row p h k true e = go p k (cases_eq (name p) (name q))
      row p h k false e = refl

pub each_joining_takes_one_away : (Q : Problem) (G : Group) → EachJoiningTakesOneAway Q G
each_joining_takes_one_away Q G name x t r q own f =
    (merged_names Q G name r q f.row f.differ own, merged_fewer Q G name r q f.row f.other f.differ own)
