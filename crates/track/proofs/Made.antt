-- An array that is made of the calls of a closure, one for each index.
use Rattle.std.proofs.Common.{◌≡◌, ℕ, suc, zero, ◌+◌, ◌<◌, ◌≤◌, List, get_or, sym, refl, ap, ◌∙◌, subst, ⊎_elim, arith}
use Rattle.std.proofs.lemmas.Bool.{cases_eq}
use Rattle.std.specs.Array.{IsFromFnResult, IsFromFnResultFrom}
use denote.Param.Members.{Mut, Called}

-- what a closure that stays as it is gives at each index
module _ {F B : Type 0} (g : Mut F (ℕ × Unit {0}) B) (P : ℕ → B → Type 0) (f : F)
    (gives : (x : ℕ) (y : B) (q : F) → Called g f (x, tt) y q → (q ≡ f) × P x y) where
  made_from : (ys : List B) (p : F) (i n k : ℕ) (d : B) → p ≡ f → IsFromFnResultFrom g p ys i n → i ≤ k → k < i + n → P k (get_or ys k d)
  made_from ys p i zero k d e m l h = absurd (omega arith)
  made_from ys p i (suc n) k d e m l h =
      let call : Called g f (i, tt) m.1 m.0 = subst (λ (s : F). Called g s (i, tt) m.1 m.0) e m.3 in
      let given = gives i m.1 m.0 call in
      ⊎_elim
      (λ (j : k ≡ i). subst (λ (b : B). P k b) (sym (ap (λ (x : ℕ). get_or ys x d) j ∙ m.2.1 d)) (subst (λ (x : ℕ). P x m.1) (sym j) given.1))
      (λ j. made_from ys m.0 (i + 1) n k d given.0 m.4 (omega arith) (omega arith))
      (cases_eq k i)

  pub made_at : (ys : List B) (n k : ℕ) (d : B) → IsFromFnResult g f ys n → k < n → P k (get_or ys k d)
  made_at ys n k d m h = made_from ys f 0 n k d refl m.each (omega arith) (omega arith)
