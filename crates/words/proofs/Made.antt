-- An array that a closure made which keeps what it captures.
use Rattle.std.proofs.Common.{◌≡◌, ℕ, zero, suc, ◌+◌, ◌<◌, ◌≤◌, List, get_or, subst, ⊎_elim, ◌∙◌, arith}
use Rattle.std.proofs.lemmas.Bool.{cases_lt}
use Rattle.std.specs.Array.{IsFromFnResultFrom}
use denote.Param.Members.{Mut, Called}

module _ {F : Type 0} (g : Mut F (ℕ × Unit {0}) ℕ) (f : F) (h : ℕ → ℕ)
    (calls : (i y : ℕ) (q : F) → Called g f (i, tt) y q → (q ≡ f) × (y ≡ h i)) where
  pub made : (ys : List ℕ) (n i : ℕ) → IsFromFnResultFrom g f ys i n → (k : ℕ) → i ≤ k → k < i + n → get_or ys k 0 ≡ h k
  made ys zero i r k a b = absurd (omega arith)
  made ys (suc n) i (q, y, e, c, r) k a b =
      let z = calls i y q c in
      ⊎_elim
      (λ l. made ys n (i + 1) (subst (λ p. IsFromFnResultFrom g p ys (i + 1) n) z.0 r) k (omega arith) (omega arith))
      (λ l. let w : i ≡ k = omega arith in subst (λ m. get_or ys m 0 ≡ h m) w (e.1 0 ∙ z.1))
      (cases_lt i k)
