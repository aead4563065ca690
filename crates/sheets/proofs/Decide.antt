-- Whether a sheet is lawful for a group can be told.
use Rattle.std.proofs.Common.{◌≡◌, ℕ, suc, ◌+◌, ◌<◌, ◌≤◌, Bool, true, false, ◌⊎◌, inl, inr, arith}
use Rattle.std.proofs.lemmas.Bool.{cases_eq, cases_lt, both_ways}
use Rattle.sheets.specs.Problem.{Group, Problem, Member, allowed}
use Rattle.sheets.specs.Plan.{Plan, Lawful, clash}
use Rattle.sheets.proofs.Least.{least}

abbrev Told : Type 0 → Type 0
Told P = P ⊎ (P → ⊥)

told_as : {A B : Type 0} → Told A → (A → B) → (B → A) → Told B
told_as (inl a) f g = inl (f a)
told_as (inr n) f g = inr (λ b. n (g b))

told_if : {A B : Type 0} → Told A → Told B → Told (A → B)
told_if (inl a) (inl b) = inl (λ x. b)
told_if (inl a) (inr n) = inr (λ f. n (f a))
told_if (inr m) b = inl (λ x. absurd (m x))

told_both : {A B : Type 0} → Told A → Told B → Told (A × B)
told_both (inl a) (inl b) = inl (a, b)
told_both (inl a) (inr n) = inr (λ p. n p.1)
told_both (inr m) b = inr (λ p. m p.0)

told_either : {A B : Type 0} → Told A → Told B → Told (A ⊎ B)
told_either (inl a) b = inl (inl a)
told_either (inr m) (inl b) = inl (inr b)
told_either {A} {B} (inr m) (inr n) = inr go
  where
    go : A ⊎ B → ⊥
    go (inl a) = m a
    go (inr b) = n b

told_bool : (b c : Bool) → Told (b ≡ c)
told_bool true true = inl (λ i. true)
told_bool true false = inr (λ e. both_ways true e (λ i. true))
told_bool false true = inr (λ e. both_ways false (λ i. false) e)
told_bool false false = inl (λ i. false)

told_below : (n : ℕ) (P : ℕ → Type 0) → ((i : ℕ) → Told (P i)) → Told ((i : ℕ) → i < n → P i)
told_below n P d = go (least n P (λ i. P i → ⊥) (λ i h. d i))
  where
    go : ((i : ℕ) → i < n → P i) ⊎ ((i : ℕ) × (i < n) × (P i → ⊥) × ((j : ℕ) → j < i → P j)) → Told ((i : ℕ) → i < n → P i)
    go (inl f) = inl f
    go (inr (i, h, b, g)) = inr (λ f. b (f i h))

module _ (Q : Problem) (G : Group) where
  told_rows : (P : ℕ → Type 0) → ((r : ℕ) → Told (P r)) → Told ((r : ℕ) → Member Q G r → P r)
  told_rows P d =
      told_as
      (told_below Q.rows (λ r. G r ≡ true → P r) (λ r. told_if (told_bool (G r) true) (d r)))
      (λ f r m. f r m.a_row m.of_group)
      (λ f r h e. f r (record { a_row = h; of_group = e }))

  told_steps : (P : ℕ → ℕ → Type 0) → ((r t : ℕ) → Told (P r t)) → Told ((r t : ℕ) → Member Q G r → t < Q.steps → P r t)
  told_steps P d =
      told_as
      (told_rows (λ r. (t : ℕ) → t < Q.steps → P r t) (λ r. told_below Q.steps (P r) (d r)))
      (λ f r t m h. f r m t h)
      (λ f r m t h. f r t m h)

  told_times : (P : ℕ → ℕ → Type 0) → ((r t : ℕ) → Told (P r t)) → Told ((r t : ℕ) → Member Q G r → t ≤ Q.steps → P r t)
  told_times P d =
      told_as
      (told_rows (λ r. (t : ℕ) → t < suc Q.steps → P r t) (λ r. told_below (suc Q.steps) (P r) (d r)))
      (λ f r t m h. f r m t (omega arith))
      (λ f r m t h. f r t m (omega arith))

  told_pairs : (P : ℕ → ℕ → ℕ → Type 0) → ((r q t : ℕ) → Told (P r q t))
      → Told ((r q t : ℕ) → Member Q G r → Member Q G q → (r ≡ q → ⊥) → t < Q.steps → P r q t)
  told_pairs P d =
      told_as
      (told_rows (λ r. (q : ℕ) → Member Q G q → (r ≡ q → ⊥) → (t : ℕ) → t < Q.steps → P r q t)
      (λ r. told_rows (λ q. (r ≡ q → ⊥) → (t : ℕ) → t < Q.steps → P r q t)
      (λ q. told_if (told_if (cases_eq r q) (inr (λ z. z))) (told_below Q.steps (P r q) (d r q)))))
      (λ f r q t m n e h. f r m q n e t h)
      (λ f r m q n e t h. f r q t m n e h)

  told_less : (a b : ℕ) → Told (a < b)
  told_less a b = go (cases_lt a b)
    where
      go : (a < b) ⊎ (b ≤ a) → Told (a < b)
      go (inl h) = inl h
      go (inr h) = inr (λ k. omega arith)

  pub told_lawful : (x : Plan) → Lawful Q G x ⊎ (Lawful Q G x → ⊥)
  told_lawful x =
      told_as
      (told_both
      (told_both (told_rows (λ r. x r 0 ≡ Q.start r) (λ r. cases_eq (x r 0) (Q.start r)))
      (told_rows (λ r. x r Q.steps ≡ Q.goal r) (λ r. cases_eq (x r Q.steps) (Q.goal r))))
      (told_both
      (told_both
      (told_steps (λ r t. allowed Q (x r t) (x r (t + 1)) ≡ true)
      (λ r t. told_bool (allowed Q (x r t) (x r (t + 1))) true))
      (told_times (λ r t. x r t < Q.sections) (λ r t. told_less (x r t) Q.sections)))
      (told_both (told_times (λ r t. Q.closed (x r t) ≡ false) (λ r t. told_bool (Q.closed (x r t)) false))
      (told_pairs (λ r q t. clash Q x t r q ≡ false) (λ r q t. told_bool (clash Q x t r q) false)))))
      (λ p. record {
        starts = p.0.0;
        arrives = p.0.1;
        moves = p.1.0.0;
        inside = p.1.0.1;
        not_closed = p.1.1.0;
        apart = p.1.1.1;
      })
      (λ l. ((l.starts, l.arrives), ((l.moves, l.inside), (l.not_closed, l.apart))))
