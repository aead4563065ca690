-- What a scale stands for: which of two costs is lower, what two make together, and the price of a step.
-- A cost has a size, and the laws of joining hold where the sizes joined come to at most 65,535.
use Rattle.std.specs.Prelude.{◌≡◌, ℕ, zero, suc, ◌+◌, ◌≤◌, Bool, true, false, ◌⊎◌}

pub record Measure (C : Type 0) : Type 0 where
  pub lower : C → C → Bool
  pub join : C → C → C
  pub nothing : C
  -- what a step costs, by the points run over and by whether the train stands at its goal through the step
  pub price : ℕ → Bool → C
  pub size : C → ℕ

-- two costs that can be joined
abbrev pub Fit : {C : Type 0} → Measure C → C → C → Type 0
Fit S a b = S.size a + S.size b ≤ 65535

pub record MeasureLaws {C : Type 0} (S : Measure C) : Type 0 where
  -- the order is total, and costs of which neither is lower are equal
  pub lower_self : (a : C) → S.lower a a ≡ false
  pub lower_trans : (a b c : C) → S.lower a b ≡ true → S.lower b c ≡ true → S.lower a c ≡ true
  pub lower_cases : (a b : C) → (a ≡ b) ⊎ ((S.lower a b ≡ true) ⊎ (S.lower b a ≡ true))
  -- the join is commutative and associative, nothing is neutral in it, and it keeps the order
  pub join_comm : (a b : C) → Fit S a b → S.join a b ≡ S.join b a
  pub join_assoc : (a b c : C) → S.size a + S.size b + S.size c ≤ 65535 → S.join (S.join a b) c ≡ S.join a (S.join b c)
  pub join_nothing : (a : C) → S.size a ≤ 65535 → S.join a S.nothing ≡ a
  pub join_lower : (a b c : C) → Fit S a c → Fit S b c → S.lower a b ≡ true → S.lower (S.join a c) (S.join b c) ≡ true
  -- sizes add, and the price of a step over at most 7 points is small
  pub size_nothing : S.size S.nothing ≡ 0
  pub size_join : (a b : C) → Fit S a b → S.size (S.join a b) ≡ S.size a + S.size b
  pub size_price : (points : ℕ) → points ≤ 7 → S.size (S.price points false) ≤ 16
  -- standing at the goal, which runs over no points, costs nothing, and every other step more than nothing
  pub price_rest : S.price 0 true ≡ S.nothing
  pub price_step : (points : ℕ) → points ≤ 7 → S.lower S.nothing (S.price points false) ≡ true

-- the costs f 0, f 1, .. f (n - 1) joined
abbrev pub joined : {C : Type 0} → Measure C → ℕ → (ℕ → C) → C
joined S zero f = S.nothing
joined S (suc n) f = S.join (joined S n f) (f n)
