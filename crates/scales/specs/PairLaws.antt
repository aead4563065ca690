-- The scale of steps, then points keeps the laws.
use Rattle.std.specs.Prelude.{◌≡◌, ◌+◌, ◌<◌, ◌≤◌, true, false, ◌⊎◌, refl}
use Rattle.std.proofs.Common.{inl, inr, ⊎_elim, arith}
use Rattle.std.proofs.lemmas.Bool.{cases_order}
use Rattle.std.proofs.lemmas.Bool.Decides.{nat_tests}
use Rattle.scales.specs.Measure.{MeasureLaws}
use Rattle.scales.specs.Steps.{plus}
use Rattle.scales.specs.Pairs.{pair, pair_lower, pairs}
use Rattle.scales.specs.declared.pair.Pair.{Pair}

same : (a b : Pair) → a.steps ≡ b.steps → a.points ≡ b.points → a ≡ b
same a b p q = λ i. pair (p i) (q i)

not_self : (a : Pair) → pair_lower a a ≡ false
not_self a = grind (arith, nat_tests)

trans : (a b c : Pair) → pair_lower a b ≡ true → pair_lower b c ≡ true → pair_lower a c ≡ true
trans a b c p q = grind (arith, nat_tests)

-- neither is lower only where steps and points are alike
total : (a b : Pair) → (a ≡ b) ⊎ ((pair_lower a b ≡ true) ⊎ (pair_lower b a ≡ true))
total a b = ⊎_elim (λ h. ⊎_elim (λ k. inl (same a b h k)) (λ k. inr (ordered h k)) (cases_order a.points b.points)) (λ h. inr (apart h)) (cases_order a.steps b.steps)
  where
    apart : (a.steps < b.steps) ⊎ (b.steps < a.steps) → (pair_lower a b ≡ true) ⊎ (pair_lower b a ≡ true)
    apart h = grind (arith, nat_tests)

    ordered : a.steps ≡ b.steps → (a.points < b.points) ⊎ (b.points < a.points) → (pair_lower a b ≡ true) ⊎ (pair_lower b a ≡ true)
    ordered h k = grind (arith, nat_tests)

abbrev sum : Pair → Pair → Pair
sum a b = pair (plus a.steps b.steps) (plus a.points b.points)

more : (a b c : Pair) → a.steps + a.points + (c.steps + c.points) ≤ 65535 → b.steps + b.points + (c.steps + c.points) ≤ 65535 → pair_lower a b ≡ true → pair_lower (sum a c) (sum b c) ≡ true
more a b c h k p = grind (arith, nat_tests)

pub pairs_laws : MeasureLaws pairs
pairs_laws = record {
  lower_self = not_self;
  lower_trans = trans;
  lower_cases = total;
  join_comm = λ a b h. same _ _ (omega arith) (omega arith);
  join_assoc = λ a b c h. same _ _ (omega arith) (omega arith);
  join_nothing = λ a h. same _ _ (omega arith) (omega arith);
  join_lower = more;
  size_nothing = refl;
  size_join = λ a b h. omega arith;
  size_price = λ p h. omega arith;
  price_rest = refl;
  price_step = λ p h. refl;
}
