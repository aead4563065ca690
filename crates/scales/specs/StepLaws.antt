-- The scale of steps keeps the laws.
use Rattle.std.specs.Prelude.{refl}
use Rattle.std.proofs.Common.{inl, inr, ⊎_elim, arith, ltb-true, lt-ltb, le-ltb}
use Rattle.std.proofs.lemmas.Bool.{cases_order}
use Rattle.scales.specs.Measure.{MeasureLaws}
use Rattle.scales.specs.Steps.{steps, plus}

pub steps_laws : MeasureLaws steps
steps_laws = record {
  lower_self = λ a. le-ltb a a (omega arith);
  lower_trans = λ a b c p q. lt-ltb a c (omega (arith, ltb-true a b p, ltb-true b c q));
  lower_cases = λ a b. ⊎_elim inl (⊎_elim (λ h. inr (inl (lt-ltb a b h))) (λ h. inr (inr (lt-ltb b a h)))) (cases_order a b);
  join_comm = λ a b h. omega arith;
  join_assoc = λ a b c h. omega arith;
  join_nothing = λ a h. omega arith;
  join_lower = λ a b c h k p. lt-ltb (plus a c) (plus b c) (omega (arith, ltb-true a b p));
  size_nothing = refl;
  size_join = λ a b h. omega arith;
  size_price = λ p h. omega arith;
  price_rest = refl;
  price_step = λ p h. refl;
}
