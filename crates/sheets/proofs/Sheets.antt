-- A best sheet is one alone, and a sheet that counts as one with it is best too.
use Rattle.std.proofs.Common.{◌+◌, sym, ◌∙◌, inl, inr, arith}
use Rattle.scales.specs.Measure.{Measure, MeasureLaws}
use Rattle.scales.proofs.Joins.{lower_not, lower_asym}
use Rattle.sheets.specs.Problem.{Group, Problem, ProblemLaws}
use Rattle.sheets.specs.Plan.{Plan, Lawful, SameOn, Before, Best, Wins, cost}
use Rattle.sheets.proofs.Places.{earlier_time, same_sym, before_never}
use Rattle.sheets.proofs.Costs.{cost_same}

module _ (Q : Problem) where
  pub lawful_same : (G : Group) (x y : Plan) → SameOn Q G x y → Lawful Q G x → Lawful Q G y
  lawful_same G x y e h =
      record {
        starts = λ r m. sym (e r 0 m (omega arith)) ∙ h.starts r m;
        arrives = λ r m. sym (e r Q.steps m (omega arith)) ∙ h.arrives r m;
        moves = λ r t m k. rw (← e r t m (omega arith), ← e r (t + 1) m (omega arith)) (h.moves r t m k);
        inside = λ r t m k. rw (← e r t m k) (h.inside r t m k);
        not_closed = λ r t m k. rw (← e r t m k) (h.not_closed r t m k);
        apart = λ r q t m n d k. cc (
          e r t m (omega arith),
          e r (t + 1) m (omega arith),
          e q t n (omega arith),
          e q (t + 1) n (omega arith),
          h.apart r q t m n d k,
        );
      }

  pub before_same : (G : Group) (x z y : Plan) → SameOn Q G x z → Before Q G x y → Before Q G z y
  before_same G x z y e f =
      record {
        time = f.time;
        row = f.row;
        in_time = f.in_time;
        in_group = f.in_group;
        less = omega (arith, e f.row f.time f.in_group f.in_time);
        same = λ t r m k.
            let h = earlier_time t r f.time f.row k in
            sym (e r t m (omega (arith, f.in_time))) ∙ f.same t r m k;
      }

module _ {C : Type 0} (S : Measure C) (L : MeasureLaws S) (Q : Problem) (K : ProblemLaws Q) where
  pub best_unique : (G : Group) (x y : Plan) → Best S Q G x → Best S Q G y → SameOn Q G x y
  best_unique G x y b c = go (b.wins y c.lawful) (c.wins x b.lawful)
    where
      go : Wins S Q G x y → Wins S Q G y x → SameOn Q G x y
      go (inl e) w = e
      go (inr u) (inl e) = same_sym Q G y x e
      go (inr (inl u)) (inr (inl v)) = absurd (lower_asym S L (cost S Q G x) (cost S Q G y) u v)
      go (inr (inl u)) (inr (inr v)) = absurd (lower_not S L (cost S Q G x) (cost S Q G y) (sym v.0) u)
      go (inr (inr u)) (inr (inl v)) = absurd (lower_not S L (cost S Q G y) (cost S Q G x) (sym u.0) v)
      go (inr (inr u)) (inr (inr v)) = absurd (before_never Q G x y u.1 v.1)

  -- a sheet that agrees with a best one on the group is best
  pub best_same : (G : Group) (x y : Plan) → SameOn Q G x y → Best S Q G x → Best S Q G y
  best_same G x y e b = record { lawful = lawful_same Q G x y e b.lawful; wins = λ z h. go z (b.wins z h) }
    where
      go : (z : Plan) → Wins S Q G x z → Wins S Q G y z
      go z (inl f) = inl (λ r t m k. sym (e r t m k) ∙ f r t m k)
      go z (inr (inl u)) = inr (inl (rw (← cost_same S L Q K G x y e) u))
      go z (inr (inr u)) = inr (inr (sym (cost_same S L Q K G x y e) ∙ u.0, before_same Q G x y z e u.1))
