-- The prices of a task's moves are small, and no price is below nothing.
use Rattle.std.proofs.Common.{◌≡◌, ℕ, ◌≤◌, Bool, true, false, ◌&&◌, eqb, List, sym, ap, ◌∙◌, inl, inr}
use Rattle.std.proofs.lemmas.Bool.{and_parts, eqb-true, cond-true, eq-eqb}
use Rattle.track.specs.declared.layout.Layout.{Layout}
use Rattle.rules.specs.Conflicts.{Conflicts}
use Rattle.roster.specs.declared.roster.Roster.{Roster}
use Rattle.scales.specs.Measure.{Measure, MeasureLaws}
use Rattle.scales.proofs.Joins.{price_small}
use Rattle.sheets.specs.Problem.{Problem, run_over}
use Rattle.sheets.proofs.Posed.{over_few}
use Rattle.words.specs.Bridge.{task_of_problem}
use Rattle.words.specs.Tasks.{task_of}
use Rattle.words.specs.Joint.{Task, Joint, RunsFew, move_price, process}
use Rattle.words.proofs.Least.{NoHigher}

-- a train that stands at its goal through a move runs over no points
at_goal_runs_none : (K : Task) → RunsFew K → (a b g : ℕ) → (eqb a g && eqb b g) ≡ true → K.points a b ≡ 0
at_goal_runs_none K few a b g h =
    let p = and_parts (eqb a g) (eqb b g) h in
    ap (K.points a) (eqb-true b g p.1 ∙ sym (eqb-true a g p.0)) ∙ few.still a

pub runs_few : (Q : Problem) → ((a b : ℕ) → run_over Q a b ≤ 7) → RunsFew (task_of_problem Q)
runs_few Q few = record { most = few; still = λ a. cond-true (eqb a a) 0 _ (eq-eqb a a (λ i. a)) }

pub on_layout_runs_few : (conflicts : Conflicts) (l : Layout) (o : Roster) (k : ℕ) (goal : List ℕ) → RunsFew (task_of conflicts l o k goal)
on_layout_runs_few conflicts l o k goal = record { most = over_few l; still = λ a. cond-true (eqb a a) 0 _ (eq-eqb a a (λ i. a)) }

pub price_over : {C : Type 0} (S : Measure C) (L : MeasureLaws S) → (n : ℕ) (rests : Bool) → n ≤ 7 → (rests ≡ true → n ≡ 0) → NoHigher S L S.nothing (S.price n rests)
price_over S L n true few still = inl (sym (ap (λ m. S.price m true) (still (λ i. true)) ∙ L.price_rest))
price_over S L n false few still = inr (L.price_step n few)

module _ {C : Type 0} (S : Measure C) (L : MeasureLaws S) (K : Task) (few : RunsFew K) where
  pub move_size : (p : _) (j x : ℕ) → S.size (move_price S K p j x) ≤ 16
  move_size p j x = price_small S L _ _ (few.most _ _) (at_goal_runs_none K few _ _ _)

  pub price_size : (s : Joint) (x : ℕ) → S.size ((process S K).price s x) ≤ 16
  unfolding process
  price_size s x = move_size s.at _ x

  pub prices_over : (s : Joint) (x : ℕ) → NoHigher S L S.nothing ((process S K).price s x)
  unfolding process
  prices_over s x = price_over S L _ _ (few.most _ _) (at_goal_runs_none K few _ _ _)
