-- The walk from the starts on solves the group's task.
use Rattle.std.proofs.Common.{◌≡◌, ℕ, ◌+◌, ◌-◌, ◌*◌, ◌≤◌, take, Some, None, Option, sym, refl, ap, ◌∙◌, ap₂, mul-le-mul, arith}
use Rattle.track.specs.declared.layout.Layout.{Layout}
use Rattle.rules.specs.Conflicts.{Conflicts}
use Rattle.scales.specs.Measure.{Measure, MeasureLaws}
use Rattle.scales.proofs.Joins.{nothing_join}
use Rattle.words.specs.Words.{rest, best, with}
use Rattle.words.specs.Joint.{Task, RunsFew, process}
use Rattle.words.specs.Tasks.{task, begin, Solution}
use Rattle.words.specs.declared.group.Group.{Group}
use Rattle.words.specs.declared.found.Found.{Found}
use Rattle.words.proofs.Prices.{on_layout_runs_few}
use Rattle.words.specs.Turns.{begun, todo, joint}
use Rattle.words.proofs.Turns.{todo_begun, joint_begun}
use Rattle.walk.specs.Walks.{cut, Ready, Walked}
use Rattle.walk.specs.declared.spot.Spot.{Spot}
use Rattle.walk.proofs.Cuts.{Sized}
use Rattle.walk.proofs.Scans.{rest_sized, goes_map}

cut_all : {C : Type 0} (S : Measure C) (o : Option C) → cut S None o ≡ o
cut_all S None = refl
cut_all S (Some c) = refl

with_nothing : {C : Type 0} (S : Measure C) (L : MeasureLaws S) (z : ℕ) (o : Option C) → z ≤ 65535 → Sized S z o → with S S.nothing o ≡ o
with_nothing S L z None h s = refl
with_nothing S L z (Some c) h s = ap Some (nothing_join S L c (omega arith))

module _ {P R C : Type 0} (conflicts : R → Layout → Conflicts) (b : Group P R) (S : Measure C) (L : MeasureLaws S) where
  abbrev K : Task
  K = task conflicts b.board

  few_points : RunsFew K
  few_points = on_layout_runs_few _ b.board.layout.now b.board.roster.now b.board.trains b.board.goal

  abbrev full : ℕ
  full = b.board.trains * b.steps

  few : full ≤ 128
  few = let m : b.board.trains * b.steps ≤ 8 * 16 = mul-le-mul b.few b.short in omega arith

  todo_all : todo K (b.steps - 1) 0 ≡ full
  todo_all =
      let p : b.steps - 1 + 1 ≡ b.steps = omega (arith, b.begun) in
      todo_begun K (b.steps - 1) ∙ ap (λ u. b.board.trains * u) p

  -- the trains at their starts, with all steps to come and so much spent
  abbrev pub first : (n : C) → Spot C
  first n = record { turn = begun (b.steps - 1) b.start; place = 0; sofar = n }

  pub ready : (n : C) → n ≡ S.nothing → Ready S K (first n)
  ready n e =
      let t = todo_all in
      let w = few in
      let z : S.size n ≡ 0 = ap S.size e ∙ L.size_nothing in
      record {
        runs_few = few_points;
        trains_some = b.some;
        trains_most = b.few;
        left_most = omega (arith, b.short, b.begun);
        in_group = omega arith;
        room = omega arith;
        size = omega arith;
      }

  pub solution : (n : C) (r : Option (Found C)) → n ≡ S.nothing → Walked S K (first n) None r → Solution S K b.steps b.start r
  solution n r e W =
      let s = joint_begun K (b.steps - 1) b.start b.some in
      record {
        cost =
            W.cost ∙ cut_all S _
            ∙ ap (λ v. with S v (rest S (process S K) (todo K (b.steps - 1) 0) (joint K (begun (b.steps - 1) b.start)))) e
            ∙ ap₂ (λ m u. with S S.nothing (rest S (process S K) m u)) todo_all s
            ∙ with_nothing S L (16 * full) (rest S (process S K) full (begin K b.start)) (omega (arith, few)) (rest_sized S L K few_points full (begin K b.start) (omega (arith, few)));
        goes = goes_map r _ _ (λ plan g. ap (λ m. take m plan) (sym todo_all) ∙ g ∙ ap₂ (λ m u. best S (process S K) m u) todo_all s) W.goes;
        long = W.long;
      }
