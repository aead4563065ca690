-- Following the best word, one train after the other and one step after the other.
use Rattle.std.proofs.Common.{◌≡◌, ℕ, suc, ◌+◌, ◌-◌, ◌*◌, ◌<◌, ◌≤◌, true, false, ◌≢◌, List, [], ◌∷◌, ◌++◌, length, get_or, take, set, is_some, Some, None, Option, sym, refl, ap, ◌∙◌, subst, ap₂, ⊎_elim, mul-zero, mul-add, arith, length-set, get_or-set_other, get_or-set_same}
use lib.Seq.{append_snoc}
use Rattle.std.proofs.lemmas.List.{append-nil, append_assoc}
use Rattle.std.proofs.lemmas.Bool.{cases_lt, both_ways}
use Rattle.scales.specs.Measure.{Measure, MeasureLaws}
use Rattle.words.specs.Words.{Firstly, least, first, rest, best}
use Rattle.words.specs.Joint.{Task, Joint, turned, process}
use Rattle.words.specs.Tasks.{begin}
use Rattle.words.specs.Rests.{On}
use Rattle.words.proofs.Least.{firstly}
use Rattle.words.proofs.BestWords.{choice_some}
use Rattle.words.specs.Turns.{after, todo, joint, move_cost}
use Rattle.words.specs.declared.turn.Turn.{Turn}
use Rattle.words.proofs.Turns.{todo_is, joint_is, joint_after, take_after}
use Rattle.table.specs.Steps.{Picked, Can, Stepped}
use Rattle.table.specs.declared.pick.Pick.{Pick}

some_is : {C : Type 0} (o : Option C) (d : C) → o ≡ Some d → is_some o ≡ true
some_is o d e = ap is_some e

-- so many trains of a step have moved, and the best word goes on from there
pub record Stepping {C : Type 0} (S : Measure C) (K : Task) (left : ℕ) (at : List ℕ) (moved : ℕ) (t : Turn) : Type 0 where
  pub of_the_step : (t.left ≡ left) × (t.at ≡ at)
  pub so_many : t.moved ≡ moved
  pub long : length t.to ≡ 8
  pub inside : On K t.moved t.to
  pub can : is_some (rest S (process S K) (todo K t.left t.moved) (joint K t)) ≡ true
  pub word : take t.moved t.to ++ best S (process S K) (todo K t.left t.moved) (joint K t) ≡ best S (process S K) (K.trains * (left + 1)) (begin K at)

module _ {C : Type 0} (S : Measure C) (L : MeasureLaws S) (K : Task) (left : ℕ) (at : List ℕ) (k1 : 1 ≤ K.trains) (k8 : K.trains ≤ 8) where
  module _ (moved : ℕ) (t : Turn) (jk : moved < K.trains) (W : Stepping S K left at moved t) where
    abbrev row : ℕ → Option C
    row = move_cost S K t

    abbrev x : ℕ
    x = first S K.sections row

    abbrev next : Joint
    next = joint K (after t x)

    abbrev more : ℕ
    more = todo K t.left (t.moved + 1)

    yet : t.moved < K.trains
    yet = omega (arith, W.so_many)

    room : K.trains ≤ length t.to
    room = omega (arith, W.long)

    abbrev here : Joint
    here = record { at = take K.trains t.at; to = take t.moved t.to }

    can_here : is_some (least S K.sections row) ≡ true
    unfolding rest process
    can_here = ap₂ (λ u n. is_some (rest S (process S K) n u)) (sym (joint_is K t yet room)) (sym (todo_is K t yet room)) ∙ W.can

    first_of : (o : Option C) → Firstly S K.sections row o x → is_some o ≡ true → (x < K.sections) × ((d : C) × (row x ≡ Some d))
    first_of None F e = absurd (both_ways false refl e)
    first_of (Some c) F e = (F.within, (c, F.here))

    firsts : (x < K.sections) × ((d : C) × (row x ≡ Some d))
    firsts = first_of (least S K.sections row) (firstly S L K.sections row) can_here

    after_first : next ≡ turned K.trains (take K.trains t.at) (take t.moved t.to ++ (x ∷ []))
    after_first = joint_after K t yet room x

    can_next : is_some (rest S (process S K) more next) ≡ true
    unfolding process
    can_next = let ch = choice_some S _ _ _ firsts.1.0 firsts.1.1 in ap (λ u. is_some (rest S (process S K) more u)) after_first ∙ some_is _ ch.1.0 ch.1.1

    word_here : best S (process S K) (suc more) here ≡ x ∷ best S (process S K) more next
    unfolding best process
    word_here = ap (λ u. x ∷ best S (process S K) more u) (sym after_first)

    pub step_more : (p : Pick C) → Picked S K t (Some p) → Stepping S K left at (moved + 1) (after t p.section)
    step_more p P =
        let e : p.section ≡ x = P.goes in
        record {
          of_the_step = W.of_the_step;
          so_many = ap (λ n. n + 1) W.so_many;
          long = length-set t.to t.moved p.section ∙ W.long;
          inside = λ i h. ⊎_elim (λ l. let ne : i ≢ t.moved = (λ z. omega arith) in subst (λ z. z < K.sections) (sym (get_or-set_other t.to t.moved i p.section 0 ne)) (W.inside i l))
              (λ l. let z : t.moved ≡ i = omega arith in subst (λ y. get_or (set t.to t.moved p.section) y 0 < K.sections) z (subst (λ y. y < K.sections) (sym (get_or-set_same t.to t.moved p.section 0 (omega (arith, W.long, W.so_many)) ∙ e)) firsts.0)) (cases_lt i t.moved);
          can = ap (λ y. is_some (rest S (process S K) more (joint K (after t y)))) e ∙ can_next;
          word = ap (λ y. take (t.moved + 1) (set t.to t.moved y) ++ best S (process S K) more (joint K (after t y))) e
              ∙ ap (λ w. w ++ best S (process S K) more next) (take_after K t yet room x)
              ∙ append_snoc (take t.moved t.to) x (best S (process S K) more next)
              ∙ ap (λ w. take t.moved t.to ++ w) (sym (ap₂ (λ n u. best S (process S K) n u) (todo_is K t yet room) (joint_is K t yet room) ∙ word_here))
              ∙ W.word;
        }

-- t steps are written, and the best word goes on from where the trains are
pub record Followed {C : Type 0} (S : Measure C) (K : Task) (steps : ℕ) (start : List ℕ) (t : ℕ) (at plan : List ℕ) : Type 0 where
  pub long : length plan ≡ 128
  pub inside : On K K.trains at
  pub can : Can S K (steps - t) at
  pub word : take (K.trains * t) plan ++ best S (process S K) (K.trains * (steps - t)) (begin K at) ≡ best S (process S K) (K.trains * steps) (begin K start)

module _ {C : Type 0} (S : Measure C) (K : Task) (steps : ℕ) (start : List ℕ) where
  pub follow_more : (t : ℕ) (at plan to plan' : List ℕ) → t < steps → Followed S K steps start t at plan → Stepped S K (steps - 1 - t) at to → length plan' ≡ 128
      → take (K.trains * t + K.trains) plan' ≡ take (K.trains * t) plan ++ take K.trains to → Followed S K steps start (t + 1) to plan'
  follow_more t at plan to plan' h F W lp e =
      let n : steps - 1 - t + 1 ≡ steps - t = omega arith in
      let m : steps - (t + 1) ≡ steps - 1 - t = omega arith in
      let k : K.trains * (t + 1) ≡ K.trains * t + K.trains = (let a = mul-add K.trains t 1 in omega arith) in
      record {
        long = lp;
        inside = W.inside;
        can = ap (λ s. is_some (rest S (process S K) (K.trains * s) (begin K to))) m ∙ W.can;
        word = ap₂ (λ a s. take a plan' ++ best S (process S K) (K.trains * s) (begin K to)) k m
            ∙ ap (λ w. w ++ best S (process S K) (K.trains * (steps - 1 - t)) (begin K to)) e
            ∙ append_assoc (take (K.trains * t) plan) (take K.trains to) (best S (process S K) (K.trains * (steps - 1 - t)) (begin K to))
            ∙ ap (λ w. take (K.trains * t) plan ++ w) W.word
            ∙ ap (λ s. take (K.trains * t) plan ++ best S (process S K) (K.trains * s) (begin K at)) n
            ∙ F.word;
      }

  pub follow_end : (t : ℕ) (at plan : List ℕ) → t ≡ steps → Followed S K steps start t at plan → take (K.trains * steps) plan ≡ best S (process S K) (K.trains * steps) (begin K start)
  unfolding best
  follow_end t at plan e F =
      let z : K.trains * (steps - t) ≡ 0 = (let d : steps - t ≡ 0 = omega arith in ap (λ s. K.trains * s) d ∙ mul-zero K.trains) in
      let w = subst (λ q. take (K.trains * t) plan ++ best S (process S K) q (begin K at) ≡ best S (process S K) (K.trains * steps) (begin K start)) z F.word in
      subst (λ q. take (K.trains * q) plan ≡ best S (process S K) (K.trains * steps) (begin K start)) e (sym (append-nil (take (K.trains * t) plan)) ∙ w)
