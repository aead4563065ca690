-- The walk from a place on: what a turn of its loop, its end and its cuts show.
use Rattle.std.proofs.Common.{◌≡◌, ℕ, zero, suc, ◌+◌, ◌-◌, ◌*◌, ◌<◌, ◌≤◌, Bool, true, false, cond, List, [], ◌∷◌, length, take, drop, set, Some, None, Option, sym, refl, ap, ◌∙◌, subst, ap₂, mul-zero, add-one, arith, length-set, length-take-le}
use Rattle.std.specs.Bool.{then_some}
use Rattle.std.specs.Option.{option_or}
use Rattle.std.proofs.lemmas.Bool.{not-false}
use Rattle.scales.specs.Measure.{Measure, MeasureLaws}
use Rattle.words.specs.Words.{under, with, least, first, rest, best}
use Rattle.words.specs.Joint.{Task, Joint, RunsFew, turned, may_move, move_price, home, process}
use Rattle.words.proofs.BestWords.{rest_size, rest_over}
use Rattle.words.specs.declared.found.Found.{Found}
use Rattle.words.specs.Tasks.{cost_of, Goes}
use Rattle.words.specs.Turns.{begun, after as turn_after, todo, joint, move_cost}
use Rattle.words.proofs.Turns.{turned_full, todo_begun, joint_begun, todo_is, joint_is, joint_after, move_cost_is}
use Rattle.words.proofs.Prices.{move_size, price_size, prices_over}
use Rattle.walk.specs.declared.spot.Spot.{Spot}
use Rattle.walk.specs.Spots.{after, next_step}
use Rattle.walk.specs.Walks.{cut, spent_up, Ready, Walked, put_at}
use Rattle.walk.proofs.Cuts.{Sized, sized_at, cut_none, cut_step, found_lower, none_lower, with_cond, under_with, with_assoc, spent_none}

pub goes_map : {C : Type 0} (r : Option (Found C)) (P Q : List ℕ → Type 0) → ((w : List ℕ) → P w → Q w) → Goes r P → Goes r Q
goes_map None P Q h g = tt
goes_map (Some s) P Q h g = h s.plan g

cost_put : {C : Type 0} (p x : ℕ) (r : Option (Found C)) → cost_of (put_at p x r) ≡ cost_of r
cost_put p x None = refl
cost_put p x (Some f) = refl

cost_else : {C : Type 0} (a b : Option (Found C)) → cost_of (option_or a b) ≡ option_or (cost_of a) (cost_of b)
cost_else None b = refl
cost_else (Some f) b = refl

goes_else : {C : Type 0} (a b : Option (Found C)) (P : List ℕ → Type 0) → ((c : C) → cost_of a ≡ Some c → Goes a P) → ((c : C) → cost_of a ≡ None → cost_of b ≡ Some c → Goes b P) → Goes (option_or a b) P
goes_else (Some f) b P h k = h f.cost refl
goes_else None None P h k = tt
goes_else None (Some g) P h k = k g.cost refl refl

-- a plan with x written at the place, before what it had from there on
put_word : (plan : List ℕ) (p m x : ℕ) → p < length plan → take (suc m) (drop p (set plan p x)) ≡ x ∷ take m (drop (suc p) plan)
put_word [] p m x h = absurd (omega arith)
put_word (y ∷ ys) zero m x h = refl
put_word (y ∷ ys) (suc p) m x h = put_word ys p m x (omega arith)

module _ {C : Type 0} (S : Measure C) (L : MeasureLaws S) (K : Task) where
  pub rest_sized : RunsFew K → (m : ℕ) (s : Joint) → 16 * m ≤ 60000 → Sized S (16 * m) (rest S (process S K) m s)
  rest_sized few m s h = sized_at S (16 * m) _ (λ c e. rest_size S L (process S K) (price_size S L K few) m s c (omega arith) e)

sized_choice : {C : Type 0} (S : Measure C) → MeasureLaws S → (z : ℕ) (t : Bool) (p : C) (o : Option C) (y : ℕ) → S.size p ≤ 16 → z + 16 ≤ 65535 → z + 16 ≤ y → Sized S z o → Sized S y (cond t (with S p o) None)
sized_choice S L z false p o y hp hz hy s = tt
sized_choice S L z true p None y hp hz hy s = tt
sized_choice S L z true p (Some d) y hp hz hy s = omega (arith, L.size_join p d (omega arith))

sized_cond : {C : Type 0} (S : Measure C) (z : ℕ) (t : Bool) (a b : Option C) → Sized S z a → Sized S z b → Sized S z (cond t a b)
sized_cond S z true a b p q = p
sized_cond S z false a b p q = q

goes_put : {C : Type 0} (p x : ℕ) (r : Option (Found C)) (P Q : List ℕ → Type 0) → ((w : List ℕ) → P w → length w ≡ 128 → Q (set w p x)) → Goes r P → Goes r (λ w. length w ≡ 128) → Goes (put_at p x r) Q
goes_put p x None P Q h g l = tt
goes_put p x (Some f) P Q h g l = h f.plan g l

module _ {C : Type 0} (S : Measure C) (K : Task) (spot : Spot C) (bound : Option C) where
  abbrev pub RouteBy : ℕ → List ℕ → Type 0
  RouteBy y plan = take (suc (todo K spot.turn.left (spot.turn.moved + 1))) (drop spot.place plan) ≡ y ∷ best S (process S K) (todo K spot.turn.left (spot.turn.moved + 1)) (joint K (turn_after spot.turn y))

  -- the sections below x are tried, and b is the first of the least that stays below the bound
  pub record Scan (x : ℕ) (b : Option (Found C)) : Type 0 where
    pub cost : cost_of b ≡ cut S bound (with S spot.sofar (least S x (move_cost S K spot.turn)))
    pub goes : Goes b (RouteBy (first S x (move_cost S K spot.turn)))
    pub long : Goes b (λ plan. length plan ≡ 128)

module _ {C : Type 0} (S : Measure C) (L : MeasureLaws S) (K : Task) (spot : Spot C) (bound : Option C)
    (R : Ready S K spot) (jk : spot.turn.moved < K.trains) (ka : K.trains ≤ length spot.turn.at) (kt : K.trains ≤ length spot.turn.to) where
  abbrev row : ℕ → Option C
  row = move_cost S K spot.turn

  abbrev Scanned : ℕ → Option (Found C) → Type 0
  Scanned = Scan S K spot bound

  abbrev rests : ℕ
  rests = todo K spot.turn.left (spot.turn.moved + 1)

  more : todo K spot.turn.left spot.turn.moved ≡ suc rests
  more = todo_is K spot.turn jk kt

  -- what is left after a move to x
  abbrev after_move : ℕ → Option C
  after_move x = rest S (process S K) rests (joint K (turn_after spot.turn x))

  -- sizes of what the row holds
  few : 16 * suc rests ≤ 60000
  few = omega (arith, R.size, more)

  row_sized : (x : ℕ) → Sized S (16 * suc rests) (row x)
  row_sized x =
      subst (Sized S (16 * suc rests)) (sym (move_cost_is K spot.turn jk kt S x))
      (sized_choice S L (16 * rests) (may_move K spot.turn.at spot.turn.to spot.turn.moved x) (move_price S K spot.turn.at spot.turn.moved x) _ (16 * suc rests) (move_size S L K R.runs_few spot.turn.at spot.turn.moved x) (omega (arith, few)) (omega arith)
      (rest_sized S L K R.runs_few rests (joint K (turn_after spot.turn x)) (omega (arith, few))))

  least_sized : (x : ℕ) → Sized S (16 * suc rests) (least S x row)
  least_sized zero = tt
  least_sized (suc x) = sized_cond S (16 * suc rests) (under S (least S x row) (row x)) (row x) (least S x row) (row_sized x) (least_sized x)

  -- one candidate more: what it gives under the nearer bound, or else the best so far
  step : (x : ℕ) (b f : Option (Found C)) → Scanned x b → cost_of f ≡ cut S (option_or (cost_of b) bound) (with S spot.sofar (row x))
      → Goes f (RouteBy S K spot bound x) → Goes f (λ plan. length plan ≡ 128) → Scanned (x + 1) (option_or f b)
  step x b f H e g l = subst (λ z. Scanned z (option_or f b)) (sym (add-one x)) (record {
    cost = cost_else f b ∙ ap₂ option_or e1 H.cost ∙ cut_step S L bound A N ∙ ap (cut S bound) (ap (λ t. cond t N A) same ∙ sym (with_cond S L spot.sofar t n a));
    goes = goes_else f b _
        (λ c h. subst (λ u. Goes f (RouteBy S K spot bound (cond u x (first S x row)))) (sym (sym same ∙ found_lower S L bound A N c (sym e1 ∙ h))) g)
        (λ c h k. subst (λ u. Goes b (RouteBy S K spot bound (cond u x (first S x row)))) (sym (sym same ∙ none_lower S L bound A N c (sym e1 ∙ h) (sym H.cost ∙ k))) H.goes);
    long = goes_else f b _ (λ c h. l) (λ c h k. H.long);
  })
    where
      a : Option C
      a = least S x row

      n : Option C
      n = row x

      A : Option C
      A = with S spot.sofar (least S x row)

      N : Option C
      N = with S spot.sofar (row x)

      t : Bool
      t = under S (least S x row) (row x)

      e1 : cost_of f ≡ cut S (option_or (cut S bound (with S spot.sofar (least S x row))) bound) (with S spot.sofar (row x))
      e1 = e ∙ ap (λ z. cut S (option_or z bound) (with S spot.sofar (row x))) H.cost

      same : under S (with S spot.sofar (least S x row)) (with S spot.sofar (row x)) ≡ under S (least S x row) (row x)
      same = under_with S L spot.sofar (16 * suc rests) (least S x row) (row x) (omega (arith, R.size, more)) (least_sized x) (row_sized x)

  pub scan_skip : (x : ℕ) (b : Option (Found C)) → Scanned x b → may_move K spot.turn.at spot.turn.to spot.turn.moved x ≡ false → Scanned (x + 1) b
  scan_skip x b H e =
      let none : row x ≡ None = move_cost_is K spot.turn jk kt S x ∙ ap (λ u. cond u (with S (move_price S K spot.turn.at spot.turn.moved x) (after_move x)) None) e in
      step x b None H (sym (ap (λ z. cut S (option_or (cost_of b) bound) (with S spot.sofar z)) none ∙ cut_none S L (option_or (cost_of b) bound))) tt tt

  pub scan_move : (x : ℕ) (b r : Option (Found C)) → Scanned x b → may_move K spot.turn.at spot.turn.to spot.turn.moved x ≡ true
      → Walked S K (after spot x (S.join spot.sofar (move_price S K spot.turn.at spot.turn.moved x))) (option_or (cost_of b) bound) r
      → Scanned (x + 1) (option_or (put_at spot.place x r) b)
  scan_move x b r H e W =
      let p = move_price S K spot.turn.at spot.turn.moved x in
      let rz = rest_sized S L K R.runs_few rests (joint K (turn_after spot.turn x)) (omega (arith, few)) in
      let ps : S.size p ≤ 16 = move_size S L K R.runs_few spot.turn.at spot.turn.moved x in
      let here : with S spot.sofar (with S p (after_move x)) ≡ with S spot.sofar (row x) =
      ap (with S spot.sofar) (sym (move_cost_is K spot.turn jk kt S x ∙ ap (λ m. cond m (with S p (after_move x)) None) e)) in
      step x b (put_at spot.place x r) H
      (cost_put spot.place x r ∙ W.cost
      ∙ ap (cut S (option_or (cost_of b) bound)) (with_assoc S L spot.sofar p (16 * rests) (after_move x) (omega (arith, R.size, more)) rz ∙ here))
      (goes_put spot.place x r _ _ (λ plan h l.
      put_word plan spot.place rests x (omega (arith, R.room, more))
      ∙ ap (λ w. x ∷ w) (ap (λ i. take rests (drop i plan)) (sym (add-one spot.place)) ∙ h))
      W.goes W.long)
      (goes_put spot.place x r _ _ (λ plan h l. length-set plan spot.place x ∙ l) W.long W.long)

  pub scan_all : (b : Option (Found C)) → Scanned K.sections b → Walked S K spot bound b
  unfolding rest best process
  scan_all b H =
      let t = joint_is K spot.turn jk kt in
      let m = more in
      let x = first S K.sections row in
      let a = ap (λ u. x ∷ best S (process S K) rests u) (joint_after K spot.turn jk kt x) in
      record {
        cost = rw (t, m) H.cost;
        goes = goes_map b _ _ (λ w h. rw (t, m) (h ∙ a)) H.goes;
        long = H.long;
      }

  pub ready_next : (x : ℕ) → Ready S K (after spot x (S.join spot.sofar (move_price S K spot.turn.at spot.turn.moved x)))
  ready_next x =
      let ps : S.size (move_price S K spot.turn.at spot.turn.moved x) ≤ 16 = move_size S L K R.runs_few spot.turn.at spot.turn.moved x in
      let z = R.size in
      let td = more in
      let js = L.size_join spot.sofar (move_price S K spot.turn.at spot.turn.moved x) (omega arith) in
      record {
        runs_few = R.runs_few;
        trains_some = R.trains_some;
        trains_most = R.trains_most;
        left_most = R.left_most;
        in_group = omega arith;
        room = omega (arith, R.room);
        size = omega arith;
      }

module _ {C : Type 0} (S : Measure C) (L : MeasureLaws S) (K : Task) (spot : Spot C) (bound : Option C)
    (R : Ready S K spot) where
  -- what is spent leaves nothing below the bound
  pub walked_up : spent_up S bound spot.sofar ≡ true → Walked S K spot bound None
  walked_up e =
      let s = joint K spot.turn in
      record {
        cost = sym (spent_none S L bound spot.sofar (16 * todo K spot.turn.left spot.turn.moved) (rest S (process S K) (todo K spot.turn.left spot.turn.moved) s) (omega (arith, R.size))
            (rest_sized S L K R.runs_few (todo K spot.turn.left spot.turn.moved) s (omega (arith, R.size)))
            (rest_over S L (process S K) (price_size S L K R.runs_few) (prices_over S L K R.runs_few) (todo K spot.turn.left spot.turn.moved) s (omega (arith, R.size))) e);
        goes = tt;
        long = tt;
      }

  module _ (full : spot.turn.moved ≡ K.trains) (kt : K.trains ≤ length spot.turn.to) where
    turn : joint K spot.turn ≡ record { at = take K.trains spot.turn.to; to = [] }
    turn = ap (λ i. turned K.trains (take K.trains spot.turn.at) (take i spot.turn.to)) full ∙ turned_full K.trains _ _ (length-take-le K.trains spot.turn.to kt)

    -- all have moved, and the next step begins
    pub walked_turn : (r : Option (Found C)) → 0 < spot.turn.left → Walked S K (next_step spot) bound r → Walked S K spot bound r
    walked_turn r h W =
        let e : joint K (begun (spot.turn.left - 1) spot.turn.to) ≡ joint K spot.turn = joint_begun K (spot.turn.left - 1) spot.turn.to R.trains_some ∙ sym turn in
        let m : todo K (spot.turn.left - 1) 0 ≡ todo K spot.turn.left spot.turn.moved =
        (let p : spot.turn.left - 1 + 1 ≡ spot.turn.left = omega arith in
        let q : K.trains * (spot.turn.left - 1 + 1) ≡ K.trains * spot.turn.left = ap (λ u. K.trains * u) p in
        let v = todo_begun K (spot.turn.left - 1) in omega arith) in
        record {
          cost = W.cost ∙ ap₂ (λ n u. cut S bound (with S spot.sofar (rest S (process S K) n u))) m e;
          goes = goes_map r _ _ (λ w h. ap (λ n. take n (drop spot.place w)) (sym m) ∙ h ∙ ap₂ (λ n u. best S (process S K) n u) m e) W.goes;
          long = W.long;
        }

    -- the last step is made
    pub walked_end : (r : Option (Found C)) (plan : List ℕ) → length plan ≡ 128 → spot.turn.left ≡ 0 → spent_up S bound spot.sofar ≡ false
        → r ≡ then_some (home K (take K.trains spot.turn.to)) (record { cost = spot.sofar; plan = plan }) → Walked S K spot bound r
    unfolding rest best process
    walked_end r plan l z u e =
        let m : todo K spot.turn.left spot.turn.moved ≡ 0 =
        (let q : K.trains * spot.turn.left ≡ K.trains * 0 = ap (λ v. K.trains * v) z in let v = mul-zero K.trains in omega arith) in
        rw e (record {
          cost = ended bound (home K (take K.trains spot.turn.to)) u ∙ rw (turn, m);
          goes = home_goes (home K (take K.trains spot.turn.to)) _ (rw (turn, m));
          long = home_goes (home K (take K.trains spot.turn.to)) (λ w. length w ≡ 128) l;
        })
      where
        end : Found C
        end = record { cost = spot.sofar; plan = plan }

        home_goes : (h : Bool) (P : List ℕ → Type 0) → P plan → Goes (then_some h end) P
        home_goes true P p = p
        home_goes false P p = tt

        ended : (b : Option C) (h : Bool) → spent_up S b spot.sofar ≡ false → cost_of (then_some h end) ≡ cut S b (with S spot.sofar (cond h (Some S.nothing) None))
        ended b false u = sym (cut_none S L b)
        ended None true u = ap Some (sym (L.join_nothing spot.sofar (omega (arith, R.size))))
        ended (Some b) true u =
            let n : S.join spot.sofar S.nothing ≡ spot.sofar = L.join_nothing spot.sofar (omega (arith, R.size)) in
            let t : S.lower spot.sofar b ≡ true = not-false _ u in
            sym (ap (λ c. cond (S.lower c b) (Some c) None) n ∙ ap (λ y. cond y (Some spot.sofar) None) t)
