-- One train's move in a joint step: whose turn it is, and what is looked at of where the trains stand.
use Rattle.std.proofs.Common.{◌≡◌, ℕ, suc, ◌+◌, ◌*◌, ◌<◌, ◌≤◌, ◌&&◌, cond, eqb, List, [], ◌∷◌, ◌++◌, length, get_or, take, set, None, ap, mul-add, add-one, arith, get_or-take, length-take-le, take-suc-set}
use Rattle.std.proofs.lemmas.Bool.{eq-eqb, ne_eqb}
use Rattle.scales.specs.Measure.{Measure}
use Rattle.sheets.proofs.Alls.{all_same}
use Rattle.words.specs.Words.{with, rest}
use Rattle.words.specs.Joint.{Task, turned, clear, may_move, move_price, process}
use Rattle.words.specs.Tasks.{begin}
use Rattle.words.specs.Turns.{begun, after, todo, joint, move_cost}
use Rattle.words.specs.declared.turn.Turn.{Turn}

pub turned_full : (k : ℕ) (p q : List ℕ) → length q ≡ k → turned k p q ≡ record { at = q; to = [] }
turned_full k p q e = let b = eq-eqb (length q) k e in simp b

pub turned_part : (k : ℕ) (p q : List ℕ) → length q < k → turned k p q ≡ record { at = p; to = q }
turned_part k p q h = let b = ne_eqb (length q) k (λ e. omega arith) in simp b

-- only the places of the group's trains are looked at
module _ (K : Task) (j : ℕ) (at to : List ℕ) (jk : j < K.trains) where
  pub may_same : (x : ℕ) → may_move K (take K.trains at) (take j to) j x ≡ may_move K at to j x
  may_same x =
      let a : get_or (take K.trains at) j 0 ≡ get_or at j 0 = get_or-take K.trains at j 0 jk in
      let b : clear K (take K.trains at) (take j to) j (get_or at j 0) x ≡ clear K at to j (get_or at j 0) x =
      all_same j _ _ (λ i l. let u = get_or-take K.trains at i 0 (omega arith) in let v = get_or-take j to i 0 l in simp (u, v)) in
      simp (a, b)

pub price_same : {C : Type 0} (S : Measure C) (K : Task) (j : ℕ) (at : List ℕ) → j < K.trains → (x : ℕ)
    → move_price S K (take K.trains at) j x ≡ move_price S K at j x
price_same S K j at jk x = let a : get_or (take K.trains at) j 0 ≡ get_or at j 0 = get_or-take K.trains at j 0 jk in
    ap (λ z. S.price (K.points z x) (eqb z (get_or K.goal j 0) && eqb x (get_or K.goal j 0))) a

-- as a step begins, all its moves and those of the steps after it are to come
pub todo_begun : (K : Task) (left : ℕ) → todo K left 0 ≡ K.trains * (left + 1)
todo_begun K left = let a = mul-add K.trains left 1 in omega arith

pub joint_begun : (K : Task) (left : ℕ) (at : List ℕ) → 1 ≤ K.trains → joint K (begun left at) ≡ begin K at
joint_begun K left at k = turned_part K.trains (take K.trains at) [] (omega arith)

-- where a train has yet to move
module _ (K : Task) (t : Turn) (jk : t.moved < K.trains) (kt : K.trains ≤ length t.to) where
  moved_so_many : length (take t.moved t.to) ≡ t.moved
  moved_so_many = length-take-le t.moved t.to (omega arith)

  pub todo_is : todo K t.left t.moved ≡ suc (todo K t.left (t.moved + 1))
  todo_is = omega arith

  pub joint_is : joint K t ≡ record { at = take K.trains t.at; to = take t.moved t.to }
  joint_is = let l = moved_so_many in turned_part K.trains _ _ (omega arith)

  pub take_after : (x : ℕ) → take (t.moved + 1) (set t.to t.moved x) ≡ take t.moved t.to ++ (x ∷ [])
  take_after x = rw add-one (take-suc-set t.to t.moved x (omega arith))

  pub joint_after : (x : ℕ) → joint K (after t x) ≡ turned K.trains (take K.trains t.at) (take t.moved t.to ++ (x ∷ []))
  joint_after x = ap (turned K.trains (take K.trains t.at)) (take_after x)

  pub move_cost_is : {C : Type 0} (S : Measure C) (x : ℕ) → move_cost S K t x
      ≡ cond (may_move K t.at t.to t.moved x) (with S (move_price S K t.at t.moved x) (rest S (process S K) (todo K t.left (t.moved + 1)) (joint K (after t x)))) None
  unfolding process
  move_cost_is S x =
      let l = moved_so_many in
      let m = may_same K t.moved t.at t.to jk x in
      let p = price_same S K t.moved t.at jk x in
      let j = joint_after x in
      simp (l, m, p, j)
