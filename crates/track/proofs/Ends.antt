-- What a layout's ways say of its links.
use Rattle.std.proofs.Common.{◌≡◌, ℕ, ◌<◌, ◌≤◌, Bool, true, ◌⊎◌, List, [], get_or, length, map, is_some, Some, None, Option, take, sym, refl, ap, ◌∙◌, inr, subst, ⊎_elim, arith}
use Rattle.std.proofs.lemmas.Bool.{cases_lt}
use Rattle.std.proofs.lemmas.List.{get_or-map, get_or_past, length-map}
use Rattle.std.proofs.lemmas.List.FromFn.{get_or-map-range_with_len, length-map-range_with_len}
use Rattle.std.specs.List.{range_with_len}
use Rattle.track.specs.Layouts.{sections_of, look, Neighbours}
use Rattle.track.specs.Links.{points_of}
use Rattle.track.specs.Model.{laid}
use Rattle.track.specs.Ways.{passing, neighbours_of, points_along, charted}
use Rattle.track.specs.declared.layout.Layout.{Layout}
use Rattle.track.specs.declared.link.Link.{Link}
use Rattle.track.specs.declared.ways.Ways.{Ways}
use Rattle.track.proofs.Passing.{passing_has}
use Rattle.track.proofs.Laws.{look_inside}

some_of : (o : Option ℕ) → is_some o ≡ true → (p : ℕ) × (o ≡ Some p)
some_of None h = absurd (let z : ◌≡◌ {A = ℕ} 0 1 = cc in omega arith)
some_of (Some p) h = (p, refl)

none_of : (o : Option ℕ) → (is_some o ≡ true → ⊥) → None ≡ o
none_of None h = refl
none_of (Some p) h = absurd (h refl)

-- a link has both ends on the layout
look_on : (l : Layout) (a b : ℕ) → is_some (look l a b) ≡ true → (a < (laid l).sections) × (b < (laid l).sections)
unfolding sections_of
look_on l a b h = let found = some_of (look l a b) h in look_inside l a b found.0 found.1

pub look_none : (l : Layout) (a b : ℕ) → ((laid l).sections ≤ a) ⊎ ((laid l).sections ≤ b) → None ≡ look l a b
look_none l a b h =
    none_of (look l a b)
    (λ s. let k = look_on l a b s in ⊎_elim (λ o. omega (arith, k.0)) (λ o. omega (arith, k.1)) h)

-- ---- the points on the ways
along_at : (ls : List Link) (a b : ℕ) → b < 32 → get_or (points_along ls a) b None ≡ points_of ls a b
unfolding points_along
along_at ls a b h = get_or-map-range_with_len (λ b. points_of ls a b) 0 32 b b None h (omega arith)

along_past : (ls : List Link) (a b : ℕ) → 32 ≤ b → get_or (points_along ls a) b None ≡ None
unfolding points_along
along_past ls a b h =
    let long = length-map-range_with_len (λ b. points_of ls a b) 0 32 in
    get_or_past (map (λ b. points_of ls a b) (range_with_len 0 32)) b None (omega arith)

-- as many ways as there may be sections
pub ways_long : (l : Layout) → length l.ways ≡ 32
unfolding charted
ways_long l = let long = length-map l.ways (λ (v : Ways). v.points) in let many = ap length l.led in omega arith

-- the ways from a, as the layout holds them
module _ (l : Layout) (a : ℕ) (w d : Ways) (h : a < 32) (e : w ≡ get_or l.ways a d) where
  ways_at : w.points ≡ points_along (laid l).links a
  unfolding charted
  ways_at =
      let ls = (laid l).links in
      let long = ways_long l in
      ap (λ (v : Ways). v.points) e ∙ sym (get_or-map (λ (v : Ways). v.points) l.ways a d [] (omega arith))
      ∙ ap (λ (rows : List (List (Option ℕ))). get_or rows a []) l.led
      ∙ get_or-map-range_with_len (λ x. points_along ls x) 0 32 a a [] h (omega arith)

  pub points_held : (b : ℕ) → get_or w.points b None ≡ look l a b
  unfolding look
  points_held b =
      let ls = (laid l).links in
      ap (λ (row : List (Option ℕ)). get_or row b None) ways_at
      ∙ ⊎_elim (λ k. along_at ls a b k) (λ k. along_past ls a b k ∙ look_none l a b (inr (omega (arith, l.drawing.few)))) (cases_lt b 32)

  pub neighbours_held : Neighbours l a (take w.count w.ends)
  neighbours_held =
      let led : ℕ → Bool = λ b. is_some (get_or w.points b None) in
      let p = passing_has led 32 in
      subst (λ (xs : List ℕ). Neighbours l a xs) (sym w.listed)
      (record {
        rising = p.rising;
        linked = λ i k. ap is_some (sym (points_held (get_or (passing led 32) i 0))) ∙ p.passes i k;
        every = λ b s. let k = look_on l a b s in p.every b (omega (arith, k.1, l.drawing.few)) (ap is_some (points_held b) ∙ s);
      })

-- the sections below 32 that a link leads to are all
pub neighbours_of_lem : (l : Layout) (a : ℕ) → Neighbours l a (neighbours_of (laid l).links a)
unfolding look neighbours_of
neighbours_of_lem l a =
    let p = passing_has (λ b. is_some (look l a b)) 32 in
    record {
      rising = p.rising;
      linked = p.passes;
      every = λ b h. let k = look_on l a b h in p.every b (omega (arith, k.1, l.drawing.few)) h;
    }

pub no_neighbours : (l : Layout) (a : ℕ) → (laid l).sections ≤ a → Neighbours l a []
no_neighbours l a h =
    record {
      rising = λ i j k m. absurd (omega arith);
      linked = λ i k. absurd (omega arith);
      every = λ b s. absurd (let k = look_on l a b s in omega (arith, k.0));
    }
