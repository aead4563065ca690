use Rattle.std.proofs.Common.{◌≡◌, ℕ, ◌+◌, ◌<◌, Bool, List, [], ◌∷◌, ◌++◌, ◌∙◌, is_some, length, take, get_or, None, refl, sym, ap, arith, rules, tests}
use Rattle.std.proofs.lemmas.Iterator.{YieldsList-from_range}
use Rattle.std.proofs.lemmas.Iterator.Consumers.{YieldsList-at, YieldsList-from_filter, YieldsList-turn, YieldsList-end}
use Rattle.std.proofs.lemmas.List.{map-id, length-set, take_more_set, length_push}
use Rattle.track.specs.Ways.{passing}
use Rattle.track.proofs.Passing.{few}
use Rattle.track.proofs.ways.Ways.over.Goals as goal
use Rattle.track.proofs.ways.Ways.over.Goals.{In-Some}

-- a place is left for each section that a way leads to
room : (c : In-Some) → c.loop-b.count < 32
room c =
    let led : ℕ → Bool = λ b. is_some (get_or c.points_from-points.result b None) in
    let most = few led 32 in
    let turn = YieldsList-turn
    (YieldsList-at c.into_iter-b-iterator.ensures.into_iter_gives
    (YieldsList-from_filter _ led (YieldsList-from_range 0 32 32 (cc) refl) c.filter-b-items.ensures.closure (λ x b q k. search (rules, tests))))
    c.loop-b.yielded _ c.loop-b.yielded_by _ c.next.new.self c.in-Some.b c.in-Some.is c.next.ensures.steps in
    omega (arith, most, turn.0, c.loop-b.invariant.1)

pub bounds-ends-count : goal.bounds-ends-count
bounds-ends-count c = room c

pub overflow_add-count : goal.overflow_add-count
overflow_add-count c = let r = room c in omega (arith, r)

pub loop-b-preserved : goal.loop-b-preserved
loop-b-preserved c =
    let ys = c.loop-b.yielded in
    let r = room c in
    let whole = c.loop-b.invariant.0 in (
      simp length-set whole,
      omega (arith, c.loop-b.invariant.1, length_push ys c.in-Some.b),
      take_more_set c.loop-b.ends c.loop-b.count c.in-Some.b (omega (arith, whole, r)) ∙ ap (λ (xs : List ℕ). xs ++ c.in-Some.b ∷ []) c.loop-b.invariant.2,
    )

pub invariant_of-result : goal.invariant_of-result
unfolding passing
invariant_of-result c =
    let led : ℕ → Bool = λ b. is_some (get_or c.points_from-points.result b None) in
    let most = few led 32 in
    let all = YieldsList-end
    (YieldsList-at c.into_iter-b-iterator.ensures.into_iter_gives
    (YieldsList-from_filter _ led (YieldsList-from_range 0 32 32 (cc) refl) c.filter-b-items.ensures.closure (λ x b q k. search (rules, tests))))
    c.loop-b.yielded _ c.loop-b.yielded_by _ c.next.new.self c.in-None.is c.next.ensures.steps in
    record { room = omega (arith, most, all.1, c.loop-b.invariant.1); listed = c.loop-b.invariant.2 ∙ sym (map-id c.loop-b.yielded) ∙ all.0 }
