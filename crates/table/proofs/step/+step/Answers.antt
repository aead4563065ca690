use Rattle.std.proofs.Common.{◌≡◌, length, None, Some, sym, ap, ◌∙◌, arith, rules}
use Rattle.words.specs.Tasks.{task}
use Rattle.table.proofs.Choosing.{filled_more, row_move, row_none, picked_on}
use Rattle.table.proofs.step.+step.Goals as goal

pub best_move-returns-in_err-place : goal.best_move-returns-in_err-place
best_move-returns-in_err-place g t c =
    let e : c.loop-i.i ≡ length c.items-sections.result.now = omega (arith, c.loop-i-test.false, c.loop-i.auto) in
    record {
      the_least_and_the_first_that_makes_it_up = rw c.from_residual.ensures
          (picked_on g.R.Rule.conflicts c.args.ahead.now.group.now.board _ (g.met.S.Scale.lawful _) c.args.turn c.requires.yet_to_move (search rules) (search rules) _ c.items-sections.result.now c.loop-i.run c.loop-i.i None
          c.candidates-tries.ensures.just_the_sections_in_reach_in_rising_order c.items-sections.ensures.the_items_in_their_order c.loop-i.invariant e c.in_err-place.ensures.the_first_of_the_least);
    }

pub best_move-returns : goal.best_move-returns
best_move-returns g t c =
    let e : c.loop-i.i ≡ length c.items-sections.result.now = omega (arith, c.loop-i-test.false, c.loop-i.auto) in
    record {
      the_least_and_the_first_that_makes_it_up =
          picked_on g.R.Rule.conflicts c.args.ahead.now.group.now.board _ (g.met.S.Scale.lawful _) c.args.turn c.requires.yet_to_move (search rules) (search rules) _ c.items-sections.result.now c.loop-i.run c.loop-i.i (Some (c.in_ok-place.place, c.in_ok-place.cost))
          c.candidates-tries.ensures.just_the_sections_in_reach_in_rising_order c.items-sections.ensures.the_items_in_their_order c.loop-i.invariant e c.in_ok-place.ensures.the_first_of_the_least;
    }

pub move_cost-returns-then-not-may_move : goal.move_cost-returns-then-not-may_move
move_cost-returns-then-not-may_move g t c = record {
  the_price_joined_with_the_rest = row_none _ _ c.args.turn c.requires.yet_to_move (search rules) (search rules) c.args.x (sym c.if-not-may_move.ensures.whether_the_move_is_open_and_meets_no_conflict);
}

pub move_cost-returns-in_err-rest : goal.move_cost-returns-in_err-rest
move_cost-returns-in_err-rest g t c = record {
  the_price_joined_with_the_rest = c.from_residual.ensures
      ∙ row_move (g.S.Scale.measure c.args.ahead.now.group.now.board.scale.now) (task g.R.Rule.conflicts c.args.ahead.now.group.now.board) c.args.turn c.requires.yet_to_move (search rules) (search rules) c.args.x None
      (sym c.if-not-may_move.ensures.whether_the_move_is_open_and_meets_no_conflict) (rw c.after.ensures.the_next_train_has_gone_there at c.in_err-rest.ensures.the_least_cost_of_the_rest);
}

pub move_cost-returns : goal.move_cost-returns
move_cost-returns g t c =
    let S = g.S.Scale.measure c.args.ahead.now.group.now.board.scale.now in
    record {
      the_price_joined_with_the_rest = ap Some (c.join.ensures.both_costs_together ∙ ap (λ p. S.join p c.in_ok-rest.rest) c.move_price-price.ensures.the_price_of_the_move)
          ∙ row_move S (task g.R.Rule.conflicts c.args.ahead.now.group.now.board) c.args.turn c.requires.yet_to_move (search rules) (search rules) c.args.x (Some c.in_ok-rest.rest)
          (sym c.if-not-may_move.ensures.whether_the_move_is_open_and_meets_no_conflict) (rw c.after.ensures.the_next_train_has_gone_there at c.in_ok-rest.ensures.the_least_cost_of_the_rest);
    }

pub best_move-loop-i-preserved : goal.best_move-loop-i-preserved
best_move-loop-i-preserved g t c =
    filled_more _ _ c.args.turn c.items-sections.result.now c.loop-i.i c.loop-i.run c.move_cost.result c.loop-i.invariant
    (omega (arith, c.loop-i-test.true, ap length c.items-sections.ensures.the_items_in_their_order, c.candidates-tries.ensures.just_the_sections_in_reach_in_rising_order.few))
    c.move_cost.ensures.the_price_joined_with_the_rest
