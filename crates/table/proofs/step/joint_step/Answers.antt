use Rattle.table.proofs.Following.{step_more}
use Rattle.table.proofs.step.joint_step.Goals as goal

pub loop-preserved : goal.loop-preserved
loop-preserved g c =
    let P = rw c.unwrap-pick.ensures at c.best_move.ensures.the_least_and_the_first_that_makes_it_up in
    rw c.after-turn.ensures.the_next_train_has_gone_there
    (step_more _ (g.met.S.Scale.lawful _) _ c.args.left c.args.at c.args.ahead.now.group.now.some c.args.ahead.now.group.now.few c.loop.counter c.loop.turn c.loop-test.true c.loop.invariant c.unwrap-pick.result P)
