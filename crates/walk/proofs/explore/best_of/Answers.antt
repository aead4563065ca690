use Rattle.walk.proofs.Whole.{ready, solution}
use Rattle.walk.proofs.explore.best_of.Goals as goal

pub explore-requires : goal.explore-requires
explore-requires g c =
    rw c.begin.ensures.no_train_has_moved (ready g.R.Rule.conflicts c.args.group.now (g.S.Scale.measure c.args.group.now.board.scale.now) (g.met.S.Scale.lawful c.args.group.now.board.scale.now) c.nothing.result c.nothing.ensures.the_cost_of_no_step)

pub returns : goal.returns
returns g c =
    let W = rw c.begin.ensures.no_train_has_moved at c.explore.ensures.the_best_that_stays_below_the_bound in
    record {
      the_least_cost_and_the_first_word_of_it = solution g.R.Rule.conflicts c.args.group.now (g.S.Scale.measure c.args.group.now.board.scale.now) (g.met.S.Scale.lawful c.args.group.now.board.scale.now)
          c.nothing.result c.explore.result c.nothing.ensures.the_cost_of_no_step W;
    }
