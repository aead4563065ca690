use Rattle.std.proofs.Common.{true, ap, ◌∙◌, subst, arith}
use Rattle.roster.specs.Model.{closed_of}
use Rattle.sheets.specs.Inquiry.{problem_asked}
use Rattle.sheets.proofs.Posed.{posed_of}
use Rattle.single_check.specs.Ways.{FewestBetween}
use Rattle.single_check.proofs.reach.fewest_steps.Goals as goal

pub fewest_between-requires : goal.fewest_between-requires
fewest_between-requires c =
    let q = c.args.question.now in
    let on = c.in_ok-train.ensures.a_row_has_its_start_and_goal in
    let posed = posed_of (λ _ _ _ _. true) q in
    let start_inside = posed.start_inside c.args.row on.inside in
    let goal_inside = posed.goal_inside c.args.row on.inside in
    let start_open = ap (closed_of q.roster.now) on.start ∙ posed.start_open c.args.row on.inside in
    let goal_open = ap (closed_of q.roster.now) on.goal ∙ posed.goal_open c.args.row on.inside in
    record { start_inside = omega (arith, start_inside, goal_inside, on.start, on.goal); start_open = cc; goal_inside = omega (arith, start_inside, goal_inside, on.start, on.goal) }

pub returns-clause-the_fewest_steps_in_which_the_train_reaches_its_goal : goal.returns-clause-the_fewest_steps_in_which_the_train_reaches_its_goal
returns-clause-the_fewest_steps_in_which_the_train_reaches_its_goal c = λ k h.
    let q = c.args.question.now in
    let on = c.in_ok-train.ensures.a_row_has_its_start_and_goal in
    let found = c.fewest_between.result in
    let Q = problem_asked k q in
    subst (λ b. FewestBetween Q (Q.start c.args.row) b found) on.goal (subst (λ a. FewestBetween Q a c.in_ok-train.train.goal found) on.start (c.fewest_between.ensures.the_fewest_steps_from_one_to_the_other k))
