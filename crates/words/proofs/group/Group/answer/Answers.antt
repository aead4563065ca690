use Rattle.std.proofs.Common.{◌≡◌, Some, None, Err, refl, rules}
use Rattle.search.specs.declared.answer.Unplanned.TheVariants.{NoSheet}
use Rattle.words.proofs.Solving.{rows, none_lawful, solved_by}
use Rattle.words.specs.Rows.{chosen_of}
use Rattle.words.proofs.group.Group.answer.Goals as goal

pub write-requires-clause-rows : goal.write-requires-clause-rows
write-requires-clause-rows g c =
    let b = c.args.self.now in
    rw c.rows.ensures.its_rows (rows (g.R.Rule.conflicts b.board.rule.now) b.question.now _ b.chosen)

pub returns-in_err-found : goal.returns-in_err-found
returns-in_err-found g c =
    let b = c.args.self.now in
    let none : c.args.found ≡ None = search rules in
    let F = rw (none, b.on_its_layout, b.of_its_roster, b.in_its_steps) at c.requires.solved in
    let n = none_lawful (g.R.Rule.conflicts b.board.rule.now) b.question.now (chosen_of b.board.trains b.row b.start b.board.goal) b.chosen (g.S.Scale.measure b.board.scale.now) (g.met.S.Scale.lawful b.board.scale.now)
    (g.met.R.Rule.lawful b.board.rule.now b.question.now.layout.now) F in
    let e : c.from_residual.result ≡ Err NoSheet = search rules in
    record { the_answer_is_right = rw e (tt, refl, n) }

pub returns : goal.returns
returns g c =
    let b = c.args.self.now in
    let some : c.args.found ≡ Some c.in_ok-found.found = search rules in
    let F = rw (some, b.on_its_layout, b.of_its_roster, b.in_its_steps) at c.requires.solved in
    let W = rw (c.rows.ensures.its_rows, b.in_its_steps) at c.write.ensures.the_plan_and_nothing_else_is_written in
    record {
      the_answer_is_right = (
        tt,
        solved_by (g.R.Rule.conflicts b.board.rule.now) b.question.now (chosen_of b.board.trains b.row b.start b.board.goal) b.chosen (g.S.Scale.measure b.board.scale.now) (g.met.S.Scale.lawful b.board.scale.now)
            (g.met.R.Rule.lawful b.board.rule.now b.question.now.layout.now) c.in_ok-found.found c.args.sheet.now c.write.new.sheet F W,
      );
    }
