use Rattle.std.proofs.Common.{◌≡◌, cond, Some, None, ◌∙◌, arith, rules}
use Rattle.std.proofs.lemmas.List.Edits.{fill_by_more}
use Rattle.words.specs.Tasks.{task}
use Rattle.table.specs.Columns.{due}
use Rattle.table.proofs.Worksheets.{home_due}
use Rattle.table.proofs.fill.fill_last.Goals as goal

pub loop-code-preserved : goal.loop-code-preserved
loop-code-preserved g c =
    let S = g.S.Scale.measure c.args.positions.now.group.now.board.scale.now in
    let K = task g.R.Rule.conflicts c.args.positions.now.group.now.board in
    let d = c.decode-at.ensures.the_digits_of_the_code in
    let e : c.then.result ≡ cond c.all_home.result (Some S.nothing) None = search rules in
    rw (e ∙ home_due S K c.loop-code.code c.decode-at.result c.all_home.result d c.all_home.ensures.whether_every_train_is_at_its_goal)
    (fill_by_more (due S K 0) c.loop-code.column c.loop-code.code _ (omega (arith, c.loop-code-test.true, c.loop-code.auto.column)) c.loop-code.invariant)
