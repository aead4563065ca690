use Rattle.std.proofs.Common.{◌+◌, ◌∙◌, arith}
use Rattle.std.proofs.lemmas.List.Edits.{fill_by_more}
use Rattle.words.specs.Tasks.{task}
use Rattle.table.specs.Columns.{due}
use Rattle.table.proofs.Worksheets.{ready_start, filled_tells, due_next}
use Rattle.table.proofs.fill.fill_next.Goals as goal

pub invariant_of-ahead : goal.invariant_of-ahead
invariant_of-ahead g c = record { knows = ∣ filled_tells g.R.Rule.conflicts _ c.args.filled.now c.args.left c.requires.cells c.requires.columns ∣₁ }

pub least_rest-requires-clause-ready : goal.least_rest-requires-clause-ready
least_rest-requires-clause-ready g c =
    rw c.begin.ensures.no_train_has_moved (ready_start g.R.Rule.conflicts c.args.filled.now.positions.now c.args.left c.loop-code.code c.decode-at.result (omega (arith, c.loop-code-test.true, c.requires.a_cell_each)) c.decode-at.ensures.the_digits_of_the_code)

pub loop-code-preserved : goal.loop-code-preserved
loop-code-preserved g c =
    let S = g.S.Scale.measure c.args.filled.now.positions.now.group.now.board.scale.now in
    let K = task g.R.Rule.conflicts c.args.filled.now.positions.now.group.now.board in
    let d = c.decode-at.ensures.the_digits_of_the_code in
    let e = rw c.begin.ensures.no_train_has_moved at c.least_rest.ensures.the_least_cost_of_the_rest in
    rw (e ∙ due_next S K c.args.left c.loop-code.code c.decode-at.result c.args.filled.now.positions.now.group.now.some d)
    (fill_by_more (due S K (c.args.left + 1)) c.loop-code.column c.loop-code.code _ (omega (arith, c.loop-code-test.true, c.loop-code.auto.column)) c.loop-code.invariant)
