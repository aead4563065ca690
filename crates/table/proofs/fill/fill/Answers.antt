use Rattle.std.proofs.Common.{◌≡◌, ◌+◌, ◌*◌, ◌≤◌, length, sym, subst, mul-le-mul, arith, rules}
use Rattle.words.specs.Tasks.{task}
use Rattle.table.specs.Columns.{Columns}
use Rattle.table.proofs.Worksheets.{columns_front, columns_more}
use Rattle.table.proofs.fill.fill.Goals as goal

pub fill_next-requires-clause-columns : goal.fill_next-requires-clause-columns
fill_next-requires-clause-columns g c =
    rw c.split_at_mut-done.ensures.front (columns_front (g.S.Scale.measure c.args.positions.now.group.now.board.scale.now) (task g.R.Rule.conflicts c.args.positions.now.group.now.board) c.args.positions.now.count c.loop-left.left c.loop-left.cells c.loop-left.invariant)

pub loop-left-preserved : goal.loop-left-preserved
loop-left-preserved g c =
    let S = g.S.Scale.measure c.args.positions.now.group.now.board.scale.now in
    let K = task g.R.Rule.conflicts c.args.positions.now.group.now.board in
    let n = c.args.positions.now.count in
    let a : c.loop-left.left + 1 ≤ c.args.positions.now.group.now.steps = omega (arith, c.loop-left-test.true) in
    let s : n ≤ n = omega arith in
    let m : (c.loop-left.left + 1) * n ≤ c.args.positions.now.group.now.steps * n = mul-le-mul a s in
    let h : n ≤ length c.split_at_mut-done.result.1.now = omega (arith, c.split_at_mut-done.ensures.back_len, c.requires.cells, c.loop-left.auto.cells) in
    let f : length c.fill_next.new.column ≡ n = search rules in
    columns_more S K n c.loop-left.left c.split_at_mut-done.result.0.now c.fill_next.new.column _ c.split_at_mut-done.ensures.front_len f
    (subst (Columns S K c.loop-left.left n) (sym c.split_at_mut-done.ensures.front) (columns_front S K n c.loop-left.left c.loop-left.cells c.loop-left.invariant)) c.fill_next.ensures.the_column_is_filled
