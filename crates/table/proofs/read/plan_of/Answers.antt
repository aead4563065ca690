use Rattle.std.proofs.Common.{◌≡◌, ℕ, ◌+◌, ◌-◌, ◌*◌, ◌≤◌, ◌++◌, take, length, ap, ◌∙◌, mul-le-mul, arith, length-append, length-take, length-drop, rules}
use Rattle.std.proofs.lemmas.Slice.{take-put_mid}
use Rattle.table.proofs.Following.{follow_more, follow_end}
use Rattle.table.proofs.read.plan_of.Goals as goal

pub loop-t-preserved : goal.loop-t-preserved
loop-t-preserved g c =
    let F = c.loop-t.invariant in
    let h : c.loop-t.t ≤ 15 = omega (arith, c.loop-t-test.true, c.args.ahead.now.group.now.short) in
    let m : c.args.ahead.now.group.now.board.trains * c.loop-t.t ≤ 8 * 15 = mul-le-mul c.args.ahead.now.group.now.few h in
    let k : length (take c.args.ahead.now.group.now.board.trains c.joint_step-at.result) ≡ c.args.ahead.now.group.now.board.trains = search rules in
    let e : c.copy_from_slice.new.self ≡ take c.args.ahead.now.group.now.board.trains c.joint_step-at.result = search rules in
    follow_more _ _ c.args.ahead.now.group.now.steps c.args.ahead.now.group.now.start c.loop-t.t c.loop-t.at c.loop-t.plan c.joint_step-at.result _ c.loop-t-test.true F c.joint_step-at.ensures.the_best_word_goes_on_from_there
    (omega (arith, length-append {A = ℕ}, length-take {A = ℕ}, length-drop {A = ℕ}, F.long, ap length e, c.args.ahead.now.group.now.few))
    (take-put_mid (c.args.ahead.now.group.now.board.trains * c.loop-t.t) (c.args.ahead.now.group.now.board.trains * c.loop-t.t + c.args.ahead.now.group.now.board.trains - c.args.ahead.now.group.now.board.trains * c.loop-t.t) c.loop-t.plan c.copy_from_slice.new.self (c.args.ahead.now.group.now.board.trains * c.loop-t.t + c.args.ahead.now.group.now.board.trains)
    (omega (arith, ap length e)) (omega (arith, F.long, c.args.ahead.now.group.now.few))
    ∙ ap (λ z. take (c.args.ahead.now.group.now.board.trains * c.loop-t.t) c.loop-t.plan ++ z) e)

pub returns : goal.returns
returns g c = record {
  the_best_word = (let e : c.loop-t.t ≡ c.args.ahead.now.group.now.steps = omega (arith, c.loop-t-test.false, c.loop-t.auto) in
      follow_end _ _ c.args.ahead.now.group.now.steps c.args.ahead.now.group.now.start c.loop-t.t c.loop-t.at c.loop-t.plan e c.loop-t.invariant);
}
