use Rattle.std.proofs.Common.{ℕ, ◌+◌, ◌-◌, ◌&&◌, eqb, get_or, take, drop, length, sym, ap, ◌∙◌, ap₂}
use Rattle.std.proofs.lemmas.Iterator.{YieldsList-from_slice, YieldsList-from_zip}
use Rattle.std.proofs.lemmas.Iterator.Consumers.{YieldsList-at, YieldsList-turn}
use Rattle.std.proofs.lemmas.List.{length_push}
use Rattle.scales.specs.Measure.{joined}
use Rattle.scales.proofs.Joins.{joined_more}
use Rattle.sheets.specs.Inquiry.{over}
use Rattle.sheets.proofs.Rows.{next_to}
use Rattle.sheets.proofs.price.steps_cost.Goals as goal

pub loop-at-preserved : goal.loop-at-preserved
loop-at-preserved g c =
    let S = g.S.Scale.measure c.args.scale.now in
    let x = c.args.sections in
    let l = c.args.question.now.layout.now in
    let n = c.times.result - 1 in
    let i = length c.loop-at.yielded in
    let read =
    next_to x n i _ _
    (YieldsList-turn
    (YieldsList-at c.into_iter-at-iterator.ensures.into_iter_gives (YieldsList-from_zip (YieldsList-at c.zip-at-items.ensures.first (YieldsList-from_slice x cc)) (YieldsList-from_slice (take n (drop 1 x)) cc)))
    c.loop-at.yielded _ c.loop-at.yielded_by _ c.next.new.self (c.in-Some.at, c.in-Some.to) c.in-Some.is c.next.ensures.steps) in
    let price = λ (a b : ℕ). S.price (over l a b) (eqb a c.args.goal && eqb b c.args.goal) in
    let priced = c.move_price.ensures.the_price_of_its_points_and_of_standing_at_the_goal ∙ ap₂ price (c.new.ensures.it_begins_there ∙ read.0) (c.new.ensures.it_ends_there ∙ read.1) in
    c.join-total.ensures.both_costs_together ∙ ap₂ S.join c.loop-at.invariant priced ∙ sym (joined_more S i _)
    ∙ ap (λ (k : ℕ). joined S k (λ t. price (get_or x t 0) (get_or x (t + 1) 0))) (sym (length_push c.loop-at.yielded _))
