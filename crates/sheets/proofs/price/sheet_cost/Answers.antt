use Rattle.std.proofs.Common.{◌≡◌, ℕ, ◌≤◌, cond, false, length, get_or, refl, sym, ap, ◌∙◌, ap₂, subst, arith}
use Rattle.std.proofs.lemmas.Bool.{cond-true, cond-false}
use Rattle.std.proofs.lemmas.Iterator.{YieldsList-from_slice, YieldsList-from_zip}
use Rattle.std.proofs.lemmas.Iterator.Consumers.{YieldsList-at, YieldsList-turn, YieldsList-end}
use Rattle.std.proofs.lemmas.List.{get_or_default, length_push}
use Rattle.std.proofs.lemmas.Slice.Zip.{length-zip}
use Rattle.std.specs.List.{zip}
use Rattle.roster.specs.Model.{rows_of}
use Rattle.scales.specs.Measure.{joined}
use Rattle.scales.proofs.Joins.{joined_more}
use Rattle.sheets.specs.Plan.{cost, row_cost}
use Rattle.sheets.specs.Posing.{marked}
use Rattle.sheets.specs.Inquiry.{problem_asked, plan_of}
use Rattle.rules.specs.Conflicts.{Conflicts, following}
use Rattle.rules.specs.Lawful.{following_laws}
use Rattle.sheets.proofs.Costs.{cost_size}
use Rattle.sheets.proofs.Posed.{laws_of}
use Rattle.sheets.proofs.Rows.{of_row, row_told}
use Rattle.sheets.proofs.price.sheet_cost.Goals as goal
use Rattle.sheets.proofs.price.sheet_cost.Goals.{then-member, else-member}

pub loop-train-preserved : goal.loop-train-preserved
loop-train-preserved g c k =
    let S = g.S.Scale.measure c.args.scale.now in
    let q = c.args.question.now in
    let i = length c.loop-train.yielded in
    let h =
    of_row _ _ _ _ _ _ _
    (YieldsList-turn
    (YieldsList-at c.into_iter-train-iterator.ensures.into_iter_gives
    (YieldsList-from_zip
    (YieldsList-at c.zip-train-items.ensures.first (YieldsList-from_zip (YieldsList-at c.zip.ensures.first (YieldsList-from_slice c.trains.result.now cc)) (YieldsList-from_slice c.marks.result.now cc)))
    (YieldsList-from_slice c.args.sheet.now.rows cc)))
    c.loop-train.yielded _ c.loop-train.yielded_by _ c.next.new.self ((c.in-Some.train, c.in-Some.member), c.in-Some.sections) c.in-Some.is c.next.ensures.steps) in
    let row = row_cost S (problem_asked k q) (plan_of c.args.sheet.now) i in
    let book = c.trains.ensures.the_trains_of_the_book in
    let told = row_told S k q c.args.sheet.now i c.in-Some.train.now c.in-Some.sections.now
    (omega (arith, h.a_train, ap length book)) h.a_row (h.train ∙ ap (λ ts. get_or ts i c.in-Some.train.now) book) h.sections in
    let same : c.in-Some.member.now ≡ marked q.group i = h.mark ∙ get_or_default c.marks.result.now i c.in-Some.member.now false h.a_mark ∙ c.marks.ensures.as_the_group_is_marked i (omega (arith, h.a_mark, c.marks.ensures.one_mark_for_each_train)) in
    let part : c.if-member.part ≡ cond (marked q.group i) row S.nothing = elim c.if-member.branch [
      | then-member w ↦ w.part-is ∙ w.steps_cost-part.ensures.the_prices_of_the_steps_joined ∙ told ∙ sym (cond-true _ _ _ (sym same ∙ w.if-member.true))
      | else-member w ↦ w.part-is ∙ w.nothing-part.ensures.the_cost_of_no_step ∙ sym (cond-false _ _ _ (sym same ∙ w.if-member.false))
    ] in
    c.join-total.ensures.both_costs_together ∙ ap₂ S.join (c.loop-train.invariant k) part ∙ sym (joined_more S i _)
    ∙ ap (λ (n : ℕ). joined S n (λ r. cond (marked q.group r) (row_cost S (problem_asked k q) (plan_of c.args.sheet.now) r) S.nothing)) (sym (length_push c.loop-train.yielded _))

pub returns : goal.returns
unfolding cost
returns g c =
    let S = g.S.Scale.measure c.args.scale.now in
    let q = c.args.question.now in
    let x = plan_of c.args.sheet.now in
    let all =
    YieldsList-end
    (YieldsList-at c.into_iter-train-iterator.ensures.into_iter_gives
    (YieldsList-from_zip
    (YieldsList-at c.zip-train-items.ensures.first (YieldsList-from_zip (YieldsList-at c.zip.ensures.first (YieldsList-from_slice c.trains.result.now cc)) (YieldsList-from_slice c.marks.result.now cc)))
    (YieldsList-from_slice c.args.sheet.now.rows cc)))
    c.loop-train.yielded _ c.loop-train.yielded_by _ c.next.new.self c.in-None.is c.next.ensures.steps in
    let eight : length c.args.sheet.now.rows ≡ 8 = omega arith in
    let e : length c.loop-train.yielded ≡ rows_of q.roster.now = omega (arith, all.1, length-zip (zip c.trains.result.now c.marks.result.now) c.args.sheet.now.rows, length-zip c.trains.result.now c.marks.result.now, eight, c.marks.ensures.one_mark_for_each_train, c.trains.ensures.as_many_as_there_are_rows, c.trains.ensures.at_most_eight) in
    let whole : (k : Conflicts) → c.loop-train.total ≡ joined S (rows_of q.roster.now) (λ r. cond (marked q.group r) (row_cost S (problem_asked k q) x r) S.nothing) =
    λ k. c.loop-train.invariant k
    ∙ ap (λ (n : ℕ). joined S n (λ r. cond (marked q.group r) (row_cost S (problem_asked k q) x r) S.nothing)) e in
    let still : Conflicts = λ a b c d. false in
    let laws = laws_of (following still) (following_laws still (λ a b c d. refl)) q in
    record {
      at_most_2048_in_size = subst (λ v. S.size v ≤ 2048) (sym (whole (following still))) (cost_size S (g.met.S.Scale.lawful c.args.scale.now) (problem_asked (following still) q) laws (marked q.group) x);
      the_prices_of_all_steps_of_the_group_joined = whole;
    }
