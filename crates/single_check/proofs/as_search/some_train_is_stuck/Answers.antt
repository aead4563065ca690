use Rattle.std.proofs.Common.{true, false, rules, arith}
use Rattle.std.proofs.lemmas.Iterator.{YieldsList-from_range, cases_from_any}
use Rattle.single_check.proofs.Stuck.{Told, stuck_among}
use Rattle.single_check.proofs.as_search.some_train_is_stuck.Goals as goal

pub returns : goal.returns
returns c =
    let q = c.args.question.now in
    let n = c.count.result in
    let h = cases_from_any _ _ c.any.result (Told q true) (Told q false) c.any.ensures.ran (YieldsList-from_range 0 n n (cc) (omega arith)) (λ x f k. search rules) (λ x f k. search rules) in
    record { true_exactly_if_some_train_is_stuck = stuck_among q n c.count.ensures.as_many_as_there_are_rows c.any.result h }
