use Rattle.std.proofs.Common.{length}
use Rattle.std.proofs.lemmas.Bool.{both_ways}
use Rattle.sheets.specs.Inquiry.{inquired}
use Rattle.single_check.proofs.Stuck.{answered_stuck, answered_below}
use Rattle.single_check.proofs.as_search.CheckSearch.search.Goals as goal

pub returns-then-some_train_is_stuck-clause-the_answer_is_right : goal.returns-then-some_train_is_stuck-clause-the_answer_is_right
returns-then-some_train_is_stuck-clause-the_answer_is_right g c =
    let a = c.args.asked.now in
    let i = inquired g.R.Rule.conflicts g.S.Scale.measure a in
    let stuck = (c.some_train_is_stuck.ensures.true_exactly_if_some_train_is_stuck (g.R.Rule.conflicts a.rule.now a.question.now.layout.now)).to c.if-some_train_is_stuck.true in
    answered_stuck i (g.Q.Search.takes c.args.self.now.below i (length c.args.cells.now)) c.args.sheet.now stuck

pub returns-clause-the_answer_is_right : goal.returns-clause-the_answer_is_right
returns-clause-the_answer_is_right g c =
    let a = c.args.asked.now in
    let i = inquired g.R.Rule.conflicts g.S.Scale.measure a in
    let S = c.some_train_is_stuck.ensures.true_exactly_if_some_train_is_stuck (g.R.Rule.conflicts a.rule.now a.question.now.layout.now) in
    answered_below i (g.Q.Search.takes c.args.self.now.below i (length c.args.cells.now)) c.args.sheet.now c.search.new.sheet c.search.result (λ s. both_ways c.some_train_is_stuck.result c.if-some_train_is_stuck.false (S.back s)) c.search.ensures.the_answer_is_right

pub returns-then-some_train_is_stuck-clause-where_no_train_is_stuck_the_answer_is_that_of_below : goal.returns-then-some_train_is_stuck-clause-where_no_train_is_stuck_the_answer_is_that_of_below
returns-then-some_train_is_stuck-clause-where_no_train_is_stuck_the_answer_is_that_of_below g c =
    let a = c.args.asked.now in
    let stuck = (c.some_train_is_stuck.ensures.true_exactly_if_some_train_is_stuck (g.R.Rule.conflicts a.rule.now a.question.now.layout.now)).to c.if-some_train_is_stuck.true in
    λ free. absurd (free stuck)

pub returns-clause-where_a_train_is_stuck_there_is_no_sheet : goal.returns-clause-where_a_train_is_stuck_there_is_no_sheet
returns-clause-where_a_train_is_stuck_there_is_no_sheet g c =
    let a = c.args.asked.now in
    let S = c.some_train_is_stuck.ensures.true_exactly_if_some_train_is_stuck (g.R.Rule.conflicts a.rule.now a.question.now.layout.now) in
    λ s. absurd (both_ways c.some_train_is_stuck.result c.if-some_train_is_stuck.false (S.back s))

pub returns-clause-where_a_train_is_stuck_it_asks_nothing_and_changes_nothing : goal.returns-clause-where_a_train_is_stuck_it_asks_nothing_and_changes_nothing
returns-clause-where_a_train_is_stuck_it_asks_nothing_and_changes_nothing g c =
    let a = c.args.asked.now in
    let S = c.some_train_is_stuck.ensures.true_exactly_if_some_train_is_stuck (g.R.Rule.conflicts a.rule.now a.question.now.layout.now) in
    λ s. absurd (both_ways c.some_train_is_stuck.result c.if-some_train_is_stuck.false (S.back s))
