use Rattle.std.proofs.Common.{arith}
use Rattle.roster.proofs.Laws.{rows_most}
use Rattle.sheets.specs.Inquiry.{problem_asked}
use Rattle.sheets.specs.Posing.{marked}
use Rattle.single_check.proofs.Stuck.{stuck_exactly}
use Rattle.single_check.proofs.as_search.is_stuck.Goals as goal

pub bounds-question-row : goal.bounds-question-row
bounds-question-row c = omega (arith, c.requires, rows_most c.args.question.now.roster.now)

pub returns-then-member : goal.returns-then-member
returns-then-member c =
    let q = c.args.question.now in
    record {
      true_exactly_if_the_train_is_stuck = λ k. stuck_exactly (problem_asked k q) (marked q.group) c.args.row c.fewest_steps.result c.is_none.result (record { a_row = c.requires; of_group = c.if-member.true }) (c.fewest_steps.ensures.the_fewest_steps_in_which_the_train_reaches_its_goal k (omega (arith, c.requires))) c.is_none.ensures;
    }
