use Rattle.std.proofs.Common.{true}
use Rattle.sheets.proofs.Posed.{sound}
use Rattle.words.proofs.Solving.{trains_some, trains_most, starts_on}
use Rattle.words.proofs.group.Group.of.Goals as goal

pub invariant_of-result-clause-some : goal.invariant_of-result-clause-some
invariant_of-result-clause-some g c = trains_some (λ l a b d e. true) c.args.asked.now.question.now _ c.choose-trains.ensures.the_rows_of_the_group_in_rising_order

pub invariant_of-result-clause-few : goal.invariant_of-result-clause-few
invariant_of-result-clause-few g c = trains_most (λ l a b d e. true) c.args.asked.now.question.now _ c.choose-trains.ensures.the_rows_of_the_group_in_rising_order

pub invariant_of-result-clause-begun : goal.invariant_of-result-clause-begun
invariant_of-result-clause-begun g c = (sound c.args.asked.now.question.now).steps_some

pub invariant_of-result-clause-short : goal.invariant_of-result-clause-short
invariant_of-result-clause-short g c = (sound c.args.asked.now.question.now).steps_most

pub invariant_of-result-clause-starts : goal.invariant_of-result-clause-starts
invariant_of-result-clause-starts g c = starts_on (λ l a b d e. true) c.args.asked.now.question.now _ c.choose-trains.ensures.the_rows_of_the_group_in_rising_order
