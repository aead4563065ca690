use Rattle.std.proofs.Common.{arith}
use Rattle.sheets.proofs.Posed.{sound}
use Rattle.sheets.proofs.question.Question.times.Goals as goal

pub overflow_add-result : goal.overflow_add-result
overflow_add-result c = omega (arith, (sound c.args.self.now).steps_most)

pub returns-clause-at_most_seventeen : goal.returns-clause-at_most_seventeen
returns-clause-at_most_seventeen c = omega (arith, (sound c.args.self.now).steps_most)
