use Rattle.grouping.proofs.Rows.{some_rows}
use Rattle.grouping.proofs.joining.ask_for.Goals as goal

pub invariant_of-part : goal.invariant_of-part
invariant_of-part g c = record { sound = some_rows c.args.asked.now.question.now c.args.marks c.requires.some_rows }
