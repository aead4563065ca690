use Rattle.std.proofs.Common.{is_some, ap, ◌∙◌}
use Rattle.roster.specs.Model.{held}
use Rattle.roster.proofs.Order.{found_taken}
use Rattle.roster.proofs.roster.Roster.number_taken.Goals as goal

pub returns : goal.returns
returns c =
    record { whether_a_train_has_the_number = c.is_some.ensures ∙ ap is_some c.find.ensures.the_first_row_with_the_number ∙ found_taken c.args.number 0 (held c.args.self.now) }
