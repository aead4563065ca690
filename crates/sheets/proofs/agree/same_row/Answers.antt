use Rattle.std.proofs.Common.{◌∙◌, rules}
use Rattle.sheets.proofs.Tables.{front_same}
use Rattle.sheets.proofs.agree.same_row.Goals as goal

pub returns : goal.returns
returns c = record { whether_the_rows_are_the_same = c.eq.ensures ∙ front_same _ c.args.x c.args.y c.args.times (search rules) (search rules) }
