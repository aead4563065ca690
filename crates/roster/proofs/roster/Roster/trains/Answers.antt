use Rattle.std.proofs.Common.{ℕ, List, length, sym, subst, ap}
use Rattle.std.specs.List.{slice_get}
use Rattle.roster.proofs.Laws.{row_is}
use Rattle.roster.specs.Model.{rows_of, RowIs}
use Rattle.roster.specs.declared.train.Train.{Train}
use Rattle.roster.proofs.roster.Roster.trains.Goals as goal

pub returns-clause-as_many_as_there_are_rows : goal.returns-clause-as_many_as_there_are_rows
unfolding rows_of
returns-clause-as_many_as_there_are_rows c = ap length c.items.ensures.the_items_in_their_order

pub returns-clause-each_stands_on_its_row : goal.returns-clause-each_stands_on_its_row
returns-clause-each_stands_on_its_row c =
    let r = c.args.self.now in
    subst (λ (xs : List Train). (row : ℕ) → RowIs r row (slice_get xs row)) (sym c.items.ensures.the_items_in_their_order) (row_is r)
