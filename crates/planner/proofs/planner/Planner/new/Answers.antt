use Rattle.std.proofs.Common.{refl}
use Rattle.track.specs.Layouts.{sections_of}
use Rattle.roster.specs.Model.{seen}
use Rattle.planner.specs.History.{meaning}
use Rattle.planner.proofs.Choice.{made_keeps}
use Rattle.planner.proofs.Placed.{empty_placed}
use Rattle.planner.proofs.Closed.{empty_inside}
use Rattle.planner.proofs.planner.Planner.new.Goals as goal

pub invariant_of-result : goal.invariant_of-result
invariant_of-result g c =
    let n = sections_of c.args.layout in
    let e = c.new-roster.ensures.nothing_is_entered_or_closed in
    record { placed = empty_placed n (seen c.new-roster.result) e; closed_inside = empty_inside n (seen c.new-roster.result) e }

pub returns : goal.returns
returns g c =
    let k = meaning g.R.Rule.conflicts g.S.Scale.measure g.Q.Search.takes in
    let m = made_keeps k g.met.R.Rule.lawful g.met.S.Scale.lawful _ c.new-roster.ensures.nothing_is_entered_or_closed in
    record {
      it_has_these_parts = (refl, refl, refl, c.over-search.ensures.it_asks_that_search);
      no_train_is_entered_and_nothing_is_closed = m.history;
      every_run_follows_the_book_with_sheets_lawful_cheapest_and_first = m.runs;
      the_promise_leaves_no_choice = m.no_choice;
    }
