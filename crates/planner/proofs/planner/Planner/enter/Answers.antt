use Rattle.std.proofs.Common.{refl}
use Rattle.roster.specs.Book.{entry_of}
use Rattle.planner.specs.Promise.{accepted}
use Rattle.planner.specs.History.{meaning, event, says_done}
use Rattle.planner.specs.Left.{OnlyTheRosterChanges}
use Rattle.planner.proofs.Called.{still_placed, still_inside, book_after, from_book, planner_as_it_was, done_says}
use Rattle.planner.proofs.Runs.{step_of}
use Rattle.planner.proofs.planner.Planner.enter.Goals as goal

pub invariant_of-self : goal.invariant_of-self
invariant_of-self g c =
    let k = meaning g.R.Rule.conflicts g.S.Scale.measure g.Q.Search.takes in
    let p = c.args.self.now in
    let e = c.enter.ensures in
    record {
      placed = still_placed k p (entry_of c.args.train) c.enter.result e.the_first_condition_met_declines c.enter.new.self e.just_the_train_is_entered_or_nothing;
      closed_inside = still_inside k p (entry_of c.args.train) c.enter.result e.the_first_condition_met_declines c.enter.new.self e.just_the_train_is_entered_or_nothing;
    }

pub returns : goal.returns
returns g c =
    let k = meaning g.R.Rule.conflicts g.S.Scale.measure g.Q.Search.takes in
    let p = c.args.self.now in
    let r = c.enter.result in
    let e = c.enter.ensures in
    let only : OnlyTheRosterChanges p (entry_of c.args.train) _ = record { layout = refl; rule = refl; scale = refl; search = refl; book = book_after k p (entry_of c.args.train) r e.the_first_condition_met_declines c.enter.new.self e.just_the_train_is_entered_or_nothing } in
    let kept = from_book k p (entry_of c.args.train) r e.the_first_condition_met_declines c.enter.new.self e.just_the_train_is_entered_or_nothing accepted (says_done r) (done_says r) in
    record {
      the_first_condition_met_declines = e.the_first_condition_met_declines;
      only_the_roster_changes_as_the_book_says = only;
      a_declined_call_leaves_the_planner_as_it_was = planner_as_it_was p _ r refl refl refl refl e.a_declined_call_leaves_the_roster_as_it_was;
      the_reply_is_that_of_the_book_at_hand = kept;
      after_any_calls_the_reply_is_that_of_the_book = λ s. step_of k p _ (event (entry_of c.args.train) (says_done r) s s) (kept s) only;
    }
