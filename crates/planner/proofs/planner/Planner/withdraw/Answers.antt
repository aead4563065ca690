use Rattle.std.proofs.Common.{refl}
use Rattle.track.specs.Layouts.{sections_of}
use Rattle.roster.specs.Book.{withdraw}
use Rattle.planner.specs.Promise.{accepted}
use Rattle.planner.specs.History.{meaning, event, says_done}
use Rattle.planner.specs.Left.{OnlyTheRosterChanges}
use Rattle.planner.proofs.Called.{still_placed, still_inside, book_after, from_book, planner_as_it_was, done_says}
use Rattle.planner.proofs.Runs.{step_of}
use Rattle.planner.proofs.planner.Planner.withdraw.Goals as goal

pub invariant_of-self : goal.invariant_of-self
invariant_of-self g c =
    let k = meaning g.R.Rule.conflicts g.S.Scale.measure g.Q.Search.takes in
    let p = c.args.self.now in
    let e = c.withdraw.ensures in
    record {
      placed = still_placed k p (withdraw c.args.number) c.withdraw.result (e.the_first_condition_met_declines (sections_of p.layout)) c.withdraw.new.self e.just_the_train_is_taken_out_or_nothing;
      closed_inside = still_inside k p (withdraw c.args.number) c.withdraw.result (e.the_first_condition_met_declines (sections_of p.layout)) c.withdraw.new.self e.just_the_train_is_taken_out_or_nothing;
    }

pub returns : goal.returns
returns g c =
    let k = meaning g.R.Rule.conflicts g.S.Scale.measure g.Q.Search.takes in
    let p = c.args.self.now in
    let r = c.withdraw.result in
    let e = c.withdraw.ensures in
    let only : OnlyTheRosterChanges p (withdraw c.args.number) _ = record { layout = refl; rule = refl; scale = refl; search = refl; book = book_after k p (withdraw c.args.number) r (e.the_first_condition_met_declines (sections_of p.layout)) c.withdraw.new.self e.just_the_train_is_taken_out_or_nothing } in
    let kept = from_book k p (withdraw c.args.number) r (e.the_first_condition_met_declines (sections_of p.layout)) c.withdraw.new.self e.just_the_train_is_taken_out_or_nothing accepted (says_done r) (done_says r) in
    record {
      the_first_condition_met_declines = (e.the_first_condition_met_declines (sections_of p.layout));
      only_the_roster_changes_as_the_book_says = only;
      a_declined_call_leaves_the_planner_as_it_was = planner_as_it_was p _ r refl refl refl refl e.a_declined_call_leaves_the_roster_as_it_was;
      the_reply_is_that_of_the_book_at_hand = kept;
      after_any_calls_the_reply_is_that_of_the_book = λ s. step_of k p _ (event (withdraw c.args.number) (says_done r) s s) (kept s) only;
    }
