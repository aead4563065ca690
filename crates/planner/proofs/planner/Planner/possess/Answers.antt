use Rattle.std.proofs.Common.{◌≡◌, Ok, Result, refl}
use Rattle.std.proofs.lemmas.Result.{err_from_is_err_and}
use Rattle.track.specs.Refusals.{refused_by, granted}
use Rattle.track.specs.declared.refusal.Refusal.{Refusal}
use Rattle.roster.specs.Book.{possess, changed}
use Rattle.roster.specs.Model.{seen}
use Rattle.planner.specs.Promise.{noted}
use Rattle.planner.specs.History.{meaning, judged, event, says_note}
use Rattle.planner.specs.Left.{OnlyTheRosterChanges}
use Rattle.planner.proofs.Called.{still_placed, still_inside, book_after, from_book, planner_as_it_was}
use Rattle.planner.proofs.Runs.{step_of}
use Rattle.planner.proofs.planner.Planner.possess.Goals as goal

pub returns-in_err-close : goal.returns-in_err-close
returns-in_err-close g c =
    let k = meaning g.R.Rule.conflicts g.S.Scale.measure g.Q.Search.takes in
    let p = c.args.self.now in
    let n = c.args.section in
    let r = c.from_residual.result in
    let e = c.in_err-close.ensures in
    let x = err_from_is_err_and r c.from_residual.ensures.1 in
    let right : refused_by r ≡ judged p (possess n) = rw (x.1, x.2) e.the_first_condition_met_declines in
    let just : seen c.close.new.self ≡ granted r (changed (seen p.roster) (possess n)) (seen p.roster) = rw x.1 e.just_the_section_is_closed_or_nothing in
    let only : OnlyTheRosterChanges p (possess n) _ = record { layout = refl; rule = refl; scale = refl; search = refl; book = book_after k p (possess n) r right c.close.new.self just } in
    let kept = from_book k p (possess n) r right c.close.new.self just (noted n) (says_note r) (rw x.1 refl) in
    record {
      the_first_condition_met_declines = right;
      only_the_roster_changes_as_the_book_says = only;
      a_declined_call_leaves_the_planner_as_it_was = planner_as_it_was p _ r refl refl refl refl (rw x.1 e.a_declined_call_leaves_the_roster_as_it_was);
      the_reply_is_that_of_the_book_at_hand = kept;
      after_any_calls_the_reply_is_that_of_the_book = λ s. step_of k p _ (event (possess n) (says_note r) s s) (kept s) only;
      the_note_names_the_section = rw x.1 tt;
    }

pub returns : goal.returns
returns g c =
    let k = meaning g.R.Rule.conflicts g.S.Scale.measure g.Q.Search.takes in
    let p = c.args.self.now in
    let n = c.args.section in
    let e = c.in_ok-close.ensures in
    let r : Result (Unit {0}) Refusal = Ok c.in_ok-close.field-0 in
    let only : OnlyTheRosterChanges p (possess n) _ =
    record { layout = refl; rule = refl; scale = refl; search = refl; book = book_after k p (possess n) r e.the_first_condition_met_declines c.close.new.self e.just_the_section_is_closed_or_nothing } in
    let kept = from_book k p (possess n) r e.the_first_condition_met_declines c.close.new.self e.just_the_section_is_closed_or_nothing (noted n) (noted n) refl in
    record {
      the_first_condition_met_declines = e.the_first_condition_met_declines;
      only_the_roster_changes_as_the_book_says = only;
      a_declined_call_leaves_the_planner_as_it_was = tt;
      the_reply_is_that_of_the_book_at_hand = kept;
      after_any_calls_the_reply_is_that_of_the_book = λ s. step_of k p _ (event (possess n) (noted n) s s) (kept s) only;
      the_note_names_the_section = refl;
    }

pub invariant_of-self : goal.invariant_of-self
invariant_of-self g c =
    let k = meaning g.R.Rule.conflicts g.S.Scale.measure g.Q.Search.takes in
    let p = c.args.self.now in
    let e = c.close.ensures in
    record {
      placed = still_placed k p (possess c.args.section) c.close.result e.the_first_condition_met_declines c.close.new.self e.just_the_section_is_closed_or_nothing;
      closed_inside = still_inside k p (possess c.args.section) c.close.result e.the_first_condition_met_declines c.close.new.self e.just_the_section_is_closed_or_nothing;
    }
