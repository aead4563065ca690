use Rattle.std.proofs.Common.{refl, ◌∙◌}
use Rattle.track.specs.Layouts.{sections_of}
use Rattle.track.proofs.Laws.{sections_most}
use Rattle.roster.specs.Book.{ask}
use Rattle.roster.specs.Model.{seen}
use Rattle.planner.specs.Promise.{are_closed}
use Rattle.planner.specs.History.{meaning, event}
use Rattle.planner.proofs.Closed.{count_all, lowest_all}
use Rattle.planner.proofs.Runs.{ask_kept, step_of}
use Rattle.planner.proofs.planner.Planner.closed.Goals as goal

pub returns : goal.returns
returns g c =
    let k = meaning g.R.Rule.conflicts g.S.Scale.measure g.Q.Search.takes in
    let p = c.args.self.now in
    let n = sections_of p.layout in
    let e = c.closed.ensures in
    let r = c.closed.result in
    let count = e.how_many_are_closed ∙ count_all n (seen p.roster) p.closed_inside (sections_most p.layout) in
    let low = e.the_lowest_that_is_closed ∙ lowest_all n (seen p.roster) p.closed_inside (sections_most p.layout) in
    record {
      how_many_of_the_layout_are_closed = count;
      the_lowest_of_the_layout_that_is_closed = low;
      the_reply_is_that_of_the_book_at_hand = λ s. ask_kept k p r.0 r.1 s count low;
      after_any_calls_the_reply_is_that_of_the_book = λ s. step_of k p p (event ask (are_closed r.0 r.1) s s) (ask_kept k p r.0 r.1 s count low) refl;
    }
