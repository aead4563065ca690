use Rattle.std.proofs.Common.{length, refl}
use Rattle.std.proofs.lemmas.Result.{err_from_is_err_and}
use Rattle.sheets.specs.Inquiry.{inquired}
use Rattle.groups.specs.Parts.{alone}
use Rattle.grouping.proofs.Ending.{ends_moved, stand_moved, given_moved}
use Rattle.grouping.proofs.joining.follow.Goals as goal

pub join_conflicting-requires : goal.join_conflicting-requires
join_conflicting-requires g c =
    let was = g.Q.Search.takes c.args.below.now in
    let mid = g.Q.Search.takes c.ask_each_alone.new.below in
    let i = inquired g.R.Rule.conflicts g.S.Scale.measure c.args.asked.now in
    record {
      each_alone_stands = stand_moved was mid c.ask_each_alone.ensures.asking_leaves_the_meaning i (length c.args.cells.now) (length c.ask_each_alone.new.cells) c.ask_each_alone.auto.cells alone c.ask_each_alone.new.draft
          c.in_ok-ask_each_alone.ensures.each_stands_or_the_course_has_ended;
    }

pub returns-in_err-groups-clause-the_answer_is_how_the_course_ends : goal.returns-in_err-groups-clause-the_answer_is_how_the_course_ends
returns-in_err-groups-clause-the_answer_is_how_the_course_ends g c =
    let was = g.Q.Search.takes c.args.below.now in
    let mid = g.Q.Search.takes c.ask_each_alone.new.below in
    let i = inquired g.R.Rule.conflicts g.S.Scale.measure c.args.asked.now in
    let p = err_from_is_err_and c.from_residual-in_err-groups.result c.from_residual-in_err-groups.ensures.1 in
    let h = ends_moved was mid c.ask_each_alone.ensures.asking_leaves_the_meaning i (length c.args.cells.now) (length c.ask_each_alone.new.cells) c.ask_each_alone.auto.cells _ c.in_err-groups.ensures.so_many_groups_stand_or_the_course_has_ended in
    rw (p.1, p.2) (h, refl)

pub returns-clause-the_answer_is_how_the_course_ends : goal.returns-clause-the_answer_is_how_the_course_ends
returns-clause-the_answer_is_how_the_course_ends g c =
    let was = g.Q.Search.takes c.args.below.now in
    let mid = g.Q.Search.takes c.ask_each_alone.new.below in
    let i = inquired g.R.Rule.conflicts g.S.Scale.measure c.args.asked.now in
    given_moved was mid c.ask_each_alone.ensures.asking_leaves_the_meaning i (length c.args.cells.now) (length c.ask_each_alone.new.cells) c.ask_each_alone.auto.cells c.args.sheet.now c.ask_each_alone.new.draft c.join_conflicting.new.draft _ _
    c.ask_each_alone.ensures.other_places_are_as_they_were c.join_conflicting.ensures.other_places_are_as_they_were
    c.in_ok-groups.ensures.so_many_groups_stand_or_the_course_has_ended
    (c.sheet_cost-cost.ensures.the_prices_of_all_steps_of_the_group_joined _)
