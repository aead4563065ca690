use Rattle.std.proofs.Common.{length, refl, arith}
use Rattle.roster.proofs.Laws.{rows_most}
use Rattle.std.proofs.lemmas.Result.{err_from_is_err_and}
use Rattle.std.specs.Prelude.{Ok, Err}
use Rattle.sheets.specs.Posing.{marked}
use Rattle.sheets.specs.Inquiry.{inquired}
use Rattle.groups.specs.Model.{naming}
use Rattle.grouping.proofs.Rows.{part_rows}
use Rattle.grouping.proofs.Following.{as_long, part_ended, part_next, parts_end, one_fewer}
use Rattle.grouping.proofs.joining.join_conflicting.Goals as goal

pub ask_for-requires : goal.ask_for-requires
ask_for-requires g c =
    let f = c.in-Some.ensures.the_first_conflict_between_parts_or_none in
    record {
      some_rows = part_rows c.args.asked.now.question.now c.marks-marks.result (naming c.joined-parts.result) (naming c.joined-parts.result c.in-Some.conflict.row) c.in-Some.conflict.row
          c.marks-marks.ensures.the_rows_of_its_part f.row.a_row f.row.of_group refl;
    }

pub loop-conflict-smaller : goal.loop-conflict-smaller
loop-conflict-smaller g c =
    let q = c.args.asked.now.question.now in
    let was = g.Q.Search.takes c.args.below.now in
    let now = g.Q.Search.takes c.loop-conflict.below in
    let next = g.Q.Search.takes c.ask_for.new.below in
    let i = inquired g.R.Rule.conflicts g.S.Scale.measure c.args.asked.now in
    let k = c.in-Some.conflict in
    let f = c.in-Some.ensures.the_first_conflict_between_parts_or_none in
    let most = rows_most q.roster.now in
    let e = c.joined-parts.ensures.the_two_parts_are_one (omega (arith, f.row.a_row)) (omega (arith, f.other.a_row)) in
    one_fewer was now next c.ask_for.ensures.asking_leaves_the_meaning i (length c.args.cells.now) c.args.draft.now (naming c.loop-conflict.parts) (naming c.joined-parts.result) c.loop-conflict.draft c.ask_for.new.draft
    c.loop-conflict.invariant k.step k.row k.other f e (marked c.marks-marks.result) c.marks-marks.ensures.the_rows_of_its_part

pub loop-conflict-preserved : goal.loop-conflict-preserved
loop-conflict-preserved g c =
    let q = c.args.asked.now.question.now in
    let was = g.Q.Search.takes c.args.below.now in
    let now = g.Q.Search.takes c.loop-conflict.below in
    let next = g.Q.Search.takes c.ask_for.new.below in
    let i = inquired g.R.Rule.conflicts g.S.Scale.measure c.args.asked.now in
    let k = c.in-Some.conflict in
    let f = c.in-Some.ensures.the_first_conflict_between_parts_or_none in
    let most = rows_most q.roster.now in
    let e = c.joined-parts.ensures.the_two_parts_are_one (omega (arith, f.row.a_row)) (omega (arith, f.other.a_row)) in
    part_next was now next c.ask_for.ensures.asking_leaves_the_meaning i (length c.args.cells.now) c.args.draft.now (naming c.loop-conflict.parts) (naming c.joined-parts.result) c.loop-conflict.draft c.ask_for.new.draft
    c.loop-conflict.invariant k.step k.row k.other f e (marked c.marks-marks.result) c.marks-marks.ensures.the_rows_of_its_part _
    (as_long now i (length c.loop-conflict.cells) (length c.args.cells.now) _ _ _ (Ok _) c.loop-conflict.auto.cells c.in_ok-ask_for.ensures.the_answer_is_right)

pub returns-in_err-ask_for-clause-so_many_groups_stand_or_the_course_has_ended : goal.returns-in_err-ask_for-clause-so_many_groups_stand_or_the_course_has_ended
returns-in_err-ask_for-clause-so_many_groups_stand_or_the_course_has_ended g c =
    let q = c.args.asked.now.question.now in
    let was = g.Q.Search.takes c.args.below.now in
    let now = g.Q.Search.takes c.loop-conflict.below in
    let next = g.Q.Search.takes c.ask_for.new.below in
    let i = inquired g.R.Rule.conflicts g.S.Scale.measure c.args.asked.now in
    let k = c.in-Some.conflict in
    let f = c.in-Some.ensures.the_first_conflict_between_parts_or_none in
    let most = rows_most q.roster.now in
    let e = c.joined-parts.ensures.the_two_parts_are_one (omega (arith, f.row.a_row)) (omega (arith, f.other.a_row)) in
    let p = err_from_is_err_and c.from_residual.result c.from_residual.ensures.1 in
    let z =
    part_ended was now next c.ask_for.ensures.asking_leaves_the_meaning i (length c.args.cells.now) c.args.draft.now (naming c.loop-conflict.parts) (naming c.joined-parts.result) c.loop-conflict.draft c.ask_for.new.draft
    c.loop-conflict.invariant k.step k.row k.other f e (marked c.marks-marks.result) c.marks-marks.ensures.the_rows_of_its_part _
    (as_long now i (length c.loop-conflict.cells) (length c.args.cells.now) _ _ _ (Err _) c.loop-conflict.auto.cells c.in_err-ask_for.ensures.the_answer_is_right) in
    rw (p.1, p.2) z.ends

pub returns-clause-so_many_groups_stand_or_the_course_has_ended : goal.returns-clause-so_many_groups_stand_or_the_course_has_ended
returns-clause-so_many_groups_stand_or_the_course_has_ended g c =
    parts_end (g.Q.Search.takes c.args.below.now) (g.Q.Search.takes c.loop-conflict.below) (inquired g.R.Rule.conflicts g.S.Scale.measure c.args.asked.now) (length c.args.cells.now) c.args.draft.now (naming c.loop-conflict.parts) c.loop-conflict.draft c.count.result
    c.loop-conflict.invariant c.in_default.ensures.the_first_conflict_between_parts_or_none c.count.ensures.one_for_each_row_that_its_part_goes_by
