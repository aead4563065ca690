use Rattle.std.proofs.Common.{◌≡◌, ◌<◌, length, sym, refl, ap, ◌∙◌, arith}
use Rattle.std.specs.Prelude.{Ok, Err}
use Rattle.std.proofs.lemmas.Result.{err_from_is_err_and}
use Rattle.roster.specs.Model.{rows_of}
use Rattle.sheets.specs.Posing.{marked}
use Rattle.sheets.specs.Inquiry.{inquired}
use Rattle.groups.specs.Parts.{Naming, part, alone}
use Rattle.grouping.proofs.Rows.{part_rows}
use Rattle.grouping.proofs.Following.{as_long, rows_first, row_passed, row_ended, row_next, rows_all}
use Rattle.grouping.proofs.joining.ask_each_alone.Goals as goal
use Rattle.grouping.proofs.joining.ask_each_alone.Goals.{then-member+in_ok-ask_for, else-member}

pub loop-row-init : goal.loop-row-init
loop-row-init g c =
    rows_first (g.Q.Search.takes c.args.below.now) (inquired g.R.Rule.conflicts g.S.Scale.measure c.args.asked.now) (length c.args.cells.now) c.args.draft.now

pub ask_for-requires : goal.ask_for-requires
ask_for-requires g c =
    let q = c.args.asked.now.question.now in
    let k : c.loop-row.row < rows_of q.roster.now = omega (arith, c.marks-members.ensures.one_mark_for_each_train) in
    record {
      some_rows = part_rows q c.marks-marks.result alone c.loop-row.row c.loop-row.row
          (c.marks-marks.ensures.the_rows_of_its_part ∙ ap (λ (m : Naming). part (marked q.group) m (m c.loop-row.row)) c.alone-parts.ensures.each_row_is_a_part)
          k (sym (c.marks-members.ensures.as_the_group_is_marked c.loop-row.row k) ∙ c.if-member.true) refl;
    }

pub loop-row-preserved : goal.loop-row-preserved
loop-row-preserved g c =
    let q = c.args.asked.now.question.now in
    let was = g.Q.Search.takes c.args.below.now in
    let now = g.Q.Search.takes c.loop-row.below in
    let i = inquired g.R.Rule.conflicts g.S.Scale.measure c.args.asked.now in
    let row = c.loop-row.row in
    let k : row < rows_of q.roster.now = omega (arith, c.marks-members.ensures.one_mark_for_each_train) in
    let same = sym (c.marks-members.ensures.as_the_group_is_marked row k) in
    elim c.if-member.branch [
      | then-member+in_ok-ask_for w ↦
          rw (w.below-is, w.draft-is)
          (row_next was now (g.Q.Search.takes w.ask_for.new.below) w.ask_for.ensures.asking_leaves_the_meaning i (length c.args.cells.now) c.args.draft.now row c.loop-row.draft w.ask_for.new.draft
          c.loop-row.invariant k (same ∙ w.if-member.true) (marked w.marks-marks.result)
          (w.marks-marks.ensures.the_rows_of_its_part ∙ ap (λ (m : Naming). part (marked q.group) m (m row)) c.alone-parts.ensures.each_row_is_a_part)
          _
          (as_long now i (length c.loop-row.cells) (length c.args.cells.now) _ _ _ (Ok _) c.loop-row.auto.cells w.in_ok-ask_for.ensures.the_answer_is_right))
      | else-member w ↦ rw (w.below-is, w.draft-is) (row_passed was now i (length c.args.cells.now) c.args.draft.now row c.loop-row.draft c.loop-row.invariant k (same ∙ w.if-member.false))
    ]

pub returns-in_err-ask_for-clause-each_stands_or_the_course_has_ended : goal.returns-in_err-ask_for-clause-each_stands_or_the_course_has_ended
returns-in_err-ask_for-clause-each_stands_or_the_course_has_ended g c =
    let q = c.args.asked.now.question.now in
    let was = g.Q.Search.takes c.args.below.now in
    let now = g.Q.Search.takes c.loop-row.below in
    let i = inquired g.R.Rule.conflicts g.S.Scale.measure c.args.asked.now in
    let row = c.loop-row.row in
    let k : row < rows_of q.roster.now = omega (arith, c.marks-members.ensures.one_mark_for_each_train) in
    let p = err_from_is_err_and c.from_residual.result c.from_residual.ensures.1 in
    let e =
    row_ended was now (g.Q.Search.takes c.ask_for.new.below) c.ask_for.ensures.asking_leaves_the_meaning i (length c.args.cells.now) c.args.draft.now row c.loop-row.draft c.ask_for.new.draft
    c.loop-row.invariant k (sym (c.marks-members.ensures.as_the_group_is_marked row k) ∙ c.if-member.true) (marked c.marks-marks.result)
    (c.marks-marks.ensures.the_rows_of_its_part ∙ ap (λ (m : Naming). part (marked q.group) m (m row)) c.alone-parts.ensures.each_row_is_a_part)
    _
    (as_long now i (length c.loop-row.cells) (length c.args.cells.now) _ _ _ (Err _) c.loop-row.auto.cells c.in_err-ask_for.ensures.the_answer_is_right) in
    rw (p.1, p.2) e.ends

pub returns-clause-each_stands_or_the_course_has_ended : goal.returns-clause-each_stands_or_the_course_has_ended
returns-clause-each_stands_or_the_course_has_ended g c =
    let e : c.loop-row.row ≡ rows_of c.args.asked.now.question.now.roster.now = omega (arith, c.marks-members.ensures.one_mark_for_each_train) in
    rows_all (g.Q.Search.takes c.args.below.now) (g.Q.Search.takes c.loop-row.below) (inquired g.R.Rule.conflicts g.S.Scale.measure c.args.asked.now) (length c.args.cells.now) c.args.draft.now c.loop-row.row c.loop-row.draft e c.loop-row.invariant
