use Rattle.std.proofs.Common.{◌+◌, ◌<◌, set, sym, subst, get_or-take, rules}
use Rattle.words.specs.Rows.{Written}
use Rattle.words.proofs.RowProofs.{row_written, written_more}
use Rattle.words.proofs.written.write.Goals as goal

pub loop-i-preserved : goal.loop-i-preserved
loop-i-preserved c =
    let a = c.args in
    let d = a.chosen.now in
    let i = c.loop-i.i in
    let h : i < d.trains = search rules in
    let e = get_or-take d.trains d.row i 0 h in
    let r = rw (c.line_of-line.ensures.its_section_at_each_time, e) at c.up_to.ensures.the_line_and_then_the_old_row in
    subst (λ z. Written d a.plan.now a.steps (i + 1) a.sheet.now (record { rows = set c.loop-i.sheet.rows z c.up_to.result })) (sym e)
    (written_more d a.plan.now a.steps i a.sheet.now c.loop-i.sheet c.up_to.result c.requires.rows h c.loop-i.invariant
    (row_written _ c.up_to.result _ a.plan.now d.trains i a.steps c.requires.few r)
    (search rules))
