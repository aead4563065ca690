use Rattle.std.proofs.Common.{◌+◌, sym, subst, arith}
use Rattle.single_check.specs.Marks.{Widened}
use Rattle.single_check.proofs.Marking.{FromBelow, below_skip, below_take, below_all}
use Rattle.single_check.proofs.reach.spread.Goals as goal
use Rattle.single_check.proofs.reach.spread.Goals.{then-marked, else-marked}

pub loop-a-preserved : goal.loop-a-preserved
loop-a-preserved c =
    let l = c.args.question.now.layout.now in
    let o = c.args.question.now.roster.now in
    let m = c.args.reached.now in
    let a = c.loop-a.a in
    elim c.if-marked.branch [
      | then-marked w ↦ subst (Widened m (FromBelow l o m (a + 1))) (sym w.reached-is) (below_take l o m a c.loop-a.reached w.mark_neighbours.new.marks w.if-marked.true c.loop-a.invariant w.mark_neighbours.ensures.the_open_neighbours_are_marked_too)
      | else-marked w ↦ subst (Widened m (FromBelow l o m (a + 1))) (sym w.reached-is) (below_skip l o m a c.loop-a.reached w.if-marked.false c.loop-a.invariant)
    ]

pub returns-then-a-sections : goal.returns-then-a-sections
returns-then-a-sections c =
    let q = c.args.question.now in
    record { one_step_outward = below_all q.layout.now q.roster.now c.args.reached.now c.loop-a.reached c.loop-a.a (omega (arith, c.sections.ensures.how_many_sections_there_are)) c.loop-a.invariant }
