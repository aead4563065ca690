use Rattle.std.proofs.Common.{arith}
use Rattle.single_check.proofs.Marking.{near_all}
use Rattle.single_check.proofs.reach.mark_neighbours.Goals as goal

pub returns : goal.returns
returns c =
    let q = c.args.question.now in
    record {
      the_open_neighbours_are_marked_too = near_all q.layout.now q.roster.now c.args.a c.loop-b.b c.args.marks.now c.loop-b.marks (omega (arith, c.loop-b-test.false, c.sections-b-end.ensures.how_many_sections_there_are)) c.loop-b.invariant;
    }
