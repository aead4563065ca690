use Rattle.std.proofs.Common.{arith}
use Rattle.track.proofs.Laws.{sections_most}
use Rattle.sheets.specs.Inquiry.{problem_asked}
use Rattle.single_check.proofs.Reaching.{sofar_none, sofar_found, sofar_more}
use Rattle.single_check.proofs.reach.fewest_between.Goals as goal

pub bounds-reached-from : goal.bounds-reached-from
bounds-reached-from c = omega (arith, c.requires.start_inside, sections_most c.args.question.now.layout.now)

pub loop-steps-init : goal.loop-steps-init
loop-steps-init c =
    let q = c.args.question.now in
    λ k. rw c.from.ensures (sofar_none (problem_asked k q) c.args.start c.args.goal (omega (arith, c.requires.start_inside, sections_most q.layout.now)) c.requires.start_inside c.requires.start_open)

pub bounds-reached-from-in-loop-steps : goal.bounds-reached-from-in-loop-steps
bounds-reached-from-in-loop-steps c = omega (arith, c.requires.goal_inside, sections_most c.args.question.now.layout.now)

pub returns-then-reached-from : goal.returns-then-reached-from
returns-then-reached-from c =
    let q = c.args.question.now in
    record {
      the_fewest_steps_from_one_to_the_other = λ k. sofar_found (problem_asked k q) c.args.start c.args.goal c.loop-steps.steps c.loop-steps.reached (c.loop-steps.invariant k) (omega (arith, c.loop-steps-test.true)) (rw c.from-in-loop-steps.ensures at c.if-reached-from.true);
    }

pub loop-steps-preserved : goal.loop-steps-preserved
loop-steps-preserved c =
    let q = c.args.question.now in
    λ k. sofar_more k q.layout.now q.roster.now q.steps c.loop-steps.steps c.args.start c.args.goal c.loop-steps.reached c.spread.new.reached (c.loop-steps.invariant k) (rw c.from-in-loop-steps.ensures at c.if-reached-from.false) c.spread.ensures.one_step_outward

pub returns : goal.returns
returns c = record { the_fewest_steps_from_one_to_the_other = λ k j h r. (c.loop-steps.invariant k).none j (omega (arith, h, c.loop-steps-test.false)) r }
