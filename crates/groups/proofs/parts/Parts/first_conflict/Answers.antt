use Rattle.std.proofs.Common.{◌≡◌, false, arith}
use Rattle.sheets.specs.Inquiry.{problem_asked, plan_of}
use Rattle.sheets.specs.Posing.{marked}
use Rattle.sheets.proofs.Posed.{sound}
use Rattle.groups.specs.Model.{naming}
use Rattle.groups.proofs.Seeking.{hit, others_more, no_hit_apart, no_hit_clash, none_found, first_found}
use Rattle.groups.proofs.parts.Parts.first_conflict.Goals as goal
use Rattle.groups.proofs.parts.Parts.first_conflict.Goals.{else-apart-via-then-apart+else-clashes, else-apart-via-else-apart}

pub clashes-requires : goal.clashes-requires
clashes-requires g c = omega (arith, (sound c.args.question.now).steps_most)

pub loop-other-preserved : goal.loop-other-preserved
loop-other-preserved g c =
    let q = c.args.question.now in
    let Q = problem_asked (g.R.Rule.conflicts c.args.rule.now q.layout.now) q in
    let i = c.loop-other.invariant in
    let t = c.loop-step.step in
    let r = c.loop-row.row in
    let o = c.loop-other.other in
    let G = marked q.group in
    let name = naming c.args.self.now in
    let x = plan_of c.args.sheet.now in
    let e : hit Q G name x t r o ≡ false =
    elim c.else-apart.branch [
      | else-apart-via-then-apart+else-clashes w ↦ no_hit_clash Q G name x w.clashes.result t r o w.clashes.ensures.whether_their_moves_conflict w.if-clashes.false
      | else-apart-via-else-apart w ↦ no_hit_apart Q G name x c.apart.result t r o c.apart.ensures.whether_they_are_of_different_parts w.if-apart.false
    ] in
    (i.0, i.1, others_more Q G name x t r o i.2 e)

pub returns-then-clashes : goal.returns-then-clashes
returns-then-clashes g c = record {
  the_first_conflict_between_parts_or_none =
      let i = c.loop-other.invariant in
      first_found _ _ _ _ c.apart.result c.clashes.result c.loop-step.step c.loop-row.row c.loop-other.other c.loop-step-test.true (omega (arith, c.loop-other.auto)) (omega (arith, c.count-rows.ensures.as_many_as_there_are_rows))
      c.apart.ensures.whether_they_are_of_different_parts c.if-apart.true c.clashes.ensures.whether_their_moves_conflict c.if-clashes.true i.0 i.1 i.2;
}

pub returns-after-loop-step : goal.returns-after-loop-step
returns-after-loop-step g c = record {
  the_first_conflict_between_parts_or_none = none_found _ _ _ _ c.loop-step.step (omega arith) c.loop-step.invariant;
}
