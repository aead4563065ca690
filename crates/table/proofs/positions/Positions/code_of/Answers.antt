use Rattle.std.proofs.Common.{◌≡◌, ℕ, ◌<◌, ◌≤◌, length, refl, ◌∙◌, arith, length-take, get_or-take, rules}
use Rattle.track.specs.Layouts.{sections_of}
use Rattle.track.proofs.Laws.{sections_most}
use Rattle.table.specs.Codes.{code_of}
use Rattle.table.proofs.Numbers.{code_below, code_fits, code_more}
use Rattle.table.proofs.positions.Positions.code_of.Goals as goal

pub loop-section-init : goal.loop-section-init
unfolding code_of
loop-section-init g c = refl

pub overflow_mul-code : goal.overflow_mul-code
overflow_mul-code g c =
    let h : c.loop-section.section-index < c.args.self.now.group.now.board.trains = omega (arith, length-take {A = ℕ}) in
    omega (
      arith,
      code_fits (sections_of c.args.self.now.group.now.board.layout.now) c.args.at c.loop-section.section-index c.args.self.now.group.now.board.trains (sections_most c.args.self.now.group.now.board.layout.now) c.args.self.now.group.now.few h c.requires
          (c.from-sections.ensures ∙ c.sections.ensures.how_many_sections_there_are) c.loop-section.invariant refl,
    )

pub overflow_add-code : goal.overflow_add-code
overflow_add-code g c =
    let h : c.loop-section.section-index < c.args.self.now.group.now.board.trains = omega (arith, length-take {A = ℕ}) in
    omega (
      arith,
      code_fits (sections_of c.args.self.now.group.now.board.layout.now) c.args.at c.loop-section.section-index c.args.self.now.group.now.board.trains (sections_most c.args.self.now.group.now.board.layout.now) c.args.self.now.group.now.few h c.requires
          (c.from-sections.ensures ∙ c.sections.ensures.how_many_sections_there_are) c.loop-section.invariant (c.from.ensures ∙ get_or-take c.args.self.now.group.now.board.trains c.args.at c.loop-section.section-index 0 h),
    )

pub loop-section-preserved : goal.loop-section-preserved
loop-section-preserved g c =
    let h : c.loop-section.section-index < c.args.self.now.group.now.board.trains = omega (arith, length-take {A = ℕ}) in
    code_more (sections_of c.args.self.now.group.now.board.layout.now) c.args.at c.loop-section.section-index (c.from-sections.ensures ∙ c.sections.ensures.how_many_sections_there_are) c.loop-section.invariant
    (c.from.ensures ∙ get_or-take c.args.self.now.group.now.board.trains c.args.at c.loop-section.section-index 0 h)

pub returns : goal.returns
returns g c =
    let l : c.args.self.now.group.now.board.trains ≤ length c.args.at = search rules in
    let e : c.loop-section.section-index ≡ c.args.self.now.group.now.board.trains = omega (arith, length-take {A = ℕ}, c.loop-section-test.false, c.loop-section.auto) in
    let v : c.loop-section.code ≡ code_of (sections_of c.args.self.now.group.now.board.layout.now) c.args.self.now.group.now.board.trains c.args.at = rw e at c.loop-section.invariant in
    record {
      the_code_of_the_position = v;
      one_of_them = omega (arith, v, c.args.self.now.all, code_below (sections_of c.args.self.now.group.now.board.layout.now) c.args.at c.args.self.now.group.now.board.trains c.requires);
    }
