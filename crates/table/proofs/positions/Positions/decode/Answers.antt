use Rattle.std.proofs.Common.{◌≡◌, ◌<◌, arith, length-set}
use Rattle.track.specs.Layouts.{sections_of}
use Rattle.track.proofs.Laws.{sections_most}
use Rattle.table.specs.Codes.{digits}
use Rattle.table.proofs.Numbers.{base_some, decode_step}
use Rattle.table.proofs.positions.Positions.decode.Goals as goal

pub nonzero_rem-at : goal.nonzero_rem-at
nonzero_rem-at g c = omega (arith, c.from-sections.ensures, c.sections.ensures.how_many_sections_there_are, base_some (sections_of c.args.self.now.group.now.board.layout.now) c.args.self.now.group.now.board.trains _ c.args.code c.args.self.now.all c.requires (omega arith))

pub overflow_cast-at : goal.overflow_cast-at
overflow_cast-at g c =
    let p : 0 < (sections_of c.args.self.now.group.now.board.layout.now) = base_some (sections_of c.args.self.now.group.now.board.layout.now) c.args.self.now.group.now.board.trains _ c.args.code c.args.self.now.all c.requires (omega arith) in
    omega (arith, c.from-sections.ensures, c.sections.ensures.how_many_sections_there_are, (sections_most c.args.self.now.group.now.board.layout.now))

pub nonzero_div-left : goal.nonzero_div-left
nonzero_div-left g c = omega (arith, c.from-sections.ensures, c.sections.ensures.how_many_sections_there_are, base_some (sections_of c.args.self.now.group.now.board.layout.now) c.args.self.now.group.now.board.trains _ c.args.code c.args.self.now.all c.requires (omega arith))

pub loop-i-preserved : goal.loop-i-preserved
loop-i-preserved g c = (
  simp length-set c.loop-i.invariant.0,
  rw (c.from-sections.ensures, c.sections.ensures.how_many_sections_there_are)
      (decode_step (sections_of c.args.self.now.group.now.board.layout.now) c.args.self.now.group.now.board.trains c.loop-i.i c.loop-i.left c.loop-i.at _ c.loop-i-test.true (omega arith) (omega (arith, c.args.self.now.group.now.few)) c.loop-i.invariant.1),
)

pub returns : goal.returns
unfolding digits
returns g c = record { the_digits_of_the_code = (let e : c.loop-i.i ≡ 0 = omega arith in rw e at c.loop-i.invariant.1) }
