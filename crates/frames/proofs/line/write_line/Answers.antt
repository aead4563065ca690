use Rattle.std.proofs.Common.{◌≡◌, ℕ, ◌+◌, ◌*◌, ◌≤◌, List, length, get_or, take, sym, ap, ◌∙◌, arith}
use Rattle.std.proofs.lemmas.List.{length-take-le, take_all}
use Rattle.frames.specs.Text.{trio, line_of, written}
use Rattle.frames.proofs.Writing.{written_none, written_behind, written_mid}
use Rattle.frames.proofs.Ended.{line_more, length_line_of, all_below}
use Rattle.frames.proofs.line.write_line.Goals as goal
use Rattle.frames.proofs.line.write_line.Goals.{then-i-bytes, else-i-bytes}

pub loop-i-init : goal.loop-i-init
loop-i-init c = written_none c.args.out.now 0

pub loop-i-preserved : goal.loop-i-preserved
loop-i-preserved c =
    let bs = c.args.bytes.now in
    let i = c.loop-i.i in
    let s = c.if-i-bytes.behind in
    let three = trio (get_or bs i 0) s in
    let ended : i + 1 ≡ length bs → s ≡ 10 = λ (e : i + 1 ≡ length bs). elim c.if-i-bytes.branch [ then-i-bytes w ↦ omega (arith, w.behind-is) | else-i-bytes w ↦ omega (arith, w.if-i-bytes.false) ] in
    let spaced : (i + 1 ≡ length bs → ⊥) → s ≡ 32 = λ (e : i + 1 ≡ length bs → ⊥). elim c.if-i-bytes.branch [ then-i-bytes w ↦ omega (arith, w.if-i-bytes.true) | else-i-bytes w ↦ omega (arith, w.behind-is) ] in
    let front = take (3 * i) (line_of bs) in
    let long : length front ≡ 3 * i = length-take-le (3 * i) (line_of bs) (omega (arith, length_line_of bs (omega arith))) in
    written_mid c.loop-i.out c.copy_from_slice.new.self (3 * i) _ three (c.copy_from_slice.ensures.after ∙ c.trio.ensures.the_digits_and_what_is_behind) (omega arith)
    ∙ ap (λ (z : List ℕ). written z (3 * i) three) c.loop-i.invariant
    ∙ written_behind c.args.out.now (3 * i) front three long
    ∙ ap (written c.args.out.now 0) (sym (line_more bs i s c.loop-i-test.true ended spaced))

pub returns : goal.returns
returns c =
    let bs = c.args.bytes.now in
    let all : length (line_of bs) ≤ 3 * c.loop-i.i = omega (arith, length_line_of bs (omega arith)) in
    record {
      the_line_is_written = c.loop-i.invariant ∙ ap (written c.args.out.now 0) (take_all (3 * c.loop-i.i) (line_of bs) all);
      all_are_bytes = all_below bs (λ k. omega (arith, c.type_inv.bytes k));
    }
