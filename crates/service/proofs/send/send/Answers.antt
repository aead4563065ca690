use Rattle.std.proofs.Common.{◌≡◌, ℕ, List, ◌-◌, ◌≤◌, length, take, drop, sym, subst, arith}
use Rattle.std.proofs.lemmas.List.{take_rest, length-drop}
use Rattle.std.specs.Io.KnownBytes.{Appends}
use Rattle.service.proofs.Bytes.{appends_part, appends_kept}
use Rattle.service.proofs.send.send.Goals.{in-Ok, in-Err}
use Rattle.service.proofs.send.send.Goals as goal

pub loop-preserved : goal.loop-preserved
loop-preserved g c =
    let bytes : List ℕ = c.args.bytes.now in
    let Written : ℕ → Type 0 = λ n. Appends (g.O.Write.contents c.args.writer.now) (g.O.Write.contents c.write.new.self) (take n bytes) in
    let rest : take (length bytes - c.loop.sent) (drop c.loop.sent bytes) ≡ drop c.loop.sent bytes = take_rest bytes c.loop.sent in
    elim c.match-write.branch [
      | in-Ok w ↦
          let n = w.in-Ok.count in
          let fits : n ≤ length (drop c.loop.sent bytes) = subst (λ (z : List ℕ). n ≤ length z) rest w.in-Ok.ensures.bound in
          let more = subst (λ (z : List ℕ). Appends (g.O.Write.contents c.loop.writer) (g.O.Write.contents c.write.new.self) (take n z)) rest w.in-Ok.ensures.bytes in
          (omega (arith, length-drop c.loop.sent bytes), subst Written (sym w.sent-is) (appends_part _ _ _ bytes c.loop.sent n c.loop.invariant.1 more))
      | in-Err w ↦ (omega arith, subst Written (sym w.sent-is) (appends_kept _ _ _ _ c.loop.invariant.1 w.in-Err.ensures.bytes))
    ]
