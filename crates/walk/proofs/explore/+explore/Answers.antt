use Rattle.std.proofs.Common.{◌≡◌, ◌+◌, ◌<◌, ◌≤◌, length, replicate, true, false, Some, None, sym, refl, ap, ◌∙◌, arith, rules}
use Rattle.std.specs.Bool.{then_some}
use Rattle.std.specs.Option.{option_or}
use Rattle.track.specs.Layouts.{sections_of}
use Rattle.words.specs.Tasks.{task, cost_of}
use Rattle.walk.specs.Walks.{spent_up, Ready}
use Rattle.walk.proofs.Scans.{scan_skip, scan_move, scan_all, ready_next, walked_up, walked_turn, walked_end}
use Rattle.walk.proofs.explore.+explore.Goals as goal
use Rattle.walk.proofs.explore.+explore.Goals.{then-may_move+in-Some, then-may_move+in_default, else-may_move}

pub returns-then-is_some_and : goal.returns-then-is_some_and
returns-then-is_some_and g t c =
    let e : spent_up (g.S.Scale.measure c.args.group.now.board.scale.now) c.args.bound c.args.spot.sofar ≡ true = search rules in
    record { the_best_that_stays_below_the_bound = walked_up _ (g.met.S.Scale.lawful _) _ c.args.spot c.args.bound c.requires e }

pub returns-then-spot-gt0 : goal.returns-then-spot-gt0
returns-then-spot-gt0 g t c =
    let kt : c.args.group.now.board.trains ≤ length c.args.spot.turn.to = search rules in
    let n = c.next_step.ensures.the_next_step_begins_there in
    let W = rw n at c.explore.ensures.the_best_that_stays_below_the_bound in
    record { the_best_that_stays_below_the_bound = walked_turn _ (g.met.S.Scale.lawful _) _ c.args.spot c.args.bound c.requires c.if-spot-group.true kt c.explore.result c.if-spot-gt0.true W }

pub returns-then-spot-group : goal.returns-then-spot-group
returns-then-spot-group g t c =
    let kt : c.args.group.now.board.trains ≤ length c.args.spot.turn.to = search rules in
    let z : c.args.spot.turn.left ≡ 0 = omega (arith, c.if-spot-gt0.false) in
    let e : spent_up (g.S.Scale.measure c.args.group.now.board.scale.now) c.args.bound c.args.spot.sofar ≡ false = search rules in
    let made : c.then.result ≡ then_some c.all_home.result (record { cost = c.args.spot.sofar; plan = replicate 128 0 }) = search rules in
    record {
      the_best_that_stays_below_the_bound = walked_end _ (g.met.S.Scale.lawful _) _ c.args.spot c.args.bound c.requires c.if-spot-group.true kt c.then.result (replicate 128 0) refl z e
          (made ∙ ap (λ h. then_some h (record { cost = c.args.spot.sofar; plan = replicate 128 0 })) c.all_home.ensures.whether_every_train_is_at_its_goal);
    }

pub explore-requires-then-may_move : goal.explore-requires-then-may_move
explore-requires-then-may_move g t c κs within =
    let jk : c.args.spot.turn.moved < c.args.group.now.board.trains = omega (arith, c.requires.in_group, c.if-spot-group.false) in
    let la : c.args.group.now.board.trains ≤ length c.args.spot.turn.at = search rules in
    let lt : c.args.group.now.board.trains ≤ length c.args.spot.turn.to = search rules in
    let r = ready_next _ (g.met.S.Scale.lawful _) _ c.args.spot c.args.bound c.requires jk la lt c.loop-x.x in
    let e = c.join.ensures.both_costs_together ∙ ap ((g.S.Scale.measure c.args.group.now.board.scale.now).join c.args.spot.sofar) c.move_price-price.ensures.the_price_of_the_move in
    let n = c.after-next.ensures.the_next_train_has_gone_there in
    let m : Ready (g.S.Scale.measure c.args.group.now.board.scale.now) (task g.R.Rule.conflicts c.args.group.now.board) c.after-next.result = rw (n, e) r in
    let l : c.after-next.result.turn.left ≡ c.args.spot.turn.left = ap (λ s. s.turn.left) n in
    let k : c.after-next.result.turn.moved ≡ c.args.spot.turn.moved + 1 = ap (λ s. s.turn.moved) n in
    search rules

pub loop-x-preserved : goal.loop-x-preserved
loop-x-preserved g t c =
    let jk : c.args.spot.turn.moved < c.args.group.now.board.trains = omega (arith, c.requires.in_group, c.if-spot-group.false) in
    let la : c.args.group.now.board.trains ≤ length c.args.spot.turn.at = search rules in
    let lt : c.args.group.now.board.trains ≤ length c.args.spot.turn.to = search rules in
    elim c.if-may_move.branch [
      | then-may_move+in-Some w ↦
          let e = w.join.ensures.both_costs_together ∙ ap ((g.S.Scale.measure c.args.group.now.board.scale.now).join c.args.spot.sofar) w.move_price-price.ensures.the_price_of_the_move in
          let n : w.or-nearer.result ≡ option_or (cost_of c.loop-x.best) c.args.bound = search rules in
          let m = sym c.may_move.ensures.whether_the_move_is_open_and_meets_no_conflict ∙ w.if-may_move.true in
          let k = w.after-next.ensures.the_next_train_has_gone_there in
          let W = rw (k, e, n) at w.explore-then-may_move.ensures.the_best_that_stays_below_the_bound in
          let r : w.explore-then-may_move.result ≡ Some w.in-Some.found = search rules in
          rw w.best-is (scan_move _ (g.met.S.Scale.lawful _) _ c.args.spot c.args.bound c.requires jk la lt c.loop-x.x c.loop-x.best (Some w.in-Some.found) c.loop-x.invariant m (rw r at W))
      | then-may_move+in_default w ↦
          let e = w.join.ensures.both_costs_together ∙ ap ((g.S.Scale.measure c.args.group.now.board.scale.now).join c.args.spot.sofar) w.move_price-price.ensures.the_price_of_the_move in
          let n : w.or-nearer.result ≡ option_or (cost_of c.loop-x.best) c.args.bound = search rules in
          let m = sym c.may_move.ensures.whether_the_move_is_open_and_meets_no_conflict ∙ w.if-may_move.true in
          let k = w.after-next.ensures.the_next_train_has_gone_there in
          let W = rw (k, e, n) at w.explore-then-may_move.ensures.the_best_that_stays_below_the_bound in
          let r : w.explore-then-may_move.result ≡ None = search rules in
          rw w.best-is (scan_move _ (g.met.S.Scale.lawful _) _ c.args.spot c.args.bound c.requires jk la lt c.loop-x.x c.loop-x.best None c.loop-x.invariant m (rw r at W))
      | else-may_move w ↦
          let m = sym c.may_move.ensures.whether_the_move_is_open_and_meets_no_conflict ∙ w.if-may_move.false in
          rw w.best-is (scan_skip _ (g.met.S.Scale.lawful _) _ c.args.spot c.args.bound c.requires jk la lt c.loop-x.x c.loop-x.best c.loop-x.invariant m)
    ]

pub returns : goal.returns
returns g t c =
    let jk : c.args.spot.turn.moved < c.args.group.now.board.trains = omega (arith, c.requires.in_group, c.if-spot-group.false) in
    let la : c.args.group.now.board.trains ≤ length c.args.spot.turn.at = search rules in
    let lt : c.args.group.now.board.trains ≤ length c.args.spot.turn.to = search rules in
    let e : c.loop-x.x ≡ sections_of c.args.group.now.board.layout.now = omega (arith, c.loop-x-test.false, c.loop-x.auto, c.sections-x-end.ensures.how_many_sections_there_are) in
    record { the_best_that_stays_below_the_bound = scan_all _ (g.met.S.Scale.lawful _) _ c.args.spot c.args.bound c.requires jk la lt _ (rw e at c.loop-x.invariant) }
