use Rattle.std.proofs.Common.{ℕ, get_or, ap, ◌∙◌, inl, arith}
use Rattle.track.proofs.Ends.{look_none, points_held, ways_long}
use Rattle.track.proofs.layout.Layout.points.Goals as goal

pub returns-in_err-get : goal.returns-in_err-get
returns-in_err-get c =
    let l = c.args.self.now in
    let long = ways_long l in
    record {
      the_points_of_the_link = c.from_residual.ensures
          ∙ look_none l c.args.a c.args.b (inl (omega (arith, l.drawing.few, c.in_err-get.ensures.lookup.3)));
    }

pub returns : goal.returns
returns c =
    let l = c.args.self.now in
    let long = ways_long l in
    let w = c.in_ok-get.field-0.now in
    let found = c.in_ok-get.ensures.lookup in
    let here = found.1 ∙ ap (λ (i : ℕ). get_or l.ways i w) c.from.ensures in
    record {
      the_points_of_the_link = c.points_to.ensures.the_points_on_the_way ∙ points_held l c.args.a w w (omega (arith, found.3.0, c.from.ensures)) here c.args.b;
    }
