use Rattle.std.proofs.Common.{◌≡◌, ℕ, None, Option, rules, tests}
use Rattle.std.proofs.lemmas.List.FromFn.{fill_by_all}
use Rattle.track.specs.Links.{points_of}
use Rattle.track.specs.Ways.{points_along}
use Rattle.track.proofs.Made.{made_at}
use Rattle.track.proofs.ways.find.points_from.Goals as goal

pub returns : goal.returns
unfolding points_along
returns c = record {
  the_points_to_each_section = fill_by_all (λ b. points_of c.args.links.now c.args.a b) c.from_fn.result 32 None c.from_fn.ensures.items.long
      (λ k h. made_at _ (λ b (o : Option ℕ). o ≡ points_of c.args.links.now c.args.a b) _ (λ x y q m. search (rules, tests)) c.from_fn.result 32 k None c.from_fn.ensures.items h);
}
