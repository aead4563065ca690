use Rattle.std.proofs.Common.{◌≡◌, ◌∙◌, [], map, rules, tests, arith}
use Rattle.std.proofs.lemmas.List.{get_or-map, length-map}
use Rattle.std.proofs.lemmas.List.FromFn.{fill_by_all}
use Rattle.track.specs.Ways.{points_along, charted}
use Rattle.track.specs.declared.ways.Ways.{Ways}
use Rattle.track.proofs.Made.{made_at}
use Rattle.track.proofs.ways.find.chart.Goals as goal

pub returns : goal.returns
unfolding charted
returns c =
    let ws = c.from_fn.result in
    let items = c.from_fn.ensures.items in
    let one : Ways = items.each.1 in
    record {
      the_ways_from_each_section = fill_by_all (λ a. points_along c.args.links.now a) (map (λ (w : Ways). w.points) ws) 32 [] (length-map ws (λ (w : Ways). w.points) ∙ items.long)
          (λ k h. get_or-map (λ (w : Ways). w.points) ws k one [] (omega (arith, items.long))
          ∙ made_at _ (λ a (w : Ways). w.points ≡ points_along c.args.links.now a) _ (λ x y q m. search (rules, tests)) ws 32 k one items h);
    }
