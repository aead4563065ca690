use Rattle.std.proofs.Common.{◌≡◌, List, length, ap, ◌∙◌, arith, rules, length-take-le}
use Rattle.std.specs.List.{insert}
use Rattle.std.proofs.lemmas.List.{places}
use Rattle.track.proofs.Slots.{shifted}
use Rattle.track.proofs.list.FixedList.insert.Goals as goal

pub returns : goal.returns
returns g c =
    let l = c.self.inside in
    let whole : length l.slots ≡ g.row.N = search rules in
    let held = length-take-le l.count l.slots (omega (arith, whole, c.self.invariant)) in
    let same = ap length c.self.view_is in
    record {
      the_item_stands_at_its_place = shifted l.slots c.rotate_right.new.self l.count c.args.place c.args.item (omega (arith, whole, held, same, c.requires.room)) (omega (arith, held, same, c.requires.within)) (search (rules, places)) c.rotate_right.ensures.after
          ∙ ap (λ (xs : List _). insert xs c.args.place c.args.item) c.self.view_is;
    }
