use Rattle.std.proofs.Common.{◌≡◌, List, length, ap, ◌∙◌, arith, rules, length-take-le}
use Rattle.std.specs.List.{remove}
use Rattle.std.proofs.lemmas.List.{places}
use Rattle.track.proofs.Slots.{closed_up}
use Rattle.track.proofs.list.FixedList.remove.Goals as goal

pub returns : goal.returns
returns g c =
    let l = c.self.inside in
    let whole : length l.slots ≡ g.row.N = search rules in
    let held = length-take-le l.count l.slots (omega (arith, whole, c.self.invariant)) in
    let same = ap length c.self.view_is in
    record {
      the_item_is_gone = closed_up l.slots c.rotate_left.new.self l.count c.args.place (omega (arith, whole, c.self.invariant)) (omega (arith, held, same, c.requires)) (search (rules, places)) c.rotate_left.ensures.after
          ∙ ap (λ (xs : List _). remove xs c.args.place) c.self.view_is;
    }
