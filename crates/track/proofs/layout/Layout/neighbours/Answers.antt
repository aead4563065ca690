use Rattle.std.proofs.Common.{ℕ, List, get_or, sym, subst, ap, arith}
use Rattle.track.specs.Layouts.{Neighbours}
use Rattle.track.proofs.Ends.{neighbours_held, no_neighbours}
use Rattle.track.proofs.layout.Layout.neighbours.Goals as goal

pub returns-then-a-sections : goal.returns-then-a-sections
returns-then-a-sections c =
    record { the_linked_sections_in_rising_order = no_neighbours c.args.self.now c.args.a (omega arith) }

pub returns : goal.returns
returns c =
    let l = c.args.self.now in
    let a = c.args.a in
    let here = λ (i : ℕ). get_or l.ways i c.index-self-from.result in
    let same = neighbours_held l a (here c.from.result) c.index-self-from.result (omega arith) (ap here c.from.ensures) in
    record {
      the_linked_sections_in_rising_order = subst (λ (xs : List ℕ). Neighbours l a xs) (sym c.ends.ensures.the_sections_that_a_link_leads_to) same;
    }
