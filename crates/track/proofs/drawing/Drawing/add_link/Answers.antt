use Rattle.std.proofs.Common.{◌≡◌, true, sym, ap, ◌∙◌, arith}
use Rattle.std.proofs.lemmas.Bool.Decides.{nat_tests}
use Rattle.track.specs.Fouls.{fouls_good}
use Rattle.track.specs.Links.{link_good, links_good, links_apart}
use Rattle.track.specs.Model.{link_of}
use Rattle.track.specs.declared.link.Link.{Link}
use Rattle.track.proofs.Fouling.{fouls_kept}
use Rattle.track.proofs.Linking.{all_push, links_apart_push}
use Rattle.track.proofs.drawing.Drawing.add_link.Goals as goal

pub invariant_of-self-clause-sound : goal.invariant_of-self-clause-sound
invariant_of-self-clause-sound c =
    let d = c.args.self.now in
    let x = link_of c.args.a c.args.b c.args.points in
    let fine : link_good d.sections x ≡ true = grind (arith, nat_tests) in
    ap (links_good d.sections) c.push.ensures.the_item_stands_last
    ∙ all_push (λ (l : Link). link_good d.sections l) d.links x d.sound fine

pub invariant_of-self-clause-apart : goal.invariant_of-self-clause-apart
invariant_of-self-clause-apart c =
    let d = c.args.self.now in
    let x = link_of c.args.a c.args.b c.args.points in
    ap links_apart c.push.ensures.the_item_stands_last
    ∙ links_apart_push d.links x d.apart (sym c.if-has_link.ensures.whether_there_is_such_a_link)

pub invariant_of-self-clause-placed : goal.invariant_of-self-clause-placed
invariant_of-self-clause-placed c =
    let d = c.args.self.now in
    let x = link_of c.args.a c.args.b c.args.points in
    ap (λ l. fouls_good l d.fouls) c.push.ensures.the_item_stands_last
    ∙ fouls_kept d.links x d.fouls d.placed
