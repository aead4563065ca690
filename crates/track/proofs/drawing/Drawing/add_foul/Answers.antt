use Rattle.std.proofs.Common.{◌≡◌, true, not, sym, ap, ◌∙◌}
use Rattle.std.proofs.lemmas.Bool.{and_from}
use Rattle.track.specs.Fouls.{foul_good, fouls_good, fouls_apart}
use Rattle.track.specs.Model.{foul_of}
use Rattle.track.specs.declared.foul.Foul.{Foul}
use Rattle.track.proofs.Fouling.{fouls_apart_push}
use Rattle.track.proofs.Linking.{all_push}
use Rattle.track.proofs.drawing.Drawing.add_foul.Goals as goal

pub invariant_of-self-clause-placed : goal.invariant_of-self-clause-placed
invariant_of-self-clause-placed c =
    let w = c.args.self.now in
    let x = foul_of c.args.a c.args.b c.args.c c.args.d in
    let two = ap not (sym c.if-same_link.ensures.whether_they_name_one_link) in
    let fine : foul_good w.links x ≡ true =
    and_from _ _ (sym c.if-not-has_link.ensures.whether_there_is_such_a_link)
    (and_from _ _ (sym c.if-not-has_link-2.ensures.whether_there_is_such_a_link) two) in
    ap (fouls_good w.links) c.push.ensures.the_item_stands_last
    ∙ all_push (λ (f : Foul). foul_good w.links f) w.fouls x w.placed fine

pub invariant_of-self-clause-once : goal.invariant_of-self-clause-once
invariant_of-self-clause-once c =
    let w = c.args.self.now in
    let x = foul_of c.args.a c.args.b c.args.c c.args.d in
    ap fouls_apart c.push.ensures.the_item_stands_last
    ∙ fouls_apart_push w.fouls x w.once (sym c.if-has_foul.ensures.whether_the_foul_is_there)
