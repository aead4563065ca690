use Rattle.track.proofs.Linking.{links_good_wider}
use Rattle.track.proofs.drawing.Drawing.add_sections.Goals as goal

pub invariant_of-self-clause-sound : goal.invariant_of-self-clause-sound
invariant_of-self-clause-sound c =
    let d = c.args.self.now in
    links_good_wider d.sections c.args.k d.links d.sound
