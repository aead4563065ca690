-- What a layout answers is read off what it holds.
use Rattle.std.proofs.Common.{◌≡◌, refl}
use Rattle.track.specs.Fouls.{fouled_by}
use Rattle.track.specs.Links.{points_of}
use Rattle.track.specs.Model.{laid}
use Rattle.track.specs.Layouts.{sections_of, look, fouled}
use Rattle.track.specs.declared.layout.Layout.{Layout}

pub sections_held : (l : Layout) → (laid l).sections ≡ sections_of l
unfolding sections_of
sections_held l = refl

pub links_held : (l : Layout) → points_of (laid l).links ≡ look l
unfolding look
links_held l = refl

pub fouls_held : (l : Layout) → fouled_by (laid l).fouls ≡ fouled l
unfolding fouled
fouls_held l = refl
