-- Where a cutter stands.
use Rattle.frames.specs.Cuts.{Cut, cut}
use Rattle.frames.specs.declared.cutter.Cutter.{Cutter}

abbrev pub cut_of : Cutter → Cut
cut_of c = cut c.held c.ended
