-- A pair as it is printed.
use Rattle.std.specs.Prelude.{ℕ, List, ◌++◌, codes, decimal}
use Rattle.scales.specs.declared.pair.Pair.{Pair}

abbrev pub words_of : Pair → List ℕ
words_of p = decimal p.steps ++ (codes " steps over " ++ (decimal p.points ++ codes " points"))
