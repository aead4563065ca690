use Rattle.std.proofs.Common.{refl}
use Rattle.examples.proofs.Passing.{the_definitions_yield_every_example}
use Rattle.examples.proofs.how_many.Goals as goal

pub returns : goal.returns
returns c = record { how_many_there_are = refl; the_definitions_yield_every_example = the_definitions_yield_every_example }
