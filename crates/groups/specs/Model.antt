-- What the program's parts say.
use Rattle.std.specs.Prelude.{slice_index_or}
use Rattle.groups.specs.Parts.{Naming}
use Rattle.groups.specs.declared.parts.Parts.{Parts}

-- the name of a row's part; a row past the eight is by itself
unfoldable pub naming : Parts → Naming
naming p r = slice_index_or p.names r r
