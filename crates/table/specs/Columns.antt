-- The worksheet, column by column: the column of so many steps left has a cell for each joint position.
use Rattle.std.specs.Prelude.{◌≡◌, ℕ, ◌+◌, ◌*◌, ◌^◌, ◌<◌, ◌≤◌, List, [], length, None, Option, slice_index, slice_index_or}
use Rattle.track.specs.Layouts.{sections_of}
use Rattle.scales.specs.Measure.{Measure}
use Rattle.sheets.specs.Inquiry.{Inquiry, trains}
use Rattle.words.specs.Words.{rest}
use Rattle.words.specs.Joint.{Task, process}
use Rattle.table.specs.Codes.{digits, code_of}
use Rattle.table.specs.declared.filled.Filled.{Filled}

-- the least cost of the rest, for so many steps left and the joint position of a number
abbrev pub due : {C : Type 0} → Measure C → Task → (left code : ℕ) → Option C
due S K left code = rest S (process S K) (K.trains * left) (record { at = digits K.sections K.trains code; to = [] })

-- the first `count` cells of a column have the costs that are due with so many steps left
abbrev pub Column : {C : Type 0} → Measure C → Task → (left count : ℕ) → List (Option C) → Type 0
Column S K left count cells = (code : ℕ) → code < count → slice_index_or cells code None ≡ due S K left code

-- the columns up to `left`, of `size` cells each, have the costs that are due
abbrev pub Columns : {C : Type 0} → Measure C → Task → (left size : ℕ) → List (Option C) → Type 0
Columns S K left size cells = (l code : ℕ) → l ≤ left → code < size → slice_index_or cells (l * size + code) None ≡ due S K l code

-- the cells from `bound` on are as they were
abbrev pub KeptFrom : {C : Type 0} → ℕ → List (Option C) → List (Option C) → Type 0
KeptFrom bound old new = (i : ℕ) → bound ≤ i → slice_index_or new i None ≡ slice_index_or old i None

-- what a filled worksheet may be asked
pub record Within {S R C : Type 0} (f : Filled S R C) (left : ℕ) (at : List ℕ) : Type 0 where
  pub room : left * f.positions.now.count + f.positions.now.count ≤ length f.cells.now
  pub inside : (i : ℕ) → i < f.positions.now.group.now.board.trains → slice_index at i < sections_of f.positions.now.group.now.board.layout.now

-- what it says
abbrev pub cell_at : {S R C : Type 0} → Filled S R C → (left : ℕ) → List ℕ → Option C
cell_at f left at = slice_index_or f.cells.now (left * f.positions.now.count + code_of (sections_of f.positions.now.group.now.board.layout.now) f.positions.now.group.now.board.trains at) None

-- a cell for each time and each joint position of the group's trains
abbrev pub Enough : {C : Type 0} → Inquiry C → ℕ → Type 0
Enough i cells = i.problem.sections ^ trains i * (i.problem.steps + 1) ≤ cells
