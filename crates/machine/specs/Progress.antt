-- What a list of lines amounts to, worked out from what is handed in alone.
use Rattle.std.specs.Prelude.{ℕ, List, [], ◌∷◌, ◌++◌, Ok, Err, Result}
use Rattle.track.specs.Model.{Model, blank, sections_declined, link_declined, foul_declined, widened, with_link, with_foul}
use Rattle.track.specs.Refusals.{unless}
use Rattle.track.specs.declared.refusal.Refusal.{Refusal}
use Rattle.roster.specs.Book.{Call}
use Rattle.frames.specs.Frames.{Told, read_as}
use Rattle.machine.specs.Asked.{Asked, sections, link, foul, finish, call, asked_by}

-- before the finish what is drawn; after it what was drawn, and the calls made to the planner since
pub data Progress : Type 0 where
  drawing : Model → Progress
  planning : Model → List Call → Progress

-- a frame on the wrong side of the finish changes nothing
abbrev pub moved : Progress → Asked → Progress
moved (drawing m) (sections k) = drawing (unless (sections_declined m k) (widened m k) m)
moved (drawing m) (link a b p) = drawing (unless (link_declined m a b p) (with_link m a b p) m)
moved (drawing m) (foul a b c d) = drawing (unless (foul_declined m a b c d) (with_foul m a b c d) m)
moved (drawing m) finish = planning m []
moved (drawing m) (call c) = drawing m
moved (planning m calls) (sections k) = planning m calls
moved (planning m calls) (link a b p) = planning m calls
moved (planning m calls) (foul a b c d) = planning m calls
moved (planning m calls) finish = planning m calls
moved (planning m calls) (call c) = planning m (calls ++ (c ∷ []))

-- a line that is no frame changes nothing
abbrev pub after_read : (cells : ℕ) → Progress → Result Told Refusal → Progress
after_read cells s (Ok t) = moved s (asked_by cells t)
after_read cells s (Err e) = s

-- a line that is handed in, with how many cells there are to plan with
pub record Handed : Type 0 where
  pub line : List ℕ
  pub cells : ℕ

abbrev pub handed : List ℕ → ℕ → Handed
handed line cells = record { line = line; cells = cells }

abbrev pub after_line : Progress → Handed → Progress
after_line s h = after_read h.cells s (read_as h.line)

abbrev pub progress_from : Progress → List Handed → Progress
progress_from s [] = s
progress_from s (h ∷ hs) = progress_from (after_line s h) hs

-- it begins with nothing drawn
abbrev pub beginning : Progress
beginning = drawing blank

abbrev pub progress_of : List Handed → Progress
progress_of hs = progress_from beginning hs
