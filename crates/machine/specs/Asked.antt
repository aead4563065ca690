-- What a frame asks for.
use Rattle.std.specs.Prelude.{ℕ, ◌+◌, ◌*◌, cond, List, ◌==◌, slice_index}
use Rattle.roster.specs.Book.{Call, enter, withdraw, plan}
use Rattle.frames.specs.Lines.{bytes_of}
use Rattle.frames.specs.Frames.{Told}

-- to draw sections, a link or a foul, to finish the drawing, or to make a call to the planner
pub data Asked : Type 0 where
  sections : (k : ℕ) → Asked
  link : (a b points : ℕ) → Asked
  foul : (a b c d : ℕ) → Asked
  finish : Asked
  call : Call → Asked

-- the bytes of the fields, and two of them as a number, the high one first
abbrev pub field : List ℕ → ℕ → ℕ
field digits i = slice_index (bytes_of digits) i

abbrev pub number : List ℕ → ℕ → ℕ
number digits i = field digits i * 256 + field digits (i + 1)

-- by the kind of the frame, with a worksheet of so many cells
abbrev pub by_kind : (cells kind : ℕ) → (digits : List ℕ) → Asked
by_kind cells k d =
    cond (k == 1) (sections (field d 0))
    (cond (k == 2) (link (field d 0) (field d 1) (field d 2))
    (cond (k == 3) (foul (field d 0) (field d 1) (field d 2) (field d 3))
    (cond (k == 4) finish
    (cond (k == 5) (call (enter (number d 0) (field d 2) (field d 3)))
    (cond (k == 6) (call (withdraw (number d 0)))
    (call (plan (field d 0) cells)))))))

abbrev pub asked_by : (cells : ℕ) → Told → Asked
asked_by cells t = by_kind cells t.0 t.1
