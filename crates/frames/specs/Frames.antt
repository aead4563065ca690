-- What a line is read as.
use Rattle.std.specs.Prelude.{◌≡◌, ℕ, cond, List, ◌∷◌, length, drop, Some, None, Ok, Err, Option, Result, ◌==◌, slice_index}
use Rattle.track.specs.declared.refusal.Refusal.{Refusal}
use Rattle.track.specs.declared.refusal.Refusal.TheVariants.{NotPairsOfDigits, UnknownFrame}
use Rattle.frames.specs.declared.part.Part.{Part}
use Rattle.frames.specs.declared.frame.Frame.{Frame}
use Rattle.frames.specs.declared.frame.Frame.TheVariants.{AddSections, Link, Foul, Finish, Enter, Withdraw, Plan}
use Rattle.frames.specs.Lines.{fault_of, bytes_of, size_of, place_of}

-- a frame: the number of its kind, the part of the line that has its fields, and the place where that begins
abbrev pub Told : Type 0
Told = ℕ × List ℕ × ℕ

abbrev pub told : ℕ → Part → Told
told k p = (k, p.digits.now, p.place)

abbrev pub frame_of : Frame → Told
frame_of (AddSections p) = told 1 p
frame_of (Link p) = told 2 p
frame_of (Foul p) = told 3 p
frame_of (Finish p) = told 4 p
frame_of (Enter p) = told 5 p
frame_of (Withdraw p) = told 6 p
frame_of (Plan p) = told 7 p

abbrev pub shown : Result Frame Refusal → Result Told Refusal
shown (Ok f) = Ok (frame_of f)
shown (Err e) = Err e

-- a line without a fault, by the bytes that it writes: 28 unless there is such a kind and as many bytes as it has
abbrev pub by_kind : List ℕ → (bytes : List ℕ) → Result Told Refusal
by_kind xs bytes = cond (size_of (slice_index bytes 0) == length bytes) (Ok (slice_index bytes 0, drop (place_of xs) xs, place_of xs)) (Err UnknownFrame)

-- 27 with the place of the fault, if there is one
abbrev pub unless : Option ℕ → Result Told Refusal → Result Told Refusal
unless (Some place) r = Err (NotPairsOfDigits place)
unless None r = r

abbrev pub read_as : List ℕ → Result Told Refusal
read_as xs = unless (fault_of xs) (by_kind xs (bytes_of xs))

-- a frame that was read: its line writes the kind and then the fields, as many bytes as the kind has
abbrev pub KindThenFields : List ℕ → Type 0
KindThenFields xs = (t : Told) → read_as xs ≡ Ok t → (bytes_of xs ≡ t.0 ∷ bytes_of t.1) × (length (bytes_of xs) ≡ size_of t.0)
