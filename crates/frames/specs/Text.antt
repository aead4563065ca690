-- Bytes as text: lines formed as those that are read, each ended by 0A; and a text in a writing place.
use Rattle.std.specs.Prelude.{◌≡◌, ℕ, ◌+◌, ◌/◌, ◌%◌, ◌<◌, ◌≤◌, cond, List, [], ◌∷◌, ◌++◌, length, take, drop, None, Ok, Err, Result, nat_lt}
use Rattle.std.specs.List.{flat_map, AllByRecursion}
use Rattle.track.specs.declared.refusal.Refusal.{Refusal}
use Rattle.track.specs.declared.refusal.Refusal.TheVariants.{WritingPlaceTooShort}
use Rattle.frames.specs.Lines.{fault_of, bytes_of}

-- the digit that stands for a number below 16
abbrev pub digit_of : ℕ → ℕ
digit_of d = cond (nat_lt d 10) (d + 48) (d + 55)

-- the two digits of a byte, and what stands behind them
abbrev pub trio : (byte behind : ℕ) → List ℕ
trio byte behind = digit_of (byte / 16) ∷ (digit_of (byte % 16) ∷ (behind ∷ []))

-- the characters that write bytes: two digits for each, one space between two bytes
unfoldable pub chars_of : List ℕ → List ℕ
chars_of [] = []
chars_of (b ∷ []) = digit_of (b / 16) ∷ (digit_of (b % 16) ∷ [])
chars_of (b ∷ (c ∷ bs)) = digit_of (b / 16) ∷ (digit_of (b % 16) ∷ (32 ∷ chars_of (c ∷ bs)))

unfoldable pub line_of : List ℕ → List ℕ
line_of bytes = chars_of bytes ++ (10 ∷ [])

-- the text of lines, by the bytes of each
abbrev pub text : List (List ℕ) → List ℕ
text lines = flat_map line_of lines

-- what holds old, with xs written over it from the place at on
unfoldable pub written : (old : List ℕ) (at : ℕ) (xs : List ℕ) → List ℕ
written old at xs = take at old ++ (xs ++ drop (at + length xs) old)

-- printing a text into a writing place that holds old: what is told, the length of the text or 30
abbrev pub printing : (old xs : List ℕ) → Result ℕ Refusal
printing old xs = cond (nat_lt (length old) (length xs)) (Err WritingPlaceTooShort) (Ok (length xs))

-- what the writing place then holds: the text and behind it what was there, or just what was there
abbrev pub printed : (old xs : List ℕ) → List ℕ
printed old xs = cond (nat_lt (length old) (length xs)) old (xs ++ drop (length xs) old)

-- the characters of the bytes have no fault, and write these bytes
abbrev pub ReadsBack : List ℕ → Type 0
ReadsBack bytes = (fault_of (chars_of bytes) ≡ None) × (bytes_of (chars_of bytes) ≡ bytes)

-- what is printed can be read again: 1 to 21 bytes
abbrev pub RoundTrip : Type 0
RoundTrip = (bytes : List ℕ) → 0 < length bytes → length bytes ≤ 21 → AllByRecursion (λ b. b < 256) bytes → ReadsBack bytes

-- where the lines were printed, each of them can be read again
abbrev pub EachReadsBack : Result ℕ Refusal → List (List ℕ) → Type 0
EachReadsBack (Ok n) lines = AllByRecursion ReadsBack lines
EachReadsBack (Err e) lines = Unit {0}
