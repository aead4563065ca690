-- Bytes cut into lines.
use Rattle.std.specs.Prelude.{◌≡◌, ℕ, Bool, true, false, cond, List, [], ◌∷◌, ◌++◌, map, length, take, ◌==◌}
use Rattle.frames.specs.Frames.{read_as}
use Rattle.frames.specs.Text.{chars_of, text}

-- the lines of an input of which xs is left, and begun stands before it since the last 0A:
-- a line ends at 0A, which is not of it; what stands behind the last 0A is a line if it is not empty
unfoldable pub lines_from : (begun xs : List ℕ) → List (List ℕ)
lines_from begun [] = cond (length begun == 0) [] (begun ∷ [])
lines_from begun (x ∷ xs) = cond (x == 10) (begun ∷ lines_from [] xs) (lines_from (begun ++ (x ∷ [])) xs)

abbrev pub lines_of : List ℕ → List (List ℕ)
lines_of xs = lines_from [] xs

-- where the cutting stands: at most the first 65 bytes of the line, and whether 0A has ended it
pub record Cut : Type 0 where
  pub line : List ℕ
  pub ended : Bool

abbrev pub cut : List ℕ → Bool → Cut
cut line ended = record { line = line; ended = ended }

abbrev pub fresh : Cut
fresh = cut [] false

-- what is held of the line that the next byte belongs to
abbrev pub begun_of : Cut → List ℕ
begun_of s = cond s.ended [] s.line

-- one byte on, by whether it is 0A
unfoldable pub stepped : Bool → Cut → ℕ → Cut
stepped true s x = cut (begun_of s) true
stepped false s x = cut (take 65 (begun_of s ++ (x ∷ []))) false

abbrev pub after : Cut → ℕ → Cut
after s x = stepped (x == 10) s x

unfoldable pub after_all : Cut → List ℕ → Cut
after_all s [] = s
after_all s (x ∷ xs) = after_all (after s x) xs

-- the lines that bytes give, each where its 0A is taken
unfoldable pub given : Cut → List ℕ → List (List ℕ)
given s [] = []
given s (x ∷ xs) = cond (x == 10) ((after s x).line ∷ given (after s x) xs) (given (after s x) xs)

-- the last line, if the input ends here: none if nothing has begun
abbrev pub rest : Cut → List (List ℕ)
rest s = cond (length (begun_of s) == 0) [] (begun_of s ∷ [])

-- bytes taken in two pieces, and so in any, give the same lines and come to the same
abbrev pub AnyPieces : Type 0
AnyPieces = (s : Cut) (xs ys : List ℕ) → (given s (xs ++ ys) ≡ given s xs ++ given (after_all s xs) ys) × (after_all s (xs ++ ys) ≡ after_all (after_all s xs) ys)

-- the lines given, and the rest as the last, are the lines of the input, of each its first 65 bytes
abbrev pub AllLines : Type 0
AllLines = (xs : List ℕ) → given fresh xs ++ rest (after_all fresh xs) ≡ map (take 65) (lines_of xs)

-- behind whatever input, a byte gives just the line that it ends, if it ends one
abbrev pub NextOfTheInput : Cut → (byte : ℕ) → Cut → Type 0
NextOfTheInput s byte n =
    (xs : List ℕ) → s ≡ after_all fresh xs → (n ≡ after_all fresh (xs ++ (byte ∷ []))) × (given fresh (xs ++ (byte ∷ [])) ≡ given fresh xs ++ cond (byte == 10) (n.line ∷ []) [])

-- a printed text is cut into the lines that it was printed from
abbrev pub TextIntoItsLines : Type 0
TextIntoItsLines = (lines : List (List ℕ)) → lines_of (text lines) ≡ map chars_of lines

-- the first 65 bytes of a line are read as the line is
abbrev pub ClippedReadsTheSame : Type 0
ClippedReadsTheSame = (xs : List ℕ) → read_as (take 65 xs) ≡ read_as xs
