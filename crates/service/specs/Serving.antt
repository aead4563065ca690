-- What is read, what is written for it, and what stands where reading or writing fails.
use Rattle.std.specs.Prelude.{◌≡◌, ℕ, cond, List, [], ◌∷◌, ◌++◌, map, take, Ok, Err, Option, Result, ◌==◌}
use Rattle.std.specs.List.{AllByRecursion}
use Rattle.std.specs.Io.KnownBytes.{Appends, Consumes, IsAtEnd}
use Rattle.frames.specs.Cuts.{lines_of}
use Rattle.frames.specs.Text.{text}
use Rattle.planner.specs.History.{Meaning}
use Rattle.machine.specs.Progress.{beginning, progress_of}
use Rattle.machine.specs.Lines.{LineEvent, AllLinesKept}
use Rattle.machine.specs.Lines.{lines_of as handed_lines}
use Rattle.machine.specs.Printing.{prints, all_print}
use Rattle.machine.specs.Inputs.{texts_of}

-- the lines that 0A ends in an input of which xs is left, where begun stands before it since the last 0A
unfoldable pub ended_from : (begun xs : List ℕ) → List (List ℕ)
ended_from begun [] = []
ended_from begun (x ∷ xs) = cond (x == 10) (begun ∷ ended_from [] xs) (ended_from (begun ++ (x ∷ [])) xs)

abbrev pub ended_lines : List ℕ → List (List ℕ)
ended_lines xs = ended_from [] xs

-- all of the bytes were written, or, where writing failed, the first so many of them
abbrev pub Sent : {E : Type 0} → (old new : Option (List ℕ)) → (bytes : List ℕ) → Result (Unit {0}) E → Type 0
Sent old new bytes (Ok u) = Appends old new bytes
Sent old new bytes (Err e) = (count : ℕ) × Appends old new (take count bytes)

-- what lines print, one after the other; shown are the bytes of a cost
abbrev pub replies : {C : Type 0} → (shown : C → List ℕ) → List (LineEvent C) → List ℕ
replies shown es = text (all_print shown beginning es)

-- served under this rule and scale over this search, with so many cells for each line
module _ {R S Q C : Type 0} (k : Meaning R S Q C) (rule : R) (scale : S) (below : Q) (cells : ℕ) where
  -- just these lines were done, of each its first 65 bytes,
  -- and every reply was kept for what the lines before it come to
  pub record LinesDone (lines : List (List ℕ)) (es : List (LineEvent C)) : Type 0 where
    pub texts : texts_of es ≡ map (take 65) lines
    pub with_cells : AllByRecursion (λ e. e.cells ≡ cells) es
    pub kept : AllLinesKept k rule scale below beginning es

  module _ (shown : C → List ℕ) where
    -- these lines were done, and what they print was written, in their order and nothing else
    pub record Answered (lines : List (List ℕ)) (old new : Option (List ℕ)) : Type 0 where
      pub es : List (LineEvent C)
      pub done : LinesDone lines es
      pub written : Appends old new (replies shown es)

    -- these lines were done; written was what all but the last print,
    -- and of what the last prints the first so many bytes
    pub record CutOff (lines : List (List ℕ)) (old new : Option (List ℕ)) : Type 0 where
      pub es : List (LineEvent C)
      pub last : LineEvent C
      pub count : ℕ
      pub done : LinesDone lines (es ++ (last ∷ []))
      pub written : Appends old new
          (replies shown es ++ take count (text (prints shown (progress_of (handed_lines es)) last)))

    -- where it failed, after so much was read
    pub data Failed (read : List ℕ) (left old new : Option (List ℕ)) : Type 0 where
      -- nothing more was read: each line that had been ended was answered
      reading : Answered (ended_lines read) old new → Failed read left old new
      -- the answer to a line that had been ended was cut off: what was read behind it is not done
      writing : (xs behind : List ℕ) → read ≡ xs ++ behind → CutOff (ended_lines xs) old new
          → Failed read left old new
      -- at the end of the input the answer to its last line was cut off
      writing_at_the_end : IsAtEnd left → CutOff (lines_of read) old new → Failed read left old new

    -- served to the end of the input: each of its lines was answered; or it failed
    abbrev pub Outcome : {E : Type 0} → (read : List ℕ) (left old new : Option (List ℕ))
        → Result (Unit {0}) E → Type 0
    Outcome read left old new (Ok u) = IsAtEnd left × Answered (lines_of read) old new
    Outcome read left old new (Err e) = Failed read left old new

    -- a reader had this input and has so much left, a writer held the old bytes and holds the new.
    -- Of a reader or a writer whose bytes are not known nothing is said
    pub record Served {E : Type 0} (input left old new : Option (List ℕ)) (result : Result (Unit {0}) E)
        : Type 0 where
      pub read : List ℕ
      pub consumed : Consumes input left read
      pub outcome : Outcome read left old new result
