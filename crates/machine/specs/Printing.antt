-- What the reply to a line prints: by the reply itself, and by what the lines come to.
use Rattle.std.specs.Prelude.{◌≡◌, ℕ, List, [], ◌∷◌, ◌++◌, length, Ok, Err, Result}
use Rattle.track.specs.declared.refusal.Refusal.{Refusal}
use Rattle.scales.specs.Bytes.{pair_bytes}
use Rattle.scales.specs.declared.pair.Pair.{Pair}
use Rattle.roster.specs.Book.{book_of}
use Rattle.sheets.specs.declared.sheet.Sheet.{Sheet}
use Rattle.frames.specs.Text.{text}
use Rattle.frames.specs.Replies.{numbers_of, refusal_lines, plan_lines, lines_of_plan}
use Rattle.frames.specs.declared.plan.Plan.{Plan}
use Rattle.planner.specs.Promise.{Reply, accepted, declined, noted, are_closed, planned}
use Rattle.planner.specs.History.{Meaning}
use Rattle.machine.specs.Progress.{Progress, drawing, planning, after_line}
use Rattle.machine.specs.Phases.{StandsAt, steps_asked}
use Rattle.machine.specs.Lines.{LineEvent, handed_in}
use Rattle.machine.specs.declared.machine.Machine.{Machine}
use Rattle.machine.specs.declared.said.Said.{Said}
use Rattle.machine.specs.declared.said.Said.TheVariants.{Done, Planned}

-- why the line was declined, or the plan that was made; shown are the bytes of a cost
abbrev pub reply_lines : {C : Type 0} → (shown : C → List ℕ) → Result (Said C) Refusal → List (List ℕ)
reply_lines shown (Err e) = refusal_lines e
reply_lines shown (Ok Done) = []
reply_lines shown (Ok (Planned p)) = lines_of_plan shown p

-- under steps, then points, whose costs have four bytes, some plan of 8 trains over 16 steps prints so many bytes
pub record APlanOfEightTrainsOverSixteenStepsHas (n : ℕ) : Type 0 where
  pub plan : Plan Pair
  pub trains : length plan.numbers ≡ 8
  pub over : plan.steps ≡ 16
  pub long : length (text (reply_lines pair_bytes (Ok (Planned plan)))) ≡ n

-- the numbers of the trains of the book of the calls so far; before the finish there are none
abbrev pub numbers_at : Progress → List ℕ
numbers_at (drawing m) = []
numbers_at (planning m calls) = numbers_of (book_of m.sections calls).trains

-- a refusal, by its number; a plan of trains with these numbers, over so many steps, with this sheet; other replies print nothing
abbrev pub lines_by : {C : Type 0} → (shown : C → List ℕ) → Reply C → (numbers : List ℕ) (steps : ℕ) → Sheet → List (List ℕ)
lines_by shown (declined k) numbers steps sheet = (31 ∷ (k ∷ [])) ∷ []
lines_by shown (planned cost groups) numbers steps sheet = plan_lines numbers sheet steps (shown cost) groups
lines_by shown accepted numbers steps sheet = []
lines_by shown (noted s) numbers steps sheet = []
lines_by shown (are_closed n s) numbers steps sheet = []

-- what the reply to a line prints, after lines that come to s: a plan is of the trains of the book, over the steps that the line asks for,
-- with the sheet as it is afterwards
abbrev pub prints : {C : Type 0} → (shown : C → List ℕ) → Progress → LineEvent C → List (List ℕ)
prints shown s e = lines_by shown e.reply (numbers_at s) (steps_asked e.line) e.afterwards

-- what the replies to lines print, one after the other, each after what the lines before it come to
abbrev pub all_print : {C : Type 0} → (shown : C → List ℕ) → Progress → List (LineEvent C) → List (List ℕ)
all_print shown s [] = []
all_print shown s (e ∷ es) = prints shown s e ++ all_print shown (after_line s (handed_in e)) es

module _ {R S Q C : Type 0} (k : Meaning R S Q C) (rule : R) (scale : S) (below : Q) where
  -- whatever the lines before it come to, the reply prints what the lines say
  abbrev pub PrintsByTheLines : Machine R S Q → Result (Said C) Refusal → LineEvent C → Type 0
  PrintsByTheLines m said e =
      (s : Progress) → StandsAt k rule scale below s m.phase → (shown : C → List ℕ) → reply_lines shown said ≡ prints shown s e
