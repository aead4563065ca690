-- The lines that are printed, as bytes.
use Rattle.std.specs.Prelude.{ℕ, ◌+◌, List, [], ◌∷◌, ◌++◌, map, length, slice_index}
use Rattle.std.specs.List.{range_with_len}
use Rattle.track.specs.Refusals.{number_of}
use Rattle.track.specs.declared.refusal.Refusal.{Refusal}
use Rattle.scales.specs.Bytes.{high_first}
use Rattle.roster.specs.Trains.{number_of as number_of_train}
use Rattle.roster.specs.declared.train.Train.{Train}
use Rattle.sheets.specs.Inquiry.{plan_of}
use Rattle.sheets.specs.declared.sheet.Sheet.{Sheet}
use Rattle.frames.specs.declared.plan.Plan.{Plan}

-- 1F and the number of the refusal
abbrev pub refusal_lines : Refusal → List (List ℕ)
refusal_lines e = (31 ∷ (number_of e ∷ [])) ∷ []

-- 10, the train's number in two bytes, the high one first, and where it stands at times 0 to steps
abbrev pub train_bytes : (number : ℕ) (stands : ℕ → ℕ) (steps : ℕ) → List ℕ
train_bytes number stands steps = 16 ∷ (high_first number ++ map stands (range_with_len 0 (steps + 1)))

-- 11, the cost's bytes, and how many groups there are
abbrev pub total_bytes : (cost : List ℕ) (groups : ℕ) → List ℕ
total_bytes cost groups = 17 ∷ (cost ++ (groups ∷ []))

-- the numbers of trains
abbrev pub numbers_of : List Train → List ℕ
numbers_of trains = map number_of_train trains

-- a line for each of the first rows, of trains with these numbers
unfoldable pub train_lines : (numbers : List ℕ) → Sheet → (steps rows : ℕ) → List (List ℕ)
train_lines numbers s steps rows =
    map (λ row. train_bytes (slice_index numbers row) (plan_of s row) steps) (range_with_len 0 rows)

-- a line for each train in their order, at times 0 to steps, and then the line of the total
abbrev pub plan_lines : (numbers : List ℕ) → Sheet → (steps : ℕ) (cost : List ℕ) (groups : ℕ) → List (List ℕ)
plan_lines numbers s steps cost groups =
    train_lines numbers s steps (length numbers) ++ (total_bytes cost groups ∷ [])

-- those of a plan; shown are the bytes of a cost
abbrev pub lines_of_plan : {C : Type 0} → (shown : C → List ℕ) → Plan C → List (List ℕ)
lines_of_plan shown p = plan_lines p.numbers p.sheet p.steps (shown p.cost) p.groups
