-- What a reply prints is never longer than the longest plan.
use Rattle.std.proofs.Common.{◌≡◌, ℕ, ◌+◌, ◌*◌, ◌≤◌, List, [], ◌∷◌, length, replicate, ap, ◌∙◌, Ok, Result, IsOk, refl, arith, subst, sym}
use Rattle.std.proofs.Math.Nat.{mul-le-mul}
use Rattle.std.proofs.lemmas.Bool.Decides.{nat_tests}
use Rattle.std.proofs.lemmas.List.{append-nil}
use Rattle.track.specs.Refusals.{number_of}
use Rattle.track.specs.declared.refusal.Refusal.{Refusal}
use Rattle.scales.specs.Bytes.{pair_bytes}
use Rattle.scales.specs.declared.pair.Pair.{Pair}
use Rattle.frames.specs.Text.{line_of, text, printing}
use Rattle.frames.specs.Replies.{refusal_lines, lines_of_plan}
use Rattle.frames.specs.declared.plan.Plan.{Plan}
use Rattle.frames.proofs.Ended.{length_line_of}
use Rattle.frames.proofs.Rows.{length_plan}
use Rattle.machine.specs.Printing.{APlanOfEightTrainsOverSixteenStepsHas}

printing_fits : (old xs : List ℕ) (n : ℕ) → length xs ≤ n → n ≤ length old → IsOk (printing old xs)
printing_fits old xs n h k =
    let e : printing old xs ≡ Ok (length xs) = grind (arith, nat_tests) in
    rw e refl

plan_long : {C : Type 0} (shown : C → List ℕ) (p : Plan C)
    → length (text (lines_of_plan shown p)) ≡ length p.numbers * (3 * (4 + p.steps)) + 3 * (length (shown p.cost) + 2)
plan_long shown p = length_plan p.numbers p.sheet p.steps (shown p.cost) p.groups (length p.numbers) (length (shown p.cost)) refl refl

pub plan_fits : {C : Type 0} (shown : C → List ℕ) (p : Plan C) (width : ℕ) (old : List ℕ) (r : Result ℕ Refusal) → length (shown p.cost) ≤ width
    → r ≡ printing old (text (lines_of_plan shown p)) → 480 + 3 * (width + 2) ≤ length old → IsOk r
plan_fits shown p width old r h e k =
    let last : 3 * (4 + p.steps) ≤ 60 = omega (arith, p.few_steps) in
    let trains : length p.numbers * (3 * (4 + p.steps)) ≤ 8 * 60 = mul-le-mul p.few_trains last in
    subst (λ (z : Result ℕ Refusal). IsOk z) (sym e) (printing_fits old _ (480 + 3 * (width + 2)) (omega (arith, plan_long shown p)) k)

refusal_short : (e : Refusal) → length (text (refusal_lines e)) ≡ 6
refusal_short e =
    let bytes = 31 ∷ (number_of e ∷ []) in
    ap length (append-nil (line_of bytes)) ∙ length_line_of bytes (omega arith)

pub refusal_fits : (e : Refusal) (width : ℕ) (old : List ℕ) (r : Result ℕ Refusal) → r ≡ printing old (text (refusal_lines e)) → 480 + 3 * (width + 2) ≤ length old → IsOk r
refusal_fits e width old r i k =
    subst (λ (z : Result ℕ Refusal). IsOk z) (sym i) (printing_fits old (text (refusal_lines e)) (480 + 3 * (width + 2)) (omega (arith, refusal_short e)) k)

-- 8 trains that stand in section 0 for 16 steps
longest : Plan Pair
longest = record {
  numbers = 1 ∷ (2 ∷ (3 ∷ (4 ∷ (5 ∷ (6 ∷ (7 ∷ (8 ∷ [])))))));
  sheet = record { rows = replicate 8 (replicate 17 0) };
  steps = 16;
  cost = record { steps = 0; points = 0 };
  groups = 8;
  few_trains = omega arith;
  few_steps = omega arith;
}

pub some_longest : APlanOfEightTrainsOverSixteenStepsHas 498
unfolding longest
some_longest = record { plan = longest; trains = refl; over = refl; long = plan_long pair_bytes longest }
