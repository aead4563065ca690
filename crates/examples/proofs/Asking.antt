-- The best sheet of a group, found by a computation on words, and that it is the best.
use Rattle.std.proofs.Common.{◌≡◌, ℕ, ◌+◌, ◌*◌, ◌≤◌, List, get_or, drop, Some, None, Option, sym, refl, ap, ◌∙◌, subst, mul-le-mul, mul-zero, add-one, arith}
use Rattle.scales.specs.Measure.{Measure, MeasureLaws}
use Rattle.sheets.specs.Problem.{Problem, ProblemLaws, Posed, Group, Member, count}
use Rattle.sheets.specs.Plan.{Plan, Best, Without}
use Rattle.words.specs.Words.{Process, Run, BestWord, rest, best}
use Rattle.words.specs.Joint.{Joint}
use Rattle.words.specs.Bridge.{Picks, Bridged, task_of_problem, alone, seen, group_process, group_start, group_word}
use Rattle.words.specs.Gathering.{row_at}
use Rattle.words.proofs.BestWords.{answers}
use Rattle.words.proofs.Prices.{price_size, runs_few}
use Rattle.std.proofs.lemmas.Option.{none-some, same_Some}
use Rattle.words.proofs.Bridges.{bridge}
use Rattle.words.proofs.Gathering.{every_group_picks}
use Rattle.words.proofs.Picked.{place_row, few}
use Rattle.words.proofs.Reading.{sheet_of, sheet_read, run_length}

-- the sheet, where there is a cost
abbrev found_at : {C : Type 0} → Option C → Plan → Option Plan
found_at None x = None
found_at (Some c) x = Some x

module _ {C : Type 0} (S : Measure C) (Q : Problem) (F : Group) where
  abbrev size : ℕ
  size = count Q.rows F

  abbrev row : ℕ → ℕ
  row = row_at F Q.rows

  abbrev place : ℕ → ℕ
  place r = count r F

  abbrev moving : Process Joint C
  moving = group_process S Q size row

  abbrev from : Joint
  from = group_start Q size row

  abbrev sheet : List ℕ → Plan
  sheet v = sheet_of Q.start place size v

  -- the first of the sheets that cost least, or nothing
  abbrev pub ask : Option Plan
  ask = found_at (rest S moving (size * Q.steps) from) (sheet (best S moving (size * Q.steps) from))

  module _ (L : MeasureLaws S) (M : ProblemLaws Q) (D : Posed Q) (r : ℕ) (m : Member Q F r) where
    picks : Picks Q F size row place
    picks = every_group_picks Q F r m

    bridged : Bridged S Q F size row place
    bridged = bridge S L Q M D F size row place picks

    small : 16 * (size * Q.steps) ≤ 65535
    small =
        let a : size ≤ 8 = omega (arith, few Q F size row place picks, M.rows_most) in
        let b : size * Q.steps ≤ 8 * 16 = mul-le-mul a M.steps_most in
        omega arith

    prices : (s : Joint) (x : ℕ) → S.size (moving.price s x) ≤ 16
    prices = price_size S L (task_of_problem (alone Q size row)) (runs_few (alone Q size row) M.points_most)

    -- the word of the sheet is the word that it is read off
    word_is : (v : List ℕ) → Run moving (size * Q.steps) from v → group_word Q size row (sheet v) ≡ v
    word_is v R =
        sheet_read v (seen row (sheet v)) size Q.steps
        (λ t i a b. ap (λ u. sheet v (row i) u) (add-one t) ∙ ap (λ p. get_or v (size * t + p) 0) (place_row Q F size row place picks i b))
        (run_length moving (size * Q.steps) from v R) Q.steps 0 (omega arith)
        ∙ ap (λ u. drop u v) (mul-zero size)

    -- with no cost of the rest no sheet is lawful; with one the sheet is the best
    abbrev Told : Option C → Type 0
    Told o = (found_at o (sheet (best S moving (size * Q.steps) from)) ≡ None → Without Q F)
        × ((y : Plan) → found_at o (sheet (best S moving (size * Q.steps) from)) ≡ Some y → Best S Q F y)

    told : (o : Option C) → rest S moving (size * Q.steps) from ≡ o → Told o
    told None e = ((λ z. bridged.none_lawful ((answers S L moving prices (size * Q.steps) from small).none e)), λ y z. absurd (none-some y z))
    told (Some c) e =
        let v = best S moving (size * Q.steps) from in
        let b = (answers S L moving prices (size * Q.steps) from small).found c e in
        let w = word_is v b.runs in
        let z = bridged.best_of_word (sheet v) c (λ q k. refl) (subst (λ u. BestWord S moving (size * Q.steps) from u c) (sym w) b) in
        ((λ n. absurd (none-some _ (sym n))), λ y n. subst (Best S Q F) (same_Some _ _ n) z.0)

    pub ask_none : ask ≡ None → Without Q F
    ask_none = (told _ refl).0

    pub ask_some : (y : Plan) → ask ≡ Some y → Best S Q F y
    ask_some = (told _ refl).1
