-- What stands on a row: its train, its mark and its sections, read off side by side.
use Rattle.std.proofs.Common.{◌≡◌, ℕ, ◌+◌, ◌<◌, Bool, ◌&&◌, eqb, List, [], length, get_or, take, drop, ap, ◌∙◌, ap₂, arith}
use Rattle.std.specs.List.{zip}
use Rattle.std.proofs.lemmas.List.{get_or-take, get_or-drop, get_or_default, length-take}
use Rattle.std.proofs.lemmas.Slice.Zip.{length-zip, get_or-zip}
use Rattle.rules.specs.Conflicts.{Conflicts}
use Rattle.scales.specs.Measure.{Measure, joined}
use Rattle.roster.specs.Model.{held, no_train, goal_at}
use Rattle.roster.specs.declared.train.Train.{Train}
use Rattle.sheets.specs.Inquiry.{over, problem_asked, plan_of}
use Rattle.sheets.specs.Plan.{row_cost}
use Rattle.sheets.specs.declared.sheet.Sheet.{Sheet}
use Rattle.sheets.specs.declared.question.Question.{Question}

pub record OfRow (ts : List Train) (ms : List Bool) (xs : List (List ℕ)) (i : ℕ) (t : Train) (m : Bool) (x : List ℕ) : Type 0 where
  pub a_train : i < length ts
  pub a_mark : i < length ms
  pub a_row : i < length xs
  pub train : t ≡ get_or ts i t
  pub mark : m ≡ get_or ms i m
  pub sections : x ≡ get_or xs i x

pub of_row : (ts : List Train) (ms : List Bool) (xs : List (List ℕ)) (i : ℕ) (t : Train) (m : Bool) (x : List ℕ)
    → (i < length (zip (zip ts ms) xs)) × (((t, m), x) ≡ get_or (zip (zip ts ms) xs) i ((t, m), x)) → OfRow ts ms xs i t m x
of_row ts ms xs i t m x h =
    let a = length-zip (zip ts ms) xs in
    let b = length-zip ts ms in
    let e = h.1 ∙ get_or-zip (zip ts ms) xs i ((t, m), x) (omega (arith, a, b, h.0)) (omega (arith, a, b, h.0)) in
    let f = ap (λ p. p.0) e ∙ get_or-zip ts ms i (t, m) (omega (arith, a, b, h.0)) (omega (arith, a, b, h.0)) in
    record {
      a_train = omega (arith, a, b, h.0);
      a_mark = omega (arith, a, b, h.0);
      a_row = omega (arith, a, b, h.0);
      train = ap (λ p. p.0) f;
      mark = ap (λ p. p.1) f;
      sections = ap (λ p. p.1) e;
    }

-- a section and the one after it, read off side by side
pub next_to : (x : List ℕ) (n i a b : ℕ) → (i < length (zip x (take n (drop 1 x)))) × ((a, b) ≡ get_or (zip x (take n (drop 1 x))) i (a, b))
    → (a ≡ get_or x i 0) × (b ≡ get_or x (i + 1) 0)
next_to x n i a b h =
    let later = take n (drop 1 x) in
    let z = length-zip x later in
    let here : i < length x = omega (arith, z, h.0) in
    let there : i < length later = omega (arith, z, h.0) in
    let few : i < n = omega (arith, there, length-take n (drop 1 x)) in
    let e = h.1 ∙ get_or-zip x later i (a, b) here there in
    let turn : 1 + i ≡ i + 1 = omega arith in (
      ap (λ p. p.0) e ∙ get_or_default x i a 0 here,
      ap (λ p. p.1) e ∙ get_or_default later i b 0 there ∙ get_or-take n (drop 1 x) i 0 few ∙ get_or-drop 1 x i 0 ∙ ap (λ (j : ℕ). get_or x j 0) turn,
    )

pub row_told : {C : Type 0} (S : Measure C) (k : Conflicts) (q : Question) (z : Sheet) (i : ℕ) (t : Train) (x : List ℕ)
    → i < length (held q.roster.now) → i < length z.rows → t ≡ get_or (held q.roster.now) i t → x ≡ get_or z.rows i x
    → joined S q.steps (λ u. S.price (over q.layout.now (get_or x u 0) (get_or x (u + 1) 0)) (eqb (get_or x u 0) t.goal && eqb (get_or x (u + 1) 0) t.goal))
    ≡ row_cost S (problem_asked k q) (plan_of z) i
unfolding row_cost goal_at
row_told S k q z i t x h j e f =
    ap₂ (λ (goal : ℕ) (y : List ℕ). joined S q.steps (λ u. S.price (over q.layout.now (get_or y u 0) (get_or y (u + 1) 0)) (eqb (get_or y u 0) goal && eqb (get_or y (u + 1) 0) goal)))
    (ap (λ (t : Train). t.goal) (e ∙ get_or_default (held q.roster.now) i t no_train h))
    (f ∙ get_or_default z.rows i x [] j)
