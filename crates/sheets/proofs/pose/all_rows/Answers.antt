use Rattle.std.proofs.Common.{◌≡◌, ℕ, not, ◌||◌, ltb, ◌≤◌, ◌-◌, length, take, drop, ap, ◌∙◌, rules, arith}
use Rattle.std.specs.List.{list_all}
use Rattle.std.proofs.lemmas.List.{length-drop, take_all}
use Rattle.std.proofs.lemmas.Iterator.{YieldsList-from_slice}
use Rattle.std.proofs.lemmas.Iterator.Search.{all_from_yields_List}
use borrow.Author.Tests.{tests}
use Rattle.sheets.specs.Problem.{all}
use Rattle.sheets.specs.Posing.{marked, all_rows}
use Rattle.sheets.proofs.Tables.{back_none}
use Rattle.sheets.proofs.pose.all_rows.Goals as goal

pub returns : goal.returns
unfolding all_rows
returns c =
    let n = c.count.result in
    let g = c.args.group in
    let eight : length g ≡ 8 = omega arith in
    let rest : length (drop n g) ≤ 8 - n = omega (arith, length-drop n g) in
    let e : c.all.result ≡ list_all not (take (8 - n) (drop n g)) = all_from_yields_List not _ _ c.all.result c.all.ensures.ran (YieldsList-from_slice (take (8 - n) (drop n g)) (search rules)) (λ x b f k. search (rules, tests)) in
    record {
      whether_all_marks_are_rows = e ∙ ap (list_all not) (take_all (8 - n) (drop n g) rest) ∙ back_none g n (omega arith)
          ∙ ap (λ k. all k (λ r. not (marked g r) || ltb r n)) eight
          ∙ ap (λ (k : ℕ). all 8 (λ r. not (marked g r) || ltb r k)) c.count.ensures.as_many_as_there_are_rows;
    }
