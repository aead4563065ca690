use Rattle.std.proofs.Common.{◌≡◌, ℕ, Bool, true, false, List, ◌++◌, length, take, drop, replicate, ap, ◌∙◌, rules, arith}
use Rattle.std.proofs.lemmas.List.{length-take-le}
use Rattle.sheets.specs.Posing.{marked, all_trains}
use Rattle.sheets.proofs.Marks.{all_set}
use Rattle.sheets.proofs.everyone.everyone.Goals as goal

pub returns : goal.returns
returns c =
    let n = c.count.result in
    let rest = drop n (replicate 8 false) in
    let filled = c.fill.ensures.after (search rules) in
    let long : length (take n (replicate 8 false)) ≡ n = length-take-le n (replicate 8 false) (omega arith) in
    record {
      all_trains_are_marked = ap (λ (front : List Bool). marked (front ++ rest)) filled
          ∙ ap (λ (k : ℕ). marked (replicate k true ++ rest)) long ∙ all_set n ∙ ap all_trains c.count.ensures.as_many_as_there_are_rows;
    }
