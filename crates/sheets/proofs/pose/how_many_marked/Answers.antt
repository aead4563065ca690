use Rattle.std.proofs.Common.{◌≡◌, take, ap, ◌∙◌, rules, arith}
use Rattle.std.specs.List.{count_by}
use Rattle.sheets.specs.Problem.{count}
use Rattle.sheets.specs.Posing.{marked}
use Rattle.sheets.proofs.Tables.{front_count}
use Rattle.sheets.proofs.pose.how_many_marked.Goals as goal

pub returns : goal.returns
returns c =
    let n = c.count.result in
    let e : c.count-2.result ≡ count_by (λ b. b) (take n c.args.group) = search rules in
    record { how_many_rows_are_marked = e ∙ front_count c.args.group n (omega arith) ∙ ap (λ k. count k (marked c.args.group)) c.count.ensures.as_many_as_there_are_rows }
