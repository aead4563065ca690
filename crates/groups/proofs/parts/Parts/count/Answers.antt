use Rattle.std.proofs.Common.{ℕ, ◌&&◌, eqb, get_or, ap, ◌∙◌, sym, rules, arith}
use Rattle.std.proofs.lemmas.Iterator.{YieldsList-from_range}
use Rattle.std.proofs.lemmas.Iterator.Consumers.{YieldsList-from_filter, count_from_yields_List}
use borrow.Author.Tests.{tests}
use Rattle.sheets.specs.Posing.{marked}
use Rattle.groups.specs.Parts.{parts}
use Rattle.groups.specs.Model.{naming}
use Rattle.groups.proofs.Tables.{counted, name_in}
use Rattle.groups.proofs.Fewer.{count_same}
use Rattle.groups.proofs.parts.Parts.count.Goals as goal

pub returns : goal.returns
unfolding parts
returns c =
    let p = c.args.self.now in
    let G = marked c.args.question.now.group in
    let n = c.count.result in
    let here = λ (r : ℕ). G r && eqb (get_or p.names r 0) r in
    let listed = count_from_yields_List c.filter.result c.count-2.result c.count-2.ensures.ran (YieldsList-from_filter _ here (YieldsList-from_range 0 n n (cc) (omega arith)) c.filter.ensures.closure (λ x b q k. search (rules, tests))) in
    record {
      one_for_each_row_that_its_part_goes_by =
          listed ∙ counted here n
          ∙ count_same n (λ r. G r && eqb (naming p r) r) here (λ r l. ap (λ (k : ℕ). G r && eqb k r) (sym (name_in p r (omega arith) (omega (arith, c.count.ensures.at_most_eight)))))
          ∙ ap (λ (k : ℕ). parts k G (naming p)) c.count.ensures.as_many_as_there_are_rows;
    }
