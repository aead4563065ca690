use Rattle.std.proofs.Common.{ℕ, ◌+◌, not, ◌||◌, eqb, ap, ◌∙◌, rules, arith}
use Rattle.std.proofs.lemmas.Iterator.{YieldsList-from_range}
use Rattle.std.proofs.lemmas.Iterator.Search.{all_from_yields_List}
use Rattle.std.proofs.iter.Serving.{serving}
use borrow.Author.Tests.{tests}
use Rattle.sheets.specs.Problem.{all}
use Rattle.sheets.specs.Inquiry.{plan_of}
use Rattle.sheets.specs.Posing.{marked}
use Rattle.sheets.specs.Theorems.{same_rows}
use Rattle.sheets.proofs.Posed.{sound}
use Rattle.sheets.proofs.Tables.{range_all}
use Rattle.sheets.proofs.agree.same_rows.Goals as goal

pub all-requires-clause-callable : goal.all-requires-clause-callable
all-requires-clause-callable c = let few = (sound c.args.question.now).steps_most in grind serving

pub returns : goal.returns
unfolding same_rows
returns c =
    let q = c.args.question.now in
    let n = c.count.result in
    let same = λ (r : ℕ). not (marked q.group r) || all (q.steps + 1) (λ t. eqb (plan_of c.args.a.now r t) (plan_of c.args.b.now r t)) in
    record {
      whether_the_rows_of_the_group_are_the_same = all_from_yields_List same _ _ c.all.result c.all.ensures.ran (YieldsList-from_range 0 n n (cc) (omega arith)) (λ x b f k. search (rules, tests))
          ∙ range_all n same ∙ ap (λ (k : ℕ). all k same) c.count.ensures.as_many_as_there_are_rows;
    }
