use Rattle.std.proofs.Common.{sym, ◌∙◌}
use Rattle.sheets.specs.Inquiry.{inquiry, plan_of}
use Rattle.sheets.proofs.Posed.{laws_of}
use Rattle.sheets.proofs.Agreed.{same_told}
use Rattle.sheets.proofs.Sheets.{best_unique}
use Rattle.sheets.proofs.Exists.{best_or_none}
use Rattle.sheets.proofs.agree.agree.Goals as goal

pub returns : goal.returns
returns g c =
    let q = c.args.asked.now.question.now in
    let S = g.S.Scale.measure c.args.asked.now.scale.now in
    let L = g.met.S.Scale.lawful c.args.asked.now.scale.now in
    let K = laws_of _ (g.met.R.Rule.lawful c.args.asked.now.rule.now q.layout.now) q in
    let i = inquiry (g.R.Rule.conflicts c.args.asked.now.rule.now) S q in
    let e = same_told i.problem i.group (plan_of c.args.a.now) (plan_of c.args.b.now) in
    record {
      true_exactly_if_they_count_as_one = record { to = λ h. e.to (sym c.same_rows.ensures.whether_the_rows_of_the_group_are_the_same ∙ h); back = λ s. c.same_rows.ensures.whether_the_rows_of_the_group_are_the_same ∙ e.back s };
      at_most_one_sheet_is_best = best_unique S L i.problem K i.group;
      a_group_has_a_best_sheet_or_no_lawful_one = best_or_none S L i.problem K i.group;
    }
