use Rattle.std.proofs.Common.{length}
use Rattle.sheets.specs.Inquiry.{inquired}
use Rattle.sheets.proofs.Posed.{laws_of}
use Rattle.groups.proofs.Once.{a_course_has_one_outcome}
use Rattle.groups.proofs.Right.{a_course_is_right}
use Rattle.groups.proofs.Exists.{a_course_exists}
use Rattle.groups.proofs.Apart.{parts_apart_are_best_together, a_part_without_a_sheet_leaves_none}
use Rattle.grouping.specs.Ends.{taken}
use Rattle.grouping.proofs.grouping.Grouping.plan.Goals as goal

pub returns : goal.returns
returns g c =
    let q = c.args.asked.now.question.now in
    let S = g.S.Scale.measure c.args.asked.now.scale.now in
    let L = g.met.S.Scale.lawful c.args.asked.now.scale.now in
    let K = laws_of _ (g.met.R.Rule.lawful c.args.asked.now.rule.now q.layout.now) q in
    let i = inquired g.R.Rule.conflicts g.S.Scale.measure c.args.asked.now in
    let T = taken (g.Q.Search.takes c.args.self.now.below) i (length c.args.cells.now) in
    record {
      asking_leaves_the_meaning = c.follow.ensures.asking_leaves_the_meaning;
      the_answer_is_how_the_course_ends = c.follow.ensures.the_answer_is_how_the_course_ends;
      a_course_has_one_outcome = a_course_has_one_outcome S L i.problem K i.group T;
      a_course_exists_where_taking_is_decided = a_course_exists S L i.problem K i.group T;
      what_a_course_ends_with_is_right_for_the_whole_group = a_course_is_right S L i.problem K i.group T;
      best_sheets_of_groups_that_do_not_conflict_are_together_the_best = parts_apart_are_best_together S L i.problem K i.group;
      where_some_of_the_trains_have_no_lawful_sheet_all_have_none = a_part_without_a_sheet_leaves_none i.problem i.group;
    }
