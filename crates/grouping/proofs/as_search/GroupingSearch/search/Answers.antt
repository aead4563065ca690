use Rattle.std.proofs.Common.{length}
use Rattle.std.proofs.lemmas.Result.{err_from_is_err_and}
use Rattle.sheets.specs.Inquiry.{inquired}
use Rattle.sheets.proofs.Posed.{laws_of}
use Rattle.grouping.specs.Ends.{NeverBeyond}
use Rattle.grouping.proofs.Following.{same_self}
use Rattle.grouping.proofs.Taking.{meaning_moved, ended_answered, found_answered}
use Rattle.grouping.proofs.as_search.GroupingSearch.search.Goals as goal

pub returns-in_err-cost : goal.returns-in_err-cost
returns-in_err-cost g c =
    let a = c.args.asked.now in
    let i = inquired g.R.Rule.conflicts g.S.Scale.measure a in
    let p = err_from_is_err_and c.from_residual.result c.from_residual.ensures.1 in
    let h = ended_answered (g.Q.Search.takes c.args.self.now.below) i (g.met.S.Scale.lawful a.scale.now) (laws_of _ (g.met.R.Rule.lawful a.rule.now a.question.now.layout.now) a.question.now) (length c.args.cells.now) c.args.sheet.now c.follow.new.sheet _ c.in_err-cost.ensures.the_answer_is_how_the_course_ends in
    record {
      asking_leaves_the_meaning = meaning_moved (g.Q.Search.takes c.args.self.now.below) (g.Q.Search.takes c.follow.new.below) c.follow.ensures.asking_leaves_the_meaning;
      it_takes_a_group_exactly_if_its_course_asks_for_none_beyond_reach = same_self (NeverBeyond (g.Q.Search.takes c.args.self.now.below));
      the_answer_is_right = rw (p.1, p.2) h;
    }

pub returns : goal.returns
returns g c =
    let a = c.args.asked.now in
    let i = inquired g.R.Rule.conflicts g.S.Scale.measure a in
    record {
      asking_leaves_the_meaning = meaning_moved (g.Q.Search.takes c.args.self.now.below) (g.Q.Search.takes c.follow.new.below) c.follow.ensures.asking_leaves_the_meaning;
      it_takes_a_group_exactly_if_its_course_asks_for_none_beyond_reach = same_self (NeverBeyond (g.Q.Search.takes c.args.self.now.below));
      the_answer_is_right = found_answered (g.Q.Search.takes c.args.self.now.below) i (g.met.S.Scale.lawful a.scale.now) (laws_of _ (g.met.R.Rule.lawful a.rule.now a.question.now.layout.now) a.question.now) (length c.args.cells.now) _ _ _ _ c.in_ok-cost.ensures.the_answer_is_how_the_course_ends;
    }
