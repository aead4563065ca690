use Rattle.std.proofs.Common.{◌&&◌, not, ap₂, sym, ◌∙◌, rules}
use Rattle.words.specs.Joint.{clear}
use Rattle.words.specs.Tasks.{task, open_to}
use Rattle.words.proofs.Pairs.{all_zip}
use Rattle.words.proofs.board.Board.may_move.Goals as goal

pub returns-then-open_to : goal.returns-then-open_to
returns-then-open_to g c =
    let b = c.args.self.now in
    let t = c.args.turn.now in
    let m = c.new-step.result in
    let z = all_zip (λ p q. not (g.R.Rule.conflicts b.rule.now b.layout.now p q m.from m.to)) t.moved t.at t.to (search rules) (search rules) in
    let e = ap₂ (clear (task g.R.Rule.conflicts b) t.at t.to t.moved) c.new-step.ensures.it_begins_there c.new-step.ensures.it_ends_there in
    record { whether_the_move_is_open_and_meets_no_conflict = ap₂ (λ s t. s && t) (sym c.if-open_to.true ∙ c.open_to.ensures.whether_the_move_is_open ∙ ap₂ (open_to b.layout.now b.roster.now) c.new-step.ensures.it_begins_there c.new-step.ensures.it_ends_there) (c.clear_of.ensures.whether_none_conflicts ∙ z ∙ e) }
