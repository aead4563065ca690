use Rattle.std.proofs.Common.{rules, ◌∙◌}
use Rattle.std.proofs.Math.Logic.{∥∥₁_elim}
use mathlib.Core.HProp.{IsProp-prop}
use Rattle.std.specs.Coded.{Coded-set, coded_option}
use Rattle.table.proofs.ahead.Ahead.rest.Goals as goal

pub rest-requires : goal.rest-requires
rest-requires g c =
    ∥∥₁_elim c.args.self.now.knows (∥∥₁_elim c.args.self.now.knows IsProp-prop (λ k. k.once c.args.left c.args.at))
    (λ k. k.knows.may_be_asked _ _ c.requires.so_many_are_known (search rules) c.requires.on_the_layout)

pub returns : goal.returns
returns g c = record {
  the_least_cost_of_the_rest = ∥∥₁_elim c.args.self.now.knows (Coded-set (coded_option g.row.S-Cost.coded) _ _)
      (λ k. c.rest.ensures.what_is_known ∙ k.knows.least_of_the_rest _ _ c.requires.so_many_are_known (search rules) c.requires.on_the_layout);
}
