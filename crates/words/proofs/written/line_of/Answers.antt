use Rattle.std.proofs.Common.{arith, rules}
use Rattle.std.proofs.lemmas.List.FromFn.{fill_by_all}
use Rattle.words.specs.Rows.{planned}
use Rattle.words.proofs.Made.{made}
use Rattle.words.proofs.written.line_of.Goals as goal

pub returns : goal.returns
returns c =
    let h = planned c.args.start c.args.plan.now c.args.k c.args.i in
    record { its_section_at_each_time = fill_by_all h c.from_fn.result 17 0 c.from_fn.ensures.items.long (λ k l. made _ _ h (λ i y q e. search rules) c.from_fn.result 17 0 c.from_fn.ensures.items.each k (omega arith) l) }
