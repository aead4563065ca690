use Rattle.std.proofs.Common.{leb, length, sym, ap, ◌∙◌, arith, rules}
use Rattle.std.specs.List.{prefix_len}
use Rattle.std.proofs.lemmas.List.Sorted.{IsPartitionPoint-from_clause, IsPartitionedBy-leb}
use Rattle.std.proofs.lemmas.List.Sums.{prefix_len_is}
use Rattle.roster.specs.Trains.{rising, number_of}
use Rattle.roster.specs.Model.{no_train}
use Rattle.roster.specs.declared.train.Train.{Train}
use Rattle.roster.proofs.Order.{not_falling}
use Rattle.roster.proofs.roster.Roster.place.Goals as goal

pub returns : goal.returns
returns c =
    let r = c.args.self.now in
    let v = c.args.number in
    let all = c.trains.result.now in
    let e = c.trains.ensures.the_trains_of_the_book in
    let P = IsPartitionPoint-from_clause (λ (x : Train). leb x.number v) all _ c.partition_point.ensures.partitioned (IsPartitionedBy-leb number_of all v (not_falling all (ap rising e ∙ r.ordered))) (λ x b q k. search rules) in
    record {
      as_many_as_come_before = sym (prefix_len_is (λ (x : Train). leb x.number v) all c.partition_point.result no_train c.partition_point.ensures.bound (λ k h. P.0 k no_train (omega arith) h) (λ h. P.1 c.partition_point.result no_train (omega arith) h)) ∙ ap (prefix_len (λ (x : Train). leb x.number v)) e;
      at_most_the_count = omega (arith, c.partition_point.ensures.bound, ap length e);
    }
