use Rattle.std.proofs.Common.{◌≡◌, ℕ, length, ltb, take, drop, ap, subst, sym, arith, length-append, rules}
use lib.Seq.{append_snoc}
use Rattle.std.proofs.lemmas.Bool.Decides.{nat_tests}
use Rattle.std.proofs.lemmas.List.Sorted.{IsPartitionPoint-from_clause, IsPartitionedBy-ltb, IsNonDecreasingBy-from_default}
use Rattle.std.specs.List.{insert}
use Rattle.track.specs.Layouts.{sections_of}
use Rattle.table.specs.Candidates.{Candidates, reached}
use Rattle.table.proofs.Merging.{few, not_falling, candidates_all}
use Rattle.table.proofs.candidates.candidates.Goals as goal

pub extend-requires : goal.extend-requires
extend-requires c =
    omega (arith, ap length c.new-tries.ensures.no_item_yet, c.split_at.ensures.front_len, c.partition_point.ensures.bound, few _ _ _ c.neighbours-neighbours.ensures.the_linked_sections_in_rising_order)

pub push-requires : goal.push-requires
push-requires c =
    omega (arith, length-append {A = ℕ}, ap length c.extend.ensures.the_items_stand_last, ap length c.new-tries.ensures.no_item_yet, c.split_at.ensures.front_len, c.partition_point.ensures.bound, few _ _ _ c.neighbours-neighbours.ensures.the_linked_sections_in_rising_order)

pub extend-requires-2 : goal.extend-requires-2
extend-requires-2 c =
    omega (arith, length-append {A = ℕ}, ap length c.push.ensures.the_item_stands_last, ap length c.extend.ensures.the_items_stand_last, ap length c.new-tries.ensures.no_item_yet, c.split_at.ensures.front_len, c.split_at.ensures.back_len, c.partition_point.ensures.bound, few _ _ _ c.neighbours-neighbours.ensures.the_linked_sections_in_rising_order)

pub returns : goal.returns
returns c =
    let N = c.neighbours-neighbours.ensures.the_linked_sections_in_rising_order in
    let P = IsPartitionPoint-from_clause (λ y. ltb y c.args.a) _ _ c.partition_point.ensures.partitioned
    (IsPartitionedBy-ltb (λ y. y) _ c.args.a (IsNonDecreasingBy-from_default (λ y. y) _ 0 (not_falling _ _ _ N))) (λ x r q k. search rules) in
    let e : c.extend-2.new.self ≡ insert c.neighbours-neighbours.result.now c.partition_point.result c.args.a =
    rw (c.extend-2.ensures.the_items_stand_last, c.push.ensures.the_item_stands_last, c.extend.ensures.the_items_stand_last, c.new-tries.ensures.no_item_yet, c.split_at.ensures.front, c.split_at.ensures.back)
    (append_snoc (take c.partition_point.result c.neighbours-neighbours.result.now) c.args.a (drop c.partition_point.result c.neighbours-neighbours.result.now)) in
    let all = candidates_all _ _ _ N c.partition_point.result c.partition_point.ensures.bound (λ i h. grind (arith, nat_tests, P.0 i 0 (omega arith) h)) (λ i h k. grind (arith, nat_tests, P.1 i 0 h k)) c.requires in
    let here = subst (Candidates (sections_of c.args.layout.now) (reached c.args.layout.now c.args.a)) (sym e) all in
    record { just_the_sections_in_reach_in_rising_order = search (rules, here) }
