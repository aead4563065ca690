use Rattle.std.proofs.Common.{rules, sym, subst, arith}
use Rattle.groups.specs.Model.{naming}
use Rattle.groups.specs.Laws.{BothPartsAreOne}
use Rattle.groups.proofs.Joined.{each_joining_makes_both_parts_one}
use Rattle.groups.proofs.Fewer.{each_joining_takes_one_away}
use Rattle.groups.proofs.Tables.{mapped_at, renamed, renamed_row, joined_merges}
use Rattle.groups.proofs.parts.Parts.joined.Goals as goal

pub returns-then-row-ge8-clause-each_joining_takes_one_away : goal.returns-then-row-ge8-clause-each_joining_takes_one_away
returns-then-row-ge8-clause-each_joining_takes_one_away c = each_joining_takes_one_away

pub invariant_of-result : goal.invariant_of-result
invariant_of-result c =
    let p = c.args.self in
    record {
      rows = λ k d l.
          let h = mapped_at _ (renamed p.names c.args.row c.args.other) _ (λ x y q m. search rules) p.names c.map-names.result 0 8 c.map-names.ensures.items.each k d d (omega arith) (omega arith) in
          omega (arith, h, renamed_row p c.args.row c.args.other (omega arith) (omega arith) (omega arith) _ (p.rows k d (omega arith)));
    }

pub returns-clause-the_two_parts_are_one : goal.returns-clause-the_two_parts_are_one
returns-clause-the_two_parts_are_one c = λ a b.
    let p = c.args.self in
    joined_merges p c.args.row c.args.other (omega arith) a b _ c.map-names.ensures.items.long (mapped_at _ (renamed p.names c.args.row c.args.other) _ (λ x y q m. search rules) p.names c.map-names.result 0 8 c.map-names.ensures.items.each)

pub returns-clause-each_joining_takes_one_away : goal.returns-clause-each_joining_takes_one_away
returns-clause-each_joining_takes_one_away c = each_joining_takes_one_away

pub returns-then-row-ge8-clause-each_joining_makes_both_parts_one : goal.returns-then-row-ge8-clause-each_joining_makes_both_parts_one
returns-then-row-ge8-clause-each_joining_makes_both_parts_one c = each_joining_makes_both_parts_one

pub returns-clause-each_joining_makes_both_parts_one : goal.returns-clause-each_joining_makes_both_parts_one
returns-clause-each_joining_makes_both_parts_one c = each_joining_makes_both_parts_one

pub returns-clause-just_the_rows_of_both_parts_are_one_part : goal.returns-clause-just_the_rows_of_both_parts_are_one_part
returns-clause-just_the_rows_of_both_parts_are_one_part c = λ a b.
    let p = c.args.self in
    subst (BothPartsAreOne (naming p) c.args.row c.args.other) (sym (returns-clause-the_two_parts_are_one c a b)) (each_joining_makes_both_parts_one (naming p) c.args.row c.args.other)
