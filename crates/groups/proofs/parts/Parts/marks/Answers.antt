use Rattle.std.proofs.Common.{◌&&◌, eqb, get_or, false, ap, ◌∙◌, rules, arith}
use Rattle.sheets.specs.Posing.{marked}
use Rattle.groups.specs.Parts.{part}
use Rattle.groups.specs.Model.{naming}
use Rattle.groups.proofs.Tables.{made_at, marks_part}
use Rattle.groups.proofs.parts.Parts.marks.Goals as goal

pub returns : goal.returns
returns c =
    let p = c.args.self.now in
    let h = made_at _ (λ k. get_or c.args.group k false && eqb (get_or p.names k 0) c.name-name.result) _ (λ i y q k. search rules) c.from_fn.result 0 8 c.from_fn.ensures.items.each in
    record {
      the_rows_of_its_part = marks_part p c.args.group c.from_fn.result c.name-name.result (omega arith) (omega arith) c.from_fn.ensures.items.long (λ k l. h k false (omega arith) (omega arith)) ∙ ap (part (marked c.args.group) (naming p)) c.name-name.ensures.the_name_of_its_part;
    }
