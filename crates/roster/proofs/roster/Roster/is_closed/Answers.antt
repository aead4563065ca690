use Rattle.std.proofs.Common.{◌≡◌, ◌^◌, ◌<◌, ltb, sym, ◌∙◌, rules}
use Rattle.std.proofs.lemmas.Bool.{le-ltb}
use Rattle.roster.specs.Trains.{has}
use Rattle.roster.specs.Model.{closed_of}
use Rattle.roster.proofs.Digits.{has_past}
use Rattle.roster.proofs.roster.Roster.is_closed.Goals as goal

pub returns-then-section-lt32-clause-whether_it_is_closed : goal.returns-then-section-lt32-clause-whether_it_is_closed
unfolding closed_of
returns-then-section-lt32-clause-whether_it_is_closed c = c.has.ensures.whether_the_bit_is_set

pub returns-else-section-lt32 : goal.returns-else-section-lt32
unfolding closed_of
returns-else-section-lt32 c =
    let m = c.args.self.now.closed in
    let s = c.args.section in
    let f : m < 2 ^ 32 = search rules in
    let e : ltb s 32 ≡ has m s = le-ltb s 32 c.if-section-lt32.false ∙ sym (has_past m s f c.if-section-lt32.false) in
    record { whether_the_book_has_it_closed = e; whether_it_is_closed = e }
