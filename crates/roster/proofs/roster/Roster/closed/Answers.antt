use Rattle.std.proofs.Common.{◌≡◌, ℕ, ◌^◌, ◌<◌, Bool, not, eqb, sym, ap, ◌∙◌, ⊎_elim, mod-eq_of_lt, arith, rules}
use lib.Count.{ones, count_trailing_zeros}
use Rattle.std.specs.Bool.{then_some}
use Rattle.std.proofs.lemmas.Bool.{cases_eq, ne_eqb}
use Rattle.roster.specs.Trains.{has}
use Rattle.roster.proofs.Digits.{ones_below, lowest, has_empty}
use Rattle.roster.proofs.Masks.{lowest_is, lowest_none}
use Rattle.roster.proofs.roster.Roster.closed.Goals as goal

pub returns-clause-how_many_are_closed : goal.returns-clause-how_many_are_closed
returns-clause-how_many_are_closed c =
    let m = c.args.self.now.closed in
    let f : m < 2 ^ 32 = search rules in
    ap ones (sym (mod-eq_of_lt f)) ∙ ones_below m 32

pub returns-clause-the_lowest_that_is_closed : goal.returns-clause-the_lowest_that_is_closed
returns-clause-the_lowest_that_is_closed c =
    let m = c.args.self.now.closed in
    let f : m < 2 ^ 32 = search rules in
    c.then_some.ensures
    ∙ ⊎_elim
    (λ (z : m ≡ 0). ap (λ (n : ℕ). then_some (not (eqb n 0)) (count_trailing_zeros 32 n)) z ∙ sym (lowest_none 32 (has m) (λ k l. ap (λ (n : ℕ). has n k) z ∙ has_empty k)))
    (λ p. let l = lowest 32 m (omega arith) f in
    ap (λ (b : Bool). then_some (not b) (count_trailing_zeros 32 m)) (ne_eqb m 0 p) ∙ sym (lowest_is 32 _ (has m) l.0 l.1 l.2))
    (cases_eq m 0)
