use Rattle.std.proofs.Common.{◌≡◌, ℕ, ◌*◌, ◌%◌, ◌^◌, ◌<◌, Bool, true, false, not, ◌&&◌, eqb, leb, sym, ap, ◌∙◌, arith}
use mathlib.Core.Path.{fun_ext}
use lib.Bits.{bit_xor}
use Rattle.std.proofs.lemmas.Nat.{shl_whole}
use Rattle.std.proofs.lemmas.Bool.Decides.{nat_tests}
use Rattle.track.specs.Layouts.{sections_of}
use Rattle.roster.specs.Trains.{has}
use Rattle.roster.specs.Model.{held}
use Rattle.roster.proofs.Masks.{has_opened, open_opened}
use Rattle.roster.proofs.roster.Roster.open_again.Goals as goal

put : (m s : ℕ) → s < 32 → has m s ≡ true → (k : ℕ) → has (bit_xor m (1 * 2 ^ s % 4294967296)) k ≡ (not (eqb k s) && has m k)
put m s l h k = ap (λ (x : ℕ). has (bit_xor m x) k) (shl_whole 1 1 s 32 (omega arith) (omega arith)) ∙ has_opened m s k h

pub invariant_of-self : goal.invariant_of-self
invariant_of-self c =
    let r = c.args.self.now in
    let s = c.args.section in
    let h : has r.closed s ≡ true = sym c.if-not-has.ensures.whether_the_bit_is_set in
    record {
      room = r.room;
      ordered = r.ordered;
      numbered = r.numbered;
      starts = r.starts;
      goals = r.goals;
      free = open_opened r.closed _ s (put r.closed s (omega arith) h) (held r) r.free;
    }

pub returns : goal.returns
returns c =
    let r = c.args.self.now in
    let s = c.args.section in
    let n = sections_of c.args.layout.now in
    let v = c.sections.ensures.how_many_sections_there_are in
    let e1 : leb n s ≡ false = grind (arith, nat_tests) in
    let h : has r.closed s ≡ true = sym c.if-not-has.ensures.whether_the_bit_is_set in
    record {
      the_first_condition_met_declines = simp (e1, h);
      a_declined_call_leaves_the_roster_as_it_was = tt;
      just_the_section_is_opened_or_nothing = ap (λ (f : ℕ → Bool). record { trains = held r; closed = f }) (fun_ext (put r.closed s (omega arith) h));
    }
