use Rattle.std.proofs.Common.{◌≡◌, ℕ, ◌*◌, ◌%◌, ◌^◌, ◌<◌, Bool, false, ◌||◌, eqb, leb, sym, ap, ◌∙◌, arith}
use mathlib.Core.Path.{fun_ext}
use lib.Bits.{bit_or}
use Rattle.std.proofs.lemmas.Nat.{shl_whole}
use Rattle.std.proofs.lemmas.Bool.Decides.{nat_tests}
use Rattle.track.specs.Layouts.{sections_of}
use Rattle.roster.specs.Trains.{has, taken, start_of, goal_of}
use Rattle.roster.specs.Model.{held}
use Rattle.roster.proofs.Masks.{has_closed, open_closed}
use Rattle.roster.proofs.roster.Roster.close.Goals as goal

put : (m s : ℕ) → s < 32 → (k : ℕ) → has (bit_or m (1 * 2 ^ s % 4294967296)) k ≡ (eqb k s || has m k)
put m s l k = ap (λ (x : ℕ). has (bit_or m x) k) (shl_whole 1 1 s 32 (omega arith) (omega arith)) ∙ has_closed m s k

pub invariant_of-self : goal.invariant_of-self
invariant_of-self c =
    let r = c.args.self.now in
    let s = c.args.section in
    record {
      room = r.room;
      ordered = r.ordered;
      numbered = r.numbered;
      starts = r.starts;
      goals = r.goals;
      free = open_closed r.closed _ s (put r.closed s (omega arith)) (held r) (sym c.if-start_taken.ensures.whether_a_train_has_the_start) (sym c.if-goal_taken.ensures.whether_a_train_has_the_goal) r.free;
    }

pub returns : goal.returns
returns c =
    let r = c.args.self.now in
    let s = c.args.section in
    let n = sections_of c.args.layout.now in
    let v = c.sections.ensures.how_many_sections_there_are in
    let e1 : leb n s ≡ false = grind (arith, nat_tests) in
    let e2 : has r.closed s ≡ false = sym c.if-has.ensures.whether_the_bit_is_set in
    let e3 : taken start_of s (held r) ≡ false = sym c.if-start_taken.ensures.whether_a_train_has_the_start in
    let e4 : taken goal_of s (held r) ≡ false = sym c.if-goal_taken.ensures.whether_a_train_has_the_goal in
    record {
      the_first_condition_met_declines = simp (e1, e2, e3, e4);
      a_declined_call_leaves_the_roster_as_it_was = tt;
      just_the_section_is_closed_or_nothing = ap (λ (f : ℕ → Bool). record { trains = held r; closed = f }) (fun_ext (put r.closed s (omega arith)));
    }
