use Rattle.std.proofs.Common.{◌≡◌, ℕ, ◌-◌, false, List, length, Some, None, Option, sym, refl, ap, ◌∙◌, arith}
use Rattle.std.specs.List.{remove}
use Rattle.std.proofs.lemmas.List.Edits.{length-remove}
use Rattle.roster.specs.Trains.{rising, no_number, all_numbered, apart_by, all_open, without, start_of, goal_of, has}
use Rattle.roster.specs.Model.{held}
use Rattle.roster.proofs.Leaving.{gone, absent, rising_without, numbered_without, apart_without, open_without}
use Rattle.roster.proofs.roster.Roster.withdraw.Goals as goal

-- what is not some row is none
none : (o : Option ℕ) → ((x : ℕ) → o ≡ Some x → ⊥) → o ≡ None
none None h = refl
none (Some x) h = absurd (h x refl)

pub remove-requires : goal.remove-requires
remove-requires c =
    let r = c.args.self.now in
    let g = gone c.args.number (held r) 0 c.in-Some.row (sym c.in-Some.ensures.the_first_row_with_the_number) in
    omega (arith, g.inside)

pub invariant_of-self : goal.invariant_of-self
invariant_of-self c =
    let r = c.args.self.now in
    let v = c.args.number in
    let g = gone v (held r) 0 c.in-Some.row (sym c.in-Some.ensures.the_first_row_with_the_number) in
    let z : c.in-Some.row ≡ c.in-Some.row - 0 = omega arith in
    let e : c.remove.new.self ≡ without v (held r) = c.remove.ensures.the_item_is_gone ∙ ap (λ (i : ℕ). remove (held r) i) z ∙ g.is in
    record {
      room = omega (arith, ap length c.remove.ensures.the_item_is_gone, length-remove (held r) c.in-Some.row (omega (arith, g.inside)), r.room);
      ordered = ap rising e ∙ rising_without v (held r) r.ordered;
      numbered = ap all_numbered e ∙ numbered_without v (held r) r.numbered;
      starts = ap (apart_by start_of) e ∙ apart_without start_of v (held r) r.starts;
      goals = ap (apart_by goal_of) e ∙ apart_without goal_of v (held r) r.goals;
      free = ap (all_open r.closed) e ∙ open_without r.closed v (held r) r.free;
    }

pub returns : goal.returns
returns c =
    let r = c.args.self.now in
    let v = c.args.number in
    let g = gone v (held r) 0 c.in-Some.row (sym c.in-Some.ensures.the_first_row_with_the_number) in
    let z : c.in-Some.row ≡ c.in-Some.row - 0 = omega arith in
    let e : c.remove.new.self ≡ without v (held r) = c.remove.ensures.the_item_is_gone ∙ ap (λ (i : ℕ). remove (held r) i) z ∙ g.is in
    let n : no_number v ≡ false = sym c.if-out_of_range.ensures.whether_no_train_has_such_a_number in
    record { the_first_condition_met_declines = λ k. simp (n, g.there); a_declined_call_leaves_the_roster_as_it_was = tt; just_the_train_is_taken_out_or_nothing = ap (λ (l : List _). record { trains = l; closed = has r.closed }) e }

pub returns-in_default : goal.returns-in_default
returns-in_default c =
    let v = c.args.number in
    let g = absent v (held c.args.self.now) 0 (sym c.find.ensures.the_first_row_with_the_number ∙ none _ c.in_default.not-Some) in
    let n : no_number v ≡ false = sym c.if-out_of_range.ensures.whether_no_train_has_such_a_number in
    record { the_first_condition_met_declines = λ k. simp (n, g.there); a_declined_call_leaves_the_roster_as_it_was = refl; just_the_train_is_taken_out_or_nothing = refl }
