use Rattle.std.proofs.Common.{◌≡◌, ℕ, true, false, not, ◌||◌, leb, List, length, sym, ap, ◌∙◌, arith}
use Rattle.std.specs.List.{insert}
use Rattle.std.proofs.lemmas.List.Edits.{length-insert}
use Rattle.std.proofs.lemmas.Bool.Decides.{nat_tests}
use Rattle.std.proofs.lemmas.Bool.{and_from}
use Rattle.roster.specs.declared.train.Train.{Train}
use Rattle.track.specs.Layouts.{sections_of}
use Rattle.roster.specs.Trains.{rising, no_number, all_numbered, taken, apart_by, runs, all_open, entered, number_of, start_of, goal_of, has}
use Rattle.roster.specs.Model.{held}
use Rattle.roster.proofs.Entering.{rising_entered, numbered_entered, apart_entered, open_entered, inserted_entered}
use Rattle.roster.proofs.roster.Roster.enter.Goals as goal

pub invariant_of-self : goal.invariant_of-self
invariant_of-self c =
    let r = c.args.self.now in
    let t = c.args.train in
    let e : c.insert.new.self ≡ entered t (held r) = c.insert.ensures.the_item_stands_at_its_place ∙ ap (λ (p : ℕ). insert (held r) p t) c.place-place.ensures.as_many_as_come_before ∙ inserted_entered t (held r) in
    let a = rising_entered t (held r) r.ordered (sym c.if-number_taken.ensures.whether_a_train_has_the_number) in
    let m = numbered_entered t (held r) r.numbered (sym c.if-out_of_range.ensures.whether_no_train_has_such_a_number) in
    let b = apart_entered start_of t (held r) r.starts (sym c.if-start_taken.ensures.whether_a_train_has_the_start) in
    let d = apart_entered goal_of t (held r) r.goals (sym c.if-goal_taken.ensures.whether_a_train_has_the_goal) in
    let k : runs r.closed t ≡ true = and_from _ _ (ap not (sym c.if-has.ensures.whether_the_bit_is_set)) (ap not (sym c.if-has-2.ensures.whether_the_bit_is_set)) in
    let o = open_entered r.closed t (held r) r.free k in
    record {
      room = omega (arith, ap length c.insert.ensures.the_item_stands_at_its_place, length-insert (held r) c.place-place.result t c.place-place.ensures.at_most_the_count);
      ordered = ap rising e ∙ a;
      numbered = ap all_numbered e ∙ m;
      starts = ap (apart_by start_of) e ∙ b;
      goals = ap (apart_by goal_of) e ∙ d;
      free = ap (all_open r.closed) e ∙ o;
    }

pub returns : goal.returns
returns c =
    let r = c.args.self.now in
    let n = sections_of c.args.layout.now in
    let t = c.args.train in
    let e : c.insert.new.self ≡ entered t (held r) = c.insert.ensures.the_item_stands_at_its_place ∙ ap (λ (p : ℕ). insert (held r) p t) c.place-place.ensures.as_many_as_come_before ∙ inserted_entered t (held r) in
    let v = c.sections-sections.ensures.how_many_sections_there_are in
    let e1 : (leb n t.start || leb n t.goal) ≡ false = grind (arith, nat_tests) in
    let e0 : no_number t.number ≡ false = sym c.if-out_of_range.ensures.whether_no_train_has_such_a_number in
    let e2 : taken number_of t.number (held r) ≡ false = sym c.if-number_taken.ensures.whether_a_train_has_the_number in
    let e3 : taken start_of t.start (held r) ≡ false = sym c.if-start_taken.ensures.whether_a_train_has_the_start in
    let e4 : taken goal_of t.goal (held r) ≡ false = sym c.if-goal_taken.ensures.whether_a_train_has_the_goal in
    let e5 : has r.closed t.start ≡ false = sym c.if-has.ensures.whether_the_bit_is_set in
    let e7 : has r.closed t.goal ≡ false = sym c.if-has-2.ensures.whether_the_bit_is_set in
    let e6 : leb 8 (length (held r)) ≡ false = let v = c.count.ensures.as_many_as_the_book_has in grind (arith, nat_tests) in
    record { the_first_condition_met_declines = simp (e1, e0, e2, e5, e7, e3, e4, e6); a_declined_call_leaves_the_roster_as_it_was = tt; just_the_train_is_entered_or_nothing = ap (λ (l : List Train). record { trains = l; closed = has r.closed }) e }
