use Rattle.std.proofs.Common.{◌≡◌, Some, sym, refl, ap, ◌∙◌, rules}
use Rattle.planner.specs.History.{meaning}
use Rattle.planner.specs.declared.planner.Planner.{Planner}
use Rattle.frames.specs.Frames.{frame_of}
use Rattle.machine.specs.Asked.{field}
use Rattle.machine.specs.declared.phase.Phase.TheVariants.{Drawing, Planning}
use Rattle.machine.proofs.Turning.{turn_from, done_turn, done_leaves, call_turn, machine_as_it_was, machine_is_left, plans_nothing_at}
use Rattle.machine.proofs.machine.Machine.turn.Goals as goal
use Rattle.machine.proofs.machine.Machine.turn.Goals.{in_default-via-in-Some+in-Drawing+in-Enter-1, in_default-via-in-Some+in-Planning+in-AddSections-1, in_default-via-in-None-1}

pub finish-requires : goal.finish-requires
finish-requires g c = record { nothing_is_finished = (_, refl) }

pub returns-in-Some-Drawing-AddSections-clause-the_rules_are_followed : goal.returns-in-Some-Drawing-AddSections-clause-the_rules_are_followed
returns-in-Some-Drawing-AddSections-clause-the_rules_are_followed g c = λ rule scale below.
    let k = meaning g.R.Rule.conflicts g.S.Scale.measure g.Q.Search.takes in
    let i = c.in-Some-Drawing-AddSections in
    let told = c.add_sections in
    let was : c.args.self.now.phase ≡ Some (Drawing i.desk) = search rules in
    done_turn k rule scale below c.args.self.now.phase _ _ _ _ told.result _ c.args.sheet.now was (rw (i.is-1, c.byte.ensures.the_byte_or_zero) refl) c.and.ensures
    (told.ensures.the_rules_are_followed rule scale below c.args.sheet.now)

pub returns-in-Some-Drawing-Link-clause-the_rules_are_followed : goal.returns-in-Some-Drawing-Link-clause-the_rules_are_followed
returns-in-Some-Drawing-Link-clause-the_rules_are_followed g c = λ rule scale below.
    let k = meaning g.R.Rule.conflicts g.S.Scale.measure g.Q.Search.takes in
    let i = c.in-Some-Drawing-Link in
    let told = c.add_link in
    let was : c.args.self.now.phase ≡ Some (Drawing i.desk) = search rules in
    done_turn k rule scale below c.args.self.now.phase _ _ _ _ told.result _ c.args.sheet.now was (rw (i.is-1, c.byte-in-Some-Drawing-Link.ensures.the_byte_or_zero, c.byte-in-Some-Drawing-Link-2.ensures.the_byte_or_zero, c.byte-in-Some-Drawing-Link-3.ensures.the_byte_or_zero) refl) c.and-in-Some-Drawing-Link.ensures
    (told.ensures.the_rules_are_followed rule scale below c.args.sheet.now)

pub returns-in-Some-Drawing-Foul-clause-the_rules_are_followed : goal.returns-in-Some-Drawing-Foul-clause-the_rules_are_followed
returns-in-Some-Drawing-Foul-clause-the_rules_are_followed g c = λ rule scale below.
    let k = meaning g.R.Rule.conflicts g.S.Scale.measure g.Q.Search.takes in
    let i = c.in-Some-Drawing-Foul in
    let told = c.add_foul in
    let was : c.args.self.now.phase ≡ Some (Drawing i.desk) = search rules in
    done_turn k rule scale below c.args.self.now.phase _ _ _ _ told.result _ c.args.sheet.now was (rw (i.is-1, c.byte-in-Some-Drawing-Foul.ensures.the_byte_or_zero, c.byte-in-Some-Drawing-Foul-2.ensures.the_byte_or_zero, c.byte-in-Some-Drawing-Foul-3.ensures.the_byte_or_zero, c.byte-in-Some-Drawing-Foul-4.ensures.the_byte_or_zero) refl) c.and-in-Some-Drawing-Foul.ensures
    (told.ensures.the_rules_are_followed rule scale below c.args.sheet.now)

pub returns-in-Some-Drawing-Finish-clause-the_rules_are_followed : goal.returns-in-Some-Drawing-Finish-clause-the_rules_are_followed
returns-in-Some-Drawing-Finish-clause-the_rules_are_followed g c = λ rule scale below.
    let k = meaning g.R.Rule.conflicts g.S.Scale.measure g.Q.Search.takes in
    let s = c.args.sheet.now in
    turn_from k rule scale below c.args.self.now.phase _ _ _ _ _ _ _ s s (c.finish.ensures.the_rules_are_followed rule scale below s) (search rules) refl (rw c.in-Some-Drawing-Finish.is-1 refl) (rw c.finish.ensures.it_is_done refl)

pub returns-in-Some-Planning-Enter-clause-the_rules_are_followed : goal.returns-in-Some-Planning-Enter-clause-the_rules_are_followed
returns-in-Some-Planning-Enter-clause-the_rules_are_followed g c = λ rule scale below.
    let k = meaning g.R.Rule.conflicts g.S.Scale.measure g.Q.Search.takes in
    let i = c.in-Some-Planning-Enter in
    let told = c.enter-answer in
    let s = c.args.sheet.now in
    let was : c.args.self.now.phase ≡ Some (Planning i.planner) = search rules in
    done_turn k rule scale below c.args.self.now.phase _ _ _ _ told.result _ s was (rw (i.is-1, c.number.ensures.two_bytes_the_high_one_first, c.byte-in-Some-Planning-Enter.ensures.the_byte_or_zero, c.byte-in-Some-Planning-Enter-2.ensures.the_byte_or_zero) refl) c.and-in-Some-Planning-Enter.ensures
    (call_turn k rule scale below i.planner told.new.self _ _ s s (told.ensures.after_any_calls_the_reply_is_that_of_the_book s))

pub returns-in-Some-Planning-Enter-clause-a_declined_frame_changes_nothing_unless_planning_declined_it : goal.returns-in-Some-Planning-Enter-clause-a_declined_frame_changes_nothing_unless_planning_declined_it
returns-in-Some-Planning-Enter-clause-a_declined_frame_changes_nothing_unless_planning_declined_it g c =
    let i = c.in-Some-Planning-Enter in
    let told = c.enter-answer in
    let was : c.args.self.now.phase ≡ Some (Planning i.planner) = search rules in
    done_leaves told.result c.and-in-Some-Planning-Enter.result _ _ _ c.args.sheet.now c.and-in-Some-Planning-Enter.ensures
    (machine_as_it_was (λ (p : Planner g.row.R.Denot g.row.S.Denot g.row.Q.Denot). Some (Planning p)) told.result i.planner told.new.self _ _ was refl told.ensures.a_declined_call_leaves_the_planner_as_it_was)

pub returns-in-Some-Planning-Withdraw-clause-the_rules_are_followed : goal.returns-in-Some-Planning-Withdraw-clause-the_rules_are_followed
returns-in-Some-Planning-Withdraw-clause-the_rules_are_followed g c = λ rule scale below.
    let k = meaning g.R.Rule.conflicts g.S.Scale.measure g.Q.Search.takes in
    let i = c.in-Some-Planning-Withdraw in
    let told = c.withdraw in
    let s = c.args.sheet.now in
    let was : c.args.self.now.phase ≡ Some (Planning i.planner) = search rules in
    done_turn k rule scale below c.args.self.now.phase _ _ _ _ told.result _ s was (rw (i.is-1, c.number-in-Some-Planning-Withdraw.ensures.two_bytes_the_high_one_first) refl) c.and-in-Some-Planning-Withdraw.ensures
    (call_turn k rule scale below i.planner told.new.self _ _ s s (told.ensures.after_any_calls_the_reply_is_that_of_the_book s))

pub returns-in-Some-Planning-Plan : goal.returns-in-Some-Planning-Plan
returns-in-Some-Planning-Plan g c =
    let k = meaning g.R.Rule.conflicts g.S.Scale.measure g.Q.Search.takes in
    let s = c.args.sheet.now in
    let i = c.in-Some-Planning-Plan in
    let told = c.plan_trains in
    let steps = field (frame_of c.args.frame).1 0 in
    let cells = c.args.cells.now in
    let was : c.args.self.now.phase ≡ Some (Planning i.planner) = search rules in
    let named : c.from.result ≡ steps = rw i.is-1 (c.from.ensures ∙ c.byte-in-Some-Planning-Plan.ensures.the_byte_or_zero) in
    record {
      the_rules_are_followed = λ rule scale below.
          turn_from k rule scale below c.args.self.now.phase _ _ _ _ _ _ _ s told.new.sheet (told.ensures.the_rules_are_followed rule scale below) was refl (rw (named, i.is-1) refl) refl;
      a_plan_is_told_with_the_trains_the_steps_asked_for_and_the_sheet = rw (was, sym named) told.ensures.the_plan_is_as_it_was_made;
      only_a_frame_that_asks_for_a_plan_plans = rw i.is-1 tt;
      a_declined_frame_changes_nothing_unless_planning_declined_it = machine_is_left (λ (p : Planner g.row.R.Denot g.row.S.Denot g.row.Q.Denot). Some (Planning p)) told.result i.planner told.new.planner _ _ cells told.new.cells s told.new.sheet was refl told.ensures.a_declined_plan_changes_nothing_unless_planning_declined_it;
    }

pub returns-in-Some-Drawing-AddSections-clause-only_a_frame_that_asks_for_a_plan_plans : goal.returns-in-Some-Drawing-AddSections-clause-only_a_frame_that_asks_for_a_plan_plans
returns-in-Some-Drawing-AddSections-clause-only_a_frame_that_asks_for_a_plan_plans g c =
    let i = c.in-Some-Drawing-AddSections in
    let was : c.args.self.now.phase ≡ Some (Drawing i.desk) = search rules in
    rw (i.is-1, was) (record { cells = refl; search = refl })

pub returns-in-Some-Drawing-Link-clause-only_a_frame_that_asks_for_a_plan_plans : goal.returns-in-Some-Drawing-Link-clause-only_a_frame_that_asks_for_a_plan_plans
returns-in-Some-Drawing-Link-clause-only_a_frame_that_asks_for_a_plan_plans g c =
    let i = c.in-Some-Drawing-Link in
    let was : c.args.self.now.phase ≡ Some (Drawing i.desk) = search rules in
    rw (i.is-1, was) (record { cells = refl; search = refl })

pub returns-in-Some-Drawing-Foul-clause-only_a_frame_that_asks_for_a_plan_plans : goal.returns-in-Some-Drawing-Foul-clause-only_a_frame_that_asks_for_a_plan_plans
returns-in-Some-Drawing-Foul-clause-only_a_frame_that_asks_for_a_plan_plans g c =
    let i = c.in-Some-Drawing-Foul in
    let was : c.args.self.now.phase ≡ Some (Drawing i.desk) = search rules in
    rw (i.is-1, was) (record { cells = refl; search = refl })

pub returns-in-Some-Drawing-Finish-clause-only_a_frame_that_asks_for_a_plan_plans : goal.returns-in-Some-Drawing-Finish-clause-only_a_frame_that_asks_for_a_plan_plans
returns-in-Some-Drawing-Finish-clause-only_a_frame_that_asks_for_a_plan_plans g c = rw c.in-Some-Drawing-Finish.is-1 refl

pub returns-in-Some-Planning-Enter-clause-only_a_frame_that_asks_for_a_plan_plans : goal.returns-in-Some-Planning-Enter-clause-only_a_frame_that_asks_for_a_plan_plans
returns-in-Some-Planning-Enter-clause-only_a_frame_that_asks_for_a_plan_plans g c =
    let i = c.in-Some-Planning-Enter in
    let told = c.enter-answer in
    let was : c.args.self.now.phase ≡ Some (Planning i.planner) = search rules in
    rw (i.is-1, was) (record { cells = refl; search = ap (λ q. Some q.below) told.ensures.only_the_roster_changes_as_the_book_says.search })

pub returns-in-Some-Planning-Withdraw-clause-only_a_frame_that_asks_for_a_plan_plans : goal.returns-in-Some-Planning-Withdraw-clause-only_a_frame_that_asks_for_a_plan_plans
returns-in-Some-Planning-Withdraw-clause-only_a_frame_that_asks_for_a_plan_plans g c =
    let i = c.in-Some-Planning-Withdraw in
    let told = c.withdraw in
    let was : c.args.self.now.phase ≡ Some (Planning i.planner) = search rules in
    rw (i.is-1, was) (record { cells = refl; search = ap (λ q. Some q.below) told.ensures.only_the_roster_changes_as_the_book_says.search })

pub returns-in_default-clause-only_a_frame_that_asks_for_a_plan_plans : goal.returns-in_default-clause-only_a_frame_that_asks_for_a_plan_plans
returns-in_default-clause-only_a_frame_that_asks_for_a_plan_plans g c = elim c.in_default.branch [
  | in_default-via-in-Some+in-Drawing+in-Enter-1 w ↦ plans_nothing_at _ _ _ _ (search (rules, w.self-is))
  | in_default-via-in-Some+in-Planning+in-AddSections-1 w ↦ plans_nothing_at _ _ _ _ (search (rules, w.self-is))
  | in_default-via-in-None-1 w ↦ plans_nothing_at _ _ _ _ (search (rules, w.self-is))
]
