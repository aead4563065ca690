use Rattle.std.proofs.Common.{◌≡◌, true, false, ◌||◌, eqb, ltb, is_some, sym, arith}
use Rattle.std.proofs.lemmas.Bool.Decides.{nat_tests}
use Rattle.track.specs.Layouts.{sections_of}
use Rattle.roster.specs.Trains.{on_layout}
use Rattle.roster.specs.Model.{held, rows_of}
use Rattle.sheets.specs.Problem.{count}
use Rattle.sheets.specs.Posing.{marked, all_rows, question_declined}
use Rattle.sheets.proofs.pose.ask.Goals as goal

pub returns-then-not-all_on : goal.returns-then-not-all_on
unfolding question_declined
returns-then-not-all_on c =
    let a : on_layout (sections_of c.args.layout.now) (held c.args.roster.now) ≡ false = sym c.if-not-all_on.ensures.whether_all_starts_and_goals_are_on_the_layout in
    record { the_first_condition_met_declines = simp a; the_question_is_as_asked = tt }

pub returns-then-not-all_rows : goal.returns-then-not-all_rows
unfolding question_declined
returns-then-not-all_rows c =
    let a : on_layout (sections_of c.args.layout.now) (held c.args.roster.now) ≡ true = sym c.if-not-all_on.ensures.whether_all_starts_and_goals_are_on_the_layout in
    let b : all_rows c.args.roster.now c.args.group ≡ false = sym c.if-not-all_rows.ensures.whether_all_marks_are_rows in
    record { the_first_condition_met_declines = simp (a, b); the_question_is_as_asked = tt }

pub returns-then-steps-eq0 : goal.returns-then-steps-eq0
unfolding question_declined
returns-then-steps-eq0 c =
    let a : on_layout (sections_of c.args.layout.now) (held c.args.roster.now) ≡ true = sym c.if-not-all_on.ensures.whether_all_starts_and_goals_are_on_the_layout in
    let b : all_rows c.args.roster.now c.args.group ≡ true = sym c.if-not-all_rows.ensures.whether_all_marks_are_rows in
    let s : (eqb c.args.steps 0 || ltb 16 c.args.steps) ≡ true = (let h = c.then-steps-eq0.either in grind (arith, nat_tests)) in
    record { the_first_condition_met_declines = simp (a, b, s); the_question_is_as_asked = tt }

pub returns-then-how_many_marked-eq0 : goal.returns-then-how_many_marked-eq0
unfolding question_declined
returns-then-how_many_marked-eq0 c =
    let a : on_layout (sections_of c.args.layout.now) (held c.args.roster.now) ≡ true = sym c.if-not-all_on.ensures.whether_all_starts_and_goals_are_on_the_layout in
    let b : all_rows c.args.roster.now c.args.group ≡ true = sym c.if-not-all_rows.ensures.whether_all_marks_are_rows in
    let s : (eqb c.args.steps 0 || ltb 16 c.args.steps) ≡ false = grind (arith, nat_tests) in
    let m : eqb (count (rows_of c.args.roster.now) (marked c.args.group)) 0 ≡ true = grind (arith, nat_tests) in
    record { the_first_condition_met_declines = simp (a, b, s, m); the_question_is_as_asked = tt }

none : (c : goal.Else-how_many_marked-eq0) → is_some (question_declined c.args.layout.now c.args.roster.now c.args.group c.args.steps) ≡ false
unfolding question_declined
none c =
    let a : on_layout (sections_of c.args.layout.now) (held c.args.roster.now) ≡ true = sym c.if-not-all_on.ensures.whether_all_starts_and_goals_are_on_the_layout in
    let b : all_rows c.args.roster.now c.args.group ≡ true = sym c.if-not-all_rows.ensures.whether_all_marks_are_rows in
    let s : (eqb c.args.steps 0 || ltb 16 c.args.steps) ≡ false = grind (arith, nat_tests) in
    let m : eqb (count (rows_of c.args.roster.now) (marked c.args.group)) 0 ≡ false = grind (arith, nat_tests) in
    simp (a, b, s, m)

pub invariant_of-result : goal.invariant_of-result
invariant_of-result c = record { sound = none c }
