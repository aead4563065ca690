-- An example that passes the test yields what is expected of it.
use Rattle.std.proofs.Common.{◌≡◌, ℕ, ◌<◌, ◌≤◌, Bool, true, false, cond, not, ◌&&◌, eqb, ltb, leb, List, Some, None, Option, unwrap_or, refl, sym, ap, ap₂, ◌∙◌, subst, is_none, ◌⊎◌, inl, inr, true≢false, arith}
use Rattle.std.specs.List.{list_all}
use Rattle.std.proofs.lemmas.Bool.{and_parts, eqb-true, ltb-true, leb-true, lt-ltb, not-true}
use Rattle.std.proofs.lemmas.List.Sums.{AllPass-from_list_all}
use Rattle.track.specs.Model.{laid}
use Rattle.track.specs.declared.layout.Layout.{Layout}
use Rattle.track.specs.Links.{points_of}
use Rattle.track.specs.Fouls.{fouled_by}
use Rattle.track.specs.declared.foul.Foul.{Foul}
use Rattle.track.proofs.Held.{sections_held, links_held, fouls_held}
use Rattle.track.proofs.Linking.{points_few}
use Rattle.track.proofs.Fouling.{fouled_by_swapped}
use Rattle.rules.specs.Conflicts.{RuleLaws}
use Rattle.rules.specs.Lawful.{following_laws, clear_section_laws}
use Rattle.scales.specs.Measure.{Measure, MeasureLaws}
use Rattle.scales.specs.Pairs.{pair}
use Rattle.scales.specs.StepLaws.{steps_laws}
use Rattle.scales.specs.PairLaws.{pairs_laws}
use Rattle.sheets.specs.Problem.{Problem, ProblemLaws, Posed, all}
use Rattle.sheets.specs.Plan.{Plan, SameOn, Without}
use Rattle.sheets.specs.Inquiry.{plan_of}
use Rattle.sheets.specs.declared.sheet.Sheet.{Sheet}
use Rattle.roster.specs.Book.{empty}
use Rattle.roster.specs.Book.{declined as refusal}
use Rattle.sheets.specs.Theorems.{same_rows}
use Rattle.sheets.proofs.Alls.{all_at}
use Rattle.sheets.proofs.Agreed.{same_told}
use Rattle.sheets.proofs.Sheets.{best_same, best_unique}
use Rattle.sheets.proofs.Costs.{cost_same}
use Rattle.groups.specs.Course.{Outcome, beyond, none, found}
use Rattle.groups.specs.Laws.{Agree, Says}
use Rattle.groups.proofs.Right.{a_course_is_right}
use Rattle.groups.proofs.Once.{a_course_has_one_outcome}
use Rattle.planner.specs.Promise.{Setting, Kept, Reply, accepted, declined, noted, are_closed, planned, GroupingEnds, SheetOrNone, PlanKept}
use Rattle.planner.specs.Refusals.{refusals}
use Rattle.examples.specs.Examples.{Rule, follow, clear, conflicts_of, Scale, by_steps, by_steps_then_points, Cost, measure_of, Expected, no_sheet, sheet, Example, book, setting, group, by_rows, drawn, calls, plan_call, granted}
use Rattle.examples.specs.Yields.{NoSheet, TheSheet, Gives, Replies, Yields}
use Rattle.examples.specs.Table.{table, TheDefinitionsYieldEveryExample}
use Rattle.examples.proofs.Running.{whole, whole_is}
use Rattle.examples.proofs.Testing.{on_drawing, problem_drawn, same_cost, few_points, asks_well, ends_without, ends_with, ends, test, all_pass}

same_cost_is : (s : Scale) (a b : Cost s) → same_cost s a b ≡ true → a ≡ b
same_cost_is by_steps a b h = eqb-true a b h
same_cost_is by_steps_then_points a b h =
    let p = and_parts (eqb a.steps b.steps) (eqb a.points b.points) h in
    let s = eqb-true a.steps b.steps p.0 in
    let t = eqb-true a.points b.points p.1 in
    λ i. pair (s i) (t i)

measure_laws : (s : Scale) → MeasureLaws (measure_of s)
measure_laws by_steps = steps_laws
measure_laws by_steps_then_points = pairs_laws

rule_laws : (r : Rule) (fouls : List Foul) → RuleLaws (conflicts_of r (fouled_by fouls))
rule_laws follow fouls = following_laws (fouled_by fouls) (fouled_by_swapped fouls)
rule_laws clear fouls = clear_section_laws (fouled_by fouls) (fouled_by_swapped fouls)

module _ (e : Example) (l : Layout) (links : few_points e.drawing ≡ true) (well : asks_well (problem_drawn e) ≡ true) where
  abbrev Q : Problem
  Q = problem_drawn e

  abbrev w : Setting (Cost e.scale)
  w = on_drawing e l e.drawing

  abbrev S : Measure (Cost e.scale)
  S = measure_of e.scale

  run_over_few : (a b : ℕ) (t : Bool) (o : Option ℕ) → points_of e.drawing.links a b ≡ o → cond t 0 (unwrap_or o 0) ≤ 7
  run_over_few a b true o h = omega arith
  run_over_few a b false None h = omega arith
  run_over_few a b false (Some p) h = points_few e.drawing.sections e.drawing.links a b p links h

  bounds : ((leb 1 Q.steps && (leb Q.steps 16 && leb Q.rows 8)) ≡ true)
      × (all Q.rows (λ r. (ltb (Q.start r) Q.sections && ltb (Q.goal r) Q.sections) && (not (Q.closed (Q.start r)) && not (Q.closed (Q.goal r)))) ≡ true)
  bounds = and_parts _ _ well

  few : (leb Q.steps 16 ≡ true) × (leb Q.rows 8 ≡ true)
  few = and_parts _ _ (and_parts _ _ bounds.0).1

  ends_good : (r : ℕ) → r < Q.rows
      → ((ltb (Q.start r) Q.sections && ltb (Q.goal r) Q.sections) ≡ true) × ((not (Q.closed (Q.start r)) && not (Q.closed (Q.goal r))) ≡ true)
  ends_good r h = and_parts _ _ (all_at Q.rows _ bounds.1 r h)

  laws : ProblemLaws Q
  laws = record {
    rows_most = leb-true _ _ few.1;
    steps_most = leb-true _ _ few.0;
    points_most = λ a b. run_over_few a b (eqb a b) (points_of e.drawing.links a b) refl;
    rule = rule_laws e.rule e.drawing.fouls;
  }

  posed : Posed Q
  posed = record {
    start_inside = λ r h. ltb-true _ _ (and_parts _ _ (ends_good r h).0).0;
    start_open = λ r h. not-true _ (and_parts _ _ (ends_good r h).1).0;
    goal_inside = λ r h. ltb-true _ _ (and_parts _ _ (ends_good r h).0).1;
    goal_open = λ r h. not-true _ (and_parts _ _ (ends_good r h).1).1;
  }

  course_of : (o : Outcome) → whole S Q (group e) ≡ Some o → (cells : ℕ) → GroupingEnds w (book e) e.steps cells o
  course_of o h cells =
      whole_is S Q (group e) (measure_laws e.scale) laws posed (λ k l. lt-ltb k Q.rows l) (λ F. Unit {0}) (λ F. tt) o h

  says : (o : Outcome) → whole S Q (group e) ≡ Some o → Says S Q (group e) o
  says o h = a_course_is_right S (measure_laws e.scale) Q laws (group e) (λ F. Unit {0}) o (course_of o h 0)

  without : (o : Option Outcome) → whole S Q (group e) ≡ o → ends_without o ≡ true → NoSheet e w
  without None h t = absurd (true≢false (sym t))
  without (Some beyond) h t = absurd (true≢false (sym t))
  without (Some none) h t = record { without = says none h; ends = course_of none h }
  without (Some (found m x)) h t = absurd (true≢false (sym t))

  with : (rows : List (List ℕ)) (c : Cost e.scale) (n : ℕ) (o : Option Outcome) → whole S Q (group e) ≡ o → ends_with e rows c n o ≡ true → TheSheet e w rows c n
  with rows c n None h t = absurd (true≢false (sym t))
  with rows c n (Some beyond) h t = absurd (true≢false (sym t))
  with rows c n (Some none) h t = absurd (true≢false (sym t))
  with rows c n (Some (found m x)) h t =
      let p = and_parts (eqb n m) _ t in
      let q = and_parts (same_rows Q.rows e.steps (group e) x (by_rows rows)) _ p.1 in
      let s = (same_told Q (group e) x (by_rows rows)).to q.0 in
      let k = eqb-true n m p.0 in
      record {
        best = best_same S (measure_laws e.scale) Q laws (group e) x (by_rows rows) s (says (found m x) h);
        costs = same_cost_is e.scale _ _ q.1;
        ends = λ cells. (x, s, subst (λ (i : ℕ). GroupingEnds w (book e) e.steps cells (found i x)) (sym k) (course_of (found m x) h cells));
      }

  gives : (x : Expected (Cost e.scale)) → ends e x (whole S Q (group e)) ≡ true → Gives e w x
  gives no_sheet t = without (whole S Q (group e)) refl t
  gives (sheet rows c n) t = with rows c n (whole S Q (group e)) refl t

  -- what a reply to the plan call says, if it keeps what a planner promises
  module _ (cells : ℕ) (old new : Sheet) where
    abbrev Ends : Outcome → Type 0
    Ends o = GroupingEnds w (book e) e.steps cells o

    once : (o p : Outcome) → Ends o → Ends p → Agree Q (group e) o p
    once o p h k = a_course_has_one_outcome S (measure_laws e.scale) Q laws (group e) (λ F. Unit {0}) o p h k

    abbrev Answer : Reply (Cost e.scale) → Type 0
    Answer reply = SheetOrNone w (book e) e.steps cells old new reply

    abbrev Reason : ℕ → Type 0
    Reason k = ((k ≡ 24) × Ends beyond) ⊎ ((k ≡ 25) × Ends none × Without Q (group e))

    reply_none : NoSheet e w → (reply : Reply (Cost e.scale)) → Answer reply → Replies e w no_sheet reply old new
    reply_none n accepted a = absurd a
    reply_none n (noted s) a = absurd a
    reply_none n (are_closed k s) a = absurd a
    reply_none n (planned c m) a = absurd (once none (found m a.groups.0) (n.ends cells) a.groups.1)
    reply_none n (declined k) a = go a.reason
      where
        go : Reason k → Replies e w no_sheet (declined k) old new
        go (inl h) = absurd (once none beyond (n.ends cells) h.1)
        go (inr h) = (ap declined h.0, a.untouched)

    reply_sheet : (rows : List (List ℕ)) (c : Cost e.scale) (n : ℕ) → TheSheet e w rows c n → (reply : Reply (Cost e.scale)) → Answer reply → Replies e w (sheet rows c n) reply old new
    reply_sheet rows c n h accepted a = absurd a
    reply_sheet rows c n h (noted s) a = absurd a
    reply_sheet rows c n h (are_closed k s) a = absurd a
    reply_sheet rows c n h (planned d m) a =
        let s = best_unique S (measure_laws e.scale) Q laws (group e) (plan_of new) (by_rows rows) a.best h.best in
        let k = sym a.costs ∙ cost_same S (measure_laws e.scale) Q laws (group e) (plan_of new) (by_rows rows) s ∙ h.costs in
        let x = h.ends cells in
        let z = once (found n x.0) (found m a.groups.0) x.2 a.groups.1 in
        (ap₂ planned k (sym z.0), s)
    reply_sheet rows c n h (declined k) a = go (h.ends cells) a.reason
      where
        go : (x : Plan) × SameOn Q (group e) x (by_rows rows) × Ends (found n x) → Reason k → Replies e w (sheet rows c n) (declined k) old new
        go x (inl z) = absurd (once (found n x.0) beyond x.2 z.1)
        go x (inr z) = absurd (once (found n x.0) none x.2 z.1)

    replies : (x : Expected (Cost e.scale)) → Gives e w x → (reply : Reply (Cost e.scale)) → Answer reply → Replies e w x reply old new
    replies no_sheet g reply a = reply_none g reply a
    replies (sheet rows c n) g reply a = reply_sheet rows c n g reply a

    -- the book does not decline the plan call
    replies_kept : (o : Option ℕ) → is_none o ≡ true → Gives e w e.expected → (reply : Reply (Cost e.scale))
        → PlanKept w (book e) e.steps cells o reply old new → Replies e w e.expected reply old new
    replies_kept None t g reply k = replies e.expected g reply k.sheet_or_none
    replies_kept (Some n) t g reply k = absurd (true≢false (sym t))

-- the setting of a planner on a layout is read off what the layout holds
setting_drawn : (e : Example) (l : Layout) → laid l ≡ e.drawing → on_drawing e l e.drawing ≡ setting e l
setting_drawn e l d =
    (λ i. on_drawing e l (sym d i))
    ∙ (λ i. record {
      layout = l;
      sections = sections_held l i;
      points = links_held l i;
      conflicts = conflicts_of e.rule (fouls_held l i);
      measure = measure_of e.scale;
      takes = λ j cells. Unit {0};
    })

pub passed : (e : Example) → test e ≡ true → Yields e
passed e h =
    let a = and_parts (drawn e.drawing) _ h in
    let b = and_parts (granted e) _ a.1 in
    let f = and_parts (few_points e.drawing) _ b.1 in
    let c = and_parts (asks_well (problem_drawn e)) _ f.1 in
    let p = and_parts (list_all is_none (refusals e.drawing.sections empty (calls e))) _ b.0 in
    record {
      can_be_drawn = a.0;
      is_granted = b.0;
      gives = λ l d. subst (λ (w : Setting (Cost e.scale)). Gives e w e.expected) (setting_drawn e l d) (gives e l f.0 c.0 e.expected c.1);
      replies = λ l d reply old new.
          subst (λ (w : Setting (Cost e.scale)). Kept w (book e) (plan_call e) reply old new → Replies e w e.expected reply old new)
          (setting_drawn e l d)
          (λ k. replies_kept e l f.0 c.0 _ old new (refusal e.drawing.sections (book e) (plan_call e)) p.1 (gives e l f.0 c.0 e.expected c.1) reply k);
    }

-- each example of the table passes, and so yields what is expected
pub the_definitions_yield_every_example : TheDefinitionsYieldEveryExample
the_definitions_yield_every_example k d h = passed _ (AllPass-from_list_all test table all_pass k d h)
