-- The promise leaves no choice: one reply to a call is kept, and one sheet.
use Rattle.std.proofs.Common.{◌≡◌, ℕ, ◌<◌, ◌≤◌, ◌||◌, eqb, ltb, ◌⊎◌, List, [], length, Some, None, Option, sym, refl, ap, subst, ◌∙◌, inl, inr, arith}
use Rattle.std.proofs.lemmas.Bool.{cases_lt, ltb-false, or_parts, lt-ltb}
use Rattle.track.specs.Layouts.{sections_of}
use Rattle.track.specs.declared.layout.Layout.{Layout}
use Rattle.rules.specs.Conflicts.{RuleLaws}
use Rattle.scales.specs.Measure.{MeasureLaws}
use Rattle.roster.specs.Book.{Call, enter, withdraw, possess, give_up, ask, plan, Book, book_of, empty}
use Rattle.roster.specs.Model.{seen}
use Rattle.roster.specs.Book.{declined as refusal}
use Rattle.sheets.specs.Problem.{ProblemLaws}
use Rattle.sheets.specs.Plan.{SameOn, Without}
use Rattle.sheets.specs.Inquiry.{plan_of}
use Rattle.sheets.specs.declared.sheet.Sheet.{Sheet}
use Rattle.sheets.proofs.Sheets.{best_unique}
use Rattle.sheets.proofs.Costs.{cost_same}
use Rattle.groups.specs.Course.{beyond, none, found}
use Rattle.planner.specs.declared.planner.Planner.{Planner}
use Rattle.sheets.specs.Posing.{all_trains}
use Rattle.planner.specs.Promise.{Setting, Reply, accepted, declined, noted, are_closed, planned, problem, GroupingEnds, PlanAnswered, PlanKept}
use Rattle.planner.specs.History.{Meaning, setting_of, History, EveryRunKeepsAllReplies, ThePromiseLeavesNoChoice, SameWritten, OneAnswer}
use Rattle.planner.proofs.Plans.{problem_laws, once}
use Rattle.planner.proofs.Placed.{met_none, few_trains}
use Rattle.planner.proofs.Runs.{made_stands, every_run_keeps_all_replies}

same_rows : (old new was other : Sheet) → new ≡ old → other ≡ was → (r t : ℕ) → plan_of old r t ≡ plan_of was r t → plan_of new r t ≡ plan_of other r t
same_rows old new was other a b r t e = ap (λ (s : Sheet). plan_of s r t) a ∙ e ∙ sym (ap (λ (s : Sheet). plan_of s r t) b)

module _ {C : Type 0} (w : Setting C) (L : MeasureLaws w.measure) (b : Book) (steps cells : ℕ) (K : ProblemLaws (problem w b steps)) (old new was other : Sheet) where
  abbrev Alike : Reply C → Reply C → Type 0
  Alike r t = OneAnswer b (plan steps cells) r t old new was other

  -- why no sheet is given
  abbrev Why : ℕ → Type 0
  Why k =
      ((k ≡ 24) × GroupingEnds w b steps cells beyond)
      ⊎ ((k ≡ 25) × GroupingEnds w b steps cells none × Without (problem w b steps) (all_trains (length b.trains)))

  one_reply : (r t : Reply C) → PlanAnswered w b steps cells old new r → PlanAnswered w b steps cells was other t → Alike r t
  one_reply (planned c n) (planned d m) h i =
      let x = h.sheet_or_none in
      let y = i.sheet_or_none in
      let same : SameOn (problem w b steps) (all_trains (length b.trains)) (plan_of new) (plan_of other)
      = best_unique w.measure L (problem w b steps) K (all_trains (length b.trains)) (plan_of new) (plan_of other) x.best y.best in
      let costs : c ≡ d
      = sym x.costs ∙ cost_same w.measure L (problem w b steps) K (all_trains (length b.trains)) (plan_of new) (plan_of other) same ∙ y.costs in
      let count : n ≡ m = (once w L b steps cells K (found n x.groups.0) (found m y.groups.0) x.groups.1 y.groups.1).0 in
      record {
        one_reply = λ z. planned (costs z) (count z);
        written = λ p t u v. same p t (record { a_row = u; of_group = lt-ltb p (length b.trains) u }) v;
        elsewhere = λ p t v. go p t v same (λ out. x.elsewhere p t (λ u e. out u.a_row e)) (λ out. y.elsewhere p t (λ u e. out u.a_row e)) (cases_lt p (length b.trains)) (cases_lt steps t);
      }
    where
      go : (p t : ℕ) → plan_of old p t ≡ plan_of was p t → SameOn (problem w b steps) (all_trains (length b.trains)) (plan_of new) (plan_of other)
          → ((p < length b.trains → t ≤ steps → ⊥) → plan_of new p t ≡ plan_of old p t)
          → ((p < length b.trains → t ≤ steps → ⊥) → plan_of other p t ≡ plan_of was p t)
          → (p < length b.trains) ⊎ (length b.trains ≤ p) → (steps < t) ⊎ (t ≤ steps) → plan_of new p t ≡ plan_of other p t
      go p t q s e f (inl u) (inr v) = s p t (record { a_row = u; of_group = lt-ltb p (length b.trains) u }) v
      go p t q s e f (inl u) (inl v) = e (λ i j. omega arith) ∙ q ∙ sym (f (λ i j. omega arith))
      go p t q s e f (inr u) v = e (λ i j. omega arith) ∙ q ∙ sym (f (λ i j. omega arith))
  one_reply (planned c n) (declined k) h i = absurd (go i.sheet_or_none.reason)
    where
      go : Why k → ⊥
      go (inl e) = once w L b steps cells K (found n h.sheet_or_none.groups.0) beyond h.sheet_or_none.groups.1 e.1
      go (inr e) = once w L b steps cells K (found n h.sheet_or_none.groups.0) none h.sheet_or_none.groups.1 e.1
  one_reply (declined k) (planned c n) h i = absurd (go h.sheet_or_none.reason)
    where
      go : Why k → ⊥
      go (inl e) = once w L b steps cells K (found n i.sheet_or_none.groups.0) beyond i.sheet_or_none.groups.1 e.1
      go (inr e) = once w L b steps cells K (found n i.sheet_or_none.groups.0) none i.sheet_or_none.groups.1 e.1
  one_reply (declined k) (declined j) h i =
      record {
        one_reply = go h.sheet_or_none.reason i.sheet_or_none.reason;
        written = tt;
        elsewhere = same_rows old new was other h.sheet_or_none.untouched i.sheet_or_none.untouched;
      }
    where
      go : Why k → Why j → ◌≡◌ {A = Reply C} (declined k) (declined j)
      go (inl e) (inl f) = ap declined (e.0 ∙ sym f.0)
      go (inl e) (inr f) = absurd (once w L b steps cells K beyond none e.1 f.1)
      go (inr e) (inl f) = absurd (once w L b steps cells K none beyond e.1 f.1)
      go (inr e) (inr f) = ap declined (e.0 ∙ sym f.0)
  one_reply (planned c n) accepted h i = absurd i.sheet_or_none
  one_reply (planned c n) (noted s) h i = absurd i.sheet_or_none
  one_reply (planned c n) (are_closed k s) h i = absurd i.sheet_or_none
  one_reply (declined k) accepted h i = absurd i.sheet_or_none
  one_reply (declined k) (noted s) h i = absurd i.sheet_or_none
  one_reply (declined k) (are_closed j s) h i = absurd i.sheet_or_none
  one_reply accepted t h i = absurd h.sheet_or_none
  one_reply (noted s) t h i = absurd h.sheet_or_none
  one_reply (are_closed k s) t h i = absurd h.sheet_or_none

module _ {R S Q C : Type 0} (k : Meaning R S Q C) (ruled : (r : R) (l : Layout) → RuleLaws (k.conflicts r l)) (measured : (s : S) → MeasureLaws (k.measure s)) (made : Planner R S Q) where
  planning : (calls : List Call) (steps cells : ℕ) (o : Option ℕ) → refusal (sections_of made.layout) (book_of (sections_of made.layout) calls) (plan steps cells) ≡ o
      → (r t : Reply C) (old new was other : Sheet)
      → PlanKept (setting_of k made) (book_of (sections_of made.layout) calls) steps cells o r old new
      → PlanKept (setting_of k made) (book_of (sections_of made.layout) calls) steps cells o t was other
      → OneAnswer (book_of (sections_of made.layout) calls) (plan steps cells) r t old new was other
  planning calls steps cells (Some n) e r t old new was other h i =
      record {
        one_reply = h.0 ∙ sym i.0;
        written = subst (λ z. SameWritten (book_of (sections_of made.layout) calls) (plan steps cells) z new other) (sym h.0) tt;
        elsewhere = same_rows old new was other h.1 i.1;
      }
  planning calls steps cells None e r t old new was other h i =
      let n = sections_of made.layout in
      let a = met_none 21 (eqb steps 0 || ltb 16 steps) _ e in
      let b = or_parts (eqb steps 0) (ltb 16 steps) a.0 in
      let laws = problem_laws made.layout (k.conflicts made.rule made.layout) (k.measure made.scale) (k.takes made.search.below) (book_of n calls) steps
      (ruled made.rule made.layout) (few_trains n calls) (ltb-false 16 steps b.1) in
      one_reply (setting_of k made) (measured made.scale) (book_of n calls) steps cells laws old new was other r t h i

  the_promise_leaves_no_choice : ThePromiseLeavesNoChoice k made
  the_promise_leaves_no_choice calls (enter v s g) r t old new was other h i =
      record { one_reply = h.0 ∙ sym i.0; written = tt; elsewhere = same_rows old new was other h.1 i.1 }
  the_promise_leaves_no_choice calls (withdraw v) r t old new was other h i =
      record { one_reply = h.0 ∙ sym i.0; written = tt; elsewhere = same_rows old new was other h.1 i.1 }
  the_promise_leaves_no_choice calls (possess s) r t old new was other h i =
      record { one_reply = h.0 ∙ sym i.0; written = tt; elsewhere = same_rows old new was other h.1 i.1 }
  the_promise_leaves_no_choice calls (give_up s) r t old new was other h i =
      record { one_reply = h.0 ∙ sym i.0; written = tt; elsewhere = same_rows old new was other h.1 i.1 }
  the_promise_leaves_no_choice calls ask r t old new was other h i =
      record { one_reply = h.0 ∙ sym i.0; written = tt; elsewhere = same_rows old new was other h.1 i.1 }
  the_promise_leaves_no_choice calls (plan a c) r t old new was other h i =
      planning calls a c (refusal (sections_of made.layout) (book_of (sections_of made.layout) calls) (plan a c)) refl r t old new was other h i

  -- what is so of a planner with an empty book
  pub record Made : Type 0 where
    pub history : History k made [] made
    pub runs : EveryRunKeepsAllReplies k made
    pub no_choice : ThePromiseLeavesNoChoice k made

  pub made_keeps : seen made.roster ≡ empty → Made
  made_keeps e =
      let st = made_stands k made e in
      record { history = record { stands = st; kept = tt }; runs = every_run_keeps_all_replies k made st; no_choice = the_promise_leaves_no_choice }
