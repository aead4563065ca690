-- One frame more, before the finish and after it.
use Rattle.std.proofs.Common.{◌≡◌, ℕ, List, [], true, Bool, is_some, Some, Ok, Err, Option, Result, sym, refl, ap, ◌∙◌, subst}
use Rattle.std.proofs.Math.Bool.{Bool-set}
use Rattle.std.specs.Result.{result_and}
use Rattle.track.specs.Model.{drawn, laid}
use Rattle.track.specs.Refusals.{AsItWas}
use Rattle.track.specs.declared.refusal.Refusal.{Refusal}
use Rattle.roster.specs.Book.{Call, enter, withdraw, possess, give_up, ask, plan}
use Rattle.sheets.specs.declared.sheet.Sheet.{Sheet}
use Rattle.planner.specs.Promise.{Reply, accepted}
use Rattle.planner.specs.History.{Meaning, Stands, Step, event, says_done}
use Rattle.planner.specs.declared.planner.Planner.{Planner}
use Rattle.machine.specs.Asked.{Asked, sections, link, foul, finish, call}
use Rattle.machine.specs.Progress.{drawing, planning}
use Rattle.machine.specs.Phases.{CallKept, reply_of, TellsPlan}
use Rattle.machine.specs.Lines.{TurnOwes, OnlyAPlanPlans, DeclinedLeaves}
use Rattle.machine.specs.declared.desk.Desk.{Desk}
use Rattle.machine.specs.declared.machine.Machine.{Machine}
use Rattle.machine.specs.declared.phase.Phase.{Phase}
use Rattle.machine.specs.declared.phase.Phase.TheVariants.{Drawing, Planning}
use Rattle.machine.specs.declared.said.Said.{Said}
use Rattle.machine.specs.declared.said.Said.TheVariants.{Done}

module _ {R S Q C : Type 0} (k : Meaning R S Q C) (rule : R) (scale : S) (below : Q) where
  -- a turn of this phase, by what its frame reads as and what its reply tells
  pub turn_as : (p o next : Option (Phase R S Q)) (a b : Asked) (r t : Reply C) (old new : Sheet) → p ≡ o → a ≡ b → r ≡ t
      → TurnOwes k rule scale below o b t old new next → TurnOwes k rule scale below p a r old new next
  turn_as p o next a b r t old new e f g h = rw (e, f, g) h

  pub turn_from : (p o next left : Option (Phase R S Q)) (a b : Asked) (r t : Reply C) (old new : Sheet) → TurnOwes k rule scale below o b t old new next
      → p ≡ o → left ≡ next → a ≡ b → r ≡ t → TurnOwes k rule scale below p a r old new left
  turn_from p o next left a b r t old new h e f i j = rw (e, f, i, j) h

  -- the finish: the planner that is made has no calls yet
  pub finish_turn : (d : Desk R S Q) (p : Planner R S Q) (s : Sheet) → laid p.layout ≡ drawn d.drawing → p.rule ≡ d.rule → p.scale ≡ d.scale
      → p.search.below ≡ d.below → Stands k p [] p → TurnOwes k rule scale below (Some (Drawing d)) finish accepted s s (Some (Planning p))
  finish_turn d p s a b c e st (drawing m) h =
      ((refl, refl), record { made = p; made_of = record { layout = a ∙ h.drawing; its_rule = b ∙ h.its_rule; its_scale = c ∙ h.its_scale; its_search = e ∙ h.its_search }; stands = st })
  finish_turn d p s a b c e st (planning m calls) h = absurd h

  -- a plan call with as many steps as another
  pub plan_step : (p q : Planner R S Q) (n steps cells : ℕ) (reply : Reply C) (old new : Sheet) → Step k p (event (plan n cells) reply old new) q → n ≡ steps
      → Step k p (event (plan steps cells) reply old new) q
  plan_step p q n steps cells reply old new h e = rw (sym e) h

  -- a call to the planner
  pub call_turn : (p q : Planner R S Q) (c : Call) (reply : Reply C) (old new : Sheet) → Step k p (event c reply old new) q
      → TurnOwes k rule scale below (Some (Planning p)) (call c) reply old new (Some (Planning q))
  call_turn p q c reply old new step (drawing m) h = absurd h
  call_turn p q c reply old new step (planning m calls) h =
      let told : CallKept k rule scale below m calls c reply old new = record { made = h.made; made_of = h.made_of; kept = step.kept h.made calls h.stands } in
      (told, record { made = h.made; made_of = h.made_of; stands = step.stands h.made calls h.stands })

-- the reply of a call that gives nothing
module _ {C : Type 0} (r : Result (Unit {0}) Refusal) (t : Result (Said C) Refusal) where
  done_said : t ≡ result_and r (Ok Done) → reply_of t ≡ says_done r
  done_said e = ap reply_of e ∙ go r
    where
      go : (x : Result (Unit {0}) Refusal) → reply_of {C = C} (result_and x (Ok Done)) ≡ says_done x
      go (Ok u) = refl
      go (Err x) = refl

  pub no_plan : (numbers : List ℕ) (steps : ℕ) (sheet : Sheet) → t ≡ result_and r (Ok Done) → TellsPlan numbers steps sheet t
  no_plan numbers steps sheet e = subst (TellsPlan numbers steps sheet) (sym e) (go r)
    where
      go : (x : Result (Unit {0}) Refusal) → TellsPlan {C = C} numbers steps sheet (result_and x (Ok Done))
      go (Ok u) = tt
      go (Err x) = tt

  -- declined, it leaves everything
  pub done_leaves : {M : Type 0} (was now : M) (cells : List (Option C)) (s : Sheet) → t ≡ result_and r (Ok Done) → AsItWas r was now → DeclinedLeaves t was now cells cells s s
  done_leaves was now cells s e h = subst (λ (z : Result (Said C) Refusal). DeclinedLeaves z was now cells cells s s) (sym e) (go r h)
    where
      go : (x : Result (Unit {0}) Refusal) → AsItWas x was now → DeclinedLeaves {A = Said C} (result_and x (Ok Done)) was now cells cells s s
      go (Ok u) h = tt
      go (Err x) h = record { sheet = refl; machine = λ p. h; cells_too = λ p. refl }

-- machines with one phase are the same
there_prop : (b : Bool) → IsProp (b ≡ true)
there_prop b = hlevel Bool-set

pub same_machine : {R S Q : Type 0} (m n : Machine R S Q) → n.phase ≡ m.phase → n ≡ m
same_machine {R} {S} {Q} m n a = subst F (sym a) (λ x. (λ i. record { phase = m.phase; there = there_prop (is_some m.phase) x m.there i })) n.there
  where
    F : Option (Phase R S Q) → Type 0
    F z = (x : is_some z ≡ true) → ◌≡◌ {A = Machine R S Q} (record { phase = z; there = x }) m

-- a declined call on a part of the phase leaves the machine
pub machine_as_it_was : {R S Q A T : Type 0} (f : T → Option (Phase R S Q)) (r : Result A Refusal) (old new : T) (m n : Machine R S Q)
    → m.phase ≡ f old → n.phase ≡ f new → AsItWas r old new → AsItWas r m n
machine_as_it_was f (Ok a) old new m n e g h = tt
machine_as_it_was f (Err x) old new m n e g h = same_machine m n (g ∙ ap f h ∙ sym e)

pub machine_is_left : {R S Q C A T : Type 0} (f : T → Option (Phase R S Q)) (r : Result A Refusal) (was now : T) (m n : Machine R S Q) (cells left : List (Option C)) (old new : Sheet)
    → m.phase ≡ f was → n.phase ≡ f now → DeclinedLeaves r was now cells left old new → DeclinedLeaves r m n cells left old new
machine_is_left f (Ok a) was now m n cells left old new e g h = tt
machine_is_left f (Err x) was now m n cells left old new e g h =
    record { sheet = h.sheet; machine = λ p. same_machine m n (g ∙ ap f (h.machine p) ∙ sym e); cells_too = h.cells_too }

-- a turn whose call gives nothing
module _ {R S Q C : Type 0} (k : Meaning R S Q C) (rule : R) (scale : S) (below : Q) where
  pub done_turn : (p o next : Option (Phase R S Q)) (a b : Asked) (r : Result (Unit {0}) Refusal) (t : Result (Said C) Refusal) (s : Sheet) → p ≡ o → a ≡ b
      → t ≡ result_and r (Ok Done) → TurnOwes k rule scale below o b (says_done r) s s next → TurnOwes k rule scale below p a (reply_of t) s s next
  done_turn p o next a b r t s e f d h = turn_as k rule scale below p o next a b _ _ s s e f (done_said r t d) h

-- where nothing changes nothing is planned, whatever is asked
plans_nothing : {R S Q A : Type 0} (a : Asked) (phase : Option (Phase R S Q)) (cells : List A) → OnlyAPlanPlans a phase phase cells cells
plans_nothing (sections k) phase cells = record { cells = refl; search = refl }
plans_nothing (link a b p) phase cells = record { cells = refl; search = refl }
plans_nothing (foul a b c d) phase cells = record { cells = refl; search = refl }
plans_nothing finish phase cells = refl
plans_nothing (call (enter v s g)) phase cells = record { cells = refl; search = refl }
plans_nothing (call (withdraw v)) phase cells = record { cells = refl; search = refl }
plans_nothing (call (possess s)) phase cells = record { cells = refl; search = refl }
plans_nothing (call (give_up s)) phase cells = record { cells = refl; search = refl }
plans_nothing (call ask) phase cells = record { cells = refl; search = refl }
plans_nothing (call (plan steps n)) phase cells = tt

pub plans_nothing_at : {R S Q A : Type 0} (a : Asked) (was now : Option (Phase R S Q)) (cells : List A) → now ≡ was → OnlyAPlanPlans a was now cells cells
plans_nothing_at a was now cells e = rw e (plans_nothing a was cells)
