-- The task of a group on a layout, and what a search finds for it.
use Rattle.std.specs.Prelude.{◌≡◌, ℕ, ◌*◌, Bool, not, ◌&&◌, ◌||◌, List, [], length, take, is_some, Some, None, Option, ◌==◌}
use Rattle.track.specs.Layouts.{sections_of, look}
use Rattle.track.specs.declared.layout.Layout.{Layout}
use Rattle.roster.specs.Model.{closed_of}
use Rattle.roster.specs.declared.roster.Roster.{Roster}
use Rattle.sheets.specs.Inquiry.{Inquiry, over, inquiry}
use Rattle.rules.specs.Conflicts.{Conflicts}
use Rattle.scales.specs.Measure.{Measure}
use Rattle.words.specs.Words.{rest, best}
use Rattle.words.specs.Joint.{Task, Joint, process}
use Rattle.sheets.specs.declared.asked.Asked.{Asked}
use Rattle.words.specs.declared.board.Board.{Board}
use Rattle.words.specs.declared.group.Group.{Group}
use Rattle.words.specs.declared.found.Found.{Found}

-- whether a train in a may stand there or run to b, which is open
abbrev pub open_to : Layout → Roster → ℕ → ℕ → Bool
open_to l o a b = (a == b || is_some (look l a b)) && not (closed_of o b)

-- the task of so many trains with these goals
abbrev pub task_of : Conflicts → Layout → Roster → (trains : ℕ) → (goal : List ℕ) → Task
task_of conflicts l o k goal = record { sections = sections_of l; trains = k; opens = open_to l o; points = over l; conflicts = conflicts; goal = take k goal }

-- the task that a board stands for, under what its rule means
abbrev pub task : {S R : Type 0} → (R → Layout → Conflicts) → Board S R → Task
task conflicts b = task_of (conflicts b.rule.now b.layout.now) b.layout.now b.roster.now b.trains b.goal

-- the group has what is asked: the rest follows, since a group's board is the one of its question
pub record GroupOf {S R : Type 0} (a : Asked R S) (g : Group S R) : Type 0 where
  pub scale : g.board.scale.now ≡ a.scale.now
  pub rule : g.board.rule.now ≡ a.rule.now
  pub question : g.question.now ≡ a.question.now

-- what is asked of a group, by what its rule and its scale mean
abbrev pub asked_of : {S R C : Type 0} → (R → Layout → Conflicts) → (S → Measure C) → Group S R → Inquiry C
asked_of conflicts measure g = inquiry (conflicts g.board.rule.now) (measure g.board.scale.now) g.question.now

abbrev pub cost_of : {C : Type 0} → Option (Found C) → Option C
cost_of None = None
cost_of (Some f) = Some f.cost

-- what holds of the plan that was found, if one was
abbrev pub Goes : {C : Type 0} → Option (Found C) → (List ℕ → Type 0) → Type 0
Goes None P = Unit {0}
Goes (Some f) P = P f.plan

-- the trains at their starts, and none has moved yet
abbrev pub begin : Task → List ℕ → Joint
begin K start = record { at = take K.trains start; to = [] }

-- the least cost of so many steps from a joint position on, and the best word of them
abbrev pub rest_from : {C : Type 0} → Measure C → Task → (steps : ℕ) → List ℕ → Option C
rest_from S K steps at = rest S (process S K) (K.trains * steps) (begin K at)

abbrev pub best_from : {C : Type 0} → Measure C → Task → (steps : ℕ) → List ℕ → List ℕ
best_from S K steps at = best S (process S K) (K.trains * steps) (begin K at)

-- the least cost of all the steps, and the first word that has it; or nothing, and there is no word
pub record Solution {C : Type 0} (S : Measure C) (K : Task) (steps : ℕ) (start : List ℕ) (r : Option (Found C)) : Type 0 where
  pub cost : cost_of r ≡ rest_from S K steps start
  pub goes : Goes r (λ plan. take (K.trains * steps) plan ≡ best_from S K steps start)
  pub long : Goes r (λ plan. length plan ≡ 128)

-- what is found solves the task of the group
abbrev pub SolutionFor : {S R C : Type 0} → (R → Layout → Conflicts) → (S → Measure C) → Group S R → Option (Found C) → Type 0
SolutionFor conflicts measure g r = Solution (measure g.board.scale.now) (task conflicts g.board) g.steps g.start r
