-- A group's sheet read by time, then by train, as a word; and what lawful, cost, order and best are of words.
use Rattle.std.specs.Prelude.{◌≡◌, ℕ, zero, suc, ◌+◌, ◌*◌, ◌<◌, ◌≤◌, not, ◌&&◌, List, [], ◌∷◌, ◌++◌}
use Rattle.scales.specs.Measure.{Measure}
use Rattle.sheets.specs.Problem.{Group, Problem, ProblemLaws, Posed, Member, allowed, run_over}
use Rattle.sheets.specs.Plan.{Plan, Lawful, Before, SameOn, Best, cost}
use Rattle.words.specs.Words.{Process, Run, spent, Ahead, BestWord}
use Rattle.words.specs.Joint.{Task, Joint, process}

abbrev pub counted : ℕ → (ℕ → ℕ) → List ℕ
counted zero f = []
counted (suc n) f = counted n f ++ (f n ∷ [])

abbrev pub task_of_problem : Problem → Task
task_of_problem Q = record {
  sections = Q.sections;
  trains = Q.rows;
  opens = λ a b. allowed Q a b && not (Q.closed b);
  points = run_over Q;
  conflicts = Q.conflicts;
  goal = counted Q.rows Q.goal;
}

-- d places of f from j on
abbrev pub row_word : (ℕ → ℕ) → ℕ → ℕ → List ℕ
row_word f j zero = []
row_word f j (suc d) = f j ∷ row_word f (j + 1) d

-- the places of l steps from time t on, by time and then by train
abbrev pub sheet_word : Plan → (k t : ℕ) → ℕ → List ℕ
sheet_word x k t zero = []
sheet_word x k t (suc l) = row_word (λ r. x r (t + 1)) 0 k ++ sheet_word x k (t + 1) l

-- the k rows of a group in rising order are row 0 .. row (k - 1), and each of its rows r stands at place r
pub record Picks (Q : Problem) (G : Group) (k : ℕ) (row place : ℕ → ℕ) : Type 0 where
  pub some : 1 ≤ k
  pub member : (i : ℕ) → i < k → Member Q G (row i)
  pub rising : (i j : ℕ) → i < j → j < k → row i < row j
  pub within : (r : ℕ) → Member Q G r → place r < k
  pub back : (r : ℕ) → Member Q G r → row (place r) ≡ r

-- the question of the group alone, its rows renumbered
abbrev pub alone : Problem → ℕ → (ℕ → ℕ) → Problem
alone Q k row = record {
  sections = Q.sections;
  points = Q.points;
  closed = Q.closed;
  rows = k;
  start = λ i. Q.start (row i);
  goal = λ i. Q.goal (row i);
  steps = Q.steps;
  conflicts = Q.conflicts;
}

abbrev pub seen : (ℕ → ℕ) → Plan → Plan
seen row x i t = x (row i) t

abbrev pub group_process : {C : Type 0} → Measure C → Problem → ℕ → (ℕ → ℕ) → Process Joint C
group_process S Q k row = process S (task_of_problem (alone Q k row))

abbrev pub group_start : Problem → ℕ → (ℕ → ℕ) → Joint
group_start Q k row = record { at = counted k (λ i. Q.start (row i)); to = [] }

abbrev pub group_word : Problem → ℕ → (ℕ → ℕ) → Plan → List ℕ
group_word Q k row x = sheet_word (seen row x) k 0 Q.steps

abbrev pub Starts : Problem → Group → Plan → Type 0
Starts Q G x = (r : ℕ) → Member Q G r → x r 0 ≡ Q.start r

pub record Bridged {C : Type 0} (S : Measure C) (Q : Problem) (G : Group) (k : ℕ) (row place : ℕ → ℕ) : Type 0 where
  pub lawful_runs : (x : Plan) → Lawful Q G x → Run (group_process S Q k row) (k * Q.steps) (group_start Q k row) (group_word Q k row x)
  pub runs_lawful : (x : Plan) → Starts Q G x → Run (group_process S Q k row) (k * Q.steps) (group_start Q k row) (group_word Q k row x) → Lawful Q G x
  pub spends : (x : Plan) → Starts Q G x → spent S (group_process S Q k row) (group_start Q k row) (group_word Q k row x) ≡ cost S Q G x
  pub ahead_before : (x y : Plan) → Starts Q G x → Starts Q G y → Ahead (group_word Q k row x) (group_word Q k row y) → Before Q G x y
  pub before_ahead : (x y : Plan) → Starts Q G x → Starts Q G y → Before Q G x y → Ahead (group_word Q k row x) (group_word Q k row y)
  pub word_same : (x y : Plan) → Starts Q G x → Starts Q G y → group_word Q k row x ≡ group_word Q k row y → SameOn Q G x y
  pub same_word : (x y : Plan) → SameOn Q G x y → group_word Q k row x ≡ group_word Q k row y
  -- each run is the word of a sheet
  pub written : (v : List ℕ) → Run (group_process S Q k row) (k * Q.steps) (group_start Q k row) v → (x : Plan) × Starts Q G x × (group_word Q k row x ≡ v)
  pub best_of_word : (x : Plan) (c : C) → Starts Q G x → BestWord S (group_process S Q k row) (k * Q.steps) (group_start Q k row) (group_word Q k row x) c
      → Best S Q G x × (cost S Q G x ≡ c)
  pub word_of_best : (x : Plan) → Best S Q G x → BestWord S (group_process S Q k row) (k * Q.steps) (group_start Q k row) (group_word Q k row x) (cost S Q G x)
  pub none_lawful : ((v : List ℕ) → Run (group_process S Q k row) (k * Q.steps) (group_start Q k row) v → ⊥) → (x : Plan) → Lawful Q G x → ⊥
  pub none_runs : ((x : Plan) → Lawful Q G x → ⊥) → (v : List ℕ) → Run (group_process S Q k row) (k * Q.steps) (group_start Q k row) v → ⊥

abbrev pub Bridge : {C : Type 0} → Measure C → Type 0
Bridge S = (Q : Problem) → ProblemLaws Q → Posed Q → (G : Group) (k : ℕ) (row place : ℕ → ℕ) → Picks Q G k row place → Bridged S Q G k row place
