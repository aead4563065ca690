-- How far a course has come.
use Rattle.std.specs.Prelude.{◌≡◌, ℕ, ◌<◌, ◌≤◌}
use Rattle.scales.specs.Measure.{Measure}
use Rattle.sheets.specs.Problem.{Problem, Group, Member}
use Rattle.sheets.specs.Plan.{Plan, SameOn}
use Rattle.groups.specs.Parts.{Naming}
use Rattle.groups.specs.Course.{Outcome, Course, Opening, Whole}

module _ {C : Type 0} (S : Measure C) (Q : Problem) (G : Group) (Taken : Group → Type 0) where
  -- the rows below k have been asked for, each alone, and stand in the sheet z: however the course goes on from there, so ends the whole
  pub record Opened (k : ℕ) (z : Plan) : Type 0 where
    pub sheet : Plan
    pub same : (r t : ℕ) → r < k → Member Q G r → t ≤ Q.steps → sheet r t ≡ z r t
    pub onward : (o : Outcome) → Opening S Q G Taken k sheet o → Whole S Q G Taken o

  -- the parts have been asked for, and stand in the sheet z
  pub record Reached (name : Naming) (z : Plan) : Type 0 where
    pub sheet : Plan
    pub same : SameOn Q G sheet z
    pub onward : (o : Outcome) → Course S Q G Taken name sheet o → Whole S Q G Taken o
