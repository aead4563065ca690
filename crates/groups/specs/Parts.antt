-- A group of rows split into parts, and conflicts between the parts.
use Rattle.std.specs.Prelude.{◌≡◌, ℕ, ◌<◌, true, false, cond, ◌&&◌, ◌⊎◌, ◌==◌, ◌≢◌}
use Rattle.sheets.specs.Problem.{Problem, Group, Member, count}
use Rattle.sheets.specs.Plan.{Plan, Earlier, clash}

-- a naming gives each row of a group the name of its part: the number of one of the part's rows
abbrev pub Naming : Type 0
Naming = ℕ → ℕ

pub record Names (Q : Problem) (G : Group) (name : Naming) : Type 0 where
  pub a_member : (r : ℕ) → Member Q G r → Member Q G (name r)
  pub its_own : (r : ℕ) → Member Q G r → name (name r) ≡ name r

-- the part that goes by g
unfoldable pub part : Group → Naming → ℕ → Group
part G name g r = G r && name r == g

-- at first each row is a part of its own
abbrev pub alone : Naming
alone r = r

-- the parts of the rows r and q as one, under the name of the first
unfoldable pub merged : Naming → (r q : ℕ) → Naming
merged name r q p = cond (name p == name q) (name r) (name p)

-- the part that has r and q after their parts are joined
abbrev pub union : Group → Naming → (r q : ℕ) → Group
union G name r q = part G (merged name r q) (name r)

-- how many parts there are: one for each row that its part goes by
unfoldable pub parts : (rows : ℕ) → Group → Naming → ℕ
parts rows G name = count rows (λ r. G r && name r == r)

-- no two rows of different parts conflict
abbrev pub NoClash : Problem → Group → Naming → Plan → Type 0
NoClash Q G name x =
    (t r q : ℕ) → t < Q.steps → r < q → Member Q G r → Member Q G q → (name r ≢ name q) → clash Q x t r q ≡ false

-- the conflict of u, p and o comes before that of t, r and q: at a lower step, there of a lower row, and of this with a lower other
abbrev pub Sooner : (u p o t r q : ℕ) → Type 0
Sooner u p o t r q = (u < t) ⊎ ((u ≡ t) × Earlier p o r q)

-- the first conflict between rows of different parts
pub record FirstClash (Q : Problem) (G : Group) (name : Naming) (x : Plan) (t r q : ℕ) : Type 0 where
  pub in_time : t < Q.steps
  pub rising : r < q
  pub row : Member Q G r
  pub other : Member Q G q
  pub differ : name r ≡ name q → ⊥
  pub conflict : clash Q x t r q ≡ true
  pub first : (u p o : ℕ) → p < o → Member Q G p → Member Q G o → (name p ≢ name o) → Sooner u p o t r q → clash Q x u p o ≡ false

-- the rows of a group as y has them, and the others as x has them
unfoldable pub put : Group → Plan → Plan → Plan
put G y x r = cond (G r) (y r) (x r)

-- each row as the sheet of its own part has it
unfoldable pub assembled : Naming → (ℕ → Plan) → Plan
assembled name s r = s (name r) r
