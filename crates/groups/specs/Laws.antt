-- What holds of every course, of sheets whose parts do not conflict, and of joinings.
use Rattle.std.specs.Prelude.{◌≡◌, ℕ, ◌+◌, ◌<◌, ◌⊎◌}
use Rattle.scales.specs.Measure.{Measure, joined}
use Rattle.sheets.specs.Problem.{Problem, Group, Member, count}
use Rattle.sheets.specs.Plan.{Plan, SameOn, Best, Without, cost}
use Rattle.sheets.specs.Theorems.{Same}
use Rattle.groups.specs.Parts.{Naming, Names, part, alone, merged, parts, NoClash, FirstClash, assembled}
use Rattle.groups.specs.Course.{Outcome, beyond, none, found, Whole}

-- two outcomes are one: the same end, with as many groups and the same sheet
abbrev pub Agree : Problem → Group → Outcome → Outcome → Type 0
Agree Q G beyond beyond = Unit {0}
Agree Q G beyond none = ⊥
Agree Q G beyond (found m y) = ⊥
Agree Q G none beyond = ⊥
Agree Q G none none = Unit {0}
Agree Q G none (found m y) = ⊥
Agree Q G (found n x) beyond = ⊥
Agree Q G (found n x) none = ⊥
Agree Q G (found n x) (found m y) = (n ≡ m) × SameOn Q G x y

-- what an outcome says of the whole group
abbrev pub Says : {C : Type 0} → Measure C → Problem → Group → Outcome → Type 0
Says S Q G beyond = Unit {0}
Says S Q G none = Without Q G
Says S Q G (found n x) = Best S Q G x

module _ {C : Type 0} (S : Measure C) (Q : Problem) (G : Group) where
  module _ (Taken : Group → Type 0) where
    -- a course has one outcome, and one number of groups
    abbrev pub ACourseHasOneOutcome : Type 0
    ACourseHasOneOutcome = (o p : Outcome) → Whole S Q G Taken o → Whole S Q G Taken p → Agree Q G o p

    -- there is a course wherever it is decided which groups are taken
    abbrev pub ACourseExistsWhereTakingIsDecided : Type 0
    ACourseExistsWhereTakingIsDecided = ((F : Group) → Taken F ⊎ (Taken F → ⊥)) → (o : Outcome) × Whole S Q G Taken o

    -- a sheet that a course ends with is the best of the whole group, and where it ends with none there is none
    abbrev pub ACourseIsRight : Type 0
    ACourseIsRight = (o : Outcome) → Whole S Q G Taken o → Says S Q G o

  -- best sheets of parts between which there is no conflict are together the best sheet of the group, at the joined cost
  abbrev pub PartsApartAreBestTogether : Type 0
  PartsApartAreBestTogether =
      (name : Naming)
      → Names Q G name
      → (s : ℕ → Plan)
      → ((g : ℕ) → g < Q.rows → Best S Q (part G name g) (s g))
      → NoClash Q G name (assembled name s)
      → Best S Q G (assembled name s)
      × (cost S Q G (assembled name s) ≡ joined S Q.rows (λ g. cost S Q (part G name g) (s g)))

-- where some of its rows have no lawful sheet, the group has none
abbrev pub APartWithoutASheetLeavesNone : Problem → Group → Type 0
APartWithoutASheetLeavesNone Q G = (F : Group) → ((r : ℕ) → Member Q F r → Member Q G r) → Without Q F → Without Q G

-- there are at first as many parts as trains
abbrev pub AsManyPartsAsTrainsAtFirst : Problem → Group → Type 0
AsManyPartsAsTrainsAtFirst Q G = Names Q G alone × (parts Q.rows G alone ≡ count Q.rows G)

-- each joining leaves one part fewer
abbrev pub EachJoiningTakesOneAway : Problem → Group → Type 0
EachJoiningTakesOneAway Q G =
    (name : Naming) (x : Plan) (t r q : ℕ)
    → Names Q G name
    → FirstClash Q G name x t r q
    → Names Q G (merged name r q) × (parts Q.rows G (merged name r q) + 1 ≡ parts Q.rows G name)

-- a row is in the part of r or in that of q
abbrev pub InEither : Naming → (r q p : ℕ) → Type 0
InEither name r q p = (name p ≡ name r) ⊎ (name p ≡ name q)

-- the parts of r and q have become one: two rows are now in one part exactly if they were before, or if each was in one of the two parts;
-- a row of another part has its part's name as before
pub record BothPartsAreOne (name : Naming) (r q : ℕ) (new : Naming) : Type 0 where
  pub together : (p o : ℕ) → Same (new p ≡ new o) ((name p ≡ name o) ⊎ (InEither name r q p × InEither name r q o))
  pub others : (p : ℕ) → (InEither name r q p → ⊥) → new p ≡ name p

-- each joining makes just the rows of both parts one part
abbrev pub EachJoiningMakesBothPartsOne : Type 0
EachJoiningMakesBothPartsOne = (name : Naming) (r q : ℕ) → BothPartsAreOne name r q (merged name r q)
