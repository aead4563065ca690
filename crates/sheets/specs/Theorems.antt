-- What holds of the sheets of any inquiry.
use Rattle.std.specs.Prelude.{◌≡◌, ℕ, ◌+◌, Bool, true, not, ◌||◌, ◌⊎◌, nat_eq}
use Rattle.sheets.specs.Problem.{Group, all}
use Rattle.sheets.specs.Plan.{Plan, SameOn, Best, Without}
use Rattle.sheets.specs.Inquiry.{Inquiry}

-- any two best sheets count as one
abbrev pub AtMostOneIsBest : {C : Type 0} → Inquiry C → Type 0
AtMostOneIsBest i =
    (x y : Plan) → Best i.measure i.problem i.group x → Best i.measure i.problem i.group y → SameOn i.problem i.group x y

-- the group has a best sheet, or no lawful one
abbrev pub BestOrNone : {C : Type 0} → Inquiry C → Type 0
BestOrNone i = ((x : Plan) × Best i.measure i.problem i.group x) ⊎ Without i.problem i.group

-- each of two facts follows from the other
pub record Same (A B : Type 0) : Type 0 where
  pub to : A → B
  pub back : B → A

-- two sheets are told to agree exactly if they count as one
abbrev pub Agreeing : {C : Type 0} → Inquiry C → Plan → Plan → Bool → Type 0
Agreeing i x y b = Same (b ≡ true) (SameOn i.problem i.group x y)

-- each row of the group is the same in both, at each time up to the last
unfoldable pub same_rows : (rows steps : ℕ) → Group → Plan → Plan → Bool
same_rows rows steps G x y = all rows (λ r. not (G r) || all (steps + 1) (λ t. nat_eq (x r t) (y r t)))
