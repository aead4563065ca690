-- Joint positions of a group of trains, and the process of moving them: one choice for each train in turn, step after step.
use Rattle.std.specs.Prelude.{◌≡◌, ℕ, ◌≤◌, Bool, cond, not, ◌&&◌, List, [], ◌∷◌, ◌++◌, length, ◌==◌, nat_eq, slice_index}
use Rattle.scales.specs.Measure.{Measure}
use Rattle.sheets.specs.Problem.{all}
use Rattle.words.specs.Words.{Process}

pub record Task : Type 0 where
  pub sections : ℕ
  pub trains : ℕ
  -- whether a train in a may stay or go to b
  pub opens : ℕ → ℕ → Bool
  pub points : ℕ → ℕ → ℕ
  pub conflicts : (a b c d : ℕ) → Bool
  pub goal : List ℕ

-- every move runs over at most 7 points, and over none when standing
pub record RunsFew (K : Task) : Type 0 where
  pub most : (a b : ℕ) → K.points a b ≤ 7
  pub still : (a : ℕ) → K.points a a ≡ 0

-- where the trains stood as the step began, and where those that have moved in it went
pub record Joint : Type 0 where
  pub at : List ℕ
  pub to : List ℕ

-- once all have moved, a new step begins
abbrev pub turned : ℕ → List ℕ → List ℕ → Joint
turned k p q = cond (length q == k) (record { at = q; to = [] }) (record { at = p; to = q })

-- no move made already conflicts with the move from a to x
abbrev pub clear : Task → List ℕ → List ℕ → ℕ → ℕ → ℕ → Bool
clear K p q j a x = all j (λ i. not (K.conflicts (slice_index p i) (slice_index q i) a x))

abbrev pub may_move : Task → List ℕ → List ℕ → ℕ → ℕ → Bool
may_move K p q j x = K.opens (slice_index p j) x && clear K p q j (slice_index p j) x

abbrev pub move_price : {C : Type 0} → Measure C → Task → List ℕ → ℕ → ℕ → C
move_price S K p j x = S.price (K.points (slice_index p j) x) (slice_index p j == slice_index K.goal j && x == slice_index K.goal j)

abbrev pub home : Task → List ℕ → Bool
home K p = all K.trains (λ i. nat_eq (slice_index p i) (slice_index K.goal i))

unfoldable pub process : {C : Type 0} → Measure C → Task → Process Joint C
process S K = record {
  width = K.sections;
  may = λ s x. may_move K s.at s.to (length s.to) x;
  after = λ s x. turned K.trains s.at (s.to ++ (x ∷ []));
  price = λ s x. move_price S K s.at (length s.to) x;
  done = λ s. home K s.at;
}
