-- The lines that bytes give are those that 0A ends in them.
use Rattle.std.proofs.Common.{◌≡◌, ℕ, Bool, true, false, cond, eqb, List, [], ◌∷◌, ◌++◌, map, take, refl, ap, ◌∙◌, ap₂}
use Rattle.frames.specs.Cuts.{Cut, cut, fresh, begun_of, stepped, given}
use Rattle.frames.proofs.Cutting.{clip}
use Rattle.service.specs.Serving.{ended_from, ended_lines}

ended_by : (xs : List ℕ) (s : Cut) (b : List ℕ) → begun_of s ≡ take 65 b → given s xs ≡ map (take 65) (ended_from b xs)
unfolding given ended_from stepped
ended_by [] s b e = refl
ended_by (x ∷ xs) s b e = go (eqb x 10) (ended_by xs)
  where
    go : (t : Bool) → ((s : Cut) (b : List ℕ) → begun_of s ≡ take 65 b → given s xs ≡ map (take 65) (ended_from b xs))
        → cond t ((stepped t s x).line ∷ given (stepped t s x) xs) (given (stepped t s x) xs) ≡ map (take 65) (cond t (b ∷ ended_from [] xs) (ended_from (b ++ (x ∷ [])) xs))
    go true ih = ap₂ (λ (l : List ℕ) (ls : List (List ℕ)). l ∷ ls) e (ih (cut (begun_of s) true) [] refl)
    go false ih = ih (cut (take 65 (begun_of s ++ (x ∷ []))) false) (b ++ (x ∷ [])) (ap (λ (z : List ℕ). take 65 (z ++ (x ∷ []))) e ∙ clip 65 b (x ∷ []))

pub given_ended : (xs : List ℕ) → given fresh xs ≡ map (take 65) (ended_lines xs)
given_ended xs = ended_by xs fresh [] refl
