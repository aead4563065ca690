-- The bytes that a line writes, by places of the line.
use Rattle.std.proofs.Common.{◌≡◌, ℕ, zero, suc, ◌+◌, ◌*◌, ◌/◌, ◌<◌, ◌≤◌, List, [], ◌∷◌, length, get_or, sym, refl, ap, ◌∙◌, ap₂, arith}
use Rattle.std.proofs.lemmas.List.{get_or_past}
use Rattle.frames.specs.Lines.{pair_value, bytes_of}

pub length_bytes_of : (xs : List ℕ) → length (bytes_of xs) ≡ (length xs + 1) / 3
unfolding bytes_of
length_bytes_of [] = refl
length_bytes_of (a ∷ []) = refl
length_bytes_of (a ∷ (b ∷ [])) = refl
length_bytes_of (a ∷ (b ∷ (s ∷ xs))) = omega (arith, length_bytes_of xs)

-- three places on is one byte on
on : (a b s : ℕ) (xs : List ℕ) (i k : ℕ) → get_or (a ∷ (b ∷ (s ∷ xs))) (3 * suc i + k) 0 ≡ get_or xs (3 * i + k) 0
on a b s xs i k = let e : 3 * suc i + k ≡ suc (suc (suc (3 * i + k))) = omega arith in ap (λ (n : ℕ). get_or (a ∷ (b ∷ (s ∷ xs))) n 0) e

here : (a b s : ℕ) (xs : List ℕ) (i : ℕ) → get_or (a ∷ (b ∷ (s ∷ xs))) (3 * suc i) 0 ≡ get_or xs (3 * i) 0
here a b s xs i = let e : 3 * suc i ≡ suc (suc (suc (3 * i))) = omega arith in ap (λ (n : ℕ). get_or (a ∷ (b ∷ (s ∷ xs))) n 0) e

pub byte_here : (xs : List ℕ) (i : ℕ) → 3 * i + 1 < length xs → get_or (bytes_of xs) i 0 ≡ pair_value (get_or xs (3 * i) 0) (get_or xs (3 * i + 1) 0)
unfolding bytes_of
byte_here [] i h = absurd (omega arith)
byte_here (a ∷ []) i h = absurd (omega arith)
byte_here (a ∷ (b ∷ [])) zero h = refl
byte_here (a ∷ (b ∷ [])) (suc i) h = absurd (omega arith)
byte_here (a ∷ (b ∷ (s ∷ xs))) zero h = refl
byte_here (a ∷ (b ∷ (s ∷ xs))) (suc i) h =
    byte_here xs i (omega arith) ∙ ap₂ pair_value (sym (here a b s xs i)) (sym (on a b s xs i 1))

pub none_there : (xs : List ℕ) (i : ℕ) → length xs ≤ 3 * i + 1 → get_or (bytes_of xs) i 0 ≡ 0
none_there xs i h = get_or_past (bytes_of xs) i 0 (omega (arith, length_bytes_of xs))
