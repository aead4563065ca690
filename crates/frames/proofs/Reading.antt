-- What a line is read as, by its fault, its kind and its length.
use Rattle.std.proofs.Common.{◌≡◌, ℕ, ◌+◌, ◌/◌, ◌≤◌, min, Bool, true, false, cond, eqb, List, [], ◌∷◌, length, get_or, drop, Some, None, Ok, Err, Option, refl, ap, arith}
use Rattle.std.proofs.lemmas.Bool.{eqb-true}
use Rattle.std.proofs.lemmas.Bool.Decides.{nat_tests}
use Rattle.track.specs.declared.refusal.Refusal.TheVariants.{UnknownFrame}
use Rattle.frames.specs.Lines.{pair_value, fault_from, fault_of, bytes_of, size_of, place_of}
use Rattle.frames.specs.Frames.{by_kind, unless, read_as, KindThenFields}
use Rattle.frames.proofs.Pairs.{length_bytes_of}

-- a line without a wrong place has two digits at least
pub two_at_least : (xs : List ℕ) → fault_from 0 xs ≡ None → 2 ≤ length xs
unfolding fault_from
two_at_least [] h = absurd cc
two_at_least (x ∷ []) h = grind (arith, nat_tests)
two_at_least (x ∷ (y ∷ xs)) h = omega arith

pub no_wrong_place : (xs : List ℕ) → fault_of xs ≡ None → fault_from 0 xs ≡ None
no_wrong_place xs h = grind (arith, nat_tests)

-- the kind, and the fields behind it
behind : (xs : List ℕ) → 2 ≤ length xs → bytes_of xs ≡ get_or (bytes_of xs) 0 0 ∷ bytes_of (drop (place_of xs) xs)
unfolding bytes_of
behind [] h = absurd (omega arith)
behind (a ∷ []) h = absurd (omega arith)
behind (a ∷ (b ∷ [])) h = refl
behind (a ∷ (b ∷ (s ∷ xs))) h =
    let e : 3 ≡ min 3 (length (a ∷ (b ∷ (s ∷ xs)))) = omega arith in
    ap (λ (n : ℕ). pair_value a b ∷ bytes_of (drop n (a ∷ (b ∷ (s ∷ xs))))) e

pub kind_then_fields : (xs : List ℕ) → KindThenFields xs
kind_then_fields xs t h = go (fault_of xs) (eqb (size_of (get_or (bytes_of xs) 0 0)) (length (bytes_of xs))) refl refl h
  where
    go : (o : Option ℕ) (b : Bool) → fault_of xs ≡ o → eqb (size_of (get_or (bytes_of xs) 0 0)) (length (bytes_of xs)) ≡ b
        → unless o (cond b (Ok (get_or (bytes_of xs) 0 0, drop (place_of xs) xs, place_of xs)) (Err UnknownFrame)) ≡ Ok t → (bytes_of xs ≡ t.0 ∷ bytes_of t.1) × (length (bytes_of xs) ≡ size_of t.0)
    go (Some p) b e f k = absurd cc
    go None false e f k = absurd cc
    go None true e f k =
        let parts = behind xs (two_at_least xs (no_wrong_place xs e)) in
        let n = eqb-true _ _ f in
        (cc, cc)

module _ (xs : List ℕ) (kind : ℕ) (sound : fault_of xs ≡ None) (first : kind ≡ get_or (bytes_of xs) 0 0) where
  passed : read_as xs ≡ by_kind xs (bytes_of xs)
  passed = ap (λ (o : Option ℕ). unless o (by_kind xs (bytes_of xs))) sound

  pub of_no_size : (size_of kind ≡ (length xs + 1) / 3 → ⊥) → Err UnknownFrame ≡ read_as xs
  of_no_size h = let n = length_bytes_of xs in grind (arith, nat_tests, passed)

  pub of_no_kind : size_of kind ≡ 0 → Err UnknownFrame ≡ read_as xs
  of_no_kind h = let n = two_at_least xs (no_wrong_place xs sound) in of_no_size (λ e. omega arith)

  pub of_its_size : (digits : List ℕ) (place : ℕ) → size_of kind ≡ (length xs + 1) / 3 → digits ≡ drop (place_of xs) xs → place ≡ place_of xs → Ok (kind, digits, place) ≡ read_as xs
  of_its_size digits place size d p = let n = length_bytes_of xs in grind (arith, nat_tests, passed)
