-- The lines that bytes give, in any pieces; and a line of which the first 65 bytes are held.
use Rattle.std.proofs.Common.{◌≡◌, ℕ, zero, suc, ◌<◌, ◌≤◌, Bool, true, false, cond, eqb, List, [], ◌∷◌, ◌++◌, map, length, take, Some, Err, Option, sym, refl, ap, ◌∙◌, ap₂, ⊎_elim, arith}
use Rattle.std.proofs.lemmas.List.{length-take, length-append, take_all, take_at}
use Rattle.std.proofs.lemmas.Bool.{cases_lt}
use Rattle.std.proofs.lemmas.Bool.Decides.{nat_tests}
use Rattle.track.specs.declared.refusal.Refusal.TheVariants.{NotPairsOfDigits}
use Rattle.frames.specs.Lines.{fault_of, bytes_of}
use Rattle.frames.specs.Frames.{unless, by_kind, read_as}
use Rattle.frames.specs.Cuts.{lines_from, Cut, cut, fresh, begun_of, stepped, after, after_all, given, rest, AnyPieces, AllLines, NextOfTheInput, ClippedReadsTheSame}

-- in pieces

after_append : (s : Cut) (xs ys : List ℕ) → after_all s (xs ++ ys) ≡ after_all (after_all s xs) ys
unfolding after_all
after_append s [] ys = refl
after_append s (x ∷ xs) ys = after_append (after s x) xs ys

given_append : (s : Cut) (xs ys : List ℕ) → given s (xs ++ ys) ≡ given s xs ++ given (after_all s xs) ys
unfolding after_all given
given_append s [] ys = refl
given_append s (x ∷ xs) ys = go (eqb x 10) (after s x) (given_append (after s x) xs ys)
  where
    go : (t : Bool) (n : Cut) → given n (xs ++ ys) ≡ given n xs ++ given (after_all n xs) ys
        → cond t (n.line ∷ given n (xs ++ ys)) (given n (xs ++ ys)) ≡ cond t (n.line ∷ given n xs) (given n xs) ++ given (after_all n xs) ys
    go true n e = ap (λ (ls : List (List ℕ)). n.line ∷ ls) e
    go false n e = e

pub any_pieces : AnyPieces
any_pieces s xs ys = (given_append s xs ys, after_append s xs ys)

pub next_of_the_input : (s n : Cut) (byte : ℕ) → n ≡ after s byte → NextOfTheInput s byte n
unfolding after_all given
next_of_the_input s n byte e xs h = (
  e ∙ ap (λ (z : Cut). after z byte) h ∙ sym (after_append fresh xs (byte ∷ [])),
  given_append fresh xs (byte ∷ []) ∙ ap (λ (z : Cut). given fresh xs ++ cond (eqb byte 10) ((after z byte).line ∷ []) []) (sym h) ∙ ap (λ (z : Cut). given fresh xs ++ cond (eqb byte 10) (z.line ∷ []) []) (sym e),
)

-- the lines of the input

pub clip : (n : ℕ) (xs ys : List ℕ) → take n (take n xs ++ ys) ≡ take n (xs ++ ys)
clip zero xs ys = refl
clip (suc n) [] ys = refl
clip (suc n) (x ∷ xs) ys = ap (λ (zs : List ℕ). x ∷ zs) (clip n xs ys)

last_line : (s : Cut) (b : List ℕ) → begun_of s ≡ take 65 b → rest s ≡ map (take 65) (cond (eqb (length b) 0) [] (b ∷ []))
last_line s b e = ap (λ (z : List ℕ). cond (eqb (length z) 0) [] (z ∷ [])) e ∙ go b
  where
    go : (b : List ℕ) → cond (eqb (length (take 65 b)) 0) [] (take 65 b ∷ []) ≡ map (take 65) (cond (eqb (length b) 0) [] (b ∷ []))
    go [] = refl
    go (y ∷ ys) = grind (arith, nat_tests)

all_from : (xs : List ℕ) (s : Cut) (b : List ℕ) → begun_of s ≡ take 65 b → given s xs ++ rest (after_all s xs) ≡ map (take 65) (lines_from b xs)
unfolding after_all given lines_from stepped
all_from [] s b e = last_line s b e
all_from (x ∷ xs) s b e = go (eqb x 10) (all_from xs)
  where
    go : (t : Bool) → ((s : Cut) (b : List ℕ) → begun_of s ≡ take 65 b → given s xs ++ rest (after_all s xs) ≡ map (take 65) (lines_from b xs))
        → cond t ((stepped t s x).line ∷ given (stepped t s x) xs) (given (stepped t s x) xs) ++ rest (after_all (stepped t s x) xs) ≡ map (take 65) (cond t (b ∷ lines_from [] xs) (lines_from (b ++ (x ∷ [])) xs))
    go true ih = ap₂ (λ (l : List ℕ) (ls : List (List ℕ)). l ∷ ls) e (ih (cut (begun_of s) true) [] refl)
    go false ih = ih (cut (take 65 (begun_of s ++ (x ∷ []))) false) (b ++ (x ∷ [])) (ap (λ (z : List ℕ). take 65 (z ++ (x ∷ []))) e ∙ clip 65 b (x ∷ []))

pub all_lines : AllLines
all_lines xs = all_from xs fresh [] refl

-- a line of over 64 bytes has its fault at 64

too_long : (xs : List ℕ) → 64 < length xs → fault_of xs ≡ Some 64
too_long xs h = grind (arith, nat_tests)

over : (xs : List ℕ) → 64 < length xs → read_as xs ≡ Err (NotPairsOfDigits 64)
over xs h = ap (λ (o : Option ℕ). unless o (by_kind xs (bytes_of xs))) (too_long xs h)

clipped : (xs : List ℕ) → read_as (take 65 xs) ≡ read_as xs
clipped xs = ⊎_elim long short (cases_lt 64 (length xs))
  where
    long : 64 < length xs → read_as (take 65 xs) ≡ read_as xs
    long h = over (take 65 xs) (omega (arith, length-take 65 xs)) ∙ sym (over xs h)

    short : length xs ≤ 64 → read_as (take 65 xs) ≡ read_as xs
    short h = ap read_as (take_all 65 xs (omega arith))

pub clipped_reads_the_same : ClippedReadsTheSame
clipped_reads_the_same = clipped

-- one byte more

pub full : (held : List ℕ) (x : ℕ) → length held ≡ 65 → held ≡ take 65 (held ++ (x ∷ []))
full held x h = sym (take_at held (x ∷ []) 65 h)

pub stored : (held : List ℕ) (x : ℕ) → length held < 65 → held ++ (x ∷ []) ≡ take 65 (held ++ (x ∷ []))
stored held x h = sym (take_all 65 (held ++ (x ∷ [])) (omega (arith, length-append held (x ∷ []))))

pub ends : (s : Cut) (x : ℕ) (line : List ℕ) → x ≡ 10 → line ≡ begun_of s → cut line true ≡ after s x
unfolding stepped
ends s x line h e = grind (arith, nat_tests)

pub goes_on : (s : Cut) (x : ℕ) (line : List ℕ) → (x ≡ 10 → ⊥) → line ≡ begun_of s → cut (take 65 (line ++ (x ∷ []))) false ≡ after s x
unfolding stepped
goes_on s x line h e = grind (arith, nat_tests)
