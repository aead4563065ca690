-- What is printed is read again.
use Rattle.std.proofs.Common.{◌≡◌, ℕ, ◌+◌, ◌*◌, ◌/◌, ◌%◌, ◌<◌, true, false, eqb, List, [], ◌∷◌, ◌++◌, length, None, sym, refl, ap, ◌∙◌, ap₂, arith}
use Rattle.std.specs.List.{AllByRecursion}
use Rattle.std.proofs.lemmas.List.{append-nil, append_assoc}
use Rattle.std.proofs.lemmas.Bool.{cond-false}
use Rattle.std.proofs.lemmas.Bool.Decides.{nat_tests}
use Rattle.frames.specs.Lines.{digit, digit_value, pair_value, fault_from, bytes_of}
use Rattle.frames.specs.Text.{digit_of, chars_of, line_of, text, RoundTrip}
use Rattle.frames.specs.Cuts.{lines_from, lines_of, TextIntoItsLines}

digit_value_lem : (d : ℕ) → d < 16 → digit_value (digit_of d) ≡ d
digit_value_lem d h = grind (arith, nat_tests)

digit_digit : (d : ℕ) → d < 16 → digit (digit_of d) ≡ true
digit_digit d h = grind (arith, nat_tests)

pair_again : (b : ℕ) → b < 256 → pair_value (digit_of (b / 16)) (digit_of (b % 16)) ≡ b
pair_again b h = grind (arith, digit_value_lem)

bytes_again : (bs : List ℕ) → AllByRecursion (λ b. b < 256) bs → bytes_of (chars_of bs) ≡ bs
unfolding bytes_of chars_of
bytes_again [] h = refl
bytes_again (b ∷ []) h = ap (λ (x : ℕ). x ∷ []) (pair_again b h.0)
bytes_again (b ∷ (c ∷ bs)) h = ap₂ (λ (x : ℕ) (xs : List ℕ). x ∷ xs) (pair_again b h.0) (bytes_again (c ∷ bs) h.1)

length_chars_of : (bs : List ℕ) → 0 < length bs → length (chars_of bs) + 1 ≡ 3 * length bs
unfolding chars_of
length_chars_of [] h = absurd (omega arith)
length_chars_of (b ∷ []) h = refl
length_chars_of (b ∷ (c ∷ bs)) h = omega (arith, length_chars_of (c ∷ bs) (omega arith))

at_digit : (i d : ℕ) (xs : List ℕ) → (i % 3 ≡ 2 → ⊥) → d < 16 → fault_from i (digit_of d ∷ xs) ≡ fault_from (i + 1) xs
unfolding fault_from
at_digit i d xs h k = let e = digit_digit d k in grind (arith, nat_tests)

at_space : (i : ℕ) (xs : List ℕ) → i % 3 ≡ 2 → fault_from i (32 ∷ xs) ≡ fault_from (i + 1) xs
unfolding fault_from
at_space i xs h = grind (arith, nat_tests)

at_end : (i : ℕ) → i % 3 ≡ 2 → fault_from i [] ≡ None
unfolding fault_from
at_end i h = grind (arith, nat_tests)

no_wrong : (bs : List ℕ) (i : ℕ) → 0 < length bs → i % 3 ≡ 0 → AllByRecursion (λ b. b < 256) bs → fault_from i (chars_of bs) ≡ None
unfolding chars_of
no_wrong [] i n m h = absurd (omega arith)
no_wrong (b ∷ []) i n m h = grind (arith, at_digit, at_end)
no_wrong (b ∷ (c ∷ bs)) i n m h = let ih = no_wrong (c ∷ bs) (i + 1 + 1 + 1) in grind (arith, at_digit, at_space, ih)

pub round_trip : RoundTrip
round_trip bytes n m h =
    let l = length_chars_of bytes n in
    let e = no_wrong bytes 0 n refl h in
    (grind (arith, nat_tests), bytes_again bytes h)

-- no digit is 0A
no_end : (d : ℕ) → eqb (digit_of d) 10 ≡ false
no_end d = grind (arith, nat_tests)

no_ends : (bs : List ℕ) → AllByRecursion (λ c. eqb c 10 ≡ false) (chars_of bs)
unfolding chars_of
no_ends [] = tt
no_ends (b ∷ []) = (no_end (b / 16), (no_end (b % 16), tt))
no_ends (b ∷ (c ∷ bs)) = (no_end (b / 16), (no_end (b % 16), (refl, no_ends (c ∷ bs))))

to_the_end : (cs begun xs : List ℕ) → AllByRecursion (λ c. eqb c 10 ≡ false) cs → lines_from begun (cs ++ (10 ∷ xs)) ≡ (begun ++ cs) ∷ lines_from [] xs
unfolding lines_from
to_the_end [] begun xs h = ap (λ (z : List ℕ). z ∷ lines_from [] xs) (sym (append-nil begun))
to_the_end (c ∷ cs) begun xs h =
    cond-false _ _ _ h.0 ∙ to_the_end cs (begun ++ (c ∷ [])) xs h.1 ∙ ap (λ (z : List ℕ). z ∷ lines_from [] xs) (append_assoc begun (c ∷ []) cs)

pub text_into_its_lines : TextIntoItsLines
unfolding lines_from line_of
text_into_its_lines [] = refl
text_into_its_lines (bs ∷ lines) =
    ap lines_of (append_assoc (chars_of bs) (10 ∷ []) (text lines)) ∙ to_the_end (chars_of bs) [] (text lines) (no_ends bs) ∙ ap (λ (ls : List (List ℕ)). chars_of bs ∷ ls) (text_into_its_lines lines)
