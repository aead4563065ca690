-- A line, byte by byte.
use Rattle.std.proofs.Common.{◌≡◌, ℕ, zero, suc, ◌+◌, ◌*◌, ◌/◌, ◌%◌, ◌<◌, List, [], ◌∷◌, ◌++◌, length, get_or, take, sym, refl, ap, ◌∙◌, arith}
use Rattle.std.specs.List.{AllByRecursion}
use Rattle.frames.specs.Text.{digit_of, trio, chars_of, line_of}

pub length_line_of : (bs : List ℕ) → 0 < length bs → length (line_of bs) ≡ 3 * length bs
unfolding chars_of line_of
length_line_of [] h = absurd (omega arith)
length_line_of (b ∷ []) h = refl
length_line_of (b ∷ (c ∷ bs)) h =
    let ih : length (chars_of (c ∷ bs) ++ (10 ∷ [])) ≡ 3 * length (c ∷ bs) = length_line_of (c ∷ bs) (omega arith) in
    omega arith

pub line_more : (bs : List ℕ) (i s : ℕ) → i < length bs → (i + 1 ≡ length bs → s ≡ 10) → ((i + 1 ≡ length bs → ⊥) → s ≡ 32) → take (3 * (i + 1)) (line_of bs) ≡ take (3 * i) (line_of bs) ++ trio (get_or bs i 0) s
unfolding chars_of line_of
line_more [] i s h p q = absurd (omega arith)
line_more (b ∷ []) zero s h p q = ap (trio b) (sym (p refl))
line_more (b ∷ []) (suc i) s h p q = absurd (omega arith)
line_more (b ∷ (c ∷ bs)) zero s h p q = ap (trio b) (sym (q (λ (e : 0 + 1 ≡ length (b ∷ (c ∷ bs))). omega arith)))
line_more (b ∷ (c ∷ bs)) (suc i) s h p q =
    let e : 3 * (suc i + 1) ≡ suc (suc (suc (3 * (i + 1)))) = omega arith in
    let f : 3 * suc i ≡ suc (suc (suc (3 * i))) = omega arith in
    let xs = line_of (b ∷ (c ∷ bs)) in
    let ih = line_more (c ∷ bs) i s (omega arith) (λ (k : i + 1 ≡ length (c ∷ bs)). p (omega arith)) (λ (k : i + 1 ≡ length (c ∷ bs) → ⊥). q (λ (m : suc i + 1 ≡ length (b ∷ (c ∷ bs))). k (omega arith))) in
    ap (λ (n : ℕ). take n xs) e
    ∙ ap (λ (zs : List ℕ). digit_of (b / 16) ∷ (digit_of (b % 16) ∷ (32 ∷ zs))) ih
    ∙ sym (ap (λ (n : ℕ). take n xs ++ trio (get_or (c ∷ bs) i 0) s) f)

pub all_below : (xs : List ℕ) → ((k : ℕ) → get_or xs k 0 < 256) → AllByRecursion (λ b. b < 256) xs
all_below [] h = tt
all_below (x ∷ xs) h = (h 0, all_below xs (λ k. h (suc k)))
