-- Each word of the right length is the word of a sheet.
use Rattle.std.proofs.Common.{◌≡◌, ℕ, zero, suc, ◌+◌, ◌*◌, ◌<◌, ◌≤◌, List, [], ◌∷◌, ◌++◌, length, get_or, drop, sym, refl, ap, ◌∙◌, ap₂, mul-le-mul, mul-suc, add-one, arith, drop-cons}
use Rattle.std.proofs.lemmas.List.{drop_all}
use Rattle.sheets.specs.Plan.{Plan}
use Rattle.words.specs.Words.{Process, Run}
use Rattle.words.specs.Bridge.{row_word, sheet_word}

pub run_length : {St C : Type 0} (G : Process St C) (m : ℕ) (s : St) (w : List ℕ) → Run G m s w → length w ≡ m
run_length G zero s [] r = refl
run_length G zero s (x ∷ w) r = absurd r
run_length G (suc m) s [] r = absurd r
run_length G (suc m) s (x ∷ w) r = ap suc (run_length G m (G.after s x) w r.2)

-- the sheet of k trains that the word v says; `place` says which of them a row is
abbrev pub sheet_of : (ℕ → ℕ) → (place : ℕ → ℕ) (k : ℕ) (v : List ℕ) → Plan
sheet_of start place k v r zero = start r
sheet_of start place k v r (suc t) = get_or v (k * t + place r) 0

row_read : (v : List ℕ) (f : ℕ → ℕ) (base k : ℕ) → ((i : ℕ) → i < k → f i ≡ get_or v (base + i) 0) → base + k ≤ length v → (d j : ℕ) → j + d ≡ k
    → row_word f j d ++ drop (base + k) v ≡ drop (base + j) v
row_read v f base k h l zero j e = let q : base + k ≡ base + j = omega arith in ap (λ n. drop n v) q
row_read v f base k h l (suc d) j e =
    let ih = row_read v f base k h l d (j + 1) (omega arith) in
    let q : base + (j + 1) ≡ suc (base + j) = omega arith in
    ap₂ (λ a b. a ∷ b) (h j (omega arith)) (ih ∙ ap (λ n. drop n v) q) ∙ sym (drop-cons v (base + j) 0 (omega arith))

pub sheet_read : (v : List ℕ) (x : Plan) (k n : ℕ) → ((t i : ℕ) → t < n → i < k → x i (t + 1) ≡ get_or v (k * t + i) 0) → length v ≡ k * n
    → (l t : ℕ) → t + l ≡ n → sheet_word x k t l ≡ drop (k * t) v
sheet_read v x k n h len zero t e = let q : t ≡ n = omega arith in sym (drop_all (k * t) v (let z : k * t ≡ k * n = ap (λ u. k * u) q in omega arith))
sheet_read v x k n h len (suc l) t e =
    let ih = sheet_read v x k n h len l (t + 1) (omega arith) in
    let q : k * (t + 1) ≡ k * t + k = (let a = mul-suc k t in let b : k * (t + 1) ≡ k * suc t = ap (λ u. k * u) (add-one t) in omega arith) in
    let big : k * (t + 1) ≤ k * n = (let a : k ≤ k = omega arith in let b : t + 1 ≤ n = omega arith in mul-le-mul a b) in
    let z : k * t + 0 ≡ k * t = omega arith in
    ap (λ w. row_word (λ r. x r (t + 1)) 0 k ++ w) (ih ∙ ap (λ u. drop u v) q)
    ∙ row_read v (λ r. x r (t + 1)) (k * t) k (λ i l. h t i (omega arith) l) (omega arith) k 0 (omega arith)
    ∙ ap (λ u. drop u v) z
