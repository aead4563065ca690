-- The front of the bytes of a line.
use Rattle.std.proofs.Common.{◌≡◌, ℕ, suc, ◌+◌, ◌<◌, List, ◌∷◌, ◌++◌, length, get_or, take, ap, ◌∙◌, arith}
use Rattle.std.proofs.lemmas.List.FromFn.{fill_by_all}
use Rattle.std.proofs.lemmas.List.{get_or-take, length-take-le}
use Rattle.scales.specs.Bytes.{high_first}
use Rattle.frames.specs.Replies.{train_bytes}

pub train_front : (number : ℕ) (xs : List ℕ) (steps : ℕ) → steps < length xs → take (4 + steps) (16 ∷ (high_first number ++ xs)) ≡ train_bytes number (λ t. get_or xs t 0) steps
train_front number xs steps h =
    let n : 4 + steps ≡ suc (suc (suc (steps + 1))) = omega arith in
    ap (λ (k : ℕ). take k (16 ∷ (high_first number ++ xs))) n
    ∙ ap (λ (zs : List ℕ). 16 ∷ (high_first number ++ zs)) (fill_by_all (λ t. get_or xs t 0) (take (steps + 1) xs) (steps + 1) 0 (length-take-le (steps + 1) xs (omega arith)) (λ k l. get_or-take (steps + 1) xs k 0 l))
