-- A table of eight marks, of which the first n are set.
use Rattle.std.proofs.Common.{◌≡◌, ℕ, zero, suc, true, false, ltb, ◌++◌, get_or, drop, replicate, sym, refl, ◌∙◌, ⊎_elim}
use mathlib.Core.Path.{fun_ext}
use Rattle.std.proofs.lemmas.Bool.{cases_lt, le-ltb, lt-ltb}
use Rattle.std.proofs.lemmas.List.{get_or-replicate, get_or-drop, get_or_append_left, get_or-append_right, length-replicate}
use Rattle.sheets.specs.Posing.{marked, all_trains}

-- none of them is set
pub unset : (n i : ℕ) → get_or (replicate n false) i false ≡ false
unset zero i = refl
unset (suc n) zero = refl
unset (suc n) (suc i) = unset n i

set_at : (n r : ℕ) → get_or (replicate n true ++ drop n (replicate 8 false)) r false ≡ ltb r n
set_at n r =
    ⊎_elim
    (λ l. get_or_append_left (replicate n true) _ false r (rw (length-replicate n true) l) ∙ get_or-replicate n r true false l ∙ sym (lt-ltb r n l))
    (λ l. get_or-append_right (replicate n true) _ n r false (length-replicate n true) l ∙ get_or-drop n (replicate 8 false) _ false ∙ unset 8 _ ∙ sym (le-ltb r n l))
    (cases_lt r n)

pub all_set : (n : ℕ) → marked (replicate n true ++ drop n (replicate 8 false)) ≡ all_trains n
all_set n = fun_ext (set_at n)
