-- Slots of which the first n are held, with one item more or fewer.
use Rattle.std.proofs.Common.{◌≡◌, ℕ, suc, ◌+◌, ◌-◌, ◌<◌, ◌≤◌, List, [], ◌∷◌, ◌++◌, length, take, drop, set, sym, ap, ◌∙◌, append_assoc, add-one, arith}
use borrow.Rule.Slice.PartMut.{put_mid}
use Rattle.std.specs.List.{insert, remove}
use Rattle.std.proofs.lemmas.Slice.{take-put_mid, between_is}
use Rattle.std.proofs.lemmas.List.{length-take, length-set, length_push, length-drop, length-append, take-set-le, take-take, take_more_set, drop-append-le, drop_at, take_at, drop-drop}

module _ {X : Type 0} where
  -- ---- one item more, by a turn of the part from p on
  rotated : (part q : List X) (t : X) → part ≡ q ++ (t ∷ []) → drop (length part - 1) part ++ take (length part - 1) part ≡ t ∷ q
  rotated part q t e =
      let n : length q ≡ length part - 1 = omega (arith, ap length e, length_push q t) in
      ap (λ (l : List X). drop (length part - 1) l ++ take (length part - 1) l) e ∙ rw (drop_at q (t ∷ []) (length part - 1) n, take_at q (t ∷ []) (length part - 1) n)

  pub shifted : (ts ys : List X) (n p : ℕ) (t : X) → n < length ts → p ≤ n → length ys ≡ (n + 1) - p → ys ≡ drop (length (take ((n + 1) - p) (drop p (set ts n t))) - 1) (take ((n + 1) - p) (drop p (set ts n t))) ++ take (length (take ((n + 1) - p) (drop p (set ts n t))) - 1) (take ((n + 1) - p) (drop p (set ts n t))) → take (n + 1) (put_mid p ((n + 1) - p) (set ts n t) ys) ≡ insert (take n ts) p t
  shifted ts ys n p t h k l e =
      let xs = set ts n t in
      let q = drop p (take n ts) in
      let long : p ≤ length xs = simp length-set (omega arith) in
      let inside : p ≤ length (take n ts) = simp length-take (omega arith) in
      let part : take ((n + 1) - p) (drop p xs) ≡ q ++ (t ∷ []) = between_is xs p (n + 1) ∙ ap (drop p) (take_more_set ts n t h) ∙ drop-append-le p (take n ts) (t ∷ []) inside in
      let turned = e ∙ rotated (take ((n + 1) - p) (drop p xs)) q t part in
      let front : take p xs ≡ take p (take n ts) = take-set-le p ts n t k ∙ sym (take-take p n ts k) in
      take-put_mid p ((n + 1) - p) xs ys (n + 1) (omega arith) long ∙ ap (λ (l : List X). l ++ ys) front ∙ ap (λ (l : List X). take p (take n ts) ++ l) turned

  -- ---- one item fewer
  pub closed_up : (ts ys : List X) (n p : ℕ) → n ≤ length ts → p < n → length ys ≡ n - p → ys ≡ drop 1 (take (n - p) (drop p ts)) ++ take 1 (take (n - p) (drop p ts)) → take (n - 1) (put_mid p (n - p) ts ys) ≡ remove (take n ts) p
  closed_up ts ys n p h k l e =
      let q = drop p (take n ts) in
      let part : take (n - p) (drop p ts) ≡ q = between_is ts p n in
      let turned : ys ≡ drop 1 q ++ take 1 q = e ∙ ap (λ (z : List X). drop 1 z ++ take 1 z) part in
      let long : p ≤ length ts = omega arith in
      let short : p ≤ n = omega arith in
      let whole = take-put_mid p (n - p) ts ys n (omega arith) long in
      let front : take p ts ≡ take p (take n ts) = sym (take-take p n ts short) in
      let less : n - 1 ≤ n = omega arith in
      let rest : drop 1 q ≡ drop (suc p) (take n ts) = drop-drop 1 p (take n ts) ∙ ap (λ (i : ℕ). drop i (take n ts)) (add-one p) in
      let size : length (take p ts ++ drop 1 q) ≡ n - 1 = simp (length-append, length-drop, length-take) (omega arith) in
      sym (take-take (n - 1) n (put_mid p (n - p) ts ys) less)
      ∙ ap (take (n - 1)) (whole ∙ ap (λ (z : List X). take p ts ++ z) turned ∙ sym (append_assoc (take p ts) (drop 1 q) (take 1 q)))
      ∙ take_at (take p ts ++ drop 1 q) (take 1 q) (n - 1) size
      ∙ ap (λ (z : List X). z ++ drop 1 q) front
      ∙ ap (λ (z : List X). take p (take n ts) ++ z) rest
