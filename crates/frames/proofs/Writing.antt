-- Writing over a list: nothing, one piece behind another, and a piece of the list by itself.
use Rattle.std.proofs.Common.{◌≡◌, ℕ, ◌+◌, ◌-◌, ◌≤◌, List, [], ◌++◌, length, take, drop, sym, refl, ap, ◌∙◌, ap₂, add-zero, zero-add, arith}
use lib.Seq.{paste}
use Rattle.std.proofs.lemmas.List.{append-nil, length-append, length-drop, take-append-drop, take_all, drop-drop, drop_all}
use Rattle.std.proofs.lemmas.List.Edits.{paste_all, paste-paste}
use Rattle.std.proofs.lemmas.Slice.{put_mid-paste}
use borrow.Rule.Slice.PartMut.{put_mid}
use Rattle.frames.specs.Text.{written}

pub written_none : (old : List ℕ) (at : ℕ) → old ≡ written old at []
unfolding written
written_none old at = sym (ap (λ (n : ℕ). take at old ++ drop n old) (add-zero at) ∙ take-append-drop at old)

as_paste : (old : List ℕ) (at : ℕ) (xs : List ℕ) → written old at xs ≡ paste old at xs (length xs)
unfolding written
as_paste old at xs = sym (paste_all old at xs (length xs) refl)

pub written_next : (old : List ℕ) (at n : ℕ) (xs ys : List ℕ) → length xs ≡ n → at ≤ length old → written (written old at xs) (at + n) ys ≡ written old at (xs ++ ys)
written_next old at n xs ys e h =
    ap (λ (k : ℕ). written (written old at xs) (at + k) ys) (sym e)
    ∙ ap (λ (z : List ℕ). written z (at + length xs) ys) (as_paste old at xs)
    ∙ as_paste (paste old at xs (length xs)) (at + length xs) ys
    ∙ paste-paste old at xs ys (length xs) (length ys) refl refl h
    ∙ ap (λ (k : ℕ). paste old at (xs ++ ys) k) (sym (length-append xs ys))
    ∙ sym (as_paste old at (xs ++ ys))

pub written_front : (old xs : List ℕ) → written old 0 xs ≡ xs ++ drop (length xs) old
unfolding written
written_front old xs = ap (λ (n : ℕ). xs ++ drop n old) (zero-add (length xs))

pub written_behind : (old : List ℕ) (n : ℕ) (xs ys : List ℕ) → length xs ≡ n → written (written old 0 xs) n ys ≡ written old 0 (xs ++ ys)
written_behind old n xs ys e = ap (λ (k : ℕ). written (written old 0 xs) k ys) (sym (zero-add n)) ∙ written_next old 0 n xs ys e (omega arith)

-- what k places from `at` on hold now is written there
pub written_mid : (old now : List ℕ) (at k : ℕ) (xs : List ℕ) → now ≡ xs → length xs ≡ k → put_mid at k old now ≡ written old at xs
written_mid old now at k xs e h = put_mid-paste at k old now xs (length xs) e h refl ∙ sym (as_paste old at xs)

-- what is written to the front of all that stands from `at` on
pub written_rest : (old now : List ℕ) (at k : ℕ) (xs : List ℕ) → now ≡ written (take k (drop at old)) 0 xs → k ≡ length old - at → put_mid at k old now ≡ written old at xs
unfolding written
written_rest old now at k xs e h =
    let left : length (drop at old) ≤ k = omega (arith, length-drop at old) in
    let all : now ≡ xs ++ drop (length xs) (drop at old) = e ∙ written_front (take k (drop at old)) xs ∙ ap (λ (zs : List ℕ). xs ++ drop (length xs) zs) (take_all k (drop at old) left) in
    ap (λ (zs : List ℕ). take at old ++ zs) (ap₂ (λ (ys zs : List ℕ). ys ++ zs) all (drop_all k (drop at old) left) ∙ append-nil (xs ++ drop (length xs) (drop at old)) ∙ ap (λ (zs : List ℕ). xs ++ zs) (drop-drop (length xs) at old))
