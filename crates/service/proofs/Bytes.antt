-- Known bytes that are written and consumed one part after the other.
use Rattle.std.proofs.Common.{◌≡◌, ℕ, ◌+◌, ◌<◌, Bool, true, false, cond, nat_lt, List, [], ◌++◌, take, drop, length, Some, None, Option, Ok, Err, Result, sym, refl, ap, ◌∙◌, subst, append_assoc}
use Rattle.std.proofs.Math.Seq.{take-add}
use Rattle.std.proofs.lemmas.List.{append-nil, take_at}
use Rattle.std.specs.Io.KnownBytes.{Keeps, Appends, Consumes, IsAtEnd, ReadConsumes}
use Rattle.track.specs.declared.refusal.Refusal.{Refusal}
use Rattle.track.specs.declared.refusal.Refusal.TheVariants.{WritingPlaceTooShort}
use Rattle.frames.specs.Text.{printing, printed}

pub appends_none : (a : Option (List ℕ)) → Appends a a []
appends_none None = tt
appends_none (Some xs) = sym (append-nil xs)

pub consumes_none : (a : Option (List ℕ)) → Consumes a a []
consumes_none None = tt
consumes_none (Some xs) = refl

pub appends_more : (a b c : Option (List ℕ)) (xs ys : List ℕ) → Appends a b xs → Appends b c ys → Appends a c (xs ++ ys)
appends_more None b c xs ys h i = tt
appends_more (Some us) None c xs ys h i = absurd h
appends_more (Some us) (Some vs) None xs ys h i = absurd i
appends_more (Some us) (Some vs) (Some ws) xs ys h i = i ∙ ap (λ (z : List ℕ). z ++ ys) h ∙ append_assoc us xs ys

pub appends_kept : (a b c : Option (List ℕ)) (xs : List ℕ) → Appends a b xs → Keeps b c → Appends a c xs
appends_kept None b c xs h i = tt
appends_kept (Some us) None c xs h i = absurd h
appends_kept (Some us) (Some vs) None xs h i = absurd i
appends_kept (Some us) (Some vs) (Some ws) xs h i = i ∙ h

pub consumes_more : (a b c : Option (List ℕ)) (xs ys : List ℕ) → Consumes a b xs → Consumes b c ys → Consumes a c (xs ++ ys)
consumes_more None b c xs ys h i = tt
consumes_more (Some us) None c xs ys h i = absurd h
consumes_more (Some us) (Some vs) None xs ys h i = absurd i
consumes_more (Some us) (Some vs) (Some ws) xs ys h i = h ∙ ap (λ (z : List ℕ). xs ++ z) i ∙ sym (append_assoc xs ys ws)

pub consumes_kept : (a b c : Option (List ℕ)) (xs : List ℕ) → Consumes a b xs → Keeps b c → Consumes a c xs
consumes_kept None b c xs h i = tt
consumes_kept (Some us) None c xs h i = absurd h
consumes_kept (Some us) (Some vs) None xs h i = absurd i
consumes_kept (Some us) (Some vs) (Some ws) xs h i = h ∙ ap (λ (z : List ℕ). xs ++ z) (sym i)

-- what was written of xs up to at, and then the first n bytes behind that
pub appends_part : (a b c : Option (List ℕ)) (xs : List ℕ) (at n : ℕ) → Appends a b (take at xs) → Appends b c (take n (drop at xs)) → Appends a c (take (at + n) xs)
appends_part a b c xs at n h i = subst (λ (z : List ℕ). Appends a c z) (sym (take-add at n xs)) (appends_more a b c (take at xs) (take n (drop at xs)) h i)

-- what was printed stands in front
pub printed_front : (was out xs : List ℕ) (n : ℕ) → Ok n ≡ printing was xs → out ≡ printed was xs → take n out ≡ xs
printed_front was out xs n e f = go (nat_lt (length was) (length xs)) e f
  where
    go : (b : Bool) → ◌≡◌ {A = Result ℕ Refusal} (Ok n) (cond b (Err WritingPlaceTooShort) (Ok (length xs))) → out ≡ cond b was (xs ++ drop (length xs) was) → take n out ≡ xs
    go true e f = absurd (cc e)
    go false e f =
        let n_is : n ≡ length xs = cc in
        ap (λ (z : List ℕ). take n z) f ∙ take_at xs (drop (length xs) was) n (sym n_is)

-- a read that gave nothing is at the end
pub read_none : {E : Type 0} (a b : Option (List ℕ)) (r : Result ℕ E) (bytes : List ℕ) (n : ℕ) → ReadConsumes a b r bytes → r ≡ Ok n → n ≡ 0 → 0 < length bytes → Consumes a b [] × IsAtEnd b
read_none {E} a b r bytes n h e z l =
    let h' : ReadConsumes {E = E} a b (Ok n) bytes = subst (λ (r : Result ℕ E). ReadConsumes a b r bytes) e h in
    (subst (λ (n : ℕ). Consumes a b (take n bytes)) z h'.0, h'.1 z l)
