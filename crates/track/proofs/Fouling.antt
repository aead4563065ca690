-- Fouls: one link more, one foul more, and the links named otherwise.
use Rattle.std.proofs.Common.{◌≡◌, ℕ, Bool, true, false, not, ◌&&◌, ◌||◌, List, [], ◌∷◌, ◌++◌, sym, refl, ap, ◌∙◌, arith}
use Rattle.std.proofs.Math.Bool.{and_comm, or_comm}
use Rattle.std.proofs.lemmas.List.Folds.{list_any-append}
use Rattle.std.proofs.lemmas.Bool.{and_from, and_parts, not-true, or_parts, or_from}
use Rattle.std.proofs.lemmas.Bool.Decides.{nat_tests}
use Rattle.std.specs.List.{list_any}
use Rattle.track.specs.Fouls.{crosses, fouled_by, foul_good, fouls_good, fouls_apart}
use Rattle.track.specs.Links.{same_link, linked_either}
use Rattle.track.specs.declared.foul.Foul.{Foul}
use Rattle.track.specs.declared.link.Link.{Link}
use Rattle.track.proofs.Linking.{all_still, linked_push}

-- ---- one link more
foul_kept : (ls : List Link) (x : Link) (f : Foul) → foul_good ls f ≡ true → foul_good (ls ++ (x ∷ [])) f ≡ true
foul_kept ls x f h =
    let p = and_parts (linked_either ls f.a f.b) (linked_either ls f.c f.d && not (same_link f.a f.b f.c f.d)) h in
    let q = and_parts (linked_either ls f.c f.d) (not (same_link f.a f.b f.c f.d)) p.1 in
    and_from _ _ (linked_push ls x f.a f.b p.0) (and_from _ _ (linked_push ls x f.c f.d q.0) q.1)

pub fouls_kept : (ls : List Link) (x : Link) (fs : List Foul) → fouls_good ls fs ≡ true → fouls_good (ls ++ (x ∷ [])) fs ≡ true
fouls_kept ls x fs h =
    all_still (λ (f : Foul). foul_good ls f) (λ (f : Foul). foul_good (ls ++ (x ∷ [])) f) fs (foul_kept ls x) h

-- ---- the links of a foul named in the other order, and each from the other end
same_turned : (a b c d : ℕ) → same_link a b c d ≡ same_link a b d c
same_turned a b c d = grind (arith, nat_tests)

crosses_turned : (f : Foul) (a b c d : ℕ) → crosses f a b c d ≡ crosses f b a c d
crosses_turned f a b c d =
    λ i. (same_turned f.a f.b a b i && same_link f.c f.d c d) || (same_link f.a f.b c d && same_turned f.c f.d a b i)

pub fouled_by_turned : (fs : List Foul) (a b c d : ℕ) → fouled_by fs a b c d ≡ fouled_by fs b a c d
fouled_by_turned fs a b c d = λ i. list_any (λ (f : Foul). crosses_turned f a b c d i) fs

crosses_swapped : (f : Foul) (a b c d : ℕ) → crosses f a b c d ≡ crosses f c d a b
crosses_swapped f a b c d =
    or_comm (same_link f.a f.b a b && same_link f.c f.d c d) (same_link f.a f.b c d && same_link f.c f.d a b)

pub fouled_by_swapped : (fs : List Foul) (a b c d : ℕ) → fouled_by fs a b c d ≡ fouled_by fs c d a b
fouled_by_swapped fs a b c d = λ i. list_any (λ (f : Foul). crosses_swapped f a b c d i) fs

-- ---- one foul more
same_each : (a b c d : ℕ) → same_link a b c d ≡ same_link c d a b
same_each a b c d = grind (arith, nat_tests)

-- of two fouls each is of the other's links, or neither
crosses_each : (f x : Foul) → crosses f x.a x.b x.c x.d ≡ crosses x f.a f.b f.c f.d
crosses_each f x =
    (λ i. (same_each f.a f.b x.a x.b i && same_each f.c f.d x.c x.d i)
    || (same_each f.a f.b x.c x.d i && same_each f.c f.d x.a x.b i))
    ∙ ap (λ (t : Bool). (same_link x.a x.b f.a f.b && same_link x.c x.d f.c f.d) || t)
    (and_comm (same_link x.c x.d f.a f.b) (same_link x.a x.b f.c f.d))

not_fouled_push : (fs : List Foul) (x : Foul) (a b c d : ℕ) → fouled_by fs a b c d ≡ false → crosses x a b c d ≡ false → fouled_by (fs ++ (x ∷ [])) a b c d ≡ false
not_fouled_push fs x a b c d h e =
    list_any-append (λ (f : Foul). crosses f a b c d) fs (x ∷ []) ∙ or_from _ _ h (or_from _ _ e refl)

pub fouls_apart_push : (fs : List Foul) (x : Foul) → fouls_apart fs ≡ true → fouled_by fs x.a x.b x.c x.d ≡ false → fouls_apart (fs ++ (x ∷ [])) ≡ true
fouls_apart_push [] x h g = refl
fouls_apart_push (f ∷ fs) x h g =
    let p = and_parts (not (fouled_by fs f.a f.b f.c f.d)) (fouls_apart fs) h in
    let q = or_parts (crosses f x.a x.b x.c x.d) (fouled_by fs x.a x.b x.c x.d) g in
    and_from _ _
    (ap not (not_fouled_push fs x f.a f.b f.c f.d (not-true _ p.0) (sym (crosses_each f x) ∙ q.0)))
    (fouls_apart_push fs x p.1 q.1)
