-- Links: a look through them, one link more, and more sections.
use Rattle.std.proofs.Common.{◌≡◌, ℕ, ◌+◌, ◌<◌, ◌≤◌, Bool, true, false, cond, not, ◌||◌, ◌⊎◌, List, [], ◌∷◌, ◌++◌, find, is_some, Some, Option, sym, refl, ap, ◌∙◌, inl, inr, ⊎_elim, arith}
use Rattle.std.proofs.lemmas.Bool.{and_from, and_parts, not-true, or_parts, or_from, or_left}
use Rattle.std.proofs.lemmas.Bool.Decides.{nat_tests}
use Rattle.std.proofs.Math.Bool.{or_self}
use Rattle.std.proofs.lemmas.List.Folds.{list_all-append, list_any-append}
use Rattle.std.specs.List.{list_all, list_any}
use Rattle.std.specs.Option.{option_map}
use Rattle.track.specs.Links.{joins, points_of, linked_either, link_good, links_good, links_apart}
use Rattle.track.specs.declared.link.Link.{Link}

-- ---- a test of every element
module _ {X : Type 0} (p : X → Bool) where
  pub all_push : (xs : List X) (x : X) → list_all p xs ≡ true → p x ≡ true → list_all p (xs ++ (x ∷ [])) ≡ true
  all_push xs x h g = list_all-append p xs (x ∷ []) ∙ and_from _ _ h (and_from _ _ g refl)

  pub all_still : (q : X → Bool) (xs : List X) → ((x : X) → p x ≡ true → q x ≡ true) → list_all p xs ≡ true → list_all q xs ≡ true
  all_still q [] k h = refl
  all_still q (x ∷ xs) k h = let g = and_parts (p x) (list_all p xs) h in and_from _ _ (k x g.0) (all_still q xs k g.1)

-- ---- a look through the links
joins_turned : (l : Link) (a b : ℕ) → joins l a b ≡ joins l b a
joins_turned l a b = grind (arith, nat_tests)

-- every link leads both ways
pub points_turned : (ls : List Link) (a b : ℕ) → points_of ls a b ≡ points_of ls b a
points_turned ls a b = λ i. option_map (λ (l : Link). l.points) (find (λ (l : Link). joins_turned l a b i) ls)

-- a way is found where one of the links leads there
found_under : (t : Bool) (l : Link) (o : Option Link) (b : Bool) → is_some (option_map (λ (k : Link). k.points) o) ≡ b → is_some (option_map (λ (k : Link). k.points) (cond t (Some l) o)) ≡ (t || b)
found_under true l o b h = refl
found_under false l o b h = h

found_any : (ls : List Link) (a b : ℕ) → is_some (points_of ls a b) ≡ list_any (λ (l : Link). joins l a b) ls
found_any [] a b = refl
found_any (l ∷ ls) a b = found_under (joins l a b) l (find (λ (k : Link). joins k a b) ls) (list_any (λ (k : Link). joins k a b) ls) (found_any ls a b)

linked_any : (ls : List Link) (a b : ℕ) → list_any (λ (l : Link). joins l a b) ls ≡ linked_either ls a b
linked_any ls a b =
    sym (found_any ls a b) ∙ sym (or_self (is_some (points_of ls a b)))
    ∙ ap (λ (o : Option ℕ). is_some (points_of ls a b) || is_some o) (points_turned ls a b)

-- ---- one link more
module _ (ls : List Link) (x : Link) (a b : ℕ) where
  pub linked_push : linked_either ls a b ≡ true → linked_either (ls ++ (x ∷ [])) a b ≡ true
  linked_push h =
      sym (linked_any (ls ++ (x ∷ [])) a b) ∙ list_any-append (λ (l : Link). joins l a b) ls (x ∷ [])
      ∙ or_left _ _ (linked_any ls a b ∙ h)

  not_linked_push : linked_either ls a b ≡ false → joins x a b ≡ false → linked_either (ls ++ (x ∷ [])) a b ≡ false
  not_linked_push h e =
      sym (linked_any (ls ++ (x ∷ [])) a b) ∙ list_any-append (λ (l : Link). joins l a b) ls (x ∷ [])
      ∙ or_from _ _ (linked_any ls a b ∙ h) (or_from _ _ e refl)

-- of two links each is found between the other's ends, or neither
joins_each : (l x : Link) → joins l x.a x.b ≡ joins x l.a l.b
joins_each l x = grind (arith, nat_tests)

pub links_apart_push : (ls : List Link) (x : Link) → links_apart ls ≡ true → linked_either ls x.a x.b ≡ false → links_apart (ls ++ (x ∷ [])) ≡ true
links_apart_push [] x h g = refl
links_apart_push (l ∷ ls) x h g =
    let p = and_parts (not (linked_either ls l.a l.b)) (links_apart ls) h in
    let q = or_parts (joins l x.a x.b) (list_any (λ (k : Link). joins k x.a x.b) ls) (linked_any (l ∷ ls) x.a x.b ∙ g) in
    and_from _ _ (ap not (not_linked_push ls x l.a l.b (not-true _ p.0) (sym (joins_each l x) ∙ q.0)))
    (links_apart_push ls x p.1 (sym (linked_any ls x.a x.b) ∙ q.1))

-- ---- more sections
good_more : (n k : ℕ) (l : Link) → link_good n l ≡ true → link_good (n + k) l ≡ true
good_more n k l h = grind (arith, nat_tests)

pub links_good_wider : (n k : ℕ) (ls : List Link) → links_good n ls ≡ true → links_good (n + k) ls ≡ true
links_good_wider n k ls h = all_still (λ (l : Link). link_good n l) (λ (l : Link). link_good (n + k) l) ls (good_more n k) h

-- ---- what a look finds
found_in_parts : (t : Bool) (l : Link) (o : Option Link) (p : ℕ) → option_map (λ (k : Link). k.points) (cond t (Some l) o) ≡ Some p → ((t ≡ true) × (l.points ≡ p)) ⊎ (option_map (λ (k : Link). k.points) o ≡ Some p)
found_in_parts true l o p h = inl (refl, cc)
found_in_parts false l o p h = inr h

-- a link that is found is good
found_good : (n : ℕ) (ls : List Link) (a b p : ℕ) → links_good n ls ≡ true → points_of ls a b ≡ Some p → (l : Link) × (link_good n l ≡ true) × (joins l a b ≡ true) × (l.points ≡ p)
found_good n [] a b p h e = absurd (let z : ◌≡◌ {A = ℕ} 0 1 = cc in omega arith)
found_good n (l ∷ ls) a b p h e =
    let g = and_parts (link_good n l) (links_good n ls) h in
    ⊎_elim (λ f. (l, g.0, f.0, f.1)) (λ f. found_good n ls a b p g.1 f)
    (found_in_parts (joins l a b) l (find (λ (k : Link). joins k a b) ls) p e)

few_here : (n : ℕ) (l : Link) → link_good n l ≡ true → l.points ≤ 7
few_here n l h = grind (arith, nat_tests)

inside_here : (n : ℕ) (l : Link) (a b : ℕ) → link_good n l ≡ true → joins l a b ≡ true → (a < n) × (b < n)
inside_here n l a b h e = (grind (arith, nat_tests), grind (arith, nat_tests))

module _ (n : ℕ) (ls : List Link) (a b p : ℕ) (h : links_good n ls ≡ true) (e : points_of ls a b ≡ Some p) where
  pub points_few : p ≤ 7
  points_few = let f = found_good n ls a b p h e in let few = few_here n f.0 f.1 in omega (arith, f.3)

  pub points_inside : (a < n) × (b < n)
  points_inside = let f = found_good n ls a b p h e in inside_here n f.0 a b f.1 f.2

-- no link leads from a section to itself
joins_self : (n : ℕ) (l : Link) (a : ℕ) → link_good n l ≡ true → joins l a a ≡ false
joins_self n l a g = grind (arith, nat_tests)

pub points_self : (n : ℕ) (ls : List Link) (a : ℕ) → links_good n ls ≡ true → is_some (points_of ls a a) ≡ false
points_self n [] a g = cc
points_self n (l ∷ ls) a g =
    let p = and_parts (link_good n l) (links_good n ls) g in
    ap (λ b. is_some (option_map (λ (k : Link). k.points) (cond b (Some l) (find (λ (k : Link). joins k a a) ls)))) (joins_self n l a p.0) ∙ points_self n ls a p.1
