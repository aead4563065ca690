-- Marks that widen: by the open neighbours of one section, and by those of every marked section.
use Rattle.std.proofs.Common.{◌≡◌, ℕ, ◌+◌, ◌<◌, ◌≤◌, Bool, true, false, ◌⊎◌, List, length, get_or, set, is_some, Some, None, Option, sym, refl, ◌∙◌, subst, inl, inr, ⊎_elim, arith}
use Rattle.std.proofs.lemmas.List.{length-set, get_or-set_same, get_or-set_other}
use Rattle.std.proofs.lemmas.Bool.{cases_eq, cases_lt, both_ways}
use Rattle.track.specs.Layouts.{sections_of, look}
use Rattle.track.specs.declared.layout.Layout.{Layout}
use Rattle.track.proofs.Laws.{look_inside}
use Rattle.roster.specs.declared.roster.Roster.{Roster}
use Rattle.single_check.specs.Marks.{Onward, OnwardFrom, Widened}

-- a link has both ends on the layout
pub linked_inside : (l : Layout) (a b : ℕ) → is_some (look l a b) ≡ true → (a < sections_of l) × (b < sections_of l)
linked_inside l a b h = go (look l a b) refl h
  where
    go : (o : Option ℕ) → look l a b ≡ o → is_some (look l a b) ≡ true → (a < sections_of l) × (b < sections_of l)
    go None e h = absurd (let z : ◌≡◌ {A = ℕ} 0 1 = cc in omega arith)
    go (Some p) e h = look_inside l a b p e

-- one mark more
pub set_only : (m : List Bool) (a b : ℕ) → get_or (set m a true) b false ≡ true → (get_or m b false ≡ true) ⊎ (b ≡ a)
set_only m a b h = ⊎_elim inr (λ n. inl (sym (get_or-set_other m a b true false n) ∙ h)) (cases_eq b a)

pub set_kept : (m : List Bool) (a b : ℕ) → a < length m → get_or m b false ≡ true → get_or (set m a true) b false ≡ true
set_kept m a b l h =
    ⊎_elim
    (λ e. subst (λ z. get_or (set m a true) z false ≡ true) (sym e) (get_or-set_same m a true false l))
    (λ n. get_or-set_other m a b true false n ∙ h)
    (cases_eq b a)

module _ (old new : List Bool) (P R : ℕ → Type 0) where
  -- the same marks, for another reason
  widened_as : ((b : ℕ) → P b → R b) → ((b : ℕ) → R b → P b) → Widened old P new → Widened old R new
  widened_as f g w = record {
    size = w.size;
    only = λ b e. ⊎_elim inl (λ p. inr (f b p)) (w.only b e);
    kept = w.kept;
    added = λ b r. w.added b (g b r);
  }

  widened_set : (a : ℕ) → a < length new → ((b : ℕ) → P b → R b) → R a → ((b : ℕ) → R b → P b ⊎ (b ≡ a)) → Widened old P new → Widened old R (set new a true)
  widened_set a l f here g w = record {
    size = length-set new a true ∙ w.size;
    only = λ b e. ⊎_elim (λ h. ⊎_elim inl (λ p. inr (f b p)) (w.only b h)) (λ h. inr (subst R (sym h) here)) (set_only new a b e);
    kept = λ b e. set_kept new a b l (w.kept b e);
    added = λ b r. ⊎_elim (λ p. set_kept new a b l (w.added b p)) (λ e. subst (λ z. get_or (set new a true) z false ≡ true) (sym e) (get_or-set_same new a true false l)) (g b r);
  }

widened_none : (old : List Bool) (P : ℕ → Type 0) → length old ≡ 32 → ((b : ℕ) → P b → ⊥) → Widened old P old
widened_none old P n h = record { size = n; only = λ b e. inl e; kept = λ b e. e; added = λ b p. absurd (h b p) }

-- one widening after another
widened_on : (old mid new : List Bool) (P S R : ℕ → Type 0) → ((b : ℕ) → P b → R b) → ((b : ℕ) → S b → R b) → ((b : ℕ) → R b → P b ⊎ S b) → Widened old P mid → Widened mid S new → Widened old R new
widened_on old mid new P S R f g h v w = record {
  size = w.size;
  only = λ b e. ⊎_elim (λ i. ⊎_elim inl (λ p. inr (f b p)) (v.only b i)) (λ s. inr (g b s)) (w.only b e);
  kept = λ b e. w.kept b (v.kept b e);
  added = λ b r. ⊎_elim (λ p. w.kept b (v.added b p)) (λ s. w.added b s) (h b r);
}

-- a link leads from a to b, which is open and below i
pub record Near (l : Layout) (o : Roster) (a i b : ℕ) : Type 0 where
  pub below : b < i
  pub onward : Onward l o a b

module _ (l : Layout) (o : Roster) (a i : ℕ) where
  near_on : (b : ℕ) → Near l o a i b → Near l o a (i + 1) b
  near_on b n = record { below = omega (arith, n.below); onward = n.onward }

  -- below i, or i itself
  near_cases : (b : ℕ) → Near l o a (i + 1) b → Near l o a i b ⊎ (b ≡ i)
  near_cases b n = ⊎_elim (λ h. inl (record { below = h; onward = n.onward })) (λ h. inr (omega (arith, n.below))) (cases_lt b i)

  pub near_skip : (m n : List Bool) → (Onward l o a i → ⊥) → Widened m (Near l o a i) n → Widened m (Near l o a (i + 1)) n
  near_skip m n c w =
      widened_as m n (Near l o a i) (Near l o a (i + 1)) near_on
      (λ b h. ⊎_elim (λ p. p) (λ e. absurd (c (subst (Onward l o a) e h.onward))) (near_cases b h))
      w

  pub near_take : (m n : List Bool) → Onward l o a i → i < length n → Widened m (Near l o a i) n → Widened m (Near l o a (i + 1)) (set n i true)
  near_take m n c k w =
      widened_set m n (Near l o a i) (Near l o a (i + 1)) i k near_on (record { below = omega arith; onward = c }) near_cases w

pub near_none : (l : Layout) (o : Roster) (a : ℕ) (m : List Bool) → length m ≡ 32 → Widened m (Near l o a 0) m
near_none l o a m n = widened_none m (Near l o a 0) n (λ b h. omega (arith, h.below))

-- all sections are passed
pub near_all : (l : Layout) (o : Roster) (a i : ℕ) (m n : List Bool) → sections_of l ≤ i → Widened m (Near l o a i) n → Widened m (Onward l o a) n
near_all l o a i m n most w =
    widened_as m n (Near l o a i) (Onward l o a) (λ b h. h.onward)
    (λ b h. record { below = omega (arith, (linked_inside l a b h.linked).1); onward = h })
    w

-- a link leads to b, which is open, from a marked section below i
pub record FromBelow (l : Layout) (o : Roster) (marks : List Bool) (i b : ℕ) : Type 0 where
  pub section : ℕ
  pub below : section < i
  pub marked : get_or marks section false ≡ true
  pub onward : Onward l o section b

module _ (l : Layout) (o : Roster) (marks : List Bool) (i : ℕ) where
  below_on : (b : ℕ) → FromBelow l o marks i b → FromBelow l o marks (i + 1) b
  below_on b h = record { section = h.section; below = omega (arith, h.below); marked = h.marked; onward = h.onward }

  -- from a section below i, or from i
  below_cases : (b : ℕ) → FromBelow l o marks (i + 1) b → FromBelow l o marks i b ⊎ ((get_or marks i false ≡ true) × Onward l o i b)
  below_cases b h =
      ⊎_elim
      (λ k. inl (record { section = h.section; below = k; marked = h.marked; onward = h.onward }))
      (λ k. let e : h.section ≡ i = omega (arith, h.below) in inr (subst (λ z. get_or marks z false ≡ true) e h.marked, subst (λ z. Onward l o z b) e h.onward))
      (cases_lt h.section i)

  pub below_skip : (n : List Bool) → get_or marks i false ≡ false → Widened marks (FromBelow l o marks i) n → Widened marks (FromBelow l o marks (i + 1)) n
  below_skip n c w =
      widened_as marks n (FromBelow l o marks i) (FromBelow l o marks (i + 1)) below_on
      (λ b h. ⊎_elim (λ p. p) (λ p. absurd (both_ways (get_or marks i false) c p.0)) (below_cases b h))
      w

  pub below_take : (mid new : List Bool) → get_or marks i false ≡ true → Widened marks (FromBelow l o marks i) mid → Widened mid (Onward l o i) new → Widened marks (FromBelow l o marks (i + 1)) new
  below_take mid new c v w =
      widened_on marks mid new (FromBelow l o marks i) (Onward l o i) (FromBelow l o marks (i + 1)) below_on
      (λ b h. record { section = i; below = omega arith; marked = c; onward = h })
      (λ b h. ⊎_elim inl (λ p. inr p.1) (below_cases b h))
      v w

pub below_none : (l : Layout) (o : Roster) (m : List Bool) → length m ≡ 32 → Widened m (FromBelow l o m 0) m
below_none l o m n = widened_none m (FromBelow l o m 0) n (λ b h. omega (arith, h.below))

-- all sections are passed
pub below_all : (l : Layout) (o : Roster) (m n : List Bool) (i : ℕ) → sections_of l ≤ i → Widened m (FromBelow l o m i) n → Widened m (OnwardFrom l o m) n
below_all l o m n i most w =
    widened_as m n (FromBelow l o m i) (OnwardFrom l o m)
    (λ b h. record { section = h.section; marked = h.marked; onward = h.onward })
    (λ b h. record { section = h.section; below = omega (arith, (linked_inside l h.section b h.onward.linked).0); marked = h.marked; onward = h.onward })
    w
