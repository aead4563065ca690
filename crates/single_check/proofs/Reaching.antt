-- The marks after so many steps outward are those of the sections in reach in so many steps.
use Rattle.std.proofs.Common.{◌≡◌, ℕ, ◌+◌, ◌<◌, ◌≤◌, Bool, true, false, eqb, List, get_or, set, replicate, is_some, Some, sym, subst, ⊎_elim, arith}
use Rattle.std.proofs.lemmas.List.{get_or-set_same}
use Rattle.std.proofs.lemmas.Bool.{cases_lt, both_ways, or_cases, or_right, eqb-true}
use Rattle.track.specs.Layouts.{look}
use Rattle.track.specs.declared.layout.Layout.{Layout}
use Rattle.rules.specs.Conflicts.{Conflicts}
use Rattle.roster.specs.declared.roster.Roster.{Roster}
use Rattle.sheets.specs.Problem.{Problem}
use Rattle.sheets.specs.Inquiry.{problem_of}
use Rattle.sheets.proofs.Marks.{unset}
use Rattle.single_check.specs.Ways.{Reaches, FewestBetween}
use Rattle.single_check.specs.Marks.{OnwardFrom, Widened}
use Rattle.single_check.proofs.Marking.{linked_inside, set_only}
use Rattle.single_check.proofs.Ways.{reaches_none, reaches_same, reaches_more, reaches_later, reaches_open, last_step}

-- exactly the sections that are reached from a in k steps are marked
pub record Marks (Q : Problem) (k a : ℕ) (m : List Bool) : Type 0 where
  pub reached : (b : ℕ) → get_or m b false ≡ true → Reaches Q k a b
  pub marked : (b : ℕ) → Reaches Q k a b → get_or m b false ≡ true

-- and b is not reached in fewer steps
pub record Sofar (Q : Problem) (k a b : ℕ) (m : List Bool) : Type 0 where
  pub marks : Marks Q k a m
  pub none : (j : ℕ) → j < k → Reaches Q j a b → ⊥

pub marks_none : (Q : Problem) (a : ℕ) → a < 32 → a < Q.sections → Q.closed a ≡ false → Marks Q 0 a (set (replicate 32 false) a true)
marks_none Q a few inside unclosed = record {
  reached = λ b h. ⊎_elim (λ e. absurd (both_ways (get_or (replicate 32 false) b false) (unset 32 b) e)) (λ e. subst (λ z. Reaches Q 0 a z) (sym e) (reaches_none Q a inside unclosed)) (set_only (replicate 32 false) a b h);
  marked = λ b r. subst (λ z. get_or (set (replicate 32 false) a true) z false ≡ true) (sym (reaches_same Q a b r)) (get_or-set_same (replicate 32 false) a true false few);
}

-- one step outward
pub marks_more : (conflicts : Conflicts) (l : Layout) (o : Roster) (steps k a : ℕ) (m n : List Bool) → Marks (problem_of conflicts l o steps) k a m → Widened m (OnwardFrom l o m) n → Marks (problem_of conflicts l o steps) (k + 1) a n
marks_more conflicts l o steps k a m n M W =
    let Q : Problem = problem_of conflicts l o steps in
    record {
      reached = λ b h.
          ⊎_elim
          (λ e. reaches_later Q k a b (M.reached b e))
          (λ p. reaches_more Q k a p.section b (M.reached p.section p.marked) (or_right (eqb p.section b) (is_some (look l p.section b)) p.onward.linked) (linked_inside l p.section b p.onward.linked).1 p.onward.not_closed)
          (W.only b h);
      marked = λ b r.
          let s = last_step Q k a b r in
          let old = M.marked s.from s.first in
          ⊎_elim
          (λ e. W.kept b (subst (λ z. get_or m z false ≡ true) (eqb-true s.from b e) old))
          (λ e. W.added b (record { section = s.from; marked = old; onward = record { linked = e; not_closed = reaches_open Q (k + 1) a b r } }))
          (or_cases (eqb s.from b) (is_some (look l s.from b)) s.move);
    }

module _ (Q : Problem) (a b : ℕ) where
  pub sofar_none : a < 32 → a < Q.sections → Q.closed a ≡ false → Sofar Q 0 a b (set (replicate 32 false) a true)
  sofar_none few inside unclosed = record { marks = marks_none Q a few inside unclosed; none = λ j h. absurd (omega arith) }

  -- the goal is marked for the first time
  pub sofar_found : (k : ℕ) (m : List Bool) → Sofar Q k a b m → k ≤ Q.steps → get_or m b false ≡ true → FewestBetween Q a b (Some k)
  sofar_found k m s l h = (l, s.marks.reached b h, s.none)

  -- one step more, where the goal is not marked
  pub none_more : (k : ℕ) (m : List Bool) → Sofar Q k a b m → get_or m b false ≡ false → (j : ℕ) → j < k + 1 → Reaches Q j a b → ⊥
  none_more k m s h j l r =
      ⊎_elim
      (λ i. s.none j i r)
      (λ i. let e : j ≡ k = omega arith in both_ways (get_or m b false) h (s.marks.marked b (subst (λ z. Reaches Q z a b) e r)))
      (cases_lt j k)

pub sofar_more : (conflicts : Conflicts) (l : Layout) (o : Roster) (steps k a b : ℕ) (m n : List Bool) → Sofar (problem_of conflicts l o steps) k a b m → get_or m b false ≡ false → Widened m (OnwardFrom l o m) n → Sofar (problem_of conflicts l o steps) (k + 1) a b n
sofar_more conflicts l o steps k a b m n s h w =
    record { marks = marks_more conflicts l o steps k a m n s.marks w; none = none_more (problem_of conflicts l o steps) a b k m s h }
