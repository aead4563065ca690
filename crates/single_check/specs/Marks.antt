-- How sections are marked, one step outward after another.
use Rattle.std.specs.Prelude.{◌≡◌, ℕ, Bool, true, false, ◌⊎◌, List, length, get_or, is_some, slice_index_or}
use Rattle.track.specs.Layouts.{look}
use Rattle.track.specs.declared.layout.Layout.{Layout}
use Rattle.roster.specs.Model.{closed_of}
use Rattle.roster.specs.declared.roster.Roster.{Roster}

-- a link leads from a to b, which is open
pub record Onward (l : Layout) (o : Roster) (a b : ℕ) : Type 0 where
  pub linked : is_some (look l a b) ≡ true
  pub not_closed : closed_of o b ≡ false

-- a link leads to b, which is open, from a section that is marked
pub record OnwardFrom (l : Layout) (o : Roster) (marks : List Bool) (b : ℕ) : Type 0 where
  pub section : ℕ
  pub marked : get_or marks section false ≡ true
  pub onward : Onward l o section b

-- the new marks: the old ones, and one for each section of which P holds
pub record Widened (old : List Bool) (P : ℕ → Type 0) (new : List Bool) : Type 0 where
  pub size : length new ≡ 32
  pub only : (b : ℕ) → slice_index_or new b false ≡ true → (slice_index_or old b false ≡ true) ⊎ P b
  pub kept : (b : ℕ) → slice_index_or old b false ≡ true → slice_index_or new b false ≡ true
  pub added : (b : ℕ) → P b → slice_index_or new b false ≡ true
