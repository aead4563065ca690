-- Conflict rules, their laws, and the two rules that there are.
use Rattle.std.specs.Prelude.{◌≡◌, ℕ, Bool, true, false, not, ◌&&◌, ◌||◌, ◌==◌, ◌≢◌}

-- whether the move from a to b and the move from c to d, made in one step, conflict
abbrev pub Conflicts : Type 0
Conflicts = (a b c d : ℕ) → Bool

pub record RuleLaws (conflicts : Conflicts) : Type 0 where
  pub symmetric : (a b c d : ℕ) → conflicts a b c d ≡ conflicts c d a b
  -- two moves that end in one section conflict, and so do two trains that exchange sections
  pub one_end : (a b c : ℕ) → conflicts a b c b ≡ true
  pub exchange : (a b : ℕ) → conflicts a b b a ≡ true
  -- trains that stand in different sections do not
  pub standing : (a c : ℕ) → (a ≢ c) → conflicts a a c c ≡ false

-- a move to another section
abbrev pub runs : (a b : ℕ) → Bool
runs a b = not (a == b)

-- both run, and their links cross on the ground: `fouls a b c d` says so of the links a-b and c-d
abbrev pub crossing : Conflicts → Conflicts
crossing fouls a b c d = (runs a b && runs c d) && fouls a b c d

-- following: both end in one section, they exchange sections, or they run over links that foul
abbrev pub following : Conflicts → Conflicts
following fouls a b c d = (b == d || (a == d && b == c)) || crossing fouls a b c d

-- clear section: both end in one section, one enters the section that the other was in, or they run over links that foul
abbrev pub clear_section : Conflicts → Conflicts
clear_section fouls a b c d = ((b == d || b == c) || a == d) || crossing fouls a b c d
