-- That the closed sections of a book are on a layout.
use Rattle.std.specs.Prelude.{◌≡◌, ℕ, ◌≤◌, false}
use Rattle.roster.specs.Book.{Book}

-- no section is closed that is not among n
abbrev pub ClosedInside : (n : ℕ) → Book → Type 0
ClosedInside n b = (s : ℕ) → n ≤ s → b.closed s ≡ false
