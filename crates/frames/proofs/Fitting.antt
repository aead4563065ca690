-- A text that fits the writing place, and one that does not.
use Rattle.std.proofs.Common.{◌≡◌, ℕ, ◌<◌, ◌≤◌, List, length, Ok, Err, sym, ap, ◌∙◌, arith}
use Rattle.std.proofs.lemmas.Bool.Decides.{nat_tests}
use Rattle.track.specs.declared.refusal.Refusal.TheVariants.{WritingPlaceTooShort}
use Rattle.frames.specs.Text.{written, printing, printed}
use Rattle.frames.proofs.Writing.{written_front}

module _ (old xs : List ℕ) (n : ℕ) (long : length xs ≡ n) where
  pub short_told : length old < n → Err WritingPlaceTooShort ≡ printing old xs
  short_told h = grind (arith, nat_tests)

  pub short_kept : length old < n → old ≡ printed old xs
  short_kept h = grind (arith, nat_tests)

  pub fits_told : n ≤ length old → Ok n ≡ printing old xs
  fits_told h = ap Ok (sym long) ∙ grind (arith, nat_tests)

  pub fits_printed : n ≤ length old → written old 0 xs ≡ printed old xs
  fits_printed h = written_front old xs ∙ grind (arith, nat_tests)
