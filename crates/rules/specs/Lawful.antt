-- Both rules keep the laws, whichever links foul, as long as fouls go both ways.
use Rattle.std.specs.Prelude.{◌≡◌, ℕ}
use Rattle.std.proofs.Common.{arith}
use Rattle.std.proofs.lemmas.Bool.Decides.{nat_tests}
use Rattle.rules.specs.Conflicts.{Conflicts, RuleLaws, crossing, following, clear_section}

module _ (fouls : Conflicts) (swapped : (a b c d : ℕ) → fouls a b c d ≡ fouls c d a b) where
  crossing_swapped : (a b c d : ℕ) → crossing fouls a b c d ≡ crossing fouls c d a b
  crossing_swapped a b c d = let e = swapped a b c d in grind (arith, nat_tests)

  pub following_laws : RuleLaws (following fouls)
  following_laws = record {
    symmetric = λ a b c d. (let e = swapped a b c d in grind (arith, nat_tests));
    one_end = λ a b c. grind (arith, nat_tests);
    exchange = λ a b. grind (arith, nat_tests);
    standing = λ a c n. grind (arith, nat_tests);
  }

  pub clear_section_laws : RuleLaws (clear_section fouls)
  clear_section_laws = record {
    symmetric = λ a b c d. (let e = swapped a b c d in grind (arith, nat_tests));
    one_end = λ a b c. grind (arith, nat_tests);
    exchange = λ a b. grind (arith, nat_tests);
    standing = λ a c n. grind (arith, nat_tests);
  }
