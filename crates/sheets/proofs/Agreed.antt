-- Two sheets that are the same at each place looked at count as one, and others do not.
use Rattle.std.proofs.Common.{◌≡◌, ℕ, ◌+◌, Bool, true, false, not, ◌||◌, refl, arith}
use Rattle.std.proofs.lemmas.Bool.{eqb-true, eq-eqb}
use Rattle.sheets.specs.Problem.{Problem, Group}
use Rattle.sheets.specs.Plan.{Plan, SameOn}
use Rattle.sheets.specs.Theorems.{Same, same_rows}
use Rattle.sheets.proofs.Alls.{all_at, all_from}

held : (g a : Bool) → (not g || a) ≡ true → g ≡ true → a ≡ true
held true a e h = e
held false a e h = absurd (let z : ◌≡◌ {A = ℕ} 0 1 = cc in omega arith)

holds : (g a : Bool) → (g ≡ true → a ≡ true) → (not g || a) ≡ true
holds true a h = h refl
holds false a h = refl

pub same_told : (Q : Problem) (G : Group) (x y : Plan) → Same (same_rows Q.rows Q.steps G x y ≡ true) (SameOn Q G x y)
unfolding same_rows
same_told Q G x y = record {
  to = λ e r t m k. eqb-true _ _ (all_at (Q.steps + 1) _ (held (G r) _ (all_at Q.rows _ e r m.a_row) m.of_group) t (omega arith));
  back = λ s. all_from Q.rows _ (λ r h. holds (G r) _ (λ g. all_from (Q.steps + 1) _ (λ t k. eq-eqb _ _ (s r t (record { a_row = h; of_group = g }) (omega arith)))));
}
