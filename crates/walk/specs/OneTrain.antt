-- A walk takes the groups of one train, since its greatest group has a train.
use Rattle.std.specs.Prelude.{ℕ, ◌≤◌}
use Rattle.std.proofs.Common.{arith}
use Rattle.sheets.specs.Inquiry.{Inquiry, trains}
use Rattle.search.specs.Answers.{OneTrain}
use Rattle.walk.specs.declared.walk.Walk.{Walk}

pub one_train_lem : {C : Type 0} (w : Walk) (i : Inquiry C) (cells : ℕ) → OneTrain i cells → trains i ≤ w.most
one_train_lem w i cells h = omega (arith, h.one, w.some)
