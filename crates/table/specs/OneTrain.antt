-- A group of one train is taken.
use Rattle.std.specs.Prelude.{◌≡◌, ℕ, ◌+◌, ◌*◌, ◌^◌, ◌≤◌}
use Rattle.std.proofs.Common.{sym, ◌∙◌, ap, subst, pow-suc, arith}
use Rattle.std.proofs.Math.Nat.{pow-zero}
use Rattle.search.specs.Answers.{OneTrain}
use Rattle.sheets.specs.Inquiry.{Inquiry, trains}

pow_one : (n : ℕ) → n ^ 1 ≡ n
pow_one n = pow-suc n 0 ∙ ap (λ z. z * n) (pow-zero n) ∙ (let e : 1 * n ≡ n = omega arith in e)

pub one_train_lem : {C : Type 0} (i : Inquiry C) (cells : ℕ) → OneTrain i cells → i.problem.sections ^ trains i * (i.problem.steps + 1) ≤ cells
one_train_lem i cells h = subst (λ n. n * (i.problem.steps + 1) ≤ cells) (sym (ap (λ k. i.problem.sections ^ k) h.one ∙ pow_one i.problem.sections)) h.room
