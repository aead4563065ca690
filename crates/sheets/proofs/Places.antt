-- Places, and sheets that come before others.
use Rattle.std.proofs.Common.{◌≡◌, ℕ, ◌<◌, ◌≤◌, ◌⊎◌, sym, inl, inr, arith}
use Rattle.std.proofs.lemmas.Bool.{cases_order}
use Rattle.sheets.specs.Problem.{Group, Problem}
use Rattle.sheets.specs.Plan.{Plan, SameOn, Earlier, Before}

pub earlier_trans : (t r u q v p : ℕ) → Earlier t r u q → Earlier u q v p → Earlier t r v p
earlier_trans t r u q v p (inl a) (inl b) = inl (omega arith)
earlier_trans t r u q v p (inl a) (inr b) = inl (omega arith)
earlier_trans t r u q v p (inr a) (inl b) = inl (omega arith)
earlier_trans t r u q v p (inr a) (inr b) = inr (omega arith)

pub earlier_time : (t r u q : ℕ) → Earlier t r u q → t ≤ u
earlier_time t r u q e = omega arith

pub places : (t r u q : ℕ) → Earlier t r u q ⊎ (((t ≡ u) × (r ≡ q)) ⊎ Earlier u q t r)
places t r u q = go (cases_order t u) (cases_order r q)
  where
    go : (t ≡ u) ⊎ ((t < u) ⊎ (u < t)) → (r ≡ q) ⊎ ((r < q) ⊎ (q < r)) → Earlier t r u q ⊎ (((t ≡ u) × (r ≡ q)) ⊎ Earlier u q t r)
    go (inl a) (inl b) = inr (inl (a, b))
    go (inl a) (inr (inl b)) = inl (inr (a, b))
    go (inl a) (inr (inr b)) = inr (inr (inr (sym a, b)))
    go (inr (inl a)) b = inl (inl a)
    go (inr (inr a)) b = inr (inr (inl a))

module _ (Q : Problem) where
  pub same_sym : (G : Group) (x y : Plan) → SameOn Q G x y → SameOn Q G y x
  same_sym G x y h r t m k = sym (h r t m k)

  -- no two sheets come before one another
  pub before_never : (G : Group) (x y : Plan) → Before Q G x y → Before Q G y x → ⊥
  before_never G x y p q = go (places p.time p.row q.time q.row)
    where
      go : Earlier p.time p.row q.time q.row
          ⊎ (((p.time ≡ q.time) × (p.row ≡ q.row)) ⊎ Earlier q.time q.row p.time p.row) → ⊥
      go (inl e) = omega (arith, q.same p.time p.row p.in_group e)
      go (inr (inl (a, b))) =
          let h : x p.row p.time ≡ x q.row q.time = rw (a, b) in
          let k : y p.row p.time ≡ y q.row q.time = rw (a, b) in
          omega arith
      go (inr (inr e)) = omega (arith, p.same q.time q.row q.in_group e)
