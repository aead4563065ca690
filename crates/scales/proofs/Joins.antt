-- Laws of costs joined over a range.
use Rattle.std.proofs.Common.{◌≡◌, ℕ, zero, suc, ◌+◌, ◌*◌, ◌<◌, ◌≤◌, Bool, true, false, ◌⊎◌, sym, refl, ap, ◌∙◌, ap₂, inl, inr, true≢false, add-one, arith}
use Rattle.scales.specs.Measure.{Measure, MeasureLaws, Fit, joined}

-- one cost more
pub joined_more : {C : Type 0} (S : Measure C) (n : ℕ) (f : ℕ → C) → joined S (n + 1) f ≡ S.join (joined S n f) (f n)
joined_more S n f = ap (λ (k : ℕ). joined S k f) (add-one n)

module _ {C : Type 0} (S : Measure C) (L : MeasureLaws S) where
  -- the price of any step: a train that stands at its goal runs over no points
  pub price_small : (n : ℕ) (rests : Bool) → n ≤ 7 → (rests ≡ true → n ≡ 0) → S.size (S.price n rests) ≤ 16
  price_small n true few still = omega (arith, ap (λ m. S.size (S.price m true)) (still refl), ap S.size L.price_rest, L.size_nothing)
  price_small n false few still = L.size_price n few

  pub joined_size : (b n : ℕ) (f : ℕ → C) → ((i : ℕ) → i < n → S.size (f i) ≤ b) → n * b ≤ 65535 → S.size (joined S n f) ≤ n * b
  joined_size b zero f h m = omega (arith, L.size_nothing)
  joined_size b (suc n) f h m =
      let ih = joined_size b n f (λ i k. h i (omega arith)) (omega arith) in
      let last = h n (omega arith) in
      omega (arith, L.size_join (joined S n f) (f n) (omega arith))

  pub joined_same : (n : ℕ) (f g : ℕ → C) → ((i : ℕ) → i < n → f i ≡ g i) → joined S n f ≡ joined S n g
  joined_same zero f g h = refl
  joined_same (suc n) f g h = ap₂ S.join (joined_same n f g (λ i k. h i (omega arith))) (h n (omega arith))

  pub nothing_join : (a : C) → S.size a ≤ 65535 → S.join S.nothing a ≡ a
  nothing_join a h = L.join_comm S.nothing a (omega (arith, L.size_nothing)) ∙ L.join_nothing a h

  -- (a b) (c d) is (a c) (b d)
  pub join_swap : (a b c d : C) → S.size a + S.size b + S.size c + S.size d ≤ 65535
      → S.join (S.join a b) (S.join c d) ≡ S.join (S.join a c) (S.join b d)
  join_swap a b c d h =
      let cd = L.size_join c d (omega arith) in
      let bd = L.size_join b d (omega arith) in
      cc (
        L.join_assoc a b (S.join c d) (omega arith),
        L.join_assoc b c d (omega arith),
        L.join_comm b c (omega arith),
        L.join_assoc c b d (omega arith),
        L.join_assoc a c (S.join b d) (omega arith),
      )

  pub joined_join : (b n : ℕ) (f g : ℕ → C) → ((i : ℕ) → i < n → S.size (f i) ≤ b) → ((i : ℕ) → i < n → S.size (g i) ≤ b)
      → n * b + n * b ≤ 65535 → joined S n (λ i. S.join (f i) (g i)) ≡ S.join (joined S n f) (joined S n g)
  joined_join b zero f g hf hg m = sym (L.join_nothing S.nothing (omega (arith, L.size_nothing)))
  joined_join b (suc n) f g hf hg m =
      let ih = joined_join b n f g (λ i k. hf i (omega arith)) (λ i k. hg i (omega arith)) (omega arith) in
      let sf = joined_size b n f (λ i k. hf i (omega arith)) (omega arith) in
      let sg = joined_size b n g (λ i k. hg i (omega arith)) (omega arith) in
      let lf = hf n (omega arith) in
      let lg = hg n (omega arith) in
      ap (λ z. S.join z (S.join (f n) (g n))) ih ∙ join_swap (joined S n f) (joined S n g) (f n) (g n) (omega arith)

  pub lower_not : (a b : C) → a ≡ b → S.lower a b ≡ true → ⊥
  lower_not a b e h = true≢false (cc (L.lower_self b))

  pub lower_asym : (a b : C) → S.lower a b ≡ true → S.lower b a ≡ true → ⊥
  lower_asym a b h k = lower_not a a refl (L.lower_trans a b a h k)

  -- lower on one side and no higher on the other makes the join lower
  pub join_lower_both : (a b c d : C) → Fit S a c → Fit S b c → Fit S b d → S.lower a b ≡ true → (c ≡ d) ⊎ (S.lower c d ≡ true)
      → S.lower (S.join a c) (S.join b d) ≡ true
  join_lower_both a b c d ac bc bd h (inl e) = rw (← e) (L.join_lower a b c ac bc h)
  join_lower_both a b c d ac bc bd h (inr k) =
      let one = L.join_lower a b c ac bc h in
      let two = L.join_lower c d b (omega arith) (omega arith) k in
      let two' : S.lower (S.join b c) (S.join b d) ≡ true = rw (L.join_comm b c bc, L.join_comm b d bd) two in
      L.lower_trans (S.join a c) (S.join b c) (S.join b d) one two'
