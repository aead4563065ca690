-- Names in a table of eight rows, and tables that are made by calls.
use Rattle.std.proofs.Common.{◌≡◌, ℕ, zero, suc, ◌+◌, ◌<◌, ◌≤◌, Bool, true, false, cond, ◌&&◌, eqb, ◌⊎◌, List, [], ◌∷◌, length, get_or, zero-add, sym, refl, ap, ◌∙◌, subst, inl, inr, ⊎_elim, arith}
use mathlib.Core.Path.{fun_ext}
use Rattle.std.proofs.lemmas.Bool.{cases_lt, cases_eq, and_left, ne_eqb, cond-false}
use Rattle.std.proofs.lemmas.List.{get_or_past, get_or_default}
use Rattle.std.specs.Fn.{Mut, Called}
use Rattle.std.specs.Array.{IsFromFnResultFrom, MapsFrom}
use Rattle.std.specs.List.{filter, range_with_len}
use Rattle.sheets.specs.Problem.{count}
use Rattle.sheets.proofs.Alls.{count_yes, count_no}
use Rattle.groups.specs.Parts.{merged, part}
use Rattle.groups.specs.Model.{naming}
use Rattle.groups.specs.declared.parts.Parts.{Parts}

-- what an array made by calls holds at each place, where each call answers h and leaves the closure as it was
module _ {F B : Type 0} (g : Mut F (ℕ × Unit {0}) B) (h : ℕ → B) (f : F) (says : (i : ℕ) (y : B) (q : F) → Called g f (i, tt) y q → (q ≡ f) × (y ≡ h i)) where
  pub made_at : (ys : List B) (i n : ℕ) → IsFromFnResultFrom g f ys i n → (k : ℕ) (d : B) → i ≤ k → k < i + n → get_or ys k d ≡ h k
  made_at ys i zero m k d a b = absurd (omega arith)
  made_at ys i (suc n) m k d a b =
      let s = says i m.1 m.0 m.3 in
      ⊎_elim
      (λ e. rw e (m.2.1 d ∙ s.1))
      (λ e. made_at ys (i + 1) n (subst (λ (v : F). IsFromFnResultFrom g v ys (i + 1) n) s.0 m.4) k d (omega arith) (omega arith))
      (cases_eq k i)

module _ {F A B : Type 0} (g : Mut F (A × Unit {0}) B) (h : A → B) (f : F) (says : (x : A) (y : B) (q : F) → Called g f (x, tt) y q → (q ≡ f) × (y ≡ h x)) where
  pub mapped_at : (xs : List A) (ys : List B) (i n : ℕ) → MapsFrom g f xs ys i n → (k : ℕ) (d : A) (e : B) → i ≤ k → k < i + n → get_or ys k e ≡ h (get_or xs k d)
  mapped_at xs ys i zero m k d e a b = absurd (omega arith)
  mapped_at xs ys i (suc n) m k d e a b =
      let s = says m.1 m.2 m.0 m.5 in
      ⊎_elim
      (λ z. rw z (m.4.1 e ∙ s.1 ∙ ap h (sym (m.3.1 d))))
      (λ z. mapped_at xs ys (i + 1) n (subst (λ (v : F). MapsFrom g v xs ys (i + 1) n) s.0 m.6) k d e (omega arith) (omega arith))
      (cases_eq k i)

pub alone_table : (r : ℕ) → get_or (0 ∷ (1 ∷ (2 ∷ (3 ∷ (4 ∷ (5 ∷ (6 ∷ (7 ∷ [])))))))) r r ≡ r
alone_table zero = refl
alone_table (suc zero) = refl
alone_table (suc (suc zero)) = refl
alone_table (suc (suc (suc zero))) = refl
alone_table (suc (suc (suc (suc zero)))) = refl
alone_table (suc (suc (suc (suc (suc zero))))) = refl
alone_table (suc (suc (suc (suc (suc (suc zero)))))) = refl
alone_table (suc (suc (suc (suc (suc (suc (suc zero))))))) = refl
alone_table (suc (suc (suc (suc (suc (suc (suc (suc r)))))))) = refl

-- the name of a row of the table
pub name_in : (p : Parts) (r : ℕ) → length p.names ≡ 8 → r < 8 → naming p r ≡ get_or p.names r 0
unfolding naming
name_in p r l h = get_or_default p.names r r 0 (omega arith)

pub name_past : (p : Parts) (r : ℕ) → length p.names ≡ 8 → 8 ≤ r → naming p r ≡ r
unfolding naming
name_past p r l h = get_or_past p.names r r (omega arith)

-- the name that the part of a row goes by once the parts of r and o are one
abbrev pub renamed : (names : List ℕ) (r o name : ℕ) → ℕ
renamed names r o name = cond (eqb name (get_or names o 0)) (get_or names r 0) name

module _ (p : Parts) (r o : ℕ) (long : length p.names ≡ 8) (hr : r < 8) (ho : o < 8) where
  pub renamed_row : (name : ℕ) → name < 8 → renamed p.names r o name < 8
  renamed_row name l = go (eqb name (get_or p.names o 0))
    where
      go : (b : Bool) → cond b (get_or p.names r 0) name < 8
      go true = p.rows r 0 (omega arith)
      go false = l

  pub joined_merges : (q : Parts) → length q.names ≡ 8 → ((k d e : ℕ) → 0 ≤ k → k < 8 → get_or q.names k e ≡ renamed p.names r o (get_or p.names k d)) → naming q ≡ merged (naming p) r o
  unfolding merged
  joined_merges q b h = fun_ext (λ k. go k (cases_lt k 8))
    where
      go : (k : ℕ) → (k < 8) ⊎ (8 ≤ k) → naming q k ≡ cond (eqb (naming p k) (naming p o)) (naming p r) (naming p k)
      go k (inl l) = name_in q k b l ∙ h k 0 0 (omega arith) l ∙ sym (λ i. cond (eqb (name_in p k long l i) (name_in p o long ho i)) (name_in p r long hr i) (name_in p k long l i))
      go k (inr l) =
          let low = p.rows o 0 (omega arith) in
          let far : naming p k ≡ naming p o → ⊥ = λ e. omega (arith, e, name_past p k long l, name_in p o long ho, low) in
          name_past q k b l ∙ sym (name_past p k long l) ∙ sym (cond-false _ _ _ (ne_eqb _ _ far))

-- the marks of a part
pub marks_part : (p : Parts) (group marks : List Bool) (name : ℕ) → length p.names ≡ 8 → length group ≡ 8 → length marks ≡ 8
    → ((k : ℕ) → k < 8 → get_or marks k false ≡ (get_or group k false && eqb (get_or p.names k 0) name))
    → (λ k. get_or marks k false) ≡ part (λ k. get_or group k false) (naming p) name
unfolding part
marks_part p group marks name a b d h = fun_ext (λ k. go k (cases_lt k 8))
  where
    go : (k : ℕ) → (k < 8) ⊎ (8 ≤ k) → get_or marks k false ≡ (get_or group k false && eqb (naming p k) name)
    go k (inl l) = h k l ∙ ap (λ (n : ℕ). get_or group k false && eqb n name) (sym (name_in p k a l))
    go k (inr l) = get_or_past marks k false (omega arith) ∙ sym (and_left _ _ (get_or_past group k false (omega arith)))

-- how many numbers from a on pass a test, where those below a are counted apart
counted_from : (f : ℕ → Bool) (a n b : ℕ) → a + n ≡ b → length (filter f (range_with_len a n)) + count a f ≡ count b f
counted_from f a zero b e = let z : a ≡ b = omega arith in rw z (zero-add (count b f))
counted_from f a (suc n) b e = go (f a) refl (counted_from f (a + 1) n b (omega arith))
  where
    go : (v : Bool) → f a ≡ v → length (filter f (range_with_len (a + 1) n)) + count (a + 1) f ≡ count b f
        → length (cond v (a ∷ filter f (range_with_len (a + 1) n)) (filter f (range_with_len (a + 1) n))) + count a f ≡ count b f
    go true e h = omega (arith, h, count_yes a f e)
    go false e h = omega (arith, h, count_no a f e)

pub counted : (f : ℕ → Bool) (n : ℕ) → length (filter f (range_with_len 0 n)) ≡ count n f
counted f n = omega (arith, counted_from f 0 n n)
