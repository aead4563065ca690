-- Rows written one after the other.
use Rattle.std.proofs.Common.{◌≡◌, ℕ, ◌+◌, ◌-◌, ◌<◌, ◌≤◌, List, [], ◌++◌, length, get_or, set, take, drop, map, sym, ap, ◌∙◌, subst, ⊎_elim, arith, length-take-le, get_or-take, get_or-set_other, get_or-set_same}
use Rattle.std.proofs.lemmas.Bool.{cases_lt, cases_eq}
use Rattle.std.proofs.lemmas.List.{get_or_append_left, get_or-append_right, get_or-drop}
use Rattle.std.proofs.lemmas.List.FromFn.{length-map-range_with_len, get_or-map-range_with_len}
use Rattle.std.specs.List.{range_with_len}
use Rattle.sheets.specs.declared.sheet.Sheet.{Sheet}
use Rattle.sheets.specs.Inquiry.{plan_of}
use Rattle.words.specs.declared.chosen.Chosen.{Chosen}
use Rattle.words.specs.Rows.{row_of, planned, RowWritten, Written, Rows}

-- a row in which the times up to the last are written over by the line of the i-th of k trains
pub row_written : (old new : List ℕ) (s : ℕ) (plan : List ℕ) (k i steps : ℕ) → steps ≤ 16
    → new ≡ take (steps + 1) (map (planned s plan k i) (range_with_len 0 17)) ++ drop (steps + 1) old → RowWritten old new s plan k i steps
row_written old new s plan k i steps h e = record {
  here = λ t a. rw e
      (get_or_append_left (take (steps + 1) line) (drop (steps + 1) old) 0 t (omega (arith, long)) ∙ get_or-take (steps + 1) line t 0 (omega arith)
      ∙ get_or-map-range_with_len (planned s plan k i) 0 17 t t 0 (omega arith) (omega arith));
  after = λ t a. rw e
      (get_or-append_right (take (steps + 1) line) (drop (steps + 1) old) (steps + 1) t 0 long (omega arith) ∙ get_or-drop (steps + 1) old (t - (steps + 1)) 0
      ∙ ap (λ u. get_or old u 0) (let z : steps + 1 + (t - (steps + 1)) ≡ t = omega arith in z));
}
  where
    line : List ℕ
    line = map (planned s plan k i) (range_with_len 0 17)

    long : length (take (steps + 1) line) ≡ steps + 1
    long = length-take-le (steps + 1) line (let z : length line ≡ 17 = length-map-range_with_len (planned s plan k i) 0 17 in omega arith)

pub written_more : (c : Chosen) (plan : List ℕ) (steps i : ℕ) (old new : Sheet) (res : List ℕ) → Rows c → i < c.trains → Written c plan steps i old new
    → RowWritten (get_or new.rows (row_of c i) []) res (get_or c.start i 0) plan c.trains i steps → row_of c i < length new.rows
    → Written c plan steps (i + 1) old (record { rows = set new.rows (row_of c i) res })
written_more c plan steps i old new res R hi H W l = record {
  here = λ j t h m.
      ⊎_elim
      (λ k. ap (λ w. get_or w t 0) (get_or-set_other new.rows (row_of c i) (row_of c j) res [] (λ z. (let e = R.apart j i (omega arith) hi z in omega arith))) ∙ H.here j t k m)
      (λ k. (let e : i ≡ j = omega arith in
      subst (λ z. get_or (get_or (set new.rows (row_of c i) res) (row_of c z) []) t 0 ≡ planned (get_or c.start z 0) plan c.trains z t) e
      (ap (λ w. get_or w t 0) (get_or-set_same new.rows (row_of c i) res [] l) ∙ W.here t m)))
      (cases_lt j i);
  others = λ r t h.
      ⊎_elim
      (λ e. (let late : steps < t = ⊎_elim (λ z. z) (λ z. absurd (h i (omega arith) (sym e) z)) (cases_lt steps t) in
      subst (λ z. get_or (get_or (set new.rows (row_of c i) res) z []) t 0 ≡ plan_of old z t) (sym e)
      (ap (λ w. get_or w t 0) (get_or-set_same new.rows (row_of c i) res [] l) ∙ W.after t late
      ∙ subst (λ z. plan_of new z t ≡ plan_of old z t) e (H.others r t (λ j k z m. h j (omega arith) z m)))))
      (λ e. ap (λ w. get_or w t 0) (get_or-set_other new.rows (row_of c i) r res [] e) ∙ H.others r t (λ j k z m. h j (omega arith) z m))
      (cases_eq r (row_of c i));
}
