-- The lines of the trains, one more, and how long they are.
use Rattle.std.proofs.Common.{◌≡◌, ℕ, ◌+◌, ◌*◌, List, [], ◌∷◌, ◌++◌, map, length, get_or, sym, refl, ap, ◌∙◌, subst, add-mul, arith}
use Rattle.std.specs.List.{range_with_len, flat_map, AllByRecursion}
use Rattle.std.proofs.lemmas.List.FromFn.{length-range_with_len, length-map-range_with_len, map-range_with_len_more}
use Rattle.std.proofs.ByRecursion.{All-push}
use Rattle.std.proofs.lemmas.List.{flat_map_more, length-append}
use Rattle.sheets.specs.Inquiry.{plan_of}
use Rattle.sheets.specs.declared.sheet.Sheet.{Sheet}
use Rattle.frames.specs.Text.{line_of, text, written, ReadsBack}
use Rattle.frames.specs.Replies.{train_bytes, total_bytes, train_lines, plan_lines}
use Rattle.frames.proofs.Writing.{written_behind}
use Rattle.frames.proofs.Ended.{length_line_of}

pub text_more : (lines : List (List ℕ)) (bytes : List ℕ) → text (lines ++ (bytes ∷ [])) ≡ text lines ++ line_of bytes
text_more lines bytes = sym (flat_map_more line_of [] lines bytes)

pub trains_none : (ns : List ℕ) (s : Sheet) (steps : ℕ) → train_lines ns s steps 0 ≡ []
unfolding train_lines
trains_none ns s steps = refl

pub trains_more : (ns : List ℕ) (s : Sheet) (steps row : ℕ) → text (train_lines ns s steps (row + 1)) ≡ text (train_lines ns s steps row) ++ line_of (train_bytes (get_or ns row 0) (plan_of s row) steps)
unfolding train_lines
trains_more ns s steps row =
    let f = λ (k : ℕ). train_bytes (get_or ns k 0) (plan_of s k) steps in
    ap text (map-range_with_len_more f 0 row row (omega arith)) ∙ text_more (map f (range_with_len 0 row)) (f row)

-- one more line that can be read again
pub trains_back : (ns : List ℕ) (s : Sheet) (steps row : ℕ) → AllByRecursion ReadsBack (train_lines ns s steps row) → ReadsBack (train_bytes (get_or ns row 0) (plan_of s row) steps) → AllByRecursion ReadsBack (train_lines ns s steps (row + 1))
unfolding train_lines
trains_back ns s steps row h k =
    let f = λ (k : ℕ). train_bytes (get_or ns k 0) (plan_of s k) steps in
    subst (λ (ls : List (List ℕ)). AllByRecursion ReadsBack ls) (sym (map-range_with_len_more f 0 row row (omega arith))) (All-push ReadsBack (map f (range_with_len 0 row)) (f row) h k)

pub length_train : (number : ℕ) (stands : ℕ → ℕ) (steps : ℕ) → length (train_bytes number stands steps) ≡ 4 + steps
length_train number stands steps = omega (arith, length-map-range_with_len stands 0 (steps + 1))

length_joined : (f : ℕ → List ℕ) (k : ℕ) (ns : List ℕ) → ((n : ℕ) → length (line_of (f n)) ≡ k) → length (flat_map line_of (map f ns)) ≡ length ns * k
length_joined f k [] h = omega arith
length_joined f k (n ∷ ns) h =
    length-append (line_of (f n)) (flat_map line_of (map f ns)) ∙ omega (arith, h n, length_joined f k ns h, add-mul (length ns) 1 k)

pub length_trains : (ns : List ℕ) (s : Sheet) (steps rows : ℕ) → length (text (train_lines ns s steps rows)) ≡ rows * (3 * (4 + steps))
unfolding train_lines
length_trains ns s steps rows =
    length_joined (λ k. train_bytes (get_or ns k 0) (plan_of s k) steps) (3 * (4 + steps)) (range_with_len 0 rows) (λ k. let n = length_train (get_or ns k 0) (plan_of s k) steps in length_line_of _ (omega arith) ∙ ap (λ (z : ℕ). 3 * z) n)
    ∙ ap (λ (z : ℕ). z * (3 * (4 + steps))) (length-range_with_len 0 rows)

-- a plan, by the number of trains and the number of the cost's bytes
module _ (ns : List ℕ) (s : Sheet) (steps : ℕ) (cost : List ℕ) (groups count width : ℕ) (rows : count ≡ length ns) (wide : width ≡ length cost) where
  trains : List ℕ
  trains = text (train_lines ns s steps (length ns))

  parted : trains ++ line_of (total_bytes cost groups) ≡ text (plan_lines ns s steps cost groups)
  unfolding trains
  parted = sym (text_more (train_lines ns s steps (length ns)) (total_bytes cost groups))

  long : length trains ≡ count * (3 * (4 + steps))
  unfolding trains
  long = length_trains ns s steps (length ns) ∙ sym (ap (λ (n : ℕ). n * (3 * (4 + steps))) rows)

  pub length_total : length (total_bytes cost groups) ≡ width + 2
  length_total = omega (arith, length-append cost (groups ∷ []))

  pub length_plan : length (text (plan_lines ns s steps cost groups)) ≡ count * (3 * (4 + steps)) + 3 * (width + 2)
  length_plan =
      let n = length_total in
      let e : length (line_of (total_bytes cost groups)) ≡ 3 * (width + 2) = length_line_of (total_bytes cost groups) (omega arith) ∙ ap (λ (k : ℕ). 3 * k) n in
      sym (ap length parted) ∙ length-append trains (line_of (total_bytes cost groups)) ∙ omega (arith, long)

  pub plan_written : (old : List ℕ) → written (written old 0 (text (train_lines ns s steps (length ns)))) (count * (3 * (4 + steps))) (line_of (total_bytes cost groups)) ≡ written old 0 (text (plan_lines ns s steps cost groups))
  unfolding trains
  plan_written old = written_behind old (count * (3 * (4 + steps))) trains (line_of (total_bytes cost groups)) long ∙ ap (written old 0) parted

  pub plan_back : AllByRecursion ReadsBack (train_lines ns s steps (length ns)) → ReadsBack (total_bytes cost groups) → AllByRecursion ReadsBack (plan_lines ns s steps cost groups)
  plan_back h k = All-push ReadsBack (train_lines ns s steps (length ns)) (total_bytes cost groups) h k
