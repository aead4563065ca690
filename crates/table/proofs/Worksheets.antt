-- The worksheet, column by column.
use Rattle.std.proofs.Common.{◌≡◌, ℕ, ◌+◌, ◌*◌, ◌<◌, ◌≤◌, Bool, cond, List, [], ◌++◌, length, get_or, take, Some, None, Option, sym, ap, ◌∙◌, subst, ap₂, ⊎_elim, add-mul, mul-le-mul, mul-zero, arith}
use Rattle.std.proofs.Props.{props}
use Rattle.std.proofs.lemmas.Bool.{cases_lt}
use Rattle.std.proofs.lemmas.List.{get_or-take, get_or_append_left, get_or-append-add}
use Rattle.track.specs.Layouts.{sections_of}
use Rattle.track.specs.declared.layout.Layout.{Layout}
use Rattle.rules.specs.Conflicts.{Conflicts}
use Rattle.scales.specs.Measure.{Measure}
use Rattle.words.specs.Words.{rest}
use Rattle.words.specs.Joint.{Task, home, process}
use Rattle.words.specs.Tasks.{task}
use Rattle.words.specs.Turns.{begun, todo, joint}
use Rattle.words.proofs.Turns.{todo_begun, joint_begun}
use Rattle.table.specs.Ahead.{Tells}
use Rattle.table.specs.Codes.{digits, code_of}
use Rattle.table.specs.Columns.{due, Column, Columns, Within, cell_at}
use Rattle.table.specs.Steps.{Ready}
use Rattle.table.specs.declared.filled.Filled.{Filled}
use Rattle.table.specs.declared.positions.Positions.{Positions}
use Rattle.table.proofs.Numbers.{base_some, code_below, code_digits, on_digits}

module _ {C : Type 0} (S : Measure C) (K : Task) (size : ℕ) where
  -- a cell of the columns up to `left` is among their first cells
  early : (left l code : ℕ) → l ≤ left → code < size → l * size + code < (left + 1) * size
  early left l code k h =
      let s : size ≤ size = omega arith in
      let a : l * size ≤ left * size = mul-le-mul k s in
      let b = add-mul left 1 size in
      omega arith

  pub columns_front : (left : ℕ) (cells : List (Option C)) → Columns S K left size cells → Columns S K left size (take ((left + 1) * size) cells)
  columns_front left cells H l code k h = get_or-take ((left + 1) * size) cells (l * size + code) None (early left l code k h) ∙ H l code k h

  -- one column more
  pub columns_more : (left : ℕ) (done column after : List (Option C)) → length done ≡ (left + 1) * size → length column ≡ size
      → Columns S K left size done → Column S K (left + 1) size column → Columns S K (left + 1) size (done ++ (column ++ after))
  columns_more left done column after e f H G l code k h =
      ⊎_elim
      (λ u. get_or_append_left done (column ++ after) None (l * size + code) (let v = early left l code (omega arith) h in omega arith) ∙ H l code (omega arith) h)
      (λ u. let q : l ≡ left + 1 = omega arith in
      let p : (left + 1) * size + code ≡ length done + code = omega arith in
      subst (λ z. get_or (done ++ (column ++ after)) (z * size + code) None ≡ due S K z code) (sym q)
      (ap (λ z. get_or (done ++ (column ++ after)) z None) p ∙ get_or-append-add done (column ++ after) code None ∙ get_or_append_left column after None code (omega arith) ∙ G code h))
      (cases_lt l (left + 1))

module _ {C : Type 0} (S : Measure C) (K : Task) where
  -- the rest from where no train has moved is what is due
  pub due_next : (left i : ℕ) (at : List ℕ) → 1 ≤ K.trains → take K.trains at ≡ digits K.sections K.trains i
      → rest S (process S K) (todo K left 0) (joint K (begun left at)) ≡ due S K (left + 1) i
  due_next left i at k e =
      ap₂ (λ n u. rest S (process S K) n u) (todo_begun K left) (joint_begun K left at k) ∙ ap (λ w. rest S (process S K) (K.trains * (left + 1)) (record { at = w; to = [] })) e

  -- the last time: nothing is left to pay where all are home
  pub home_due : (i : ℕ) (at : List ℕ) (b : Bool) → take K.trains at ≡ digits K.sections K.trains i → b ≡ home K (take K.trains at)
      → cond b (Some S.nothing) None ≡ due S K 0 i
  unfolding rest process
  home_due i at b e h =
      let z : K.trains * 0 ≡ 0 = mul-zero K.trains in
      let f : b ≡ home K (digits K.sections K.trains i) = h ∙ ap (home K) e in
      rw z (ap (λ q. cond q (Some S.nothing) None) f)

module _ {A B : Type 0} (conflicts : B → Layout → Conflicts) where
  within_once : {C : Type 0} (f : Filled A B C) (left : ℕ) (at : List ℕ) (a b : Within f left at) → a ≡ b
  within_once f left at = Prim.hlevel props

  -- a worksheet that is filled knows the costs of the rest
  pub filled_tells : {C : Type 0} (S : Measure C) (f : Filled A B C) (most : ℕ) → most * f.positions.now.count + f.positions.now.count ≤ length f.cells.now
      → Columns S (task conflicts f.positions.now.group.now.board) most f.positions.now.count f.cells.now → Tells S (task conflicts f.positions.now.group.now.board) most (Within f) (cell_at f)
  filled_tells S f most room H = record {
    knows = record {
      may_be_asked = λ left at h l o. record {
        room = (let m : left * f.positions.now.count ≤ most * f.positions.now.count = mul-le-mul h size_self in omega arith);
        inside = o;
      };
      least_of_the_rest = λ left at h l o.
          H left (code_of K.sections K.trains at) h (subst (λ z. code_of K.sections K.trains at < z) (sym f.positions.now.all) (code_below K.sections at K.trains o))
          ∙ ap (λ w. rest S (process S K) (K.trains * left) (record { at = w; to = [] })) (code_digits K.sections at K.trains l o);
    };
    once = λ left at a b. within_once f left at a b;
  }
    where
      K : Task
      K = task conflicts f.positions.now.group.now.board

      size_self : f.positions.now.count ≤ f.positions.now.count
      size_self = omega arith

  pub ready_start : (p : Positions A B) (left code : ℕ) (at : List ℕ) → code < p.count → take p.group.now.board.trains at ≡ digits (sections_of p.group.now.board.layout.now) p.group.now.board.trains code
      → Ready (task conflicts p.group.now.board) left (begun left at)
  ready_start p left code at h e = record {
    known = omega arith;
    in_group = omega arith;
    at_inside = λ i l. on_digits (sections_of p.group.now.board.layout.now) p.group.now.board.trains code at (base_some (sections_of p.group.now.board.layout.now) p.group.now.board.trains p.count code p.all h (omega arith)) e i l;
    to_inside = λ i l. absurd (omega arith);
  }
