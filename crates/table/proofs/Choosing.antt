-- The search of one joint step: a turn of its loop, its end and its last train.
use Rattle.std.proofs.Common.{◌≡◌, ℕ, ◌+◌, ◌<◌, ◌≤◌, Bool, true, false, cond, List, length, get_or, take, set, Some, None, Option, sym, refl, ap, subst, ◌∙◌, arith, length-set, length-take-le, get_or-take}
use Rattle.std.proofs.lemmas.Bool.{and_left}
use Rattle.std.proofs.lemmas.List.Edits.{fill_by_more}
use Rattle.track.specs.Layouts.{sections_of}
use Rattle.track.specs.declared.layout.Layout.{Layout}
use Rattle.rules.specs.Conflicts.{Conflicts}
use Rattle.scales.specs.Measure.{Measure, MeasureLaws}
use Rattle.scales.specs.Runs.{FirstLeast}
use Rattle.words.specs.Words.{with, rest}
use Rattle.words.specs.Joint.{Task, may_move, move_price, process}
use Rattle.words.specs.Turns.{after, todo, joint, move_cost}
use Rattle.words.specs.declared.turn.Turn.{Turn}
use Rattle.words.proofs.Turns.{todo_is, joint_is, move_cost_is}
use Rattle.words.specs.Tasks.{task}
use Rattle.words.specs.declared.board.Board.{Board}
use Rattle.table.specs.Candidates.{Candidates, reached}
use Rattle.table.specs.Steps.{Picked}
use Rattle.table.proofs.Tryings.{pick_at, tried_cost, tried_moves}

-- the cells of the first i candidates are filled
pub record Filling {C : Type 0} (S : Measure C) (K : Task) (t : Turn) (xs : List ℕ) (i : ℕ) (run : List (Option C)) : Type 0 where
  pub long : length run ≡ 33
  pub filled : (p : ℕ) → p < i → get_or run p None ≡ move_cost S K t (get_or xs p 0)

-- the cell of one candidate more
pub filled_more : {C : Type 0} (S : Measure C) (K : Task) (t : Turn) (xs : List ℕ) (i : ℕ) (run : List (Option C)) (o : Option C)
    → Filling S K t xs i run → i < 33 → o ≡ move_cost S K t (get_or xs i 0) → Filling S K t xs (i + 1) (set run i o)
filled_more S K t xs i run o F h e = record {
  long = length-set run i o ∙ F.long;
  filled = rw e (fill_by_more (λ p. move_cost S K t (get_or xs p 0)) run i None (omega (arith, F.long)) F.filled);
}

-- the first of the least, of cells that are the same
least_same : {C : Type 0} (S : Measure C) (n m : ℕ) (f g : ℕ → Option C) (r : Option (ℕ × C)) → m ≡ n → ((i : ℕ) → i < n → f i ≡ g i) → FirstLeast S m f r → FirstLeast S n g r
least_same S n m f g None e h F = λ i l. sym (h i l) ∙ F i (omega arith)
least_same S n m f g (Some p) e h F = record {
  within = omega (arith, F.within);
  here = sym (h p.0 (omega (arith, F.within))) ∙ F.here;
  earlier = λ i d l q. F.earlier i d l (h i (omega (arith, F.within)) ∙ q);
  every = λ i d l q. F.every i d (omega arith) (h i l ∙ q);
}

module _ {C : Type 0} (S : Measure C) (K : Task) (t : Turn) (jk : t.moved < K.trains) (ka : K.trains ≤ length t.at) (kt : K.trains ≤ length t.to) where
  abbrev row : ℕ → Option C
  row = move_cost S K t

  -- what is left after a move to x
  abbrev after_move : ℕ → Option C
  after_move x = rest S (process S K) (todo K t.left (t.moved + 1)) (joint K (after t x))

  -- a section that is not open has no cost
  row_shut : (x : ℕ) → K.opens (get_or t.at t.moved 0) x ≡ false → row x ≡ None
  row_shut x e = move_cost_is K t jk kt S x ∙ ap (λ m. cond m (with S (move_price S K t.at t.moved x) (after_move x)) None) (and_left _ _ e)

  -- the cell of a move that is allowed
  pub row_move : (x : ℕ) (o : Option C) → may_move K t.at t.to t.moved x ≡ true → o ≡ after_move x → with S (move_price S K t.at t.moved x) o ≡ row x
  row_move x o e eo =
      ap (with S (move_price S K t.at t.moved x)) eo
      ∙ sym (move_cost_is K t jk kt S x ∙ ap (λ m. cond m (with S (move_price S K t.at t.moved x) (after_move x)) None) e)

  pub row_none : (x : ℕ) → may_move K t.at t.to t.moved x ≡ false → None ≡ row x
  row_none x e = sym (move_cost_is K t jk kt S x ∙ ap (λ m. cond m (with S (move_price S K t.at t.moved x) (after_move x)) None) e)

  -- the first of the least of the cells is the best move
  pub picked_all : (L : MeasureLaws S) (reach : ℕ → Bool) → ((x : ℕ) → reach x ≡ false → K.opens (get_or t.at t.moved 0) x ≡ false) → (xs : List ℕ) (run part : List (Option C)) (found : Option (ℕ × C)) → Candidates K.sections reach xs
      → Filling S K t xs (length xs) run → part ≡ take (length xs) run → FirstLeast S (length part) (λ i. get_or part i None) found → Picked S K t (pick_at xs found)
  unfolding rest process
  picked_all L reach wide xs run part found T F p W =
      let u = joint_is K t jk kt in
      let m = todo_is K t jk kt in
      let n : length part ≡ length xs = ap length p ∙ length-take-le (length xs) run (omega (arith, F.long, T.few)) in
      let A = least_same S (length xs) (length part) (λ i. get_or part i None) (λ i. row (get_or xs i 0)) found n (λ i h. ap (λ z. get_or z i None) p ∙ get_or-take (length xs) run i None h ∙ F.filled i h) W in
      record {
        cost = rw (u, m) (tried_cost S L K.sections reach xs T row (λ x e. row_shut x (wide x e)) found A);
        goes = tried_moves S L K.sections reach xs T row (λ x e. row_shut x (wide x e)) found A;
      }

-- the first of the least of the cells of all the tries is the best move on a board
pub picked_on : {P R C : Type 0} (conflicts : R → Layout → Conflicts) (b : Board P R) (S : Measure C) (L : MeasureLaws S) (t : Turn)
    → t.moved < b.trains → b.trains ≤ length t.at → b.trains ≤ length t.to → (tries xs : List ℕ) (run : List (Option C)) (i : ℕ) (found : Option (ℕ × C))
    → Candidates (sections_of b.layout.now) (reached b.layout.now (get_or t.at t.moved 0)) tries → xs ≡ tries → Filling S (task conflicts b) t xs i run → i ≡ length xs
    → FirstLeast S (length (take (length xs) run)) (λ k. get_or (take (length xs) run) k None) found → Picked S (task conflicts b) t (pick_at xs found)
picked_on conflicts b S L t jk ka kt tries xs run i found T x F e W =
    picked_all S (task conflicts b) t jk ka kt L (reached b.layout.now (get_or t.at t.moved 0)) (λ y h. and_left _ _ h) xs run (take (length xs) run) found
    (subst (Candidates (sections_of b.layout.now) (reached b.layout.now (get_or t.at t.moved 0))) (sym x) T) (rw e at F) refl W
