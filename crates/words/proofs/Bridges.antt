-- Sheets of a group and words of its process: the same laws, costs, order and best.
use Rattle.std.proofs.Common.{◌≡◌, ℕ, zero, suc, ◌+◌, ◌*◌, ◌<◌, List, get_or, drop, sym, refl, ap, ◌∙◌, subst, inl, inr, mul-zero, add-one, arith}
use Rattle.scales.specs.Measure.{Measure, MeasureLaws}
use Rattle.sheets.specs.Problem.{Problem, ProblemLaws, Posed, Group}
use Rattle.sheets.specs.Plan.{Plan, Lawful, Before, SameOn, Wins, cost}
use Rattle.words.specs.Words.{Run, spent, Ahead, Beats}
use Rattle.words.specs.Bridge.{Picks, alone, seen, Starts, group_process, group_start, group_word, Bridged, Bridge}
use Rattle.words.proofs.Runs.{lawful_run, run_lawful}
use Rattle.words.proofs.Spends.{spent_cost}
use Rattle.words.proofs.Orders.{gap_of, gap_ahead, sheet_equal, sheet_split}
use Rattle.words.proofs.Picked.{place_row, laws_alone, posed_alone, lawful_alone, alone_lawful, gap_before, before_gap, cost_alone}
use Rattle.words.proofs.Reading.{run_length, sheet_of, sheet_read}

module _ {C : Type 0} (S : Measure C) (L : MeasureLaws S) (Q : Problem) (M : ProblemLaws Q) (D : Posed Q) (G : Group) (k : ℕ) (row place : ℕ → ℕ) (P : Picks Q G k row place) where
  abbrev Ok : List ℕ → Type 0
  Ok w = Run (group_process S Q k row) (k * Q.steps) (group_start Q k row) w

  abbrev word : Plan → List ℕ
  word = group_word Q k row

  abbrev paid : List ℕ → C
  paid = spent S (group_process S Q k row) (group_start Q k row)

  at_start : (x : Plan) → Starts Q G x → (i : ℕ) → i < k → seen row x i 0 ≡ Q.start (row i)
  at_start x s i h = s (row i) (P.member i h)

  lawful_runs : (x : Plan) → Lawful Q G x → Ok (word x)
  lawful_runs x H = lawful_run (alone Q k row) (seen row x) S P.some (lawful_alone Q G k row place P x H)

  runs_lawful : (x : Plan) → Starts Q G x → Ok (word x) → Lawful Q G x
  runs_lawful x s R =
      alone_lawful Q G k row place P x
      (run_lawful (alone Q k row) (seen row x) S P.some (laws_alone Q G k row place P M) (posed_alone Q G k row place P D) (at_start x s) R)

  spends : (x : Plan) → Starts Q G x → paid (word x) ≡ cost S Q G x
  spends x s =
      spent_cost S L (alone Q k row) (laws_alone Q G k row place P M) (seen row x) P.some (at_start x s)
      ∙ sym (cost_alone Q G k row place P S L M x)

  ahead_before : (x y : Plan) → Starts Q G x → Starts Q G y → Ahead (word x) (word y) → Before Q G x y
  ahead_before x y sx sy a = gap_before Q G k row place P x y sx sy (gap_of (seen row x) (seen row y) k Q.steps 0 a)

  before_ahead : (x y : Plan) → Starts Q G x → Starts Q G y → Before Q G x y → Ahead (word x) (word y)
  before_ahead x y sx sy b = gap_ahead (seen row x) (seen row y) k Q.steps 0 (before_gap Q G k row place P x y sx sy b)

  word_same : (x y : Plan) → Starts Q G x → Starts Q G y → word x ≡ word y → SameOn Q G x y
  word_same x y sx sy e r zero m h = sx r m ∙ sym (sy r m)
  word_same x y sx sy e r (suc t) m h =
      subst (λ z. x z (suc t) ≡ y z (suc t)) (P.back r m)
      (sheet_split (seen row x) (seen row y) k Q.steps 0 e (suc t) (place r) (omega arith) (omega arith) (P.within r m))

  same_word : (x y : Plan) → SameOn Q G x y → word x ≡ word y
  same_word x y s = sheet_equal (seen row x) (seen row y) k Q.steps 0 (λ u i a b h. s (row i) u (P.member i h) (omega arith))

  written : (v : List ℕ) → Ok v → (x : Plan) × Starts Q G x × (word x ≡ v)
  written v R =
      let x = sheet_of Q.start place k v in
      let z : k * 0 ≡ 0 = mul-zero k in (
        x,
        (λ r m. refl),
        sheet_read v (seen row x) k Q.steps
            (λ t i b h. ap (λ u. x (row i) u) (add-one t) ∙ ap (λ p. get_or v (k * t + p) 0) (place_row Q G k row place P i h))
            (run_length (group_process S Q k row) (k * Q.steps) (group_start Q k row) v R) Q.steps 0 (omega arith)
            ∙ ap (λ u. drop u v) z,
      )

  wins : (x y : Plan) → Starts Q G x → Starts Q G y → Beats S (group_process S Q k row) (group_start Q k row) (word x) (word y) → Wins S Q G x y
  wins x y sx sy (inl e) = inl (word_same x y sx sy e)
  wins x y sx sy (inr (inl l)) = inr (inl (rw (spends x sx, spends y sy) at l))
  wins x y sx sy (inr (inr (e, a))) = inr (inr (sym (spends x sx) ∙ e ∙ spends y sy, ahead_before x y sx sy a))

  beats : (x y : Plan) → Starts Q G x → Starts Q G y → Wins S Q G x y → Beats S (group_process S Q k row) (group_start Q k row) (word x) (word y)
  beats x y sx sy (inl e) = inl (same_word x y e)
  beats x y sx sy (inr (inl l)) = inr (inl (rw (spends x sx, spends y sy) l))
  beats x y sx sy (inr (inr (e, a))) = inr (inr (spends x sx ∙ e ∙ sym (spends y sy), before_ahead x y sx sy a))

  pub bridged : Bridged S Q G k row place
  bridged = record {
    lawful_runs = lawful_runs;
    runs_lawful = runs_lawful;
    spends = spends;
    ahead_before = ahead_before;
    before_ahead = before_ahead;
    word_same = word_same;
    same_word = same_word;
    written = written;
    best_of_word = λ x c s B. (
      record { lawful = runs_lawful x s B.runs; wins = λ y H. wins x y s H.starts (B.beats (word y) (lawful_runs y H)) },
      sym (spends x s) ∙ B.costs,
    );
    word_of_best = λ x B. record {
      runs = lawful_runs x B.lawful;
      costs = spends x B.lawful.starts;
      beats = λ v R. (let w = written v R in
          subst (Beats S (group_process S Q k row) (group_start Q k row) (word x)) w.2
          (beats x w.0 B.lawful.starts w.1 (B.wins w.0 (runs_lawful w.0 w.1 (subst Ok (sym w.2) R)))));
    };
    none_lawful = λ n x H. n (word x) (lawful_runs x H);
    none_runs = λ n v R. (let w = written v R in n w.0 (runs_lawful w.0 w.1 (subst Ok (sym w.2) R)));
  }

pub bridge : {C : Type 0} (S : Measure C) → MeasureLaws S → Bridge S
bridge S L Q M D G k row place P = bridged S L Q M D G k row place P
