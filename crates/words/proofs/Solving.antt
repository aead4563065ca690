-- From the least cost and the first word of a group's task to its best sheet.
use Rattle.std.proofs.Common.{◌≡◌, ℕ, suc, ◌+◌, ◌*◌, ◌<◌, ◌≤◌, List, [], length, get_or, take, drop, Some, None, sym, ap, ◌∙◌, subst, ap₂, mul-le-mul, mul-zero, mul-suc, add-one, arith, length-take-le, get_or-take}
use Rattle.track.specs.Layouts.{sections_of}
use Rattle.track.specs.declared.layout.Layout.{Layout}
use Rattle.roster.specs.Model.{rows_of, start_at, goal_at}
use Rattle.roster.proofs.Laws.{rows_most}
use Rattle.rules.specs.Conflicts.{Conflicts, RuleLaws}
use Rattle.scales.specs.Measure.{Measure, MeasureLaws}
use Rattle.sheets.specs.Problem.{Problem, ProblemLaws, Group, Member, count}
use Rattle.sheets.specs.Plan.{Plan, Without}
use Rattle.sheets.specs.Inquiry.{inquiry, problem_of, plan_of}
use Rattle.sheets.specs.declared.question.Question.{Question}
use Rattle.sheets.specs.declared.sheet.Sheet.{Sheet}
use Rattle.sheets.proofs.Posed.{sound, laws_of, posed_of}
use Rattle.search.specs.Answers.{Solved}
use Rattle.words.specs.Words.{Process, rest, best, BestWord}
use Rattle.words.specs.Joint.{Task, Joint, process}
use Rattle.words.specs.Bridge.{Picks, Bridged, task_of_problem, alone, seen, group_process, group_start, group_word}
use Rattle.words.specs.Gathering.{Gathered}
use Rattle.words.specs.Tasks.{task_of, begin, Solution}
use Rattle.words.specs.Rows.{row_of, group_of, ChosenTo, Rows, Written, planned}
use Rattle.words.specs.declared.chosen.Chosen.{Chosen}
use Rattle.words.specs.declared.found.Found.{Found}
use Rattle.words.proofs.BestWords.{answers}
use Rattle.words.proofs.Prices.{runs_few, price_size}
use Rattle.words.proofs.Bridges.{bridge}
use Rattle.words.proofs.Gathering.{gathered_picks, take_counted}
use Rattle.words.proofs.Reading.{sheet_read}

module _ (conflicts : Layout → Conflicts) (q : Question) (c : Chosen) (H : ChosenTo q (rows_of q.roster.now) c) where
  abbrev Q : Problem
  Q = problem_of (conflicts q.layout.now) q.layout.now q.roster.now q.steps

  abbrev G : Group
  G = group_of q

  gathered : Gathered Q G c.trains (row_of c)
  gathered = record {
    size = H.size;
    member = λ i h. record { a_row = H.below i h; of_group = H.of_group i h };
    place = H.place;
  }

  picks : Picks Q G c.trains (row_of c) (λ r. count r G)
  picks = gathered_picks G Q c.trains (row_of c) gathered (omega (arith, (sound q).someone, H.size))

  pub trains_some : 1 ≤ c.trains
  trains_some = picks.some

  pub trains_most : c.trains ≤ 8
  trains_most = omega (arith, H.few, rows_most q.roster.now)

  -- the trains start on the layout
  pub starts_on : (i : ℕ) → i < c.trains → get_or c.start i 0 < sections_of q.layout.now
  starts_on i h = rw (H.starts i h) ((posed_of (conflicts q.layout.now) q).start_inside (row_of c i) (H.below i h))

  pub rows : Rows c
  rows = record {
    few = trains_most;
    inside = λ i h. omega (arith, H.below i h, rows_most q.roster.now);
    apart = λ i j hi hj e. sym (H.place i hi) ∙ ap (λ r. count r G) e ∙ H.place j hj;
  }

  abbrev pub task : Task
  task = task_of (conflicts q.layout.now) q.layout.now q.roster.now c.trains c.goal

  task_is : task ≡ task_of_problem (alone Q c.trains (row_of c))
  task_is =
      ap (λ g. record { sections = sections_of q.layout.now; trains = c.trains; opens = task.opens; points = task.points; conflicts = conflicts q.layout.now; goal = g })
      (take_counted c.goal c.trains (λ i. goal_at q.roster.now (row_of c i)) (omega (arith, H.goal_long, trains_most)) H.goals)

  -- the word has at most 128 letters
  pub letters_most : c.trains * q.steps ≤ 128
  letters_most = let m : c.trains * q.steps ≤ 8 * 16 = mul-le-mul trains_most (sound q).steps_most in omega arith

  abbrev full : ℕ
  full = c.trains * q.steps

  module _ {C : Type 0} (S : Measure C) (L : MeasureLaws S) (R : RuleLaws (conflicts q.layout.now)) where
    laws : ProblemLaws Q
    laws = laws_of (conflicts q.layout.now) R q

    bridged : Bridged S Q G c.trains (row_of c) (λ r. count r G)
    bridged = bridge S L Q laws (posed_of (conflicts q.layout.now) q) G c.trains (row_of c) (λ r. count r G) picks

    begins : begin task c.start ≡ group_start Q c.trains (row_of c)
    begins = ap (λ w. record { at = w; to = [] }) (take_counted c.start c.trains (λ i. start_at q.roster.now (row_of c i)) (omega (arith, H.start_long, trains_most)) H.starts)

    abbrev moving : Process Joint C
    moving = group_process S Q c.trains (row_of c)

    abbrev from : Joint
    from = group_start Q c.trains (row_of c)

    rest_is : rest S (process S task) full (begin task c.start) ≡ rest S moving full from
    rest_is = ap₂ (λ K u. rest S (process S K) full u) task_is begins

    best_is : best S (process S task) full (begin task c.start) ≡ best S moving full from
    best_is = ap₂ (λ K u. best S (process S K) full u) task_is begins

    few : 16 * full ≤ 65535
    few = omega (arith, letters_most)

    prices : (s : Joint) (x : ℕ) → S.size (moving.price s x) ≤ 16
    prices = price_size S L (task_of_problem (alone Q c.trains (row_of c))) (runs_few (alone Q c.trains (row_of c)) laws.points_most)

    -- the word of a sheet that has the plan
    word_is : (plan : List ℕ) (x : Plan) → length plan ≡ 128 → ((t j : ℕ) → t < q.steps → j < c.trains → x (row_of c j) (t + 1) ≡ get_or plan (c.trains * t + j) 0)
        → group_word Q c.trains (row_of c) x ≡ take full plan
    word_is plan x l h =
        sheet_read (take full plan) (seen (row_of c) x) c.trains q.steps
        (λ t i a b. h t i a b ∙ sym (get_or-take full plan (c.trains * t + i) 0 (inside t i a b)))
        (length-take-le full plan (omega (arith, letters_most)))
        q.steps 0 (omega arith)
        ∙ ap (λ u. drop u (take full plan)) (mul-zero c.trains)
      where
        inside : (t i : ℕ) → t < q.steps → i < c.trains → c.trains * t + i < full
        inside t i a b =
            let k : c.trains ≤ c.trains = omega arith in
            let m : c.trains * suc t ≤ full = mul-le-mul k a in
            let v = mul-suc c.trains t in
            omega arith

    -- where the search found nothing, no sheet is lawful
    pub none_lawful : Solution S task q.steps c.start None → Without Q G
    none_lawful W = bridged.none_lawful ((answers S L moving prices full from few).none (sym (W.cost ∙ rest_is)))

    -- the plan that was found, once written, is the best sheet
    pub solved_by : (f : Found C) (old new : Sheet) → Solution S task q.steps c.start (Some f) → Written c f.plan q.steps c.trains old new
        → Solved (inquiry conflicts S q) old new f.cost
    unfolding planned
    solved_by f old new F W =
        let b = (answers S L moving prices full from few).found f.cost (sym (F.cost ∙ rest_is)) in
        let w : best S moving full from ≡ group_word Q c.trains (row_of c) (plan_of new) = sym (word_is f.plan (plan_of new) F.long cells ∙ F.goes ∙ best_is) in
        let z = bridged.best_of_word (plan_of new) f.cost starts (subst (λ v. BestWord S moving full from v f.cost) w b) in
        record { best = z.0; costs = z.1; others = λ r t h. W.others r t (λ i hi e l. h (subst (Member Q G) e (gathered.member i hi)) l) }
      where
        starts : (r : ℕ) → Member Q G r → plan_of new r 0 ≡ Q.start r
        starts r m =
            let l = picks.within r m in
            let e : row_of c (count r G) ≡ r = picks.back r m in
            subst (λ z. plan_of new z 0 ≡ start_at q.roster.now z) e (W.here (count r G) 0 l (omega arith) ∙ H.starts (count r G) l)

        cells : (t j : ℕ) → t < q.steps → j < c.trains → plan_of new (row_of c j) (t + 1) ≡ get_or f.plan (c.trains * t + j) 0
        cells t j a b = W.here j (t + 1) b (omega arith) ∙ ap (planned (get_or c.start j 0) f.plan c.trains j) (add-one t)
