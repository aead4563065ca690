-- One call more: its reply is kept, and the planner that it leaves stands.
use Rattle.std.proofs.Common.{◌≡◌, ℕ, ◌⊎◌, List, [], ◌∷◌, ◌++◌, length, Some, None, Option, sym, refl, ap, ◌∙◌, subst, inl, inr, append_assoc, append-nil}
use Rattle.track.specs.Layouts.{sections_of}
use Rattle.track.specs.Refusals.{unless}
use Rattle.track.specs.declared.layout.Layout.{Layout}
use Rattle.rules.specs.Conflicts.{Conflicts}
use Rattle.scales.specs.Measure.{Measure}
use Rattle.roster.specs.Book.{Call, enter, withdraw, possess, give_up, plan, ask, how_many, lowest, Book, book_of, book_from, after, empty}
use Rattle.roster.specs.Book.{declined as refusal}
use Rattle.roster.specs.Model.{seen}
use Rattle.sheets.specs.Inquiry.{Inquiry}
use Rattle.sheets.specs.Plan.{Without}
use Rattle.sheets.specs.Theorems.{Same}
use Rattle.sheets.specs.declared.sheet.Sheet.{Sheet}
use Rattle.groups.specs.Course.{Outcome, beyond, none}
use Rattle.groups.proofs.Moved.{whole_moved}
use Rattle.grouping.specs.Ends.{about}
use Rattle.planner.specs.declared.planner.Planner.{Planner}
use Rattle.sheets.specs.Posing.{all_trains}
use Rattle.planner.specs.Promise.{Setting, Reply, accepted, declined, noted, are_closed, planned, setting, problem, asked, GroupingEnds, SheetOrNone, PlanKept, Kept}
use Rattle.planner.specs.History.{Meaning, setting_of, Stands, Event, Step, Run, calls_of, AllKept, EveryRunKeepsAllReplies, GoesOn}
use Rattle.planner.specs.Left.{OnlyTheRosterChanges, PlannerLeft}

pub book_more : (n : ℕ) (b : Book) (cs : List Call) (c : Call) → book_from n b (cs ++ (c ∷ [])) ≡ after n (book_from n b cs) c
book_more n b [] c = refl
book_more n b (d ∷ cs) c = book_more n (after n b d) cs c

-- what is kept where one search takes just what another takes
module _ {C : Type 0} (l : Layout) (conflicts : Conflicts) (m : Measure C) (t u : Inquiry C → ℕ → Type 0)
    (e : (i : Inquiry C) (n : ℕ) → Same (t i n) (u i n)) (b : Book) (steps cells : ℕ) where
  ends_to : (o : Outcome) → GroupingEnds (setting l conflicts m t) b steps cells o → GroupingEnds (setting l conflicts m u) b steps cells o
  ends_to o h =
      let i = asked (setting l conflicts m t) b steps in
      whole_moved m i.problem i.group (λ F. t (about i F) cells) (λ F. u (about i F) cells) (λ F. e _ cells) o h

  ends_back : (o : Outcome) → GroupingEnds (setting l conflicts m u) b steps cells o → GroupingEnds (setting l conflicts m t) b steps cells o
  ends_back o h =
      let i = asked (setting l conflicts m t) b steps in
      whole_moved m i.problem i.group (λ F. u (about i F) cells) (λ F. t (about i F) cells) (λ F. record { to = (e _ cells).back; back = (e _ cells).to }) o h

  sheet_moved : (old new : Sheet) (reply : Reply C) → SheetOrNone (setting l conflicts m t) b steps cells old new reply
      → SheetOrNone (setting l conflicts m u) b steps cells old new reply
  sheet_moved old new (planned c n) h = record { groups = (h.groups.0, ends_to _ h.groups.1); best = h.best; costs = h.costs; elsewhere = h.elsewhere }
  sheet_moved old new (declined k) h = record { untouched = h.untouched; reason = go h.reason }
    where
      go : ((k ≡ 24) × GroupingEnds (setting l conflicts m t) b steps cells beyond)
          ⊎ ((k ≡ 25) × GroupingEnds (setting l conflicts m t) b steps cells none × Without (problem (setting l conflicts m t) b steps) (all_trains (length b.trains)))
          → ((k ≡ 24) × GroupingEnds (setting l conflicts m u) b steps cells beyond)
          ⊎ ((k ≡ 25) × GroupingEnds (setting l conflicts m u) b steps cells none × Without (problem (setting l conflicts m u) b steps) (all_trains (length b.trains)))
      go (inl z) = inl (z.0, ends_to _ z.1)
      go (inr z) = inr (z.0, ends_to _ z.1, z.2)
  sheet_moved old new accepted h = h
  sheet_moved old new (noted s) h = h
  sheet_moved old new (are_closed k s) h = h

  pub kept_moved : (o : Option ℕ) (reply : Reply C) (old new : Sheet) → PlanKept (setting l conflicts m t) b steps cells o reply old new
      → PlanKept (setting l conflicts m u) b steps cells o reply old new
  kept_moved (Some k) reply old new h = h
  kept_moved None reply old new h =
      record {
        sheet_or_none = sheet_moved old new reply h.sheet_or_none;
        beyond_reach = record { to = λ z. ends_to beyond (h.beyond_reach.to z); back = λ z. h.beyond_reach.back (ends_back beyond z) };
      }

-- so is what is kept of any call
any_kept_moved : {C : Type 0} (l : Layout) (conflicts : Conflicts) (m : Measure C) (t u : Inquiry C → ℕ → Type 0)
    → ((i : Inquiry C) (n : ℕ) → Same (t i n) (u i n)) → (b : Book) (c : Call) (reply : Reply C) (old new : Sheet)
    → Kept (setting l conflicts m t) b c reply old new → Kept (setting l conflicts m u) b c reply old new
any_kept_moved l conflicts m t u e b (enter v s g) reply old new h = h
any_kept_moved l conflicts m t u e b (withdraw v) reply old new h = h
any_kept_moved l conflicts m t u e b (possess s) reply old new h = h
any_kept_moved l conflicts m t u e b (give_up s) reply old new h = h
any_kept_moved l conflicts m t u e b ask reply old new h = h
any_kept_moved l conflicts m t u e b (plan steps cells) reply old new h =
    kept_moved l conflicts m t u e b steps cells (refusal (sections_of l) b (plan steps cells)) reply old new h

module _ {R S Q C : Type 0} (k : Meaning R S Q C) where
  record Moved (p q : Planner R S Q) (c : Call) : Type 0 where
    pub layout : q.layout ≡ p.layout
    pub rule : q.rule ≡ p.rule
    pub scale : q.scale ≡ p.scale
    pub takes : (i : Inquiry C) (n : ℕ) → Same (k.takes q.search.below i n) (k.takes p.search.below i n)
    pub book : seen q.roster ≡ after (sections_of p.layout) (seen p.roster) c

  stands_next : (p q : Planner R S Q) (c : Call) → Moved p q c → (made : Planner R S Q) (calls : List Call) → Stands k made calls p
      → Stands k made (calls ++ (c ∷ [])) q
  stands_next p q c m made calls st =
      let e : after (sections_of p.layout) (seen p.roster) c ≡ after (sections_of made.layout) (book_of (sections_of made.layout) calls) c
      = λ i. after (sections_of (st.layout i)) (st.book i) c in
      record {
        layout = m.layout ∙ st.layout;
        rule = m.rule ∙ st.rule;
        scale = m.scale ∙ st.scale;
        takes = λ i n. record { to = λ h. (st.takes i n).to ((m.takes i n).to h); back = λ h. (m.takes i n).back ((st.takes i n).back h) };
        book = m.book ∙ e ∙ sym (book_more (sections_of made.layout) _ calls c);
      }

  -- a planner with an empty book has an empty history
  pub made_stands : (made : Planner R S Q) → seen made.roster ≡ empty → Stands k made [] made
  made_stands made e = record { layout = refl; rule = refl; scale = refl; takes = λ i n. record { to = λ h. h; back = λ h. h }; book = e }

  unless_same : (o : Option ℕ) (b : Book) → unless o b b ≡ b
  unless_same (Some n) b = refl
  unless_same None b = refl

  roster_moved : (p q : Planner R S Q) (c : Call) → OnlyTheRosterChanges p c q → Moved p q c
  roster_moved p q c h =
      record {
        layout = h.layout;
        rule = h.rule;
        scale = h.scale;
        takes = λ i n. subst (λ z. Same (k.takes z.below i n) (k.takes p.search.below i n)) (sym h.search) (record { to = λ x. x; back = λ x. x });
        book = h.book;
      }

  left_moved : (p q : Planner R S Q) (c : Call) → PlannerLeft k p c q → Moved p q c
  left_moved p q (enter v s g) h = roster_moved p q (enter v s g) h
  left_moved p q (withdraw v) h = roster_moved p q (withdraw v) h
  left_moved p q (possess s) h = roster_moved p q (possess s) h
  left_moved p q (give_up s) h = roster_moved p q (give_up s) h
  left_moved p q ask h =
      subst (λ (z : Planner R S Q). Moved p z ask) (sym h)
      (record { layout = refl; rule = refl; scale = refl; takes = λ i n. record { to = λ x. x; back = λ x. x }; book = refl })
  left_moved p q (plan steps cells) h =
      record {
        layout = h.layout;
        rule = h.rule;
        scale = h.scale;
        takes = h.takes;
        book = ap seen h.roster ∙ sym (unless_same (refusal (sections_of p.layout) (seen p.roster) (plan steps cells)) (seen p.roster));
      }

  -- what is kept by the book at hand is kept by the book of the calls before it
  kept_after : (p : Planner R S Q) (c : Call) (reply : Reply C) (old new : Sheet) → Kept (setting_of k p) (seen p.roster) c reply old new
      → (made : Planner R S Q) (calls : List Call) → Stands k made calls p
      → Kept (setting_of k made) (book_of (sections_of made.layout) calls) c reply old new
  kept_after p c reply old new h made calls st =
      let n = sections_of made.layout in
      let P : Layout × R × S × Book → Type 0 = λ z. Kept (setting z.0 (k.conflicts z.1 z.0) (k.measure z.2) (k.takes p.search.below)) z.3 c reply old new in
      let way : ◌≡◌ {A = Layout × R × S × Book} (p.layout, p.rule, p.scale, seen p.roster) (made.layout, made.rule, made.scale, book_of n calls)
      = λ i. (st.layout i, st.rule i, st.scale i, st.book i) in
      any_kept_moved made.layout (k.conflicts made.rule made.layout) (k.measure made.scale) (k.takes p.search.below) (k.takes made.search.below)
      st.takes (book_of n calls) c reply old new (subst P way h)

  -- a call whose reply is right by the book at hand, and which changes no more than it may, is a step
  pub step_of : (p q : Planner R S Q) (e : Event C) → Kept (setting_of k p) (seen p.roster) e.call e.reply e.before e.afterwards
      → PlannerLeft k p e.call q → Step k p e q
  step_of p q e h l =
      record { kept = kept_after p e.call e.reply e.before e.afterwards h; stands = stands_next p q e.call (left_moved p q e.call l) }

  -- a question
  pub ask_kept : (p : Planner R S Q) (count : ℕ) (low : Option ℕ) (s : Sheet)
      → count ≡ how_many (sections_of p.layout) (seen p.roster).closed → low ≡ lowest (sections_of p.layout) (seen p.roster).closed
      → Kept (setting_of k p) (seen p.roster) ask (are_closed count low) s s
  ask_kept p count low s a b = ((λ i. are_closed (a i) (b i)), refl)

  -- a history goes on
  history_more : (w : Setting C) (calls : List Call) (es : List (Event C)) (e : Event C) → AllKept w calls es
      → Kept w (book_of w.sections (calls ++ calls_of es)) e.call e.reply e.before e.afterwards → AllKept w calls (es ++ (e ∷ []))
  history_more w calls [] e h a =
      (subst (λ (cs : List Call). Kept w (book_of w.sections cs) e.call e.reply e.before e.afterwards) (append-nil calls) a, tt)
  history_more w calls (d ∷ es) e h a = (
    h.0,
    history_more w (calls ++ (d.call ∷ [])) es e h.1
        (subst (λ (cs : List Call). Kept w (book_of w.sections cs) e.call e.reply e.before e.afterwards) (sym (append_assoc calls (d.call ∷ []) (calls_of es))) a),
  )

  calls_more : (es : List (Event C)) (e : Event C) → calls_of (es ++ (e ∷ [])) ≡ calls_of es ++ (e.call ∷ [])
  calls_more [] e = refl
  calls_more (d ∷ es) e = ap (λ (cs : List Call). d.call ∷ cs) (calls_more es e)

  pub history_next : (p q : Planner R S Q) (e : Event C) → Step k p e q → GoesOn k p e q
  history_next p q e s made es h =
      record {
        stands = subst (λ (cs : List Call). Stands k made cs q) (sym (calls_more es e)) (s.stands made (calls_of es) h.stands);
        kept = history_more (setting_of k made) [] es e h.kept (s.kept made (calls_of es) h.stands);
      }

  -- a run keeps all its replies
  run_kept : {p last : Planner R S Q} {es : List (Event C)} (made : Planner R S Q) (calls : List Call) → Stands k made calls p → Run k p es last
      → AllKept (setting_of k made) calls es
  run_kept made calls st Run.rest = tt
  run_kept made calls st (Run.next e s r) = (s.kept made calls st, run_kept made (calls ++ (e.call ∷ [])) (s.stands made calls st) r)

  pub every_run_keeps_all_replies : (made : Planner R S Q) → Stands k made [] made → EveryRunKeepsAllReplies k made
  every_run_keeps_all_replies made st last es r = run_kept made [] st r
