-- A call that changes the roster: the book answers it, and the planner is left with the roster alone changed.
use Rattle.std.proofs.Common.{◌≡◌, ℕ, true, List, Ok, Err, Option, Result, sym, refl, ap, ◌∙◌, subst}
use Rattle.std.proofs.Math.Bool.{Bool-set}
use Rattle.track.specs.Layouts.{sections_of}
use Rattle.track.specs.Refusals.{granted, refused_by, unless, AsItWas}
use Rattle.track.specs.declared.layout.Layout.{Layout}
use Rattle.track.specs.declared.refusal.Refusal.{Refusal}
use Rattle.roster.specs.declared.roster.Roster.{Roster}
use Rattle.roster.specs.Book.{Call, Book, after, changed}
use Rattle.roster.specs.Model.{seen, held}
use Rattle.roster.specs.Trains.{on_layout}
use Rattle.sheets.specs.declared.sheet.Sheet.{Sheet}
use Rattle.grouping.specs.declared.grouping.Grouping.{Grouping}
use Rattle.planner.specs.declared.planner.Planner.{Planner}
use Rattle.planner.specs.Inside.{ClosedInside}
use Rattle.planner.specs.Promise.{Reply, accepted, unless_declined, FromBook}
use Rattle.planner.specs.History.{Meaning, setting_of, judged, says_done}
use Rattle.planner.specs.Left.{NothingChangesIf}
use Rattle.planner.proofs.Closed.{within_after}
use Rattle.planner.proofs.Placed.{on_after}

done_left : {A : Type 0} (r : Result A Refusal) (new old : Book) → granted r new old ≡ unless (refused_by r) new old
done_left (Ok u) new old = refl
done_left (Err e) new old = refl

pub done_says : {C : Type 0} (r : Result (Unit {0}) Refusal) → ◌≡◌ {A = Reply C} (says_done r) (unless_declined (refused_by r) accepted)
done_says (Ok u) = refl
done_says (Err e) = refl

placed_prop : (n : ℕ) (o : Roster) → IsProp (on_layout n (held o) ≡ true)
placed_prop n o = hlevel Bool-set

inside_prop : (n : ℕ) (o : Roster) → IsProp (ClosedInside n (seen o))
inside_prop n o = hlevel Bool-set

-- planners with the same parts are the same
pub same_planner : {R S Q : Type 0} (p q : Planner R S Q)
    → q.layout ≡ p.layout → q.rule ≡ p.rule → q.scale ≡ p.scale → q.search ≡ p.search → q.roster ≡ p.roster → q ≡ p
same_planner {R} {S} {Q} p q a b c d e =
    subst F way (λ x y. (λ i. record {
      layout = p.layout;
      rule = p.rule;
      scale = p.scale;
      search = p.search;
      roster = p.roster;
      placed = placed_prop (sections_of p.layout) p.roster x p.placed i;
      closed_inside = inside_prop (sections_of p.layout) p.roster y p.closed_inside i;
    })) q.placed q.closed_inside
  where
    F : Layout × R × S × Grouping Q × Roster → Type 0
    F z =
        (x : on_layout (sections_of z.0) (held z.4) ≡ true) (y : ClosedInside (sections_of z.0) (seen z.4))
        → ◌≡◌ {A = Planner R S Q} (record { layout = z.0; rule = z.1; scale = z.2; search = z.3; roster = z.4; placed = x; closed_inside = y }) p

    way : ◌≡◌ {A = Layout × R × S × Grouping Q × Roster} (p.layout, p.rule, p.scale, p.search, p.roster) (q.layout, q.rule, q.scale, q.search, q.roster)
    way = λ i. (sym a i, sym b i, sym c i, sym d i, sym e i)

module _ {R S Q C : Type 0} (k : Meaning R S Q C) where
  -- the call c on p is answered with r, and leaves the roster o
  module _ (p : Planner R S Q) (c : Call) {A : Type 0} (r : Result A Refusal) (right : refused_by r ≡ judged p c)
      (o : Roster) (left : seen o ≡ granted r (changed (seen p.roster) c) (seen p.roster)) where
    pub book_after : seen o ≡ after (sections_of p.layout) (seen p.roster) c
    book_after = left ∙ done_left r _ _ ∙ ap (λ (z : Option ℕ). unless z (changed (seen p.roster) c) (seen p.roster)) right

    pub still_placed : on_layout (sections_of p.layout) (held o) ≡ true
    still_placed =
        ap (λ (b : Book). on_layout (sections_of p.layout) b.trains) book_after
        ∙ on_after (sections_of p.layout) (seen p.roster) c p.placed

    pub still_inside : ClosedInside (sections_of p.layout) (seen o)
    still_inside = subst (ClosedInside (sections_of p.layout)) (sym book_after) (within_after (sections_of p.layout) (seen p.roster) c p.closed_inside)

    pub from_book : (given reply : Reply C) → reply ≡ unless_declined (refused_by r) given → (s : Sheet)
        → FromBook (setting_of k p) (seen p.roster) c given reply s s
    from_book given reply says s = (says ∙ ap (λ (z : Option ℕ). unless_declined z given) right, refl)

-- a declined call leaves the planner as it was, where it leaves the roster
pub planner_as_it_was : {R S Q A : Type 0} (p q : Planner R S Q) (r : Result A Refusal)
    → q.layout ≡ p.layout → q.rule ≡ p.rule → q.scale ≡ p.scale → q.search ≡ p.search → AsItWas r p.roster q.roster → AsItWas r p q
planner_as_it_was p q (Ok a) l m n o h = tt
planner_as_it_was p q (Err e) l m n o h = same_planner p q l m n o h

-- and so it is where the book declines it
pub nothing_changes : {R S Q A B : Type 0} (p q : Planner R S Q) (c : Call) (r : Result A Refusal) → refused_by r ≡ judged p c → AsItWas r p q
    → (cells : List B) (s : Sheet) → NothingChangesIf (judged p c) p q cells cells s s
nothing_changes {A = A} p q c r e h cells s = subst (λ o. NothingChangesIf o p q cells cells s s) e (go r h)
  where
    go : (x : Result A Refusal) → AsItWas x p q → NothingChangesIf (refused_by x) p q cells cells s s
    go (Ok a) h = tt
    go (Err f) h = record { planner = h; cells = refl; sheet = refl }
