-- What each answer of the search below does to the course.
use Rattle.std.specs.Prelude.{◌≡◌, ℕ, ◌+◌, ◌<◌, true, false, ◌≢◌, Ok, Err, Result, refl}
use Rattle.std.proofs.Common.{sym, ◌∙◌, ap, subst, arith, add-one}
use Rattle.std.proofs.lemmas.Bool.{both_ways}
use Rattle.sheets.specs.Problem.{Problem, Group, Member}
use Rattle.sheets.specs.Inquiry.{Inquiry, plan_of}
use Rattle.sheets.specs.declared.sheet.Sheet.{Sheet}
use Rattle.search.specs.Answers.{SameMeaning, Answered, OthersKept}
use Rattle.search.specs.declared.answer.Unplanned.{Unplanned}
use Rattle.search.specs.declared.answer.Unplanned.TheVariants.{BeyondReach, NoSheet}
use Rattle.groups.specs.Parts.{Naming, Names, part, alone, merged, union, parts, NoClash, FirstClash}
use Rattle.groups.specs.Course.{Outcome}
use Rattle.groups.specs.Onward.{Opened}
use Rattle.groups.proofs.Right.{part_rows, alone_names, merged_names, merged_out}
use Rattle.groups.proofs.Fewer.{merged_fewer}
use Rattle.groups.proofs.Onward.{KeptBut, opened_start, opened_pass, opened_not_taken, opened_none, opened_next, reached_start, reached_not_taken, reached_none, reached_next, reached_end}
use Rattle.grouping.specs.Ends.{about, ending, Ends}
use Rattle.grouping.specs.Asking.{Stand, EndsIn}

pub same_trans : {C : Type 0} (a b c : Inquiry C → ℕ → Type 0) → SameMeaning a b → SameMeaning b c → SameMeaning a c
same_trans a b c p q i n = record { to = λ h. (q i n).to ((p i n).to h); back = λ h. (p i n).back ((q i n).back h) }

pub same_self : {C : Type 0} (a : Inquiry C → ℕ → Type 0) → SameMeaning a a
same_self a i n = record { to = λ h. h; back = λ h. h }

module _ {C : Type 0} (i : Inquiry C) where
  pub others_start : (old : Sheet) → OthersKept i old old
  others_start old r t h = refl

  -- what is kept by an asking for some rows of the group is kept for the group
  pub others_next : (F : Group) → ((r : ℕ) → Member i.problem F r → Member i.problem i.group r) → (old y z : Sheet)
      → OthersKept i old y → OthersKept (about i F) y z → OthersKept i old z
  others_next F sub old y z a b r t h = b r t (λ m k. h (sub r m) k) ∙ a r t h

  pub others_trans : (old y z : Sheet) → OthersKept i old y → OthersKept i y z → OthersKept i old z
  others_trans old y z a b r t h = b r t h ∙ a r t h

  others_untouched : (old y z : Sheet) → z ≡ y → OthersKept i old y → OthersKept i old z
  others_untouched old y z e a = subst (OthersKept i old) (sym e) a

  kept_but : (F : Group) (y z : Sheet) → OthersKept (about i F) y z → KeptBut i.problem F (plan_of y) (plan_of z)
  kept_but F y z h r t l e k = h r t (λ m j. both_ways (F r) e m.of_group)

-- `was` is what the search below takes at first, and `now` what it takes when it is asked
module _ {C : Type 0} (was now : Inquiry C → ℕ → Type 0) (i : Inquiry C) (cells : ℕ) (old : Sheet) where
  -- the rows below k have been asked for, each alone, and stand in the sheet z
  pub record RowsAsked (k : ℕ) (z : Sheet) : Type 0 where
    pub meaning : SameMeaning now was
    pub opened : Opened i.measure i.problem i.group (λ F. was (about i F) cells) k (plan_of z)
    pub others : OthersKept i old z

  -- the parts have been asked for, and stand in the sheet z
  pub record PartsAsked (name : Naming) (z : Sheet) : Type 0 where
    pub meaning : SameMeaning now was
    pub stand : Stand was i cells name z
    pub names : Names i.problem i.group name
    pub others : OthersKept i old z

-- an answer of a search that takes `now` about some rows
abbrev pub About : {C : Type 0} → (now : Inquiry C → ℕ → Type 0) → Inquiry C → (cells : ℕ) → Group → (y z : Sheet) → Result C Unplanned → Type 0
About now i cells F y z r = Answered (about i F) (now (about i F) cells) y z r

-- the worksheet is as long as it was
pub as_long : {C : Type 0} (now : Inquiry C → ℕ → Type 0) (i : Inquiry C) (long cells : ℕ) (F : Group) (y z : Sheet) (r : Result C Unplanned) → long ≡ cells
    → About now i long F y z r → About now i cells F y z r
as_long now i long cells F y z r e h = subst (λ (k : ℕ). About now i k F y z r) e h

-- what holds after an asking that ended the course
pub record Ended {C : Type 0} (was next : Inquiry C → ℕ → Type 0) (i : Inquiry C) (cells : ℕ) (old z : Sheet) (o : Outcome) : Type 0 where
  pub meaning : SameMeaning next was
  pub ends : Ends was i cells o
  pub others : OthersKept i old z

module _ {C : Type 0} (was now next : Inquiry C → ℕ → Type 0) (asked : SameMeaning next now) (i : Inquiry C) (cells : ℕ) (old : Sheet) where
  abbrev Q : Problem
  Q = i.problem

  abbrev G : Group
  G = i.group

  abbrev Taken : Group → Type 0
  Taken F = was (about i F) cells

  -- ---- each train alone
  module _ (k : ℕ) (y z : Sheet) (h : RowsAsked was now i cells old k y) (l : k < Q.rows) (g : G k ≡ true) (F : Group) (e : F ≡ part G alone k) where
    pub row_ended : (why : Unplanned) → About now i cells F y z (Err why) → Ended was next i cells old z (ending why)
    row_ended BeyondReach a =
        let b = subst (λ (E : Group). About now i cells E y z (Err BeyondReach)) e a in
        record {
          meaning = same_trans next now was asked h.meaning;
          ends = opened_not_taken i.measure Q G Taken k (plan_of y) h.opened l g (λ t. b.0 ((h.meaning _ cells).back t));
          others = others_untouched i old y z b.1 h.others;
        }
    row_ended NoSheet a =
        let b = subst (λ (E : Group). About now i cells E y z (Err NoSheet)) e a in
        record {
          meaning = same_trans next now was asked h.meaning;
          ends = opened_none i.measure Q G Taken k (plan_of y) h.opened l g ((h.meaning _ cells).to b.0) b.2;
          others = others_untouched i old y z b.1 h.others;
        }

    pub row_next : (c : C) → About now i cells F y z (Ok c) → RowsAsked was next i cells old (k + 1) z
    row_next c a =
        let b = subst (λ (E : Group). About now i cells E y z (Ok c)) e a in
        record {
          meaning = same_trans next now was asked h.meaning;
          opened = rw add-one (opened_next i.measure Q G Taken k (plan_of y) (plan_of z) h.opened l g ((h.meaning _ cells).to b.0) b.1.best (kept_but i (part G alone k) y z b.1.others));
          others = others_next i (part G alone k) (λ r m. part_rows Q G alone k r m) old y z h.others b.1.others;
        }

  -- ---- the joining of parts
  -- the marks of the joined part are those of the two
  joined_union : (name after : Naming) (r q : ℕ) → (name r ≢ name q) → after ≡ merged name r q → part G after (after r) ≡ union G name r q
  joined_union name after r q d e = subst (λ (m : Naming). part G m (m r) ≡ union G name r q) (sym e) (ap (part G (merged name r q)) (merged_out name r q r d))

  module _ (name after : Naming) (y z : Sheet) (h : PartsAsked was now i cells old name y) (t r q : ℕ) (f : FirstClash Q G name (plan_of y) t r q) (e : after ≡ merged name r q)
      (F : Group) (w : F ≡ part G after (after r)) where
    to_union : F ≡ union G name r q
    to_union = w ∙ joined_union name after r q f.differ e

    pub part_ended : (why : Unplanned) → About now i cells F y z (Err why) → Ended was next i cells old z (ending why)
    part_ended BeyondReach a =
        let b = subst (λ (E : Group). About now i cells E y z (Err BeyondReach)) to_union a in
        record {
          meaning = same_trans next now was asked h.meaning;
          ends = reached_not_taken i.measure Q G Taken name (plan_of y) t r q h.stand f (λ v. b.0 ((h.meaning _ cells).back v));
          others = others_untouched i old y z b.1 h.others;
        }
    part_ended NoSheet a =
        let b = subst (λ (E : Group). About now i cells E y z (Err NoSheet)) to_union a in
        record {
          meaning = same_trans next now was asked h.meaning;
          ends = reached_none i.measure Q G Taken name (plan_of y) t r q h.stand f ((h.meaning _ cells).to b.0) b.2;
          others = others_untouched i old y z b.1 h.others;
        }

    pub part_next : (c : C) → About now i cells F y z (Ok c) → PartsAsked was next i cells old after z
    part_next c a =
        let b = subst (λ (E : Group). About now i cells E y z (Ok c)) to_union a in
        subst (λ (m : Naming). PartsAsked was next i cells old m z) (sym e)
        (record {
          meaning = same_trans next now was asked h.meaning;
          stand = reached_next i.measure Q G Taken name (plan_of y) (plan_of z) t r q h.stand f ((h.meaning _ cells).to b.0) b.1.best (kept_but i (union G name r q) y z b.1.others);
          names = merged_names Q G name r q f.row f.differ h.names;
          others = others_next i (union G name r q) (λ p m. part_rows Q G (merged name r q) (name r) p m) old y z h.others b.1.others;
        })

    pub one_fewer : parts Q.rows G after < parts Q.rows G name
    one_fewer =
        let d = merged_fewer Q G name r q f.row f.other f.differ h.names in
        let s : parts Q.rows G after ≡ parts Q.rows G (merged name r q) = ap (parts Q.rows G) e in
        omega arith

module _ {C : Type 0} (was now : Inquiry C → ℕ → Type 0) (i : Inquiry C) (cells : ℕ) (old : Sheet) where
  pub row_passed : (k : ℕ) (z : Sheet) → RowsAsked was now i cells old k z → k < i.problem.rows → i.group k ≡ false → RowsAsked was now i cells old (k + 1) z
  row_passed k z h l g =
      record { meaning = h.meaning; opened = rw add-one (opened_pass i.measure i.problem i.group _ k (plan_of z) h.opened l g); others = h.others }

  pub rows_all : (k : ℕ) (z : Sheet) → k ≡ i.problem.rows → RowsAsked was now i cells old k z → Stand was i cells alone z
  rows_all k z e h = reached_start i.measure i.problem i.group _ k (plan_of z) e h.opened

  pub parts_end : (name : Naming) (z : Sheet) (n : ℕ) → PartsAsked was now i cells old name z → NoClash i.problem i.group name (plan_of z)
      → n ≡ parts i.problem.rows i.group name → EndsIn was i cells z n
  parts_end name z n h c e = subst (λ (k : ℕ). EndsIn was i cells z k) (sym e) (reached_end i.measure i.problem i.group _ name (plan_of z) h.stand c)

pub parts_first : {C : Type 0} (was : Inquiry C → ℕ → Type 0) (i : Inquiry C) (cells : ℕ) (old : Sheet) (name : Naming) → name ≡ alone
    → Stand was i cells alone old → PartsAsked was was i cells old name old
parts_first was i cells old name e h =
    subst (λ (m : Naming). PartsAsked was was i cells old m old) (sym e)
    (record { meaning = same_self was; stand = h; names = alone_names i.problem i.group; others = others_start i old })

pub rows_first : {C : Type 0} (was : Inquiry C → ℕ → Type 0) (i : Inquiry C) (cells : ℕ) (old : Sheet) → RowsAsked was was i cells old 0 old
rows_first was i cells old = record { meaning = same_self was; opened = opened_start i.measure i.problem i.group _ (plan_of old); others = others_start i old }
