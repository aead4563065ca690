-- How the course ends, told of the search as it was at first.
use Rattle.std.proofs.Common.{◌≡◌, ℕ, sym, subst}
use Rattle.sheets.specs.Plan.{cost}
use Rattle.sheets.specs.Theorems.{Same}
use Rattle.sheets.specs.Inquiry.{Inquiry, plan_of}
use Rattle.sheets.specs.declared.sheet.Sheet.{Sheet}
use Rattle.search.specs.Answers.{SameMeaning, OthersKept}
use Rattle.groups.specs.Parts.{Naming}
use Rattle.groups.specs.Course.{Outcome, found}
use Rattle.groups.proofs.Moved.{course_moved, whole_moved}
use Rattle.grouping.specs.Ends.{about, Ends, Given}
use Rattle.grouping.specs.Asking.{Stand, EndsIn}
use Rattle.grouping.proofs.Following.{others_trans}

same_back : {A B : Type 0} → Same A B → Same B A
same_back s = record { to = s.back; back = s.to }

module _ {C : Type 0} (was now : Inquiry C → ℕ → Type 0) (same : SameMeaning now was) (i : Inquiry C) (cells long : ℕ) (e : long ≡ cells) where
  ends_here : (o : Outcome) → Ends now i cells o → Ends was i cells o
  ends_here o h = whole_moved i.measure i.problem i.group (λ F. now (about i F) cells) (λ F. was (about i F) cells) (λ F. same _ cells) o h

  pub ends_moved : (o : Outcome) → Ends now i long o → Ends was i cells o
  ends_moved o h = ends_here o (subst (λ (n : ℕ). Ends now i n o) e h)

  stand_here : (name : Naming) (z : Sheet) → Stand was i cells name z → Stand now i cells name z
  stand_here name z h = record {
    sheet = h.sheet;
    same = h.same;
    onward = λ o c. whole_moved i.measure i.problem i.group (λ F. was (about i F) cells) (λ F. now (about i F) cells) (λ F. same_back (same _ cells)) o
        (h.onward o (course_moved i.measure i.problem i.group (λ F. now (about i F) cells) (λ F. was (about i F) cells) (λ F. same _ cells) c));
  }

  pub stand_moved : (name : Naming) (z : Sheet) → Stand was i cells name z → Stand now i long name z
  stand_moved name z h = subst (λ (n : ℕ). Stand now i n name z) (sym e) (stand_here name z h)

  pub given_moved : (old draft new : Sheet) (c : C) (n : ℕ) → OthersKept i old draft → OthersKept i draft new → EndsIn now i long new n
      → c ≡ cost i.measure i.problem i.group (plan_of new) → Given was i cells old new c n
  given_moved old draft new c n a b d k = record {
    plan = d.0;
    ends = ends_moved (found n d.0) d.1.0;
    same = d.1.1;
    costs = sym k;
    others = others_trans i old draft new a b;
  }
