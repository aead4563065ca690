use Rattle.std.proofs.Common.{◌+◌, ◌<◌, ◌≤◌, length, drop, sym, ap, ◌∙◌, arith}
use Rattle.std.proofs.lemmas.Result.{err_from_is_err_and}
use Rattle.track.specs.Layouts.{sections_of}
use Rattle.roster.specs.Book.{Book, first_declined, entered_all}
use Rattle.roster.specs.Model.{seen}
use Rattle.roster.proofs.Making.{first_on, first_here, first_end, all_on, all_end}
use Rattle.roster.proofs.Laws.{laws}
use Rattle.roster.proofs.roster.Roster.of.Goals as goal

pub loop-train-init : goal.loop-train-init
loop-train-init c =
    let n = sections_of c.args.layout.now in
    let ts = c.args.trains.now in
    let e = c.new-roster.ensures.nothing_is_entered_or_closed in
    (ap (λ (b : Book). first_declined n b ts) e, ap (λ (b : Book). entered_all n b ts) e)

pub loop-train-preserved : goal.loop-train-preserved
loop-train-preserved c =
    let n = sections_of c.args.layout.now in
    let ts = c.args.trains.now in
    let i = c.loop-train.train-index in
    let b = seen c.loop-train.roster in
    let l : i < length ts = omega arith in
    let a = sym c.in_ok-enter.ensures.the_first_condition_met_declines in
    let e = c.in_ok-enter.ensures.just_the_train_is_entered_or_nothing in (
      ap (λ (k : Book). first_declined n k (drop (i + 1) ts)) e ∙ sym (first_on n b ts i _ l a) ∙ c.loop-train.invariant.0,
      ap (λ (k : Book). entered_all n k (drop (i + 1) ts)) e ∙ sym (all_on n b ts i _ l a) ∙ c.loop-train.invariant.1,
    )

pub returns-in_err-enter : goal.returns-in_err-enter
returns-in_err-enter c =
    let n = sections_of c.args.layout.now in
    let ts = c.args.trains.now in
    let i = c.loop-train.train-index in
    let b = seen c.loop-train.roster in
    let l : i < length ts = omega arith in
    let a = sym c.in_err-enter.ensures.the_first_condition_met_declines in
    let p = err_from_is_err_and c.from_residual.result c.from_residual.ensures.1 in
    record {
      the_first_entry_declined_tells_why = rw (p.1, p.2) (sym (first_here n b ts i _ _ l a) ∙ c.loop-train.invariant.0);
      a_roster_of_all_the_trains = rw p.1 tt;
      every_roster_keeps_its_laws = rw p.1 tt;
    }

pub returns : goal.returns
returns c =
    let n = sections_of c.args.layout.now in
    let ts = c.args.trains.now in
    let i = c.loop-train.train-index in
    let b = seen c.loop-train.roster in
    let h : length ts ≤ i = omega arith in
    record {
      the_first_entry_declined_tells_why = sym (first_end n b ts i h) ∙ c.loop-train.invariant.0;
      a_roster_of_all_the_trains = sym (all_end n b ts i h) ∙ c.loop-train.invariant.1;
      every_roster_keeps_its_laws = laws _;
    }
