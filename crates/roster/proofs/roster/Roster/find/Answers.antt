use Rattle.std.proofs.Common.{ap, ◌∙◌, rules}
use Rattle.std.proofs.lemmas.List.Sorted.{answers_always}
use Rattle.roster.specs.Trains.{rising, number_of, place_from}
use Rattle.roster.proofs.Order.{found_first}
use Rattle.roster.proofs.roster.Roster.find.Goals as goal

pub returns : goal.returns
returns c =
    let v = c.args.number in
    let all = c.trains.result.now in
    let e = c.trains.ensures.the_trains_of_the_book in
    let searched = c.binary_search_by_key.ensures.position number_of (answers_always _ _ _ (λ f a r g called. search rules)) in
    record {
      the_first_row_with_the_number = c.ok.ensures.value ∙ found_first all v _ (ap rising e ∙ c.args.self.now.ordered) c.binary_search_by_key.ensures.bound searched ∙ ap (place_from 0 v) e;
    }
