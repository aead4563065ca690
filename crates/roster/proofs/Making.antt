-- Trains that are entered one after the other.
use Rattle.std.proofs.Common.{◌≡◌, ℕ, ◌+◌, ◌<◌, ◌≤◌, List, length, get_or, drop, Some, None, Option, ap, ◌∙◌}
use Rattle.std.proofs.lemmas.List.{at_drop_more, at_drop_all}
use Rattle.std.specs.Option.{option_or}
use Rattle.track.specs.Refusals.{unless}
use Rattle.roster.specs.Book.{Book, declined, changed, entry_of, first_declined, entered_all}
use Rattle.roster.specs.declared.train.Train.{Train}

module _ (n : ℕ) (b : Book) (ts : List Train) (i : ℕ) where
  pub first_on : (d : Train) → i < length ts → declined n b (entry_of (get_or ts i d)) ≡ None → first_declined n b (drop i ts) ≡ first_declined n (changed b (entry_of (get_or ts i d))) (drop (i + 1) ts)
  first_on d l e =
      at_drop_more (first_declined n b) ts i d l
      ∙ ap (λ (o : Option ℕ). option_or o (first_declined n (unless o (changed b (entry_of (get_or ts i d))) b) (drop (i + 1) ts))) e

  pub first_here : (d : Train) (k : ℕ) → i < length ts → declined n b (entry_of (get_or ts i d)) ≡ Some k → first_declined n b (drop i ts) ≡ Some k
  first_here d k l e =
      at_drop_more (first_declined n b) ts i d l
      ∙ ap (λ (o : Option ℕ). option_or o (first_declined n (unless o (changed b (entry_of (get_or ts i d))) b) (drop (i + 1) ts))) e

  pub first_end : length ts ≤ i → first_declined n b (drop i ts) ≡ None
  first_end h = at_drop_all (first_declined n b) ts i h

  pub all_on : (d : Train) → i < length ts → declined n b (entry_of (get_or ts i d)) ≡ None → entered_all n b (drop i ts) ≡ entered_all n (changed b (entry_of (get_or ts i d))) (drop (i + 1) ts)
  all_on d l e =
      at_drop_more (entered_all n b) ts i d l ∙ ap (λ (o : Option ℕ). entered_all n (unless o (changed b (entry_of (get_or ts i d))) b) (drop (i + 1) ts)) e

  pub all_end : length ts ≤ i → entered_all n b (drop i ts) ≡ b
  all_end h = at_drop_all (entered_all n b) ts i h
