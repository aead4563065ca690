-- A joining makes just the rows of both parts one part.
use Rattle.std.proofs.Common.{◌≡◌, ℕ, cond, eqb, ◌⊎◌, sym, ap, ◌∙◌, inl, inr, ⊎_elim}
use Rattle.std.proofs.lemmas.Bool.{cases_eq}
use Rattle.groups.specs.Parts.{Naming, merged}
use Rattle.groups.specs.Laws.{InEither, EachJoiningMakesBothPartsOne}
use Rattle.groups.proofs.Right.{merged_in, merged_out}

module _ (name : Naming) (r q : ℕ) where
  -- rows of one part stay together
  merged_same : (p o : ℕ) → name p ≡ name o → merged name r q p ≡ merged name r q o
  unfolding merged
  merged_same p o e = ap (λ n. cond (eqb n (name q)) (name r) n) e

  merged_either : (p : ℕ) → InEither name r q p → merged name r q p ≡ name r
  merged_either p h = ⊎_elim (λ e. ⊎_elim (merged_in name r q p) (λ d. merged_out name r q p d ∙ e) (cases_eq (name p) (name q))) (merged_in name r q p) h

  apart : (p o : ℕ) → merged name r q p ≡ merged name r q o → (name p ≡ name q) ⊎ (name p ≡ name q → ⊥) → (name o ≡ name q) ⊎ (name o ≡ name q → ⊥)
      → (name p ≡ name o) ⊎ (InEither name r q p × InEither name r q o)
  apart p o e (inl a) (inl b) = inl (a ∙ sym b)
  apart p o e (inl a) (inr b) = inr (inr a, inl (sym (merged_out name r q o b) ∙ sym e ∙ merged_in name r q p a))
  apart p o e (inr a) (inl b) = inr (inl (sym (merged_out name r q p a) ∙ e ∙ merged_in name r q o b), inr b)
  apart p o e (inr a) (inr b) = inl (sym (merged_out name r q p a) ∙ e ∙ merged_out name r q o b)

pub each_joining_makes_both_parts_one : EachJoiningMakesBothPartsOne
each_joining_makes_both_parts_one name r q = record {
  together = λ p o. record {
    to = λ e. apart name r q p o e (cases_eq (name p) (name q)) (cases_eq (name o) (name q));
    back = ⊎_elim (merged_same name r q p o) (λ h. merged_either name r q p h.0 ∙ sym (merged_either name r q o h.1));
  };
  others = λ p h. merged_out name r q p (λ e. h (inr e));
}
