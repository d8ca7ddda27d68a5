-- A store whose trees are well-sorted.
use Rattle.std.specs.Prelude.{◌≡◌, ℕ, ◌<◌, length, Some}
use Rattle.ath_sorts.specs.Signature.{Signature, arity_of}
use Rattle.ath_sorts.specs.Validity.{IsValid}
use Rattle.ath_terms.specs.Trees.{Trees, term_at, sort_at, sent_at}
use Rattle.ath_trees.specs.WellSorted.{HasSort, IsWellSorted}

-- each tree of the store is well-sorted in the signature, and a term has the sort that the store keeps for it
pub record IsSortedIn (sig : Signature) (s : Trees) : Type 0 where
  pub valid : IsValid sig
  -- the sort Boolean is there
  pub boolean_there : arity_of sig (record { 0 = 0 }) ≡ Some 0
  pub terms : (k : ℕ) → k < length s.terms → HasSort sig (term_at s.terms k) (sort_at s.sorts k)
  pub sents : (k : ℕ) → k < length s.sents → IsWellSorted sig (sent_at s.sents k)
