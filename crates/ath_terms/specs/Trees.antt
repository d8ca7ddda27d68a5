-- What a store stands for.
use Rattle.std.specs.Prelude.{◌≡◌, ℕ, ◌<◌, ◌≤◌, List, length, slice_index_or, refl}
use Rattle.std.specs.Coded.{Coded, code_by, coded×, coded_list}
use Rattle.ath_sorts.specs.contracts.sorts.Sort as sort
use Rattle.ath_sorts.specs.declared.sorts.Sort.{Sort}
use Rattle.ath_sorts.specs.Signature.{boolean}
use Rattle.ath_trees.specs.Tree.{Term, Sent, atom}
use Rattle.ath_trees.specs.Coded.{term_code, sent_code}
use Rattle.ath_terms.specs.Blank.{blank}

-- the trees of the terms with their sorts, and those of the sentences, by their numbers
pub record Trees : Type 0 where
  pub terms : List Term
  pub sorts : List Sort
  pub sents : List Sent

abbrev pub trees_code : Coded Trees
trees_code = code_by (List Term × (List Sort × List Sent)) (coded× (coded_list term_code) (coded× (coded_list sort.the_row.coded) (coded_list sent_code))) (λ s. (s.terms, (s.sorts, s.sents))) (λ p. record { terms = p.0; sorts = p.1.0; sents = p.1.1 }) (λ _. refl)

abbrev pub term_at : List Term → ℕ → Term
term_at ts k = slice_index_or ts k blank

abbrev pub sort_at : List Sort → ℕ → Sort
sort_at ss k = slice_index_or ss k boolean

abbrev pub sent_at : List Sent → ℕ → Sent
sent_at ss k = slice_index_or ss k (atom blank)

-- each earlier number keeps its tree, and that of a term its sort
pub record Grows (old new : Trees) : Type 0 where
  pub terms : length old.terms ≤ length new.terms
  pub same_terms : (k : ℕ) → k < length old.terms → term_at new.terms k ≡ term_at old.terms k
  pub same_sorts : (k : ℕ) → k < length old.terms → sort_at new.sorts k ≡ sort_at old.sorts k
  pub sents : length old.sents ≤ length new.sents
  pub same_sents : (k : ℕ) → k < length old.sents → sent_at new.sents k ≡ sent_at old.sents k

-- an id stands for a tree
abbrev pub IsTerm : Trees → ℕ → Term → Type 0
IsTerm s t x = (t < length s.terms) × (term_at s.terms t ≡ x)

abbrev pub IsSent : Trees → ℕ → Sent → Type 0
IsSent s p x = (p < length s.sents) × (sent_at s.sents p ≡ x)

-- an id stands for a term of this sort
abbrev pub IsTermOf : Trees → ℕ → Term → Sort → Type 0
IsTermOf s t x r = IsTerm s t x × (sort_at s.sorts t ≡ r)
