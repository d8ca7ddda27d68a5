-- A new node with its sort keeps a store sorted.
use Rattle.std.proofs.Common.{◌≡◌, ℕ, ◌+◌, ◌<◌, ◌⊎◌, inl, inr, [], ◌∷◌, ◌++◌, length, refl, arith, length-append}
use Rattle.std.proofs.lemmas.Grind.{common_steps}
use Rattle.ath_sorts.specs.declared.sorts.Sort.{Sort}
use Rattle.ath_sorts.specs.Signature.{Signature}
use Rattle.ath_trees.specs.Tree.{Term, Sent}
use Rattle.ath_terms.specs.Trees.{Trees, term_at, sort_at, sent_at}
use Rattle.ath_terms.specs.SortsIn.{IsSortedIn}
use Rattle.ath_trees.specs.WellSorted.{HasSort, IsWellSorted}
use Rattle.ath_terms.proofs.Grow.{grows-terms, grows-sents, new-term, new-sent}

last : (a b : ℕ) → a < b + 1 → (a < b) ⊎ (a ≡ b)
last a b q = grind (arith, common_steps)

has_same : (sig : Signature) (x y : Term) (r q : Sort) → x ≡ y → r ≡ q → HasSort sig y q → HasSort sig x r
has_same sig x y r q p e h = rw (p, e) h

sent_same : (sig : Signature) (x y : Sent) → x ≡ y → IsWellSorted sig y → IsWellSorted sig x
sent_same sig x y p h = rw p h

pub sorted_term : (sig : Signature) (s u : Trees) (x : Term) (r : Sort) → length s.sorts ≡ length s.terms → u ≡ record { terms = s.terms ++ x ∷ []; sorts = s.sorts ++ r ∷ []; sents = s.sents } → IsSortedIn sig s → HasSort sig x r → IsSortedIn sig u
sorted_term sig s u x r l e h has = rw e (record {
  valid = h.valid;
  boolean_there = h.boolean_there;
  terms = λ k m. elim (last k (length s.terms) (omega (arith, length-append s.terms (x ∷ [])))) [
    | inl p ↦ (let g = grows-terms s x r l in has_same sig _ (term_at s.terms k) _ (sort_at s.sorts k) (g.same_terms k p) (g.same_sorts k p) (h.terms k p))
    | inr p ↦ (let g = (new-term s (record { terms = s.terms ++ x ∷ []; sorts = s.sorts ++ r ∷ []; sents = s.sents }) k x r p l refl).1 in has_same sig _ x _ r g.0.1 g.1 has)
  ];
  sents = h.sents;
})

pub sorted_sent : (sig : Signature) (s u : Trees) (x : Sent) → u ≡ record { terms = s.terms; sorts = s.sorts; sents = s.sents ++ x ∷ [] } → IsSortedIn sig s → IsWellSorted sig x → IsSortedIn sig u
sorted_sent sig s u x e h has = rw e (record {
  valid = h.valid;
  boolean_there = h.boolean_there;
  terms = h.terms;
  sents = λ k m. elim (last k (length s.sents) (omega (arith, length-append s.sents (x ∷ [])))) [
    | inl p ↦ (let g = grows-sents s x in sent_same sig _ (sent_at s.sents k) (g.same_sents k p) (h.sents k p))
    | inr p ↦ (let g = (new-sent s (record { terms = s.terms; sorts = s.sorts; sents = s.sents ++ x ∷ [] }) k x p refl).1 in sent_same sig _ x g.1 has)
  ];
})
