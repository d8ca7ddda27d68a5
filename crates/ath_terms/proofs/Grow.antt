-- A store that grows.
use Rattle.std.proofs.Common.{◌≡◌, ℕ, ◌<◌, [], ◌∷◌, ◌++◌, length, refl, sym, ◌∙◌, arith, length-append}
use Rattle.ath_sorts.specs.declared.sorts.Sort.{Sort}
use Rattle.ath_sorts.specs.Signature.{boolean}
use Rattle.ath_trees.specs.Tree.{Term, Sent, atom}
use Rattle.ath_terms.specs.Blank.{blank}
use Rattle.ath_terms.specs.Nodes.{term_tree, sent_tree, IsTermBelow, IsSentBelow}
use Rattle.ath_terms.specs.Trees.{Trees, term_at, sort_at, sent_at, Grows, IsTerm, IsTermOf, IsSent}
use Rattle.ath_terms.specs.declared.node.SentNode.{SentNode}
use Rattle.ath_terms.specs.declared.node.TermNode.{TermNode}
use Rattle.ath_terms.proofs.BuiltLaws.{get_or-append-left, get_or-append-here}
use Rattle.ath_terms.proofs.NodeLaws.{terms-respect, sents-respect, sent_tree-keeps}

pub grows-none : (s : Trees) → Grows s s
grows-none s = record { terms = omega arith; same_terms = λ k h. refl; same_sorts = λ k h. refl; sents = omega arith; same_sents = λ k h. refl }

pub grows-then : (s t u : Trees) → Grows s t → Grows t u → Grows s u
grows-then s t u g h = record {
  terms = omega arith;
  same_terms = λ k l. h.same_terms k (omega (arith, g.terms)) ∙ g.same_terms k l;
  same_sorts = λ k l. h.same_sorts k (omega (arith, g.terms)) ∙ g.same_sorts k l;
  sents = omega arith;
  same_sents = λ k l. h.same_sents k (omega (arith, g.sents)) ∙ g.same_sents k l;
}

pub grows-terms : (s : Trees) (x : Term) (r : Sort) → length s.sorts ≡ length s.terms → Grows s (record { terms = s.terms ++ x ∷ []; sorts = s.sorts ++ r ∷ []; sents = s.sents })
grows-terms s x r e = record {
  terms = omega (arith, length-append s.terms (x ∷ []));
  same_terms = λ k h. get_or-append-left blank s.terms (x ∷ []) k h;
  same_sorts = λ k h. get_or-append-left boolean s.sorts (r ∷ []) k (omega arith);
  sents = omega arith;
  same_sents = λ k h. refl;
}

pub grows-sents : (s : Trees) (x : Sent) → Grows s (record { terms = s.terms; sorts = s.sorts; sents = s.sents ++ x ∷ [] })
grows-sents s x = record {
  terms = omega arith;
  same_terms = λ k h. refl;
  same_sorts = λ k h. refl;
  sents = omega (arith, length-append s.sents (x ∷ []));
  same_sents = λ k h. get_or-append-left (atom blank) s.sents (x ∷ []) k h;
}

-- the new node
pub new-term : (s u : Trees) (t : ℕ) (x : Term) (r : Sort) → t ≡ length s.terms → length s.sorts ≡ length s.terms → u ≡ record { terms = s.terms ++ x ∷ []; sorts = s.sorts ++ r ∷ []; sents = s.sents } → Grows s u × IsTermOf u t x r
new-term s u t x r e l f =
    let q : t ≡ length s.sorts = omega arith in
    let here : sort_at (s.sorts ++ r ∷ []) t ≡ r = rw q (get_or-append-here boolean s.sorts r) in
    rw f (grows-terms s x r l, (rw e (omega (arith, length-append s.terms (x ∷ [])), get_or-append-here blank s.terms x), here))

pub new-sent : (s u : Trees) (p : ℕ) (x : Sent) → p ≡ length s.sents → u ≡ record { terms = s.terms; sorts = s.sorts; sents = s.sents ++ x ∷ [] } → Grows s u × IsSent u p x
new-sent s u p x e f = rw (f, e) (grows-sents s x, (omega (arith, length-append s.sents (x ∷ [])), get_or-append-here (atom blank) s.sents x))

pub term-kept : (s u : Trees) (t : ℕ) (x : Term) → Grows s u → IsTerm s t x → IsTerm u t x
term-kept s u t x g h = (omega (arith, g.terms, h.0), g.same_terms t h.0 ∙ h.1)

pub sorted-kept : (s u : Trees) (t : ℕ) (x : Term) (r : Sort) → Grows s u → IsTermOf s t x r → IsTermOf u t x r
sorted-kept s u t x r g h = (term-kept s u t x g h.0, g.same_sorts t h.0.0 ∙ h.1)

pub sent-kept : (s u : Trees) (p : ℕ) (x : Sent) → Grows s u → IsSent s p x → IsSent u p x
sent-kept s u p x g h = (omega (arith, g.sents, h.0), g.same_sents p h.0 ∙ h.1)

-- a node that was read stands for the same tree later
pub term_node-kept : (s u : Trees) (t : ℕ) (n : TermNode) → Grows s u → t < length s.terms → IsTermBelow t n → term_tree s.terms n ≡ term_at s.terms t → IsTerm u t (term_tree u.terms n)
term_node-kept s u t n g l b e = (omega (arith, g.terms), g.same_terms t l ∙ sym e ∙ terms-respect.agrees t n s.terms u.terms b (λ j h. sym (g.same_terms j (omega arith))))

pub sent_node-kept : (s u : Trees) (p : ℕ) (n : SentNode) → Grows s u → p < length s.sents → IsSentBelow (length s.terms) p n → sent_tree s.terms s.sents n ≡ sent_at s.sents p → IsSent u p (sent_tree u.terms u.sents n)
sent_node-kept s u p n g l b e = (
  omega (arith, g.sents),
  g.same_sents p l ∙ sym e ∙ sym (sent_tree-keeps s.terms u.terms s.sents (length s.terms) p n g.same_terms b)
      ∙ (sents-respect u.terms (length s.terms)).agrees p n s.sents u.sents b (λ j h. sym (g.same_sents j (omega arith))),
)

pub ruleset growing = (grows-then, grows-none)
