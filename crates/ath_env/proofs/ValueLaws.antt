-- Values in a store that grows.
use Rattle.std.proofs.lemmas.Grind.{common_steps}
use Rattle.std.proofs.Common.{◌≡◌, ◌<◌, ℕ, Bool, true, false, ◌&&◌, ◌==◌, List, [], ◌∷◌, map, Option, Some, None, length, refl, sym, ◌∙◌, ap, subst, arith}
use Rattle.ath_sorts.specs.declared.sorts.Sym.{Sym}
use Rattle.ath_sorts.specs.declared.sorts.Sort.{Sort, Con, out-Sort}
use Rattle.ath_sorts.specs.declared.sorts.Sort.TheOpen as one
use Rattle.ath_sorts.specs.declared.sorts.Sort.TheVariants.{rolls-Con, outs-Con}
use Rattle.ath_sorts.specs.declared.sorts.Sort.TheFolds.{fold-roll-Sort}
use Rattle.ath_sorts.specs.Signature.{Signature, boolean}
use Rattle.ath_sorts.specs.Equality.{all_pass, same_step, same_sort}
use Rattle.ath_sorts.proofs.SameSorts.{same_sort-true}
use Rattle.ath_trees.specs.declared.node.TermId.{TermId}
use Rattle.ath_trees.specs.declared.node.SentId.{SentId}
use Rattle.ath_trees.specs.declared.node.Binary.{Binary}
use Rattle.ath_trees.specs.declared.node.Conn.TheVariants.{Not, And, Or, If, Iff}
use Rattle.ath_trees.specs.Tree.{Term, Sent, atom, binary_of}
use Rattle.ath_terms.specs.Trees.{Trees, Grows, IsSent, term_at, sort_at, sent_at}
use Rattle.ath_terms.specs.Nodes.{parts_tree, sent_tree, IsSentBelow}
use Rattle.ath_terms.specs.declared.node.SentNode.{SentNode}
use Rattle.ath_terms.specs.declared.node.SentNode.TheVariants as node
use Rattle.ath_terms.specs.SortsIn.{IsSortedIn}
use Rattle.ath_trees.specs.WellSorted.{IsWellSorted}
use Rattle.ath_terms.proofs.Grow.{sent-kept}
use Rattle.ath_trees.proofs.UnderLaws.{sort_in-is}
use Rattle.ath_env.specs.declared.value.Value.{Value as Coded}
use Rattle.ath_env.specs.declared.value.Value.TheVariants as code
use Rattle.ath_env.specs.Values.{Value, a_term, a_sentence, value_of}
use Rattle.ath_env.specs.Stands.{IsIn, value_at, IsValue, IsSentenceOf, IsFound}

-- ---- what stood for a value goes on to do so
pub is_in-kept : (s u : Trees) (v : Coded) → Grows s u → IsIn s v → IsIn u v
is_in-kept s u (code.Term t) g h = omega (arith, g.terms, h)
is_in-kept s u (code.Sent p) g h = omega (arith, g.sents, h)
is_in-kept s u (code.Symbol f) g h = tt
is_in-kept s u (code.Conn c) g h = tt
is_in-kept s u (code.Quant q) g h = tt
is_in-kept s u code.Back g h = tt
is_in-kept s u (code.PrimMethod n) g h = tt

pub value_at-kept : (s u : Trees) (v : Coded) → Grows s u → IsIn s v → value_at u v ≡ value_at s v
value_at-kept s u (code.Term t) g h =
    let a = g.same_terms t.0 h in
    let b = g.same_sorts t.0 h in
    λ i. Value.a_term (a i) (b i)
value_at-kept s u (code.Sent p) g h = ap Value.a_sentence (g.same_sents p.0 h)
value_at-kept s u (code.Symbol f) g h = refl
value_at-kept s u (code.Conn c) g h = refl
value_at-kept s u (code.Quant q) g h = refl
value_at-kept s u code.Back g h = refl
value_at-kept s u (code.PrimMethod n) g h = refl

pub sentence-kept : (s u : Trees) (p : Option SentId) (x : Option Sent) → Grows s u → IsSentenceOf s p x → IsSentenceOf u p x
sentence-kept s u None None g h = tt
sentence-kept s u (Some p) (Some x) g h = sent-kept s u p.0 x g h
sentence-kept s u None (Some x) g h = h
sentence-kept s u (Some p) None g h = h

-- ---- what is found, from either side
pub found-some : (s : Trees) (f : Option Coded) (x : Option Value) (v : Coded) → IsFound s f x → f ≡ Some v → (y : Value) × (x ≡ Some y) × IsValue s v y
found-some s None x v h e = absurd (cc)
found-some s (Some w) None v h e = absurd h
found-some s (Some w) (Some y) v h e = let w_is : w ≡ v = cc in (y, refl, rw w_is at h)

pub found-none : (s : Trees) (f : Option Coded) (x : Option Value) → IsFound s f x → f ≡ None → x ≡ None
found-none s None None h e = refl
found-none s None (Some x) h e = absurd h
found-none s (Some v) x h e = absurd (cc)

-- ---- the sentence that is found, from either side
pub sentence-some : (s : Trees) (f : Option SentId) (x : Option Sent) (p : SentId) → IsSentenceOf s f x → f ≡ Some p → (y : Sent) × (x ≡ Some y) × IsSent s p.0 y
sentence-some s None x p h e = absurd (cc)
sentence-some s (Some q) None p h e = absurd h
sentence-some s (Some q) (Some y) p h e = let q_is : q ≡ p = cc in (y, refl, rw q_is at h)

pub sentence-none : (s : Trees) (f : Option SentId) (x : Option Sent) → IsSentenceOf s f x → f ≡ None → x ≡ None
sentence-none s None None h e = refl
sentence-none s None (Some x) h e = absurd h
sentence-none s (Some p) x h e = absurd (cc)

-- ---- the sort Boolean
with_boolean : (c : Sym) (args : List Sort) → same_sort (Con c args) boolean ≡ (c.0 == 0 && all_pass (map same_sort args) [])
with_boolean c args =
    ap (λ s. same_sort s boolean) (sym (rolls-Con c args))
    ∙ ap (λ (k : Sort → Bool). k boolean) (fold-roll-Sort (Sort → Bool) (λ x t. same_step x (out-Sort t)) (one.Con c args))
    ∙ ap (same_step (one.Con c (map same_sort args))) (outs-Con (record { 0 = 0 }) [])

-- a sort whose constructor is that of Boolean
pub boolean_con : (c : Sym) (args : List Sort) (b : Bool) → b ≡ (length args == 0) → c.0 ≡ 0 → b ≡ same_sort (Con c args) boolean
boolean_con c [] b e h = rw (with_boolean c [], h, e) refl
boolean_con c (s ∷ ss) b e h =
    let one_more : (length (s ∷ ss) == 0) ≡ false = grind (arith, common_steps) in
    rw (with_boolean c (s ∷ ss), h, e ∙ one_more) refl

-- a kept sort that passes is Boolean
pub kept_boolean : (s : Trees) (t : TermId) (kept : Sort) (passed : Bool) → kept ≡ sort_at s.sorts t.0 → passed ≡ same_sort kept boolean → passed ≡ true → sort_at s.sorts t.0 ≡ boolean
kept_boolean s t kept passed k e p = sym k ∙ same_sort-true kept boolean (sym e ∙ p)

-- ---- the value that a sentence is
-- it is one by itself
abbrev IsOwn : Sent → Type 0
IsOwn x = value_of x ≡ a_sentence x

one-part : (ss : List Sent) (ids : List SentId) → length ids ≡ 1 → IsOwn (parts_tree None (map (λ i. sent_at ss i.0) ids))
one-part ss [] e = absurd (omega (arith, e))
one-part ss (i ∷ ids) e = refl

two-parts : (ss : List Sent) (b : Binary) (ids : List SentId) → length ids ≡ 2 → IsOwn (parts_tree (Some b) (map (λ i. sent_at ss i.0) ids))
two-parts ss b [] e = absurd (omega (arith, e))
two-parts ss b (i ∷ []) e = absurd (omega (arith, e))
two-parts ss b (i ∷ j ∷ ids) e = refl

own-node : (ts : List Term) (ss : List Sent) (m k : ℕ) (n : SentNode) → IsSentBelow m k n → ((t : TermId) → n ≡ node.Atom t → ⊥) → IsOwn (sent_tree ts ss n)
own-node ts ss m k (node.Atom t) h other = absurd (other t refl)
own-node ts ss m k (node.Eq s t) h other = refl
own-node ts ss m k (node.Conn Not ids) h other = one-part ss ids h.0
own-node ts ss m k (node.Conn And ids) h other = two-parts ss _ ids h.0
own-node ts ss m k (node.Conn Or ids) h other = two-parts ss _ ids h.0
own-node ts ss m k (node.Conn If ids) h other = two-parts ss _ ids h.0
own-node ts ss m k (node.Conn Iff ids) h other = two-parts ss _ ids h.0
own-node ts ss m k (node.Quant q v p) h other = refl

module _ (s : Trees) (p : SentId) (n : SentNode) (tree : sent_tree s.terms s.sents n ≡ sent_at s.sents p.0) (below : IsSentBelow (length s.terms) p.0 n) where
  pub own_value : ((t : TermId) → n ≡ node.Atom t → ⊥) → value_at s (code.Sent p) ≡ value_of (sent_at s.sents p.0)
  own_value other = subst (λ (x : Sent). a_sentence x ≡ value_of x) tree (sym (own-node s.terms s.sents (length s.terms) p.0 n below other))

  pub atom_value : (sig : Signature) (t : TermId) → n ≡ node.Atom t → p.0 < length s.sents → IsSortedIn sig s → value_at s (code.Term t) ≡ value_of (sent_at s.sents p.0)
  atom_value sig t is inside h =
      let x = term_at s.terms t.0 in
      let e : atom x ≡ sent_at s.sents p.0 = subst (λ (m : SentNode). sent_tree s.terms s.sents m ≡ sent_at s.sents p.0) is tree in
      let b : t.0 < length s.terms = subst (λ (m : SentNode). IsSentBelow (length s.terms) p.0 m) is below in
      let w : IsWellSorted sig (atom x) = subst (IsWellSorted sig) (sym e) (h.sents p.0 inside) in
      let q : sort_at s.sorts t.0 ≡ boolean = sym (sort_in-is sig x (sort_at s.sorts t.0) (h.terms t.0 b)) ∙ sort_in-is sig x boolean w in
      ap (a_term x) q ∙ ap value_of e

  pub atom_inside : (t : TermId) → n ≡ node.Atom t → t.0 < length s.terms
  atom_inside t is = subst (λ (m : SentNode). IsSentBelow (length s.terms) p.0 m) is below
