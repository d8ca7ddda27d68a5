-- What the code finds in sentences, and what that makes of the parts.
use Rattle.std.proofs.Common.{◌≡◌, ℕ, ◌<◌, Bool, true, false, List, [], ◌∷◌, length, map, Option, Some, None, refl, sym, ◌∙◌, ap, subst, if◌then◌else◌, arith}
use Rattle.std.specs.Prelude.{option_and_then, option_map, slice_index_or}
use Rattle.std.specs.List.{All}
use Rattle.std.proofs.lemmas.List.Elements.{All-head, All-tail}
use Rattle.ath_trees.specs.declared.node.Binary.{Binary}
use Rattle.ath_trees.specs.declared.node.Binary.TheVariants as binary
use Rattle.ath_trees.specs.declared.node.Conn.{Conn}
use Rattle.ath_trees.specs.declared.node.Conn.TheVariants.{Not, And, Or, If, Iff}
use Rattle.ath_trees.specs.declared.node.SentId.{SentId}
use Rattle.ath_trees.specs.Tree.{Sent, negated, joined, conn_of}
use Rattle.ath_trees.specs.Instance.{is_alpha_equal, same_binary}
use Rattle.ath_terms.specs.declared.node.SentNode.{SentNode}
use Rattle.ath_terms.specs.declared.node.SentNode.TheVariants as node
use Rattle.ath_terms.specs.Nodes.{conn_tree, sent_tree, arity, IsSentBelow}
use Rattle.ath_terms.proofs.ConnParts.{pair_tree}
use Rattle.ath_terms.specs.Trees.{Trees, sent_at}
use Rattle.ath_prims.specs.declared.bindings.Bindings.{Bindings}
use Rattle.ath_prims.specs.declared.schema.Part.{Part}
use Rattle.ath_prims.specs.Applied.{Parts, found, with_part, noted, bound_to, negand, sides}
use Rattle.ath_prims.specs.Stands.{sentence_at, parts_at, AreIn, IsIn, IsFound, AreFound, IsFit}

module _ (s : Trees) where
  pub found-some : (o : Option SentId) (q : SentId) (x : Option Sent) → IsFound s o x → o ≡ Some q → (q.0 < length s.sents) × (x ≡ Some (sentence_at s q))
  found-some o q x h e = go x (subst (λ (z : Option SentId). IsFound s z x) e h)
    where
      go : (y : Option Sent) → IsFound s (Some q) y → (q.0 < length s.sents) × (y ≡ Some (sentence_at s q))
      go None k = absurd k
      go (Some y) k = (k.0, ap Some (sym k.1))

  pub found-none : (o : Option SentId) (x : Option Sent) → IsFound s o x → o ≡ None → x ≡ None
  found-none o x h e = go x (subst (λ (z : Option SentId). IsFound s z x) e h)
    where
      go : (y : Option Sent) → IsFound s None y → y ≡ None
      go None k = refl
      go (Some y) k = absurd k

  pub found-map : (o : Option SentId) (x : Option Sent) → IsFound s o x → IsIn s o × (option_map (sentence_at s) o ≡ x)
  found-map None None h = (tt, refl)
  found-map None (Some x) h = absurd h
  found-map (Some p) None h = absurd h
  found-map (Some p) (Some x) h = (h.0, ap Some h.1)

  pub pair-some : (o : Option (SentId × SentId)) (q : SentId × SentId) (x : Option (Sent × Sent)) → AreFound s o x → o ≡ Some q → ((q.0.0 < length s.sents) × (q.1.0 < length s.sents)) × (x ≡ Some (sentence_at s q.0, sentence_at s q.1))
  pair-some o q x h e = go x (subst (λ (z : Option (SentId × SentId)). AreFound s z x) e h)
    where
      go : (y : Option (Sent × Sent)) → AreFound s (Some q) y → ((q.0.0 < length s.sents) × (q.1.0 < length s.sents)) × (y ≡ Some (sentence_at s q.0, sentence_at s q.1))
      go None k = absurd k
      go (Some y) k = ((k.0.0, k.1.0), λ i. Some (sym k.0.1 i, sym k.1.1 i))

  pub pair-none : (o : Option (SentId × SentId)) (x : Option (Sent × Sent)) → AreFound s o x → o ≡ None → x ≡ None
  pair-none o x h e = go x (subst (λ (z : Option (SentId × SentId)). AreFound s z x) e h)
    where
      go : (y : Option (Sent × Sent)) → AreFound s None y → y ≡ None
      go None k = refl
      go (Some y) k = absurd k

  pub fit-some : (o : Option Bindings) (f : Bindings) (x : Option Parts) → IsFit s o x → o ≡ Some f → AreIn s f × (x ≡ Some (parts_at s f))
  fit-some o f x h e = go x (subst (λ (z : Option Bindings). IsFit s z x) e h)
    where
      go : (y : Option Parts) → IsFit s (Some f) y → AreIn s f × (y ≡ Some (parts_at s f))
      go None k = absurd k
      go (Some y) k = (k.0, ap Some (sym k.1))

  pub fit-none : (o : Option Bindings) (x : Option Parts) → IsFit s o x → o ≡ None → x ≡ None
  fit-none o x h e = go x (subst (λ (z : Option Bindings). IsFit s z x) e h)
    where
      go : (y : Option Parts) → IsFit s None y → y ≡ None
      go None k = refl
      go (Some y) k = absurd k

  -- ---- a part is found
  module _ (e : Bindings) (m : Part) (p : SentId) where
    pub bound-same : (q : SentId) (b : Bool) → AreIn s e → found m (parts_at s e) ≡ Some (sentence_at s q) → b ≡ is_alpha_equal (sentence_at s q) (sentence_at s p) → b ≡ true → IsFit s (Some e) (bound_to m (sentence_at s p) (parts_at s e))
    bound-same q b inside is same t = go (found m (parts_at s e)) is
      where
        test : (u : Bool) → u ≡ true → IsFit s (Some e) (if u then Some (parts_at s e) else None)
        test true k = (inside, refl)
        test false k = absurd (cc)

        go : (o : Option Sent) → o ≡ Some (sentence_at s q) → IsFit s (Some e) (noted o m (sentence_at s p) (parts_at s e))
        go None k = absurd (cc)
        go (Some y) k = let w : y ≡ sentence_at s q = cc in test (is_alpha_equal y (sentence_at s p)) (ap (λ (z : Sent). is_alpha_equal z (sentence_at s p)) w ∙ sym same ∙ t)

    pub bound-other : (q : SentId) (b : Bool) → found m (parts_at s e) ≡ Some (sentence_at s q) → b ≡ is_alpha_equal (sentence_at s q) (sentence_at s p) → b ≡ false → IsFit s None (bound_to m (sentence_at s p) (parts_at s e))
    bound-other q b is same t = go (found m (parts_at s e)) is
      where
        test : (u : Bool) → u ≡ false → IsFit s None (if u then Some (parts_at s e) else None)
        test true k = absurd (cc)
        test false k = tt

        go : (o : Option Sent) → o ≡ Some (sentence_at s q) → IsFit s None (noted o m (sentence_at s p) (parts_at s e))
        go None k = absurd (cc)
        go (Some y) k = let w : y ≡ sentence_at s q = cc in test (is_alpha_equal y (sentence_at s p)) (ap (λ (z : Sent). is_alpha_equal z (sentence_at s p)) w ∙ sym same ∙ t)

    pub bound-new : (f : Bindings) → AreIn s f → found m (parts_at s e) ≡ None → parts_at s f ≡ with_part m (sentence_at s p) (parts_at s e) → IsFit s (Some f) (bound_to m (sentence_at s p) (parts_at s e))
    bound-new f inside is same = go (found m (parts_at s e)) is
      where
        go : (o : Option Sent) → o ≡ None → IsFit s (Some f) (noted o m (sentence_at s p) (parts_at s e))
        go None k = (inside, same)
        go (Some y) k = absurd (cc)

-- ---- negated sentences and joined ones
pub not-negated : (c : Conn) (ps : List Sent) → length ps ≡ arity c → (c ≡ Not → ⊥) → negand (conn_tree c ps) ≡ None
not-negated Not ps l h = absurd (h refl)
not-negated And [] l h = absurd (omega (arith, l))
not-negated And (p ∷ []) l h = absurd (omega (arith, l))
not-negated And (p ∷ q ∷ ps) l h = refl
not-negated Or [] l h = absurd (omega (arith, l))
not-negated Or (p ∷ []) l h = absurd (omega (arith, l))
not-negated Or (p ∷ q ∷ ps) l h = refl
not-negated If [] l h = absurd (omega (arith, l))
not-negated If (p ∷ []) l h = absurd (omega (arith, l))
not-negated If (p ∷ q ∷ ps) l h = refl
not-negated Iff [] l h = absurd (omega (arith, l))
not-negated Iff (p ∷ []) l h = absurd (omega (arith, l))
not-negated Iff (p ∷ q ∷ ps) l h = refl

other-sides : (k l : Binary) (p q : Sent) → (conn_of l ≡ conn_of k → ⊥) → sides k (joined l p q) ≡ None
other-sides binary.And binary.And p q h = absurd (h refl)
other-sides binary.Or binary.Or p q h = absurd (h refl)
other-sides binary.If binary.If p q h = absurd (h refl)
other-sides binary.Iff binary.Iff p q h = absurd (h refl)
other-sides k l p q h = refl

pub not-joined : (k : Binary) (c : Conn) (ps : List Sent) → length ps ≡ arity c → (c ≡ conn_of k → ⊥) → sides k (conn_tree c ps) ≡ None
not-joined k Not [] l h = absurd (omega (arith, l))
not-joined k Not (p ∷ ps) l h = refl
not-joined k And [] l h = absurd (omega (arith, l))
not-joined k And (p ∷ []) l h = absurd (omega (arith, l))
not-joined k And (p ∷ q ∷ ps) l h = other-sides k binary.And p q h
not-joined k Or [] l h = absurd (omega (arith, l))
not-joined k Or (p ∷ []) l h = absurd (omega (arith, l))
not-joined k Or (p ∷ q ∷ ps) l h = other-sides k binary.Or p q h
not-joined k If [] l h = absurd (omega (arith, l))
not-joined k If (p ∷ []) l h = absurd (omega (arith, l))
not-joined k If (p ∷ q ∷ ps) l h = other-sides k binary.If p q h
not-joined k Iff [] l h = absurd (omega (arith, l))
not-joined k Iff (p ∷ []) l h = absurd (omega (arith, l))
not-joined k Iff (p ∷ q ∷ ps) l h = other-sides k binary.Iff p q h

same_binary-self : (k : Binary) → same_binary k k ≡ true
same_binary-self binary.And = refl
same_binary-self binary.Or = refl
same_binary-self binary.If = refl
same_binary-self binary.Iff = refl

pub joined-sides : (k : Binary) (p q : Sent) → sides k (joined k p q) ≡ Some (p, q)
joined-sides k p q = rw (same_binary-self k) refl

arity-two : (k : Binary) → arity (conn_of k) ≡ 2
arity-two binary.And = refl
arity-two binary.Or = refl
arity-two binary.If = refl
arity-two binary.Iff = refl

module _ (s : Trees) (k : Binary) (p : ℕ) (inside : p < length s.sents) where
  pair-sides : (c : Conn) (ids : List SentId) (d e : SentId) → conn_tree c (map (λ i. sent_at s.sents i.0) ids) ≡ sent_at s.sents p → length ids ≡ arity c → All (λ i. i.0 < p) ids → c ≡ conn_of k
      → AreFound s (Some (slice_index_or ids 0 d, slice_index_or ids 1 e)) (sides k (sent_at s.sents p))
  pair-sides c [] d e t l h q = absurd (let m = ap arity q ∙ arity-two k in omega (arith, l, m))
  pair-sides c (x ∷ []) d e t l h q = absurd (let m = ap arity q ∙ arity-two k in omega (arith, l, m))
  pair-sides c (x ∷ y ∷ z ∷ ids) d e t l h q = absurd (let m = ap arity q ∙ arity-two k in omega (arith, l, m))
  pair-sides c (x ∷ y ∷ []) d e t l h q =
      let a : x.0 < p = All-head (λ (i : SentId). i.0 < p) x (y ∷ []) h in
      let b : y.0 < p = All-head (λ (i : SentId). i.0 < p) y [] (All-tail (λ (i : SentId). i.0 < p) x (y ∷ []) h) in
      let two = sent_at s.sents x.0 ∷ sent_at s.sents y.0 ∷ [] in
      let tree : joined k (sent_at s.sents x.0) (sent_at s.sents y.0) ≡ sent_at s.sents p = pair_tree k (sent_at s.sents x.0) (sent_at s.sents y.0) ∙ ap (λ (c : Conn). conn_tree c two) (sym q) ∙ t in
      let is = sym (joined-sides k (sent_at s.sents x.0) (sent_at s.sents y.0)) ∙ ap (sides k) tree in
      subst (AreFound s (Some (x, y))) is ((omega (arith, a, inside), refl), (omega (arith, b, inside), refl))

  pub two-sides : (n : SentNode) (c : Conn) (ids found : List SentId) (d e : SentId) → n ≡ node.Conn c ids → sent_tree s.terms s.sents n ≡ sent_at s.sents p → IsSentBelow (length s.terms) p n → c ≡ conn_of k → found ≡ ids
      → AreFound s (Some (slice_index_or found 0 d, slice_index_or found 1 e)) (sides k (sent_at s.sents p))
  two-sides n c ids found d e is tree below q same =
      let t = ap (sent_tree s.terms s.sents) (sym is) ∙ tree in
      let l = subst (IsSentBelow (length s.terms) p) is below in
      subst (λ (z : List SentId). AreFound s (Some (slice_index_or z 0 d, slice_index_or z 1 e)) (sides k (sent_at s.sents p))) (sym same) (pair-sides c ids d e t l.0 l.1 q)
