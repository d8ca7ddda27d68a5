-- The view of a store, one node later, and one node's tree.
use Rattle.std.proofs.Common.{◌≡◌, ℕ, zero, suc, ◌+◌, ◌<◌, ◌≤◌, List, [], ◌∷◌, ◌++◌, length, map, get_or, refl, sym, ◌∙◌, ap, subst, arith, length-append}
use Rattle.ath_sorts.specs.declared.sorts.Sort.{Sort}
use Rattle.ath_sorts.specs.Signature.{boolean}
use Rattle.ath_terms.specs.declared.store.KeptTerm.{KeptTerm}
use Rattle.ath_terms.specs.declared.store.KeptSent.{KeptSent}
use Rattle.ath_terms.specs.declared.marks.Marks.{Marks}
use Rattle.ath_trees.specs.declared.limits.TheConstants.{MOST_TERM_NODES, MOST_TERM_LEVELS}
use Rattle.ath_terms.specs.Whole.{nodes_of, sorts_of, extents_of, sent_nodes_of, sent_extents_of, whole_view, IsWell, IsWhole}
use Rattle.ath_terms.specs.Kept.{Extent, IsTermKept, IsSentKept, AreEach}
use Rattle.ath_terms.specs.declared.node.TermNode.{TermNode}
use Rattle.ath_terms.specs.declared.node.SentNode.{SentNode}
use Rattle.ath_terms.specs.declared.node.SentNode.TheVariants as node
use Rattle.ath_trees.specs.Tree.{Term, Sent, atom}
use Rattle.ath_terms.specs.Blank.{blank}
use Rattle.ath_terms.specs.Trees.{Trees, term_at, sort_at, sent_at}
use Rattle.ath_terms.specs.Built.{built, IsOrdered}
use Rattle.ath_terms.specs.Nodes.{term_tree, sent_tree, term_trees, sent_trees, IsTermBelow, IsSentBelow}
use Rattle.ath_terms.proofs.BuiltLaws.{get_or-append-left, built-push, built-length, built-at, ordered-push, ordered-at}
use Rattle.ath_terms.proofs.NodeLaws.{terms-respect, sents-respect, sent_tree-keeps}

record Pair : Type 0 where
  pub terms : List Term
  pub sents : List Sent

abbrev view_of : List TermNode → List SentNode → Pair
view_of ns ms = record { terms = term_trees ns; sents = sent_trees (term_trees ns) ms }

-- ---- sentences under more terms
below-more : (m n k : ℕ) (s : SentNode) → m ≤ n → IsSentBelow m k s → IsSentBelow n k s
below-more m n k (node.Atom t) h b = omega arith
below-more m n k (node.Eq s t) h b = (omega arith, omega arith)
below-more m n k (node.Conn c ids) h b = b
below-more m n k (node.Quant q v p) h b = b

ordered-more : (m n k : ℕ) (ms : List SentNode) → m ≤ n → IsOrdered (IsSentBelow m) k ms → IsOrdered (IsSentBelow n) k ms
ordered-more m n k [] h o = tt
ordered-more m n k (s ∷ ms) h o = (below-more m n k s h o.0, ordered-more m n (k + 1) ms h o.1)

sents-keep : (ts us : List Term) (m k : ℕ) (ss : List Sent) (ms : List SentNode) → ((j : ℕ) → j < m → term_at us j ≡ term_at ts j) → IsOrdered (IsSentBelow m) k ms → built (sent_tree us) ss ms ≡ built (sent_tree ts) ss ms
sents-keep ts us m k ss [] h o = refl
sents-keep ts us m k ss (s ∷ ms) h o = rw (sent_tree-keeps ts us ss m k s h o.0) (sents-keep ts us m (k + 1) (ss ++ sent_tree ts ss s ∷ []) ms h o.1)

-- ---- the clauses
view-add_term : (ns : List TermNode) (ms : List SentNode) (n : TermNode) → IsWell ns ms → view_of (ns ++ n ∷ []) ms ≡ record { terms = term_trees ns ++ term_tree (term_trees ns) n ∷ []; sents = sent_trees (term_trees ns) ms }
view-add_term ns ms n w =
    let p = built-push term_tree [] ns n in
    let l = built-length term_tree [] ns in
    let grown : (j : ℕ) → j < length ns → term_at (term_trees ns ++ term_tree (term_trees ns) n ∷ []) j ≡ term_at (term_trees ns) j
    = λ j h. get_or-append-left blank (term_trees ns) (term_tree (term_trees ns) n ∷ []) j (omega arith) in
    let q = sents-keep (term_trees ns) (term_trees ns ++ term_tree (term_trees ns) n ∷ []) (length ns) 0 [] ms grown w.1 in
    rw p (λ i. record { terms = term_trees ns ++ term_tree (term_trees ns) n ∷ []; sents = q i })

well-add_term : (ns : List TermNode) (ms : List SentNode) (n : TermNode) → IsWell ns ms → IsTermBelow (length (term_trees ns)) n → IsWell (ns ++ n ∷ []) ms
well-add_term ns ms n w b =
    let l = built-length term_tree [] ns in
    let e : length (term_trees ns) ≡ 0 + length ns = omega arith in
    (ordered-push IsTermBelow 0 ns n w.0 (rw e at b), ordered-more (length ns) (length (ns ++ n ∷ [])) 0 ms (omega (arith, length-append ns (n ∷ []))) w.1)

view-add_sent : (ns : List TermNode) (ms : List SentNode) (n : SentNode) → view_of ns (ms ++ n ∷ []) ≡ record { terms = term_trees ns; sents = sent_trees (term_trees ns) ms ++ sent_tree (term_trees ns) (sent_trees (term_trees ns) ms) n ∷ [] }
view-add_sent ns ms n = rw (built-push (sent_tree (term_trees ns)) [] ms n)

well-add_sent : (ns : List TermNode) (ms : List SentNode) (n : SentNode) → IsWell ns ms → IsSentBelow (length (term_trees ns)) (length (sent_trees (term_trees ns) ms)) n → IsWell ns (ms ++ n ∷ [])
well-add_sent ns ms n w b =
    let l = built-length term_tree [] ns in
    let k = built-length (sent_tree (term_trees ns)) [] ms in
    let e : length (term_trees ns) ≡ length ns = omega arith in
    let f : length (sent_trees (term_trees ns) ms) ≡ 0 + length ms = omega arith in
    (w.0, ordered-push (IsSentBelow (length ns)) 0 ms n w.1 (rw (e, f) at b))

pub terms-length : (ns : List TermNode) → length (term_trees ns) ≡ length ns
terms-length ns = let l = built-length term_tree [] ns in omega arith

pub sents-length : (ts : List Term) (ms : List SentNode) → length (sent_trees ts ms) ≡ length ms
sents-length ts ms = let l = built-length (sent_tree ts) [] ms in omega arith

pub term-node : (ns : List TermNode) (k : ℕ) (d : TermNode) → IsOrdered IsTermBelow 0 ns → k < length ns → term_tree (term_trees ns) (get_or ns k d) ≡ term_at (term_trees ns) k
term-node ns k d o h = let e : 0 + k ≡ k = omega arith in sym (rw e at (built-at term_tree IsTermBelow blank d terms-respect [] ns k o h))

pub term-below : (ns : List TermNode) (k : ℕ) (d : TermNode) → IsOrdered IsTermBelow 0 ns → k < length ns → IsTermBelow k (get_or ns k d)
term-below ns k d o h = let e : 0 + k ≡ k = omega arith in rw e at (ordered-at IsTermBelow 0 ns k d o h)

pub sent-node : (ts : List Term) (m : ℕ) (ms : List SentNode) (k : ℕ) (d : SentNode) → IsOrdered (IsSentBelow m) 0 ms → k < length ms → sent_tree ts (sent_trees ts ms) (get_or ms k d) ≡ sent_at (sent_trees ts ms) k
sent-node ts m ms k d o h = let e : 0 + k ≡ k = omega arith in sym (rw e at (built-at (sent_tree ts) (IsSentBelow m) (atom blank) d (sents-respect ts m) [] ms k o h))

pub sent-below : (m : ℕ) (ms : List SentNode) (k : ℕ) (d : SentNode) → IsOrdered (IsSentBelow m) 0 ms → k < length ms → IsSentBelow m k (get_or ms k d)
sent-below m ms k d o h = let e : 0 + k ≡ k = omega arith in rw e at (ordered-at (IsSentBelow m) 0 ms k d o h)

-- ---- over what the view is
pub map-push : {A B : Type 0} (f : A → B) (xs : List A) (x : A) → map f (xs ++ x ∷ []) ≡ map f xs ++ f x ∷ []
map-push f [] x = refl
map-push f (y ∷ xs) x = ap (λ l. f y ∷ l) (map-push f xs x)

pub map-count : {A B : Type 0} (f : A → B) (xs : List A) → length (map f xs) ≡ length xs
map-count f [] = refl
map-count f (x ∷ xs) = let e = map-count f xs in omega arith

pub map-get : {A B : Type 0} (f : A → B) (xs : List A) (k : ℕ) (d : A) (b : B) → k < length xs → get_or (map f xs) k b ≡ f (get_or xs k d)
map-get f [] k d b h = absurd (omega arith)
map-get f (x ∷ xs) zero d b h = refl
map-get f (x ∷ xs) (suc k) d b h = map-get f xs k d b (omega arith)

each-push : {A B : Type 0} (P : A → B → Type 0) (xs : List A) (ys : List B) (x : A) (y : B) → AreEach P xs ys → P x y → AreEach P (xs ++ x ∷ []) (ys ++ y ∷ [])
each-push P [] [] x y h p = (p, tt)
each-push P (a ∷ xs) (b ∷ ys) x y h p = (h.0, each-push P xs ys x y h.1 p)
each-push P [] (b ∷ ys) x y h p = absurd h
each-push P (a ∷ xs) [] x y h p = absurd h

each-at : {A B : Type 0} (P : A → B → Type 0) (xs : List A) (ys : List B) (k : ℕ) (a : A) (b : B) → AreEach P xs ys → k < length xs → P (get_or xs k a) (get_or ys k b)
each-at P [] ys k a b h l = absurd (omega arith)
each-at P (x ∷ xs) (y ∷ ys) zero a b h l = h.0
each-at P (x ∷ xs) (y ∷ ys) (suc k) a b h l = each-at P xs ys k a b h.1 (omega arith)
each-at P (x ∷ xs) [] k a b h l = absurd h

module _ (es : List KeptTerm) (ms : List KeptSent) (v : Trees) (is : whole_view es ms ≡ v) (w : IsWhole es ms) where
  kept_terms : AreEach IsTermKept v.terms (extents_of es)
  kept_terms = subst (λ (t : Trees). AreEach IsTermKept t.terms (extents_of es)) is w.1.terms

  kept_sents : AreEach IsSentKept v.sents (sent_extents_of ms)
  kept_sents = subst (λ (t : Trees). AreEach IsSentKept t.sents (sent_extents_of ms)) is w.1.sents

  module _ (n : TermNode) (r : Sort) (a b : ℕ) (k : Marks) (items : List KeptTerm) (e : items ≡ es ++ record { node = n; sort = r; nodes = a; levels = b; marks = k } ∷ []) where
    pub then-add_term : whole_view items ms ≡ record { terms = v.terms ++ term_tree v.terms n ∷ []; sorts = v.sorts ++ r ∷ []; sents = v.sents }
    then-add_term =
        let x = map-push (λ (e : KeptTerm). e.node) es (record { node = n; sort = r; nodes = a; levels = b; marks = k }) in
        let y = map-push (λ (e : KeptTerm). e.sort) es (record { node = n; sort = r; nodes = a; levels = b; marks = k }) in
        let q = view-add_term (nodes_of es) (sent_nodes_of ms) n w.0 in
        rw (e, ← is, x, y) (λ i. record { terms = (q i).terms; sorts = sorts_of es ++ r ∷ []; sents = (q i).sents })

    well-then-term : IsTermBelow (length v.terms) n → IsWell (nodes_of items) (sent_nodes_of ms)
    well-then-term below = rw (e, map-push (λ (e : KeptTerm). e.node) es (record { node = n; sort = r; nodes = a; levels = b; marks = k })) (well-add_term (nodes_of es) (sent_nodes_of ms) n w.0 (rw (← is) at below))

    pub whole-then-term : IsTermBelow (length v.terms) n → IsTermKept (term_tree v.terms n) (record { nodes = a; levels = b }) → IsWhole items ms
    whole-then-term below kept =
        let q = sym then-add_term in
        let x = ap extents_of e ∙ map-push (λ (e : KeptTerm). record { nodes = e.nodes; levels = e.levels }) es (record { node = n; sort = r; nodes = a; levels = b; marks = k }) in
        let p = each-push IsTermKept v.terms (extents_of es) (term_tree v.terms n) (record { nodes = a; levels = b }) kept_terms kept in
        let p' = subst (AreEach IsTermKept (v.terms ++ term_tree v.terms n ∷ [])) (sym x) p in (
          well-then-term below,
          record {
            terms = subst (λ (t : Trees). AreEach IsTermKept t.terms (extents_of items)) q p';
            sents = subst (λ (t : Trees). AreEach IsSentKept t.sents (sent_extents_of ms)) q kept_sents;
          },
        )

  module _ (n : SentNode) (a b : ℕ) (k : Marks) (items : List KeptSent) (e : items ≡ ms ++ record { node = n; nodes = a; levels = b; marks = k } ∷ []) where
    pub then-add_sent : whole_view es items ≡ record { terms = v.terms; sorts = v.sorts; sents = v.sents ++ sent_tree v.terms v.sents n ∷ [] }
    then-add_sent =
        let x = map-push (λ (e : KeptSent). e.node) ms (record { node = n; nodes = a; levels = b; marks = k }) in
        let q = view-add_sent (nodes_of es) (sent_nodes_of ms) n in
        rw (e, ← is, x) (λ i. record { terms = term_trees (nodes_of es); sorts = sorts_of es; sents = (q i).sents })

    well-then-sent : IsSentBelow (length v.terms) (length v.sents) n → IsWell (nodes_of es) (sent_nodes_of items)
    well-then-sent below = rw (e, map-push (λ (e : KeptSent). e.node) ms (record { node = n; nodes = a; levels = b; marks = k })) (well-add_sent (nodes_of es) (sent_nodes_of ms) n w.0 (rw (← is) at below))

    pub whole-then-sent : IsSentBelow (length v.terms) (length v.sents) n → IsSentKept (sent_tree v.terms v.sents n) (record { nodes = a; levels = b }) → IsWhole es items
    whole-then-sent below kept =
        let q = sym then-add_sent in
        let x = ap sent_extents_of e ∙ map-push (λ (e : KeptSent). record { nodes = e.nodes; levels = e.levels }) ms (record { node = n; nodes = a; levels = b; marks = k }) in
        let p = each-push IsSentKept v.sents (sent_extents_of ms) (sent_tree v.terms v.sents n) (record { nodes = a; levels = b }) kept_sents kept in
        let p' = subst (AreEach IsSentKept (v.sents ++ sent_tree v.terms v.sents n ∷ [])) (sym x) p in (
          well-then-sent below,
          record {
            terms = subst (λ (t : Trees). AreEach IsTermKept t.terms (extents_of es)) q kept_terms;
            sents = subst (λ (t : Trees). AreEach IsSentKept t.sents (sent_extents_of items)) q p';
          },
        )

  pub terms-count : length v.terms ≡ length es
  terms-count = rw (← is) (terms-length (nodes_of es) ∙ map-count (λ (e : KeptTerm). e.node) es)

  pub sorts-count : length v.sorts ≡ length v.terms
  sorts-count =
      let e = terms-count in
      let m = map-count (λ (e : KeptTerm). e.sort) es in
      let p : length (sorts_of es) ≡ length v.sorts = ap (λ (t : Trees). length t.sorts) is in
      omega arith

  pub sents-count : length v.sents ≡ length ms
  sents-count = rw (← is) (sents-length (term_trees (nodes_of es)) (sent_nodes_of ms) ∙ map-count (λ (e : KeptSent). e.node) ms)

  pub term-is : (k : ℕ) (d : KeptTerm) → k < length v.terms → term_tree v.terms (get_or es k d).node ≡ term_at v.terms k
  term-is k d h =
      let e = terms-count in
      let m = map-count (λ (e : KeptTerm). e.node) es in
      let g = map-get (λ (e : KeptTerm). e.node) es k d d.node (omega arith) in
      rw (← is) (rw g at (term-node (nodes_of es) k d.node w.0.0 (omega arith)))

  pub sort-is : (k : ℕ) (d : KeptTerm) → k < length v.terms → (get_or es k d).sort ≡ sort_at v.sorts k
  sort-is k d h =
      let e = terms-count in
      rw (← is) (sym (map-get (λ (e : KeptTerm). e.sort) es k d boolean (omega arith)))

  pub sent-is : (k : ℕ) (d : KeptSent) → k < length v.sents → sent_tree v.terms v.sents (get_or ms k d).node ≡ sent_at v.sents k
  sent-is k d h =
      let e = sents-count in
      let m = map-count (λ (e : KeptSent). e.node) ms in
      let g = map-get (λ (e : KeptSent). e.node) ms k d d.node (omega arith) in
      rw (← is) (rw g at (sent-node (term_trees (nodes_of es)) (length (nodes_of es)) (sent_nodes_of ms) k d.node w.0.1 (omega arith)))

  pub term-parts : (k : ℕ) (d : KeptTerm) → k < length v.terms → IsTermBelow k (get_or es k d).node
  term-parts k d h =
      let e = terms-count in
      let m = map-count (λ (e : KeptTerm). e.node) es in
      let g = map-get (λ (e : KeptTerm). e.node) es k d d.node (omega arith) in
      rw g at (term-below (nodes_of es) k d.node w.0.0 (omega arith))

  pub sent-parts : (k : ℕ) (d : KeptSent) → k < length v.sents → IsSentBelow (length v.terms) k (get_or ms k d).node
  sent-parts k d h =
      let e = sents-count in
      let t = terms-count in
      let m = map-count (λ (e : KeptTerm). e.node) es in
      let m' = map-count (λ (e : KeptSent). e.node) ms in
      let g = map-get (λ (e : KeptSent). e.node) ms k d d.node (omega arith) in
      let l : length (nodes_of es) ≡ length v.terms = omega arith in
      rw (l, g) at (sent-below (length (nodes_of es)) (sent_nodes_of ms) k d.node w.0.1 (omega arith))

  pub term-kept : (k : ℕ) (d : KeptTerm) → k < length v.terms → IsTermKept (term_at v.terms k) (record { nodes = (get_or es k d).nodes; levels = (get_or es k d).levels })
  term-kept k d h =
      let e = terms-count in
      let g = map-get {B = Extent} (λ (e : KeptTerm). record { nodes = e.nodes; levels = e.levels }) es k d (record { nodes = d.nodes; levels = d.levels }) (omega arith) in
      rw g at (each-at IsTermKept v.terms (extents_of es) k blank (record { nodes = d.nodes; levels = d.levels }) kept_terms h)

  pub sent-kept : (k : ℕ) (d : KeptSent) → k < length v.sents → IsSentKept (sent_at v.sents k) (record { nodes = (get_or ms k d).nodes; levels = (get_or ms k d).levels })
  sent-kept k d h =
      let e = sents-count in
      let g = map-get {B = Extent} (λ (e : KeptSent). record { nodes = e.nodes; levels = e.levels }) ms k d (record { nodes = d.nodes; levels = d.levels }) (omega arith) in
      rw g at (each-at IsSentKept v.sents (sent_extents_of ms) k (atom blank) (record { nodes = d.nodes; levels = d.levels }) kept_sents h)

  -- each is within the limits
  pub term-nodes-few : (k : ℕ) (d : KeptTerm) → k < length v.terms → (get_or es k d).nodes ≤ MOST_TERM_NODES
  term-nodes-few k d h = let q = term-kept k d h in let s = q.small.nodes in let e = q.nodes in omega arith

  pub term-levels-few : (k : ℕ) (d : KeptTerm) → k < length v.terms → (get_or es k d).levels ≤ MOST_TERM_LEVELS
  term-levels-few k d h = let q = term-kept k d h in let s = q.small.levels in let e = q.levels in omega arith

  pub sent-nodes-few : (k : ℕ) (d : KeptSent) → k < length v.sents → (get_or ms k d).nodes ≤ MOST_TERM_NODES
  sent-nodes-few k d h = let q = sent-kept k d h in let s = q.small.nodes in let e = q.nodes in omega arith

  pub sent-levels-few : (k : ℕ) (d : KeptSent) → k < length v.sents → (get_or ms k d).levels ≤ MOST_TERM_LEVELS
  sent-levels-few k d h = let q = sent-kept k d h in let s = q.small.levels in let e = q.levels in omega arith
