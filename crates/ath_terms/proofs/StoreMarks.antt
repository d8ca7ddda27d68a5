-- What is marked in a store, one node later.
use Rattle.std.proofs.Common.{◌≡◌, ℕ, ◌+◌, ◌<◌, Bool, true, ◌&&◌, not, List, [], ◌∷◌, ◌++◌, length, map, get_or, refl, sym, ◌∙◌, ap, subst, arith, length-append, ◌⊎◌, inl, inr}
use Rattle.std.specs.Prelude.{filter}
use Rattle.std.specs.List.{list_all}
use Rattle.std.proofs.lemmas.Grind.{common_steps}
use Rattle.ath_sorts.specs.declared.sorts.SVar.{SVar}
use Rattle.ath_sorts.specs.declared.sorts.Sort.{Sort}
use Rattle.ath_sorts.specs.Sorts.{is_small, apply_to}
use Rattle.ath_sorts.specs.Signature.{Signature}
use Rattle.ath_sorts.proofs.Bools.{and_parts}
use Rattle.ath_trees.specs.declared.node.Conn.{Conn}
use Rattle.ath_trees.specs.declared.node.Quant.{Quant}
use Rattle.ath_trees.specs.declared.node.SentId.{SentId}
use Rattle.ath_trees.specs.declared.node.Var.{Var}
use Rattle.ath_trees.specs.declared.node.TermId.{TermId}
use Rattle.ath_trees.specs.Tree.{Term, app, listed, Sent, equal, bound}
use Rattle.ath_sorts.specs.declared.sorts.Sym.{Sym}
use Rattle.ath_terms.specs.declared.node.TermNode.{TermNode}
use Rattle.ath_terms.specs.declared.node.TermNode.TheVariants as node_term
use Rattle.ath_terms.specs.declared.node.SentNode.{SentNode}
use Rattle.ath_terms.specs.declared.node.SentNode.TheVariants as node
use Rattle.ath_terms.specs.declared.store.KeptTerm.{KeptTerm}
use Rattle.ath_terms.specs.declared.store.KeptSent.{KeptSent}
use Rattle.ath_terms.specs.Whole.{whole_view, IsWhole}
use Rattle.ath_trees.specs.Occurrences.{is_named}
use Rattle.ath_trees.proofs.GroupLaws.{named-with_vars, named-filter}
use Rattle.ath_trees.specs.SortsIn.{has_small_sorts, sent_has_small_sorts}
use Rattle.ath_trees.specs.Under.{term_under, sent_under}
use Rattle.ath_trees.specs.Variables.{same_var, with_vars, with_term, with_sent, with_sents}
use Rattle.ath_trees.specs.WellSorted.{HasSort, IsWellSorted}
use Rattle.ath_terms.specs.declared.marks.Marks.{Marks}
use Rattle.ath_terms.specs.declared.sort_vars.SortVars.{SortVars}
use Rattle.ath_terms.specs.Marks.{AreApart, AreMarked, AreTermsMarked, AreSentsMarked, adds, IsSortFixed, IsVarMarked, IsNodeMarked, IsTermMarked, IsSentMarked, HasMarks, all_marks, no_marks, with_marks, over}
use Rattle.ath_terms.specs.Nodes.{conn_tree, arity, term_tree, sent_tree, IsSentBelow}
use Rattle.ath_terms.specs.SortVars.{both, Fixes}
use Rattle.ath_terms.specs.SortsIn.{IsSortedIn}
use Rattle.ath_terms.specs.Trees.{Trees, term_at, sort_at, sent_at, Grows}
use Rattle.ath_terms.proofs.BuiltLaws.{get_or-append-left, get_or-append-here}
use Rattle.ath_terms.proofs.ConnParts.{under_of_list, vars_of_list, small_of_list}
use Rattle.ath_terms.proofs.Grow.{grows-terms, grows-sents, new-term, new-sent}
use Rattle.ath_terms.proofs.MarkLaws.{marked-where, app-marked, equal-marked}
use Rattle.ath_terms.proofs.StoreLaws.{map-push, map-count, map-get, terms-count, sorts-count, sents-count, then-add_term, then-add_sent}
use Rattle.ath_terms.proofs.SortVarLaws.{fixes-left, fixes-right}

-- ---- sentences over sentences
pub sents-adds : (found : List Var) (ps : List Sent) → with_sents found ps ≡ adds with_sent found ps
sents-adds found [] = refl
sents-adds found (p ∷ ps) = sents-adds (with_sent found p) ps

length-of : {A B : Type 0} (f : A → B) (xs : List A) → length (map f xs) ≡ length xs
length-of f [] = refl
length-of f (x ∷ xs) = let e = length-of f xs in omega arith

module _ (s : Trees) where
  abbrev Fine : Signature → Type 0
  Fine sig = IsSortedIn sig s

  pub conn-marked : (c : Conn) (ids : List SentId) (m : Marks) → length ids ≡ arity c → AreMarked with_sent sent_has_small_sorts sent_under Fine (map (λ i. sent_at s.sents i.0) ids) m → IsSentMarked s (conn_tree c (map (λ i. sent_at s.sents i.0) ids)) m
  conn-marked c ids m l h =
      let ps = map (λ (i : SentId). sent_at s.sents i.0) ids in
      let k : length ps ≡ arity c = length-of (λ (i : SentId). sent_at s.sents i.0) ids ∙ l in
      record {
        closed = λ e found. vars_of_list found c ps k ∙ sents-adds found ps ∙ h.closed e found;
        lacks = λ v e found. ap (is_named v) (vars_of_list found c ps k ∙ sents-adds found ps) ∙ h.lacks v e found;
        apart = λ e. subst AreApart (sym (vars_of_list [] c ps k ∙ sents-adds [] ps)) (h.apart e);
        small = λ e sig fits. small_of_list sig c ps k ∙ h.small e sig fits;
        fixed = λ f e. under_of_list f c ps k ∙ ap (conn_tree c) (h.fixed f e);
      }

  and-more : (a b : Bool) → a ≡ true → b ≡ true → (a && b) ≡ true
  and-more a b p q = rw (p, q) refl

  pub bound-marked : (q : Quant) (v : Var) (p : Sent) (m : Marks) (a : Bool) (u : SortVars) → IsSentMarked s p m → a ≡ is_small v.sort → ((f : SVar → Sort) → Fixes u f → apply_to f v.sort ≡ v.sort) → IsSentMarked s (bound q v p) (record { is_closed = m.is_closed; groups = m.groups; is_apart = m.is_closed; is_small = m.is_small && a; sorts = both m.sorts u })
  bound-marked q v p m a u h e x = record {
    closed = λ c found. ap (λ (vs : List Var). with_vars found (filter (λ w. not (same_var v w)) vs)) (h.closed c []);
    lacks = λ w c found. named-with_vars w found (filter (λ u. not (same_var v u)) (with_sent [] p)) (named-filter w (λ u. not (same_var v u)) (with_sent [] p) (h.lacks w c []));
    apart = λ c. subst (λ (vs : List Var). AreApart (with_vars [] (filter (λ w. not (same_var v w)) vs))) (sym (h.closed c [])) tt;
    small = λ c sig fits. let y = and_parts m.is_small a c in and-more (is_small v.sort) (sent_has_small_sorts sig p) (sym e ∙ y.1) (h.small y.0 sig fits);
    fixed = λ f c. let y = x f (fixes-right m.sorts u f c) in let z = h.fixed f (fixes-left m.sorts u f c) in λ i. bound q (record { name = v.name; index = v.index; sort = y i }) (z i);
  }

-- ---- a store that grew was as well sorted
has_same : (sig : Signature) (x y : Term) (r q : Sort) → x ≡ y → r ≡ q → HasSort sig x r → HasSort sig y q
has_same sig x y r q p e h = rw (← p, ← e) h

sorted-before : (sig : Signature) (s u : Trees) → Grows s u → IsSortedIn sig u → IsSortedIn sig s
sorted-before sig s u g h = record {
  valid = h.valid;
  boolean_there = h.boolean_there;
  terms = λ k l. has_same sig (term_at u.terms k) (term_at s.terms k) (sort_at u.sorts k) (sort_at s.sorts k) (g.same_terms k l) (g.same_sorts k l) (h.terms k (omega (arith, g.terms)));
  sents = λ k l. subst (IsWellSorted sig) (g.same_sents k l) (h.sents k (omega (arith, g.sents)));
}

last : (a b : ℕ) → a < b + 1 → (a < b) ⊎ (a ≡ b)
last a b q = grind (arith, common_steps)

fixed-where : (r q : Sort) (m n : Marks) → r ≡ q → m ≡ n → IsSortFixed r m → IsSortFixed q n
fixed-where r q m n e f h = subst (λ (x : Marks). IsSortFixed q x) f (subst (λ (x : Sort). IsSortFixed x m) e h)

term-where : (s u : Trees) (k : ℕ) (m n : Marks) → Grows s u → k < length s.terms → m ≡ n → IsTermMarked s k m → IsTermMarked u k n
term-where s u k m n g l e h = subst (IsTermMarked u k) e (record {
  tree = marked-where with_term has_small_sorts term_under (λ sig. IsSortedIn sig s) (λ sig. IsSortedIn sig u) (term_at s.terms k) (term_at u.terms k) m (sym (g.same_terms k l)) (λ sig. sorted-before sig s u g) h.tree;
  sort = fixed-where (sort_at s.sorts k) (sort_at u.sorts k) m m (sym (g.same_sorts k l)) refl h.sort;
})

sent-where : (s u : Trees) (x y : Sent) (m n : Marks) → Grows s u → x ≡ y → m ≡ n → IsSentMarked s x m → IsSentMarked u y n
sent-where s u x y m n g p e h = subst (IsSentMarked u y) e (marked-where with_sent sent_has_small_sorts sent_under (λ sig. IsSortedIn sig s) (λ sig. IsSortedIn sig u) x y m p (λ sig. sorted-before sig s u g) h)

node-where : (s u : Trees) (k : ℕ) (x : Term) (r : Sort) (m n : Marks) → Grows s u → k < length u.terms → term_at u.terms k ≡ x → sort_at u.sorts k ≡ r → m ≡ n → IsNodeMarked s x r m → IsTermMarked u k n
node-where s u k x r m n g l p q e h = subst (IsTermMarked u k) e (record {
  tree = marked-where with_term has_small_sorts term_under (λ sig. IsSortedIn sig s × HasSort sig x r) (λ sig. IsSortedIn sig u) x (term_at u.terms k) m (sym p) (λ sig t. (sorted-before sig s u g t, has_same sig (term_at u.terms k) x (sort_at u.sorts k) r p q (t.terms k l))) h.tree;
  sort = fixed-where r (sort_at u.sorts k) m m (sym q) refl h.sort;
})

pub marks-then-term : (s u : Trees) (ms ns : List Marks) (x : Term) (r : Sort) (m : Marks) → length s.sorts ≡ length s.terms → length ms ≡ length s.terms → u ≡ record { terms = s.terms ++ x ∷ []; sorts = s.sorts ++ r ∷ []; sents = s.sents } → HasMarks s ms ns → IsNodeMarked s x r m → HasMarks u (ms ++ m ∷ []) ns
marks-then-term s u ms ns x r m l c e h n =
    let w : Trees = record { terms = s.terms ++ x ∷ []; sorts = s.sorts ++ r ∷ []; sents = s.sents } in
    let g = grows-terms s x r l in
    subst (λ (t : Trees). HasMarks t (ms ++ m ∷ []) ns) (sym e) (record {
      terms = λ k b. elim (last k (length s.terms) (omega (arith, length-append s.terms (x ∷ [])))) [
        | inl p ↦ term-where s w k (get_or ms k no_marks) (get_or (ms ++ m ∷ []) k no_marks) g p (sym (get_or-append-left no_marks ms (m ∷ []) k (omega arith))) (h.terms k p)
        | inr p ↦ (
            let there = (new-term s w k x r p l refl).1 in
            let q : length ms ≡ k = omega arith in
            node-where s w k x r m (get_or (ms ++ m ∷ []) k no_marks) g b there.0.1 there.1 (sym (subst (λ (j : ℕ). get_or (ms ++ m ∷ []) j no_marks ≡ m) q (get_or-append-here no_marks ms m))) n
            )
      ];
      sents = λ k b. sent-where s w (sent_at s.sents k) (sent_at s.sents k) (get_or ns k no_marks) (get_or ns k no_marks) g refl refl (h.sents k b);
    })

pub marks-then-sent : (s u : Trees) (ms ns : List Marks) (x : Sent) (m : Marks) → length ns ≡ length s.sents → u ≡ record { terms = s.terms; sorts = s.sorts; sents = s.sents ++ x ∷ [] } → HasMarks s ms ns → IsSentMarked s x m → HasMarks u ms (ns ++ m ∷ [])
marks-then-sent s u ms ns x m c e h n =
    let w : Trees = record { terms = s.terms; sorts = s.sorts; sents = s.sents ++ x ∷ [] } in
    let g = grows-sents s x in
    subst (λ (t : Trees). HasMarks t ms (ns ++ m ∷ [])) (sym e) (record {
      terms = λ k b. term-where s w k (get_or ms k no_marks) (get_or ms k no_marks) g b refl (h.terms k b);
      sents = λ k b. elim (last k (length s.sents) (omega (arith, length-append s.sents (x ∷ [])))) [
        | inl p ↦ sent-where s w (sent_at s.sents k) (sent_at w.sents k) (get_or ns k no_marks) (get_or (ns ++ m ∷ []) k no_marks) g (sym (g.same_sents k p)) (sym (get_or-append-left no_marks ns (m ∷ []) k (omega arith))) (h.sents k p)
        | inr p ↦ (
            let there = (new-sent s w k x p refl).1 in
            let q : length ns ≡ k = omega arith in
            sent-where s w x (sent_at w.sents k) m (get_or (ns ++ m ∷ []) k no_marks) g (sym there.1) (sym (subst (λ (j : ℕ). get_or (ns ++ m ∷ []) j no_marks ≡ m) q (get_or-append-here no_marks ns m))) n
            )
      ];
    })

-- ---- over the fields of a store
abbrev pub marks_of : List KeptTerm → List Marks
marks_of es = map (λ e. e.marks) es

abbrev pub sent_marks_of : List KeptSent → List Marks
sent_marks_of ms = map (λ e. e.marks) ms

module _ (es : List KeptTerm) (ms : List KeptSent) (v : Trees) (is : whole_view es ms ≡ v) (w : IsWhole es ms) (h : HasMarks (whole_view es ms) (marks_of es) (sent_marks_of ms)) where
  marks-there : HasMarks v (marks_of es) (sent_marks_of ms)
  marks-there = subst (λ (t : Trees). HasMarks t (marks_of es) (sent_marks_of ms)) is h

  pub term-marks : (k : ℕ) (d : KeptTerm) → k < length v.terms → IsTermMarked v k (get_or es k d).marks
  term-marks k d l =
      let e = terms-count es ms v is w in
      let g = map-get (λ (e : KeptTerm). e.marks) es k d no_marks (omega arith) in
      subst (IsTermMarked v k) g (marks-there.terms k l)

  pub sent-marks : (k : ℕ) (d : KeptSent) → k < length v.sents → IsSentMarked v (sent_at v.sents k) (get_or ms k d).marks
  sent-marks k d l =
      let e = sents-count es ms v is w in
      let g = map-get (λ (e : KeptSent). e.marks) ms k d no_marks (omega arith) in
      subst (IsSentMarked v (sent_at v.sents k)) g (marks-there.sents k l)

  pub marks-with-term : (n : TermNode) (r : Sort) (a b : ℕ) (m : Marks) (items : List KeptTerm) → items ≡ es ++ record { node = n; sort = r; nodes = a; levels = b; marks = m } ∷ [] → IsNodeMarked v (term_tree v.terms n) r m → HasMarks (whole_view items ms) (marks_of items) (sent_marks_of ms)
  marks-with-term n r a b m items e k =
      let c : length (marks_of es) ≡ length v.terms = map-count (λ (e : KeptTerm). e.marks) es ∙ sym (terms-count es ms v is w) in
      let g : marks_of items ≡ marks_of es ++ m ∷ [] = ap marks_of e ∙ map-push (λ (e : KeptTerm). e.marks) es (record { node = n; sort = r; nodes = a; levels = b; marks = m }) in
      subst (λ (l : List Marks). HasMarks (whole_view items ms) l (sent_marks_of ms)) (sym g)
      (marks-then-term v (whole_view items ms) (marks_of es) (sent_marks_of ms) (term_tree v.terms n) r m (sorts-count es ms v is w) c (then-add_term es ms v is w n r a b m items e) marks-there k)

  pub marks-with-sent : (n : SentNode) (a b : ℕ) (m : Marks) (items : List KeptSent) → items ≡ ms ++ record { node = n; nodes = a; levels = b; marks = m } ∷ [] → IsSentMarked v (sent_tree v.terms v.sents n) m → HasMarks (whole_view es items) (marks_of es) (sent_marks_of items)
  marks-with-sent n a b m items e k =
      let c : length (sent_marks_of ms) ≡ length v.sents = map-count (λ (e : KeptSent). e.marks) ms ∙ sym (sents-count es ms v is w) in
      let g : sent_marks_of items ≡ sent_marks_of ms ++ m ∷ [] = ap sent_marks_of e ∙ map-push (λ (e : KeptSent). e.marks) ms (record { node = n; nodes = a; levels = b; marks = m }) in
      subst (λ (l : List Marks). HasMarks (whole_view es items) (marks_of es) l) (sym g)
      (marks-then-sent v (whole_view es items) (marks_of es) (sent_marks_of ms) (sent_tree v.terms v.sents n) m c (then-add_sent es ms v is w n a b m items e) marks-there k)

-- ---- the marks of a node
module _ (s : Trees) where
  pub var-node : (n : TermNode) (v : Var) (r : Sort) (m : Marks) → n ≡ node_term.Var v → IsVarMarked v r m → IsNodeMarked s (term_tree s.terms n) r m
  var-node n v r m is h = subst (λ (x : TermNode). IsNodeMarked s (term_tree s.terms x) r m) (sym is) (h s)

  pub app-node : (n : TermNode) (g : Sym) (sorts these : List Sort) (ids xs : List TermId) (r : Sort) (m b : Marks) (a : Bool) (t u w : SortVars) → n ≡ node_term.App g sorts ids → these ≡ sorts → xs ≡ ids → AreTermsMarked s xs m → a ≡ (is_small r && list_all is_small these) → ((f : SVar → Sort) → Fixes u f → apply_to f r ≡ r) → ((f : SVar → Sort) → Fixes w f → map (apply_to f) these ≡ these) → t ≡ both u w → b ≡ over m a t → IsNodeMarked s (term_tree s.terms n) r b
  app-node n g sorts these ids xs r m b a t u w is as_are same h p x y q e =
      subst (λ (z : TermNode). IsNodeMarked s (term_tree s.terms z) r b) (sym is)
      (subst (λ (z : Marks). IsNodeMarked s (app g sorts (listed (map (λ j. term_at s.terms j.0) ids))) r z) (sym (e ∙ (λ i. over m (p i) (q i))))
      (subst (λ (z : List Sort). IsNodeMarked s (app g z (listed (map (λ j. term_at s.terms j.0) ids))) r (over m (is_small r && list_all is_small these) (both u w))) as_are
      (subst (λ (z : List TermId). IsNodeMarked s (app g these (listed (map (λ j. term_at s.terms j.0) z))) r (over m (is_small r && list_all is_small these) (both u w))) same
      (app-marked s g these (map (λ j. term_at s.terms j.0) xs) r m (is_small r) (list_all is_small these) u w h refl refl x y))))

  pub equal-node : (n : SentNode) (x y : TermId) (a m q w b : Marks) → n ≡ node.Eq x y → a ≡ all_marks → IsTermMarked s x.0 m → IsTermMarked s y.0 q → w ≡ with_marks a m → b ≡ with_marks w q → IsSentMarked s (sent_tree s.terms s.sents n) b
  equal-node n x y a m q w b is none h k e g =
      subst (λ (z : SentNode). IsSentMarked s (sent_tree s.terms s.sents z) b) (sym is)
      (subst (IsSentMarked s (equal (term_at s.terms x.0) (term_at s.terms y.0))) (sym (g ∙ ap (λ (z : Marks). with_marks z q) (e ∙ ap (λ (z : Marks). with_marks z m) none)))
      (equal-marked s (term_at s.terms x.0) (term_at s.terms y.0) m q h.tree k.tree))

  pub conn-node : (n : SentNode) (c : Conn) (ids xs : List SentId) (a k : ℕ) (m : Marks) → n ≡ node.Conn c ids → xs ≡ ids → IsSentBelow a k n → AreSentsMarked s xs m → IsSentMarked s (sent_tree s.terms s.sents n) m
  conn-node n c ids xs a k m is same below h =
      let b = subst (IsSentBelow a k) is below in
      subst (λ (z : SentNode). IsSentMarked s (sent_tree s.terms s.sents z) m) (sym is)
      (conn-marked s c ids m b.0 (subst (λ (z : List SentId). AreSentsMarked s z m) same h))

  pub bound-node : (n : SentNode) (q : Quant) (v : Var) (p : SentId) (m b : Marks) (a : Bool) (u : SortVars) → n ≡ node.Quant q v p → IsSentMarked s (sent_at s.sents p.0) m → a ≡ is_small v.sort → ((f : SVar → Sort) → Fixes u f → apply_to f v.sort ≡ v.sort) → b ≡ record { is_closed = m.is_closed; groups = m.groups; is_apart = m.is_closed; is_small = m.is_small && a; sorts = both m.sorts u } → IsSentMarked s (sent_tree s.terms s.sents n) b
  bound-node n q v p m b a u is h e x g =
      subst (λ (z : SentNode). IsSentMarked s (sent_tree s.terms s.sents z) b) (sym is)
      (subst (IsSentMarked s (bound q v (sent_at s.sents p.0))) (sym g) (bound-marked s q v (sent_at s.sents p.0) m a u h e x))
