-- Sentences that come out of a walk as they were: so do their parts.
use Rattle.std.proofs.Common.{◌≡◌, ℕ, ◌+◌, ◌<◌, ◌≤◌, true, false, List, [], ◌∷◌, ◌++◌, length, map, take, get_or, refl, sym, ◌∙◌, ap, subst}
use Rattle.ath_sorts.specs.declared.sorts.SVar.{SVar}
use Rattle.ath_sorts.specs.declared.sorts.Sort.{Sort}
use Rattle.ath_trees.specs.declared.node.Conn.{Conn}
use Rattle.ath_trees.specs.declared.node.Quant.{Quant}
use Rattle.ath_trees.specs.declared.node.SentId.{SentId}
use Rattle.ath_trees.specs.declared.node.TermId.{TermId}
use Rattle.ath_trees.specs.declared.node.Var.{Var}
use Rattle.ath_trees.specs.Occurrences.{is_among, is_named, every_var, renewed}
use Rattle.ath_trees.specs.Renamed.{renamed}
use Rattle.ath_trees.specs.SortUnder.{is_met, sent_at_sorts}
use Rattle.ath_trees.specs.Substitution.{other, subst_sent}
use Rattle.ath_trees.specs.Tree.{Term, Sent, atom, equal, bound}
use Rattle.ath_trees.specs.Under.{var_under}
use Rattle.ath_trees.specs.Variables.{is_namesake, same_var, term_vars, free_vars}
use Rattle.ath_trees.proofs.BinderLaws.{at_sorts-unmet}
use Rattle.ath_trees.proofs.Occurring.{by_cases, or-left, or-right, same_var-refl, not_named, free-every}
use Rattle.ath_trees.proofs.Renaming.{renewed-unused}
use Rattle.ath_trees.proofs.SubstLaws.{other-unused}
use Rattle.ath_terms.specs.Nodes.{conn_tree}
use Rattle.ath_terms.specs.Trees.{Trees, term_at, sent_at}
use Rattle.ath_terms.proofs.ConnParts.{conns-same}
use Rattle.ath_subst.specs.Binders.{binder_at, body_at}
use Rattle.ath_subst.specs.Captures.{is_left, binder_for, body_for}
use Rattle.ath_subst.proofs.BinderLaws.{met-binder, at_sorts-bound}
use Rattle.ath_subst.proofs.CaptureLaws.{named-binder, unnamed-binder, subst-open}
use Rattle.ath_subst.proofs.SameLaws.{Stay, AreSame, same-next, same-end, maps-stay}
use Rattle.ath_subst.proofs.SentLaws.{Maps, IsAtom, IsEquation, IsConn, IsBound, conn-map, map-count, through, renamed-bound}

module _ (g : Sent → Sent) (h : Term → Term) (maps : Maps g h) (old : Trees) (p : ℕ) (left : g (sent_at old.sents p) ≡ sent_at old.sents p) where
  pub atom-stays : (a : ℕ) (t : TermId) → IsAtom old p a t → h (term_at old.terms t.0) ≡ term_at old.terms t.0
  atom-stays a t is =
      let q : atom (h (term_at old.terms t.0)) ≡ atom (term_at old.terms t.0) = sym (maps.at_atom (term_at old.terms t.0)) ∙ ap g (sym is.tree) ∙ left ∙ is.tree in
      cc

  equation-parts : (a : ℕ) (s t : TermId) → IsEquation old p a s t → equal (h (term_at old.terms s.0)) (h (term_at old.terms t.0)) ≡ equal (term_at old.terms s.0) (term_at old.terms t.0)
  equation-parts a s t is = sym (maps.at_equal (term_at old.terms s.0) (term_at old.terms t.0)) ∙ ap g (sym is.tree) ∙ left ∙ is.tree

  pub equation-stays : (a : ℕ) (s t : TermId) → IsEquation old p a s t → (h (term_at old.terms s.0) ≡ term_at old.terms s.0) × (h (term_at old.terms t.0) ≡ term_at old.terms t.0)
  equation-stays a s t is = let q = equation-parts a s t is in (cc, cc)

  pub conn-stays : (c : Conn) (ids xs : List SentId) (d : SentId) (i : ℕ) → IsConn old p c ids → xs ≡ ids → Stay (λ j. g (sent_at old.sents j.0)) (λ j. sent_at old.sents j.0) xs d i
  conn-stays c ids xs d i is same =
      let ss = map (λ (j : SentId). sent_at old.sents j.0) ids in
      let n = map-count (λ (j : SentId). sent_at old.sents j.0) ids ∙ is.count in
      let q : conn_tree c (map g ss) ≡ conn_tree c ss = sym (conn-map g h maps c ss n) ∙ ap g (sym is.tree) ∙ left ∙ is.tree in
      let r = (conns-same c c (map g ss) ss (map-count g ss ∙ n) n q).parts in
      rw same (maps-stay (λ (j : SentId). g (sent_at old.sents j.0)) (λ (j : SentId). sent_at old.sents j.0) ids d i (sym (through g old.sents ids) ∙ r))

module _ (g : Sent → Sent) (h : Term → Term) (maps : Maps g h) (old : Trees) (p : ℕ) (c : Conn) (ids xs : List SentId) (is : IsConn old p c ids) (same : xs ≡ ids) where
  pub conn-same-next : (s u : Trees) (parts : List SentId) (i : ℕ) (d part : SentId) → i < length xs → (Stay (λ j. g (sent_at old.sents j.0)) (λ j. sent_at old.sents j.0) xs d i → AreSame old s parts (take i xs))
      → (s ≡ old → g (sent_at s.sents (get_or xs i d).0) ≡ sent_at s.sents (get_or xs i d).0 → (part ≡ get_or xs i d) × (u ≡ s)) → Stay (λ j. g (sent_at old.sents j.0)) (λ j. sent_at old.sents j.0) xs d (i + 1) → AreSame old u (parts ++ part ∷ []) (take (i + 1) xs)
  conn-same-next s u parts i d part l before here = same-next (λ j. g (sent_at old.sents j.0)) (λ j. sent_at old.sents j.0) old s u xs parts i d part l before
      (λ q e. here q (subst (λ (z : Trees). g (sent_at z.sents (get_or xs i d).0) ≡ sent_at z.sents (get_or xs i d).0) (sym q) e))

  pub conn-same : (s : Trees) (parts : List SentId) (i : ℕ) (d : SentId) → length xs ≤ i → (Stay (λ j. g (sent_at old.sents j.0)) (λ j. sent_at old.sents j.0) xs d i → AreSame old s parts (take i xs)) → g (sent_at old.sents p) ≡ sent_at old.sents p → AreSame old s parts ids
  conn-same s parts i d l before left =
      let a = same-end (λ j. g (sent_at old.sents j.0)) (λ j. sent_at old.sents j.0) old s xs parts i d l before (conn-stays g h maps old p left c ids xs d (length xs) is same) in
      (a.0 ∙ same, a.1)

-- ---- binders: one that is renamed gets another index
unmet-at : (f : SVar → Sort) (v : Var) (vs : List Var) → ((w : Var) → is_among w vs ≡ true → is_namesake v w ≡ false) → is_met f v vs ≡ false
unmet-at f v [] h = refl
unmet-at f v (w ∷ vs) h =
    let a = h w (or-left (same_var w w) (is_among w vs) (same_var-refl w)) in
    rw a (unmet-at f v vs (λ u m. h u (or-right (same_var u w) (is_among u vs) m)))

unmet-bound : (f : SVar → Sort) (k : Quant) (v : Var) (p : Sent) → sent_at_sorts f (bound k v p) ≡ bound k v p → is_met f v (free_vars p) ≡ false
unmet-bound f k v p e = by_cases (is_met f v (free_vars p))
    (λ t.
    let b : bound k (var_under f (binder_at f v p)) (sent_at_sorts f (body_at f v p)) ≡ bound k v p = sym (at_sorts-bound f k v p) ∙ e in
    let x : var_under f (binder_at f v p) ≡ v = cc in
    let y : var_under f (renewed v (every_var p)) ≡ v = ap (var_under f) (sym (met-binder f v p t).0) ∙ x in
    let n : is_named v (every_var p) ≡ false = ap (λ u. is_named u (every_var p)) (sym y) ∙ renewed-unused v (every_var p) in
    unmet-at f v (free_vars p) (λ w m. not_named v w (every_var p) n (free-every w p m)))
    (λ n. n)

pub record SortsStay (f : SVar → Sort) (v : Var) (p : Sent) : Type 0 where
  pub unmet : is_met f v (free_vars p) ≡ false
  pub variable : var_under f v ≡ v
  pub body : sent_at_sorts f p ≡ p

pub bound-stays : (f : SVar → Sort) (old : Trees) (r : ℕ) (k : Quant) (v : Var) (q : SentId) → IsBound old r k v q → sent_at_sorts f (sent_at old.sents r) ≡ sent_at old.sents r → SortsStay f v (sent_at old.sents q.0)
bound-stays f old r k v q is left =
    let p = sent_at old.sents q.0 in
    let e : sent_at_sorts f (bound k v p) ≡ bound k v p = ap (sent_at_sorts f) (sym is.tree) ∙ left ∙ is.tree in
    let u = unmet-bound f k v p e in
    let b : bound k (var_under f v) (sent_at_sorts f p) ≡ bound k v p = sym (at_sorts-unmet f k v p u) ∙ e in
    record { unmet = u; variable = cc; body = cc }

pub record PutStays (x : Var) (by : Term) (v : Var) (p : Sent) : Type 0 where
  pub unnamed : is_named v (term_vars by) ≡ false
  pub variable : binder_for by v p ≡ v
  pub body : subst_sent x by p ≡ p

put-stays : (x : Var) (by : Term) (k : Quant) (v : Var) (p : Sent) → is_left x by v p ≡ false → subst_sent x by (bound k v p) ≡ bound k v p → PutStays x by v p
put-stays x by k v p open' e =
    let b : bound k (binder_for by v p) (subst_sent x by (body_for by v p)) ≡ bound k v p = sym (subst-open x by v p k open') ∙ e in
    let y : binder_for by v p ≡ v = cc in
    let z : subst_sent x by (body_for by v p) ≡ p = cc in
    let u = by_cases (is_named v (term_vars by))
    (λ t. let w : other v by p ≡ v = sym (named-binder x by v p t).0 ∙ y in ap (λ u. is_named u (term_vars by)) (sym w) ∙ (other-unused v by p).0)
    (λ n. n) in
    record { unnamed = u; variable = y; body = ap (subst_sent x by) (sym (unnamed-binder x by v p u).1) ∙ z }

pub bound-put-stays : (x : Var) (by : Term) (old : Trees) (r : ℕ) (k : Quant) (v : Var) (q : SentId) → IsBound old r k v q → is_left x by v (sent_at old.sents q.0) ≡ false → subst_sent x by (sent_at old.sents r) ≡ sent_at old.sents r → PutStays x by v (sent_at old.sents q.0)
bound-put-stays x by old r k v q is open' left =
    put-stays x by k v (sent_at old.sents q.0) open' (ap (subst_sent x by) (sym is.tree) ∙ left ∙ is.tree)

pub bound-renamed-stays : (y z : Var) (old : Trees) (r : ℕ) (k : Quant) (v : Var) (q : SentId) → IsBound old r k v q → same_var y v ≡ false → renamed y z (sent_at old.sents r) ≡ sent_at old.sents r → renamed y z (sent_at old.sents q.0) ≡ sent_at old.sents q.0
bound-renamed-stays y z old r k v q is apart left =
    let p = sent_at old.sents q.0 in
    let e : bound k v (renamed y z p) ≡ bound k v p = sym (renamed-bound y z k v p apart) ∙ ap (renamed y z) (sym is.tree) ∙ left ∙ is.tree in
    cc
