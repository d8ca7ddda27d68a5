-- The nodes and levels of a tree with a term in place of a variable, part by part.
use Rattle.std.proofs.Common.{◌≡◌, ℕ, ◌+◌, ◌*◌, ◌<◌, ◌≤◌, max, false, true, List, [], ◌∷◌, length, map, take, get_or, Some, refl, sym, ◌∙◌, ap, arith}
use Rattle.ath_trees.specs.declared.limits.TheConstants.{MOST_TERM_NODES, MOST_TERM_LEVELS}
use Rattle.ath_trees.specs.declared.node.Binary.{Binary}
use Rattle.ath_trees.specs.declared.node.Binary.TheVariants as binary
use Rattle.ath_trees.specs.declared.node.Conn.{Conn}
use Rattle.ath_trees.specs.declared.node.Conn.TheVariants.{Not, And, Or, If, Iff}
use Rattle.ath_trees.specs.declared.node.Quant.{Quant}
use Rattle.ath_trees.specs.declared.node.SentId.{SentId}
use Rattle.ath_trees.specs.declared.node.TermId.{TermId}
use Rattle.ath_trees.specs.declared.node.Var.{Var}
use Rattle.ath_trees.specs.Measure.{term_size, term_depth, sent_size, sent_depth, IsSmall}
use Rattle.ath_trees.specs.Substitution.{subst_term, subst_sent}
use Rattle.ath_trees.specs.Tree.{Term, Sent, atom, equal, negated, joined}
use Rattle.ath_trees.specs.Variables.{same_var}
use Rattle.ath_trees.proofs.SubstForms.{subst-atom, subst-equal, size-shadowed, depth-shadowed, size-bound, depth-bound, term-few, term-shallow, sent-few, sent-shallow}
use Rattle.ath_terms.specs.Nodes.{parts_tree, conn_tree, arity}
use Rattle.ath_terms.specs.Trees.{Trees, term_at, sent_at}
use Rattle.ath_terms.proofs.Measures.{total, most, total-next, total-within, total-all, most-next, most-within, most-all}
use Rattle.ath_subst.proofs.SentLaws.{IsConn, IsAtom, IsEquation, IsBound, conn-map, map-count, through, put-maps}

-- ---- sums and greatest members so far
module _ {A : Type 0} (f : A → ℕ) (xs : List A) where
  pub nodes-next : (i n m : ℕ) (d : A) → i < length xs → n ≡ 1 + total f (take i xs) → m ≡ f (get_or xs i d) → n + m ≡ 1 + total f (take (i + 1) xs)
  nodes-next i n m d h e g = let t = total-next f xs i d h in omega arith

  pub nodes-fit : (i n m whole : ℕ) (d : A) → i < length xs → n ≡ 1 + total f (take i xs) → m ≡ f (get_or xs i d) → whole ≡ 1 + total f xs → n + m ≤ whole
  nodes-fit i n m whole d h e g w = let t = total-within f xs i d h in omega arith

  pub nodes-end : (i n whole : ℕ) → length xs ≤ i → n ≡ 1 + total f (take i xs) → whole ≡ 1 + total f xs → n ≡ whole
  nodes-end i n whole h e w = let t = total-all f xs i h in omega arith

  pub levels-next : (i l m : ℕ) (d : A) → i < length xs → l ≡ most f (take i xs) → m ≡ f (get_or xs i d) → max l m ≡ most f (take (i + 1) xs)
  levels-next i l m d h e g = (λ j. max (e j) (g j)) ∙ sym (most-next f xs i d h)

  pub levels-end : (i l whole : ℕ) → length xs ≤ i → l ≡ most f (take i xs) → whole ≡ 1 + most f xs → 1 + l ≡ whole
  levels-end i l whole h e w = let t = most-all f xs i h in omega arith

-- ---- the limits of the numbers
pub few_nodes : (x : Var) (by t : Term) (n m b : ℕ) → m ≡ term_size t → m ≤ MOST_TERM_NODES → b ≡ term_size by → b ≤ MOST_TERM_NODES → n ≡ term_size (subst_term x by t) → n ≤ MOST_TERM_NODES * MOST_TERM_NODES
few_nodes x by t n m b e h g k w = let r = term-few x by t (omega arith) in omega arith

pub few_levels : (x : Var) (by t : Term) (n m b : ℕ) → m ≡ term_depth t → m ≤ MOST_TERM_LEVELS → b ≡ term_depth by → b ≤ MOST_TERM_LEVELS → n ≡ term_depth (subst_term x by t) → n ≤ MOST_TERM_LEVELS + MOST_TERM_LEVELS
few_levels x by t n m b e h g k w = let r = term-shallow x by t (omega arith) in omega arith

pub few_sent_nodes : (x : Var) (by : Term) (p : Sent) (n m b : ℕ) → m ≡ sent_size p → m ≤ MOST_TERM_NODES → b ≡ term_size by → b ≤ MOST_TERM_NODES → n ≡ sent_size (subst_sent x by p) → n ≤ MOST_TERM_NODES * MOST_TERM_NODES
few_sent_nodes x by p n m b e h g k w = let r = sent-few x by p (omega arith) in omega arith

pub few_sent_levels : (x : Var) (by : Term) (p : Sent) (n m b : ℕ) → m ≡ sent_depth p → m ≤ MOST_TERM_LEVELS → b ≡ term_depth by → b ≤ MOST_TERM_LEVELS → n ≡ sent_depth (subst_sent x by p) → n ≤ MOST_TERM_LEVELS + MOST_TERM_LEVELS
few_sent_levels x by p n m b e h g k w = let r = sent-shallow x by p (omega arith) in omega arith

-- ---- connectives
-- of a measure that counts a connective, and what its parts come to together
module _ (m : Sent → ℕ) (all : List Sent → ℕ) (one : (p : Sent) → m (negated p) ≡ 1 + all (p ∷ [])) (two : (c : Binary) (p q : Sent) → m (joined c p q) ≡ 1 + all (p ∷ q ∷ [])) where
  pair-measure : (c : Binary) (ps : List Sent) → length ps ≡ 2 → m (parts_tree (Some c) ps) ≡ 1 + all ps
  pair-measure c [] l = absurd (omega arith)
  pair-measure c (p ∷ []) l = absurd (omega arith)
  pair-measure c (p ∷ q ∷ []) l = two c p q
  pair-measure c (p ∷ q ∷ r ∷ ps) l = absurd (omega arith)

  conn-measure : (c : Conn) (ps : List Sent) → length ps ≡ arity c → m (conn_tree c ps) ≡ 1 + all ps
  conn-measure Not [] l = absurd (omega arith)
  conn-measure Not (p ∷ []) l = one p
  conn-measure Not (p ∷ q ∷ ps) l = absurd (omega arith)
  conn-measure And ps l = pair-measure binary.And ps l
  conn-measure Or ps l = pair-measure binary.Or ps l
  conn-measure If ps l = pair-measure binary.If ps l
  conn-measure Iff ps l = pair-measure binary.Iff ps l

conn-size : (c : Conn) (ps : List Sent) → length ps ≡ arity c → sent_size (conn_tree c ps) ≡ 1 + total sent_size ps
conn-size = conn-measure sent_size (total sent_size) (λ p. omega arith) (λ c p q. omega arith)

conn-depth : (c : Conn) (ps : List Sent) → length ps ≡ arity c → sent_depth (conn_tree c ps) ≡ 1 + most sent_depth ps
conn-depth = conn-measure sent_depth (most sent_depth) (λ p. omega arith) (λ c p q. omega arith)

total-map : (g : SentId → Sent) (xs : List SentId) → total sent_size (map g xs) ≡ total (λ j. sent_size (g j)) xs
total-map g [] = refl
total-map g (x ∷ xs) = ap (λ n. sent_size (g x) + n) (total-map g xs)

most-map : (g : SentId → Sent) (xs : List SentId) → most sent_depth (map g xs) ≡ most (λ j. sent_depth (g j)) xs
most-map g [] = refl
most-map g (x ∷ xs) = ap (λ n. max (sent_depth (g x)) n) (most-map g xs)

-- ---- form by form
module _ (x : Var) (by : Term) (s : Trees) (p : ℕ) where
  abbrev put : Sent → Sent
  put q = subst_sent x by q

  module _ (c : Conn) (ids xs : List SentId) (is : IsConn s p c ids) (same : xs ≡ ids) where
    abbrev pics : List SentId → List Sent
    pics l = map (λ j. put (sent_at s.sents j.0)) l

    pub put_conn : put (sent_at s.sents p) ≡ conn_tree c (pics ids)
    put_conn =
        ap put is.tree
        ∙ conn-map put (subst_term x by) (put-maps x by) c (map (λ j. sent_at s.sents j.0) ids) (map-count (λ (j : SentId). sent_at s.sents j.0) ids ∙ is.count)
        ∙ ap (conn_tree c) (through put s.sents ids)

    counted : length (pics ids) ≡ arity c
    counted = map-count (λ (j : SentId). put (sent_at s.sents j.0)) ids ∙ is.count

    pub put_conn-size : sent_size (put (sent_at s.sents p)) ≡ 1 + total (λ j. sent_size (put (sent_at s.sents j.0))) xs
    put_conn-size = rw same (ap sent_size put_conn ∙ conn-size c (pics ids) counted ∙ ap (λ n. 1 + n) (total-map (λ j. put (sent_at s.sents j.0)) ids))

    pub put_conn-depth : sent_depth (put (sent_at s.sents p)) ≡ 1 + most (λ j. sent_depth (put (sent_at s.sents j.0))) xs
    put_conn-depth = rw same (ap sent_depth put_conn ∙ conn-depth c (pics ids) counted ∙ ap (λ n. 1 + n) (most-map (λ j. put (sent_at s.sents j.0)) ids))

    pub put_part-small : (i : ℕ) (d : SentId) → i < length xs → IsSmall (put (sent_at s.sents p)) → IsSmall (put (sent_at s.sents (get_or xs i d).0))
    put_part-small i d l h =
        let a = put_conn-size in
        let b = put_conn-depth in
        let t = total-within (λ (j : SentId). sent_size (put (sent_at s.sents j.0))) xs i d l in
        let m = most-within (λ (j : SentId). sent_depth (put (sent_at s.sents j.0))) xs i d l in
        record { nodes = omega (arith, h.nodes, a, t); levels = omega (arith, h.levels, b, m) }

  pub put_atom : (a : ℕ) (t : TermId) → IsAtom s p a t → put (sent_at s.sents p) ≡ atom (subst_term x by (term_at s.terms t.0))
  put_atom a t is = ap put is.tree ∙ subst-atom x by (term_at s.terms t.0)

  pub put_equal : (a : ℕ) (l r : TermId) → IsEquation s p a l r → put (sent_at s.sents p) ≡ equal (subst_term x by (term_at s.terms l.0)) (subst_term x by (term_at s.terms r.0))
  put_equal a l r is = ap put is.tree ∙ subst-equal x by (term_at s.terms l.0) (term_at s.terms r.0)

  module _ (k : Quant) (v : Var) (q : SentId) (is : IsBound s p k v q) where
    pub own-size : same_var x v ≡ true → sent_size (sent_at s.sents p) ≡ sent_size (put (sent_at s.sents p))
    own-size e = ap sent_size is.tree ∙ sym (size-shadowed x by k v (sent_at s.sents q.0) e) ∙ ap (λ r. sent_size (put r)) (sym is.tree)

    pub own-depth : same_var x v ≡ true → sent_depth (sent_at s.sents p) ≡ sent_depth (put (sent_at s.sents p))
    own-depth e = ap sent_depth is.tree ∙ sym (depth-shadowed x by k v (sent_at s.sents q.0) e) ∙ ap (λ r. sent_depth (put r)) (sym is.tree)

    pub inner-size : (n : ℕ) → same_var x v ≡ false → n ≡ sent_size (put (sent_at s.sents q.0)) → 1 + n ≡ sent_size (put (sent_at s.sents p))
    inner-size n e g = ap (λ k. 1 + k) g ∙ sym (size-bound x by k v (sent_at s.sents q.0) e) ∙ ap (λ r. sent_size (put r)) (sym is.tree)

    pub inner-depth : (n : ℕ) → same_var x v ≡ false → n ≡ sent_depth (put (sent_at s.sents q.0)) → 1 + n ≡ sent_depth (put (sent_at s.sents p))
    inner-depth n e g = ap (λ k. 1 + k) g ∙ sym (depth-bound x by k v (sent_at s.sents q.0) e) ∙ ap (λ r. sent_depth (put r)) (sym is.tree)
