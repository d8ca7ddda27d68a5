-- Whether a variable of a tree passes a test, part by part, and which variables meet another.
use Rattle.std.proofs.Common.{◌≡◌, ℕ, ◌+◌, ◌<◌, ◌≤◌, Bool, true, false, ◌&&◌, ◌||◌, not, List, [], ◌∷◌, ◌++◌, length, map, take, get_or, Some, refl, sym, ◌∙◌, ap, arith}
use Rattle.std.specs.List.{list_any}
use Rattle.std.proofs.lemmas.List.{take_all}
use Rattle.std.proofs.lemmas.List.Folds.{list_any-append, list_any_more}
use Rattle.ath_sorts.proofs.Bools.{and_parts, or_parts, or-false}
use Rattle.ath_sorts.specs.declared.sorts.SVar.{SVar}
use Rattle.ath_sorts.specs.declared.sorts.Sort.{Sort}
use Rattle.ath_sorts.specs.declared.sorts.Sym.{Sym}
use Rattle.ath_trees.specs.declared.node.Binary.{Binary}
use Rattle.ath_trees.specs.declared.node.Binary.TheVariants as binary
use Rattle.ath_trees.specs.declared.node.Conn.{Conn}
use Rattle.ath_trees.specs.declared.node.Conn.TheVariants.{Not, And, Or, If, Iff}
use Rattle.ath_trees.specs.declared.node.Quant.{Quant}
use Rattle.ath_trees.specs.declared.node.SentId.{SentId}
use Rattle.ath_trees.specs.declared.node.TermId.{TermId}
use Rattle.ath_trees.specs.declared.node.Var.{Var}
use Rattle.ath_trees.specs.Occurrences.{is_among, is_named}
use Rattle.ath_trees.specs.Tree.{Term, more, var, app, listed, Sent, atom, equal, joined, bound}
use Rattle.ath_trees.specs.Under.{var_under}
use Rattle.ath_trees.specs.Variables.{is_namesake, same_var, with_terms, term_vars, free_vars}
use Rattle.ath_trees.proofs.Occurring.{by_cases, or-left, or-right, same_var-refl, same_var-true, among-append, among-more, among-equal, among-joined, among-bound_of, among-of_bound}
use Rattle.ath_terms.specs.declared.node.SentNode.{SentNode}
use Rattle.ath_terms.specs.declared.node.SentNode.TheVariants as node
use Rattle.ath_terms.specs.declared.node.TermNode.{TermNode}
use Rattle.ath_terms.specs.declared.node.TermNode.TheVariants as node_term
use Rattle.ath_terms.specs.Nodes.{term_tree, parts_tree, conn_tree, sent_tree, arity, IsSentBelow}
use Rattle.ath_terms.specs.Trees.{Trees, term_at, sent_at}
use Rattle.ath_subst.specs.Meeting.{meets, meets_past, past}
use Rattle.ath_subst.proofs.CaptureLaws.{not-set}
use Rattle.ath_subst.proofs.SentLaws.{map-count}

both-true : (a b : Bool) → (a ≡ true → b ≡ true) → (b ≡ true → a ≡ true) → a ≡ b
both-true true b f g = sym (f refl)
both-true false true f g = g refl
both-true false false f g = refl

and-fails : (a b : Bool) → b ≡ false → (a && b) ≡ false
and-fails true b e = e
and-fails false b e = refl

-- ---- lists with the same variables have the same answer
any-here : (P : Var → Bool) (u : Var) (vs : List Var) → is_among u vs ≡ true → P u ≡ true → list_any P vs ≡ true
any-here P u [] i e = absurd (cc)
any-here P u (v ∷ vs) i e = by_cases (same_var u v)
    (λ t. or-left (P v) (list_any P vs) (ap P (sym (same_var-true u v t)) ∙ e))
    (λ f. or-right (P v) (list_any P vs) (any-here P u vs (rw f at i) e))

any-maps : (P Q : Var → Bool) (us vs : List Var) → ((w : Var) → is_among w us ≡ true → P w ≡ true → (is_among w vs ≡ true) × (Q w ≡ true)) → list_any P us ≡ true → list_any Q vs ≡ true
any-maps P Q [] vs h e = absurd (cc)
any-maps P Q (u ∷ us) vs h e = by_cases (P u)
    (λ t. let m = h u (or-left (same_var u u) (is_among u us) (same_var-refl u)) t in any-here Q u vs m.0 m.1)
    (λ f. any-maps P Q us vs (λ w i g. h w (or-right (same_var w u) (is_among w us) i) g) (rw f at e))

any-same : (P : Var → Bool) (us vs ws : List Var) → ((w : Var) → is_among w us ≡ (is_among w vs || is_among w ws)) → list_any P us ≡ (list_any P vs || list_any P ws)
any-same P us vs ws h =
    both-true (list_any P us) (list_any P (vs ++ ws))
    (any-maps P P us (vs ++ ws) (λ w i e. (among-append w vs ws ∙ sym (h w) ∙ i, e)))
    (any-maps P P (vs ++ ws) us (λ w i e. (h w ∙ sym (among-append w vs ws) ∙ i, e)))
    ∙ list_any-append P vs ws

any-bound : (P : Var → Bool) (k : Quant) (u : Var) (p : Sent) → list_any P (free_vars (bound k u p)) ≡ list_any (λ w. not (same_var u w) && P w) (free_vars p)
any-bound P k u p =
    let Q : Var → Bool = λ w. not (same_var u w) && P w in
    both-true (list_any P (free_vars (bound k u p))) (list_any Q (free_vars p))
    (any-maps P Q (free_vars (bound k u p)) (free_vars p) (λ w i e. let m = among-of_bound w k u p i in (m.1, rw m.0 e)))
    (any-maps Q P (free_vars p) (free_vars (bound k u p)) (λ w i e. let m = and_parts (not (same_var u w)) (P w) e in (among-bound_of w k u p (not-set (same_var u w) m.0) i, m.1)))

-- ---- part by part
module _ (P : Var → Bool) where
  abbrev pub any_term : Term → Bool
  any_term t = list_any P (term_vars t)

  abbrev pub any_sent : Sent → Bool
  any_sent p = list_any P (free_vars p)

  any-listed : (ts : List Term) (ids : List TermId) → list_any P (with_terms [] (listed (map (λ j. term_at ts j.0) ids))) ≡ list_any (λ j. any_term (term_at ts j.0)) ids
  any-listed ts [] = refl
  any-listed ts (i ∷ ids) =
      let rest = listed (map (λ (j : TermId). term_at ts j.0) ids) in
      any-same P (with_terms [] (more (term_at ts i.0) rest)) (term_vars (term_at ts i.0)) (with_terms [] rest) (λ w. among-more w (term_at ts i.0) rest)
      ∙ ap (λ b. any_term (term_at ts i.0) || b) (any-listed ts ids)

  any-pair : (c : Binary) (ps : List Sent) → length ps ≡ 2 → any_sent (parts_tree (Some c) ps) ≡ list_any any_sent ps
  any-pair c [] l = absurd (omega arith)
  any-pair c (p ∷ []) l = absurd (omega arith)
  any-pair c (p ∷ q ∷ []) l = any-same P (free_vars (joined c p q)) (free_vars p) (free_vars q) (λ w. among-joined w c p q) ∙ ap (λ b. any_sent p || b) (sym (or-false (any_sent q)))
  any-pair c (p ∷ q ∷ r ∷ ps) l = absurd (omega arith)

  any-conn : (c : Conn) (ps : List Sent) → length ps ≡ arity c → any_sent (conn_tree c ps) ≡ list_any any_sent ps
  any-conn Not [] l = absurd (omega arith)
  any-conn Not (p ∷ []) l = sym (or-false (any_sent p))
  any-conn Not (p ∷ q ∷ ps) l = absurd (omega arith)
  any-conn And ps l = any-pair binary.And ps l
  any-conn Or ps l = any-pair binary.Or ps l
  any-conn If ps l = any-pair binary.If ps l
  any-conn Iff ps l = any-pair binary.Iff ps l

  any-map : (ss : List Sent) (ids : List SentId) → list_any any_sent (map (λ j. sent_at ss j.0) ids) ≡ list_any (λ j. any_sent (sent_at ss j.0)) ids
  any-map ss [] = refl
  any-map ss (i ∷ ids) = ap (λ b. any_sent (sent_at ss i.0) || b) (any-map ss ids)

  -- a term with a node
  module _ (s : Trees) (n : TermNode) (t : ℕ) (tree : term_tree s.terms n ≡ term_at s.terms t) where
    pub any-at-var : (v : Var) → n ≡ node_term.Var v → P v ≡ any_term (term_at s.terms t)
    any-at-var v is =
        let p : var v ≡ term_at s.terms t = rw is at tree in
        sym (or-false (P v)) ∙ ap any_term p

    pub any-at-app : (g : Sym) (sorts : List Sort) (ids xs : List TermId) → n ≡ node_term.App g sorts ids → xs ≡ ids → list_any (λ j. any_term (term_at s.terms j.0)) xs ≡ any_term (term_at s.terms t)
    any-at-app g sorts ids xs is same =
        let p : app g sorts (listed (map (λ j. term_at s.terms j.0) ids)) ≡ term_at s.terms t = rw is at tree in
        ap (list_any (λ (j : TermId). any_term (term_at s.terms j.0))) same ∙ sym (any-listed s.terms ids) ∙ ap any_term p

  -- a sentence with a node
  module _ (s : Trees) (n : SentNode) (p : ℕ) (tree : sent_tree s.terms s.sents n ≡ sent_at s.sents p) where
    pub any-at-atom : (t : TermId) → n ≡ node.Atom t → any_term (term_at s.terms t.0) ≡ any_sent (sent_at s.sents p)
    any-at-atom t is =
        let q : atom (term_at s.terms t.0) ≡ sent_at s.sents p = rw is at tree in
        ap any_sent q

    pub any-at-equal : (l r : TermId) → n ≡ node.Eq l r → (any_term (term_at s.terms l.0) || any_term (term_at s.terms r.0)) ≡ any_sent (sent_at s.sents p)
    any-at-equal l r is =
        let a = term_at s.terms l.0 in
        let b = term_at s.terms r.0 in
        let q : equal a b ≡ sent_at s.sents p = rw is at tree in
        sym (any-same P (free_vars (equal a b)) (term_vars a) (term_vars b) (λ w. among-equal w a b)) ∙ ap any_sent q

    pub any-at-conn : (c : Conn) (ids xs : List SentId) (a k : ℕ) → n ≡ node.Conn c ids → xs ≡ ids → IsSentBelow a k n → list_any (λ j. any_sent (sent_at s.sents j.0)) xs ≡ any_sent (sent_at s.sents p)
    any-at-conn c ids xs a k is same below =
        let q : conn_tree c (map (λ j. sent_at s.sents j.0) ids) ≡ sent_at s.sents p = rw is at tree in
        let b = rw is at below in
        ap (list_any (λ (j : SentId). any_sent (sent_at s.sents j.0))) same ∙ sym (any-map s.sents ids)
        ∙ sym (any-conn c (map (λ j. sent_at s.sents j.0) ids) (map-count (λ (j : SentId). sent_at s.sents j.0) ids ∙ b.0)) ∙ ap any_sent q

-- one part more that has none
pub none-next : {A : Type 0} (F : A → Bool) (xs : List A) (i : ℕ) (d : A) → i < length xs → list_any F (take i xs) ≡ false → F (get_or xs i d) ≡ false → list_any F (take (i + 1) xs) ≡ false
none-next F xs i d l e g = list_any_more F xs i d l ∙ rw (e, g) refl

pub none-all : {A : Type 0} (F : A → Bool) (xs : List A) (i : ℕ) → length xs ≤ i → list_any F (take i xs) ≡ false → false ≡ list_any F xs
none-all F xs i l e = sym e ∙ ap (list_any F) (take_all i xs l)

-- ---- which variables meet another
module _ (f : SVar → Sort) (v : Var) where
  pub meets-none : (w : Var) → is_namesake v w ≡ false → false ≡ meets f v w
  meets-none w e = rw e refl

  pub meets-same : (w : Var) → same_var v w ≡ true → false ≡ meets f v w
  meets-same w e = rw e refl

  pub meets-other : (w : Var) (b : Bool) → same_var v w ≡ false → b ≡ same_var (var_under f v) (var_under f w) → b ≡ meets f v w
  meets-other w b e q = rw e q

  pub met-none : (us vs : List Var) → is_named v vs ≡ false → false ≡ list_any (meets_past f v us) vs
  met-none us [] e = refl
  met-none us (w ∷ vs) e =
      let m = or_parts (is_namesake v w) (is_named v vs) e in
      rw (and-fails (not (is_among w us)) (meets f v w) (sym (meets-none w m.0))) (met-none us vs m.1)

  -- under one more binder
  shuffled : (a b c : Bool) → (not (a || (b || false)) && c) ≡ (not b && (not a && c))
  shuffled true true c = refl
  shuffled true false c = refl
  shuffled false true c = refl
  shuffled false false c = refl

  var-turned : (u w : Var) → same_var u w ≡ same_var w u
  var-turned u w = both-true (same_var u w) (same_var w u) (λ t. rw (same_var-true u w t) (same_var-refl w)) (λ t. rw (same_var-true w u t) (same_var-refl u))

  past-one : (us : List Var) (u w : Var) → meets_past f v (past f v us u) w ≡ (not (same_var u w) && meets_past f v us w)
  past-one us u w = by_cases (meets f v u)
      (λ t. rw t (ap (λ b. not b && meets f v w) (among-append w us (u ∷ []) ∙ ap (λ b. is_among w us || (b || false)) (var-turned w u)) ∙ shuffled (is_among w us) (same_var u w) (meets f v w)))
      (λ n. rw n (by_cases (same_var u w)
      (λ t. rw t (and-fails (not (is_among w us)) (meets f v w) (ap (meets f v) (sym (same_var-true u w t)) ∙ n)))
      (λ g. rw g refl)))

  pub past-bound : (us : List Var) (s : Trees) (n : SentNode) (p : ℕ) (k : Quant) (u : Var) (q : SentId) → sent_tree s.terms s.sents n ≡ sent_at s.sents p → n ≡ node.Quant k u q → list_any (meets_past f v (past f v us u)) (free_vars (sent_at s.sents q.0)) ≡ list_any (meets_past f v us) (free_vars (sent_at s.sents p))
  past-bound us s n p k u q tree is =
      let r : bound k u (sent_at s.sents q.0) ≡ sent_at s.sents p = rw is at tree in
      (λ i. list_any (λ w. past-one us u w i) (free_vars (sent_at s.sents q.0)))
      ∙ sym (any-bound (meets_past f v us) k u (sent_at s.sents q.0)) ∙ ap (λ z. list_any (meets_past f v us) (free_vars z)) r
