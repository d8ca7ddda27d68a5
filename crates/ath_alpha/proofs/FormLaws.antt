-- The forms of nodes, as they are seen.
use Rattle.std.proofs.Common.{◌≡◌, ℕ, Bool, true, false, List, [], ◌∷◌, length, map, Some, ◌↔◌, IsTrue, refl, sym, ◌∙◌, ap, arith}
use Rattle.ath_sorts.specs.declared.sorts.Sym.{Sym}
use Rattle.ath_sorts.specs.declared.sorts.Sort.{Sort}
use Rattle.ath_trees.specs.declared.node.Var.{Var}
use Rattle.ath_trees.specs.declared.node.Conn.{Conn}
use Rattle.ath_trees.specs.declared.node.Conn.TheVariants.{Not, And, Or, If, Iff}
use Rattle.ath_trees.specs.declared.node.Binary.{Binary}
use Rattle.ath_trees.specs.declared.node.Binary.TheVariants as binary
use Rattle.ath_trees.specs.declared.node.TermId.{TermId}
use Rattle.ath_trees.specs.declared.node.SentId.{SentId}
use Rattle.ath_trees.specs.Tree.{Term, listed, Sent, conn_of}
use Rattle.ath_trees.specs.Nameless.{NTerm, NTerms, nfree, nbound, napp, nnone, nmore, NSent, natom, nequal, nnegated, njoined, nquant, nameless_term, nameless_terms, nameless_under}
use Rattle.ath_trees.specs.Instance.{is_alpha_equal}
use Rattle.ath_trees.proofs.InstanceLaws.{alpha_told}
use Rattle.ath_terms.specs.declared.node.TermNode.{TermNode}
use Rattle.ath_terms.specs.declared.node.TermNode.TheVariants.{Var as var_node, App}
use Rattle.ath_terms.specs.declared.node.SentNode.{SentNode}
use Rattle.ath_terms.specs.declared.node.SentNode.TheVariants as node
use Rattle.ath_terms.specs.Trees.{term_at, sent_at}
use Rattle.ath_terms.specs.Nodes.{term_tree, sent_tree, conn_tree, parts_tree, arity, IsSentBelow}
use Rattle.ath_alpha.proofs.BinderLaws.{no_app}
use Rattle.ath_alpha.specs.Seen.{sorts_seen, term_seen, terms_seen, seen}

-- ---- with all sorts told, forms are as they are
mutual
  term-told : (t : NTerm) → term_seen true t ≡ t
  term-told (nfree v) = refl
  term-told (nbound i) = refl
  term-told (napp f ss ts) = ap (napp f ss) (terms-told ts)

  terms-told : (ts : NTerms) → terms_seen true ts ≡ ts
  terms-told nnone = refl
  terms-told (nmore t ts) = let a = term-told t in let b = terms-told ts in λ i. nmore (a i) (b i)

pub seen-told : (p : NSent) → seen true p ≡ p
seen-told (natom t) = ap natom (term-told t)
seen-told (nequal s t) = let a = term-told s in let b = term-told t in λ i. nequal (a i) (b i)
seen-told (nnegated p) = ap nnegated (seen-told p)
seen-told (njoined c p q) = let a = seen-told p in let b = seen-told q in λ i. njoined c (a i) (b i)
seen-told (nquant k s p) = ap (nquant k s) (seen-told p)

-- a test that tells when forms are one is that of alpha-equality
pub told-alpha : (b : Bool) (p q : Sent) → IsTrue b ↔ (seen true (nameless_under [] p) ≡ seen true (nameless_under [] q)) → b ≡ is_alpha_equal p q
told-alpha true p q h = sym ((alpha_told p q).1 (sym (seen-told (nameless_under [] p)) ∙ h.0 refl ∙ seen-told (nameless_under [] q)))
told-alpha false p q h = go (is_alpha_equal p q) refl
  where
    go : (t : Bool) → is_alpha_equal p q ≡ t → false ≡ is_alpha_equal p q
    go true e = absurd (let r = h.1 (seen-told (nameless_under [] p) ∙ (alpha_told p q).0 e ∙ sym (seen-told (nameless_under [] q))) in cc)
    go false e = sym e

pub itself-alpha : (p q : Sent) → p ≡ q → true ≡ is_alpha_equal p q
itself-alpha p q e = sym ((alpha_told p q).1 (ap (nameless_under []) e))

-- ---- applications
abbrev rowed : List NTerm → NTerms
rowed [] = nnone
rowed (t ∷ ts) = nmore t (rowed ts)

rowed-same : (ts us : List NTerm) → rowed ts ≡ rowed us → ts ≡ us
rowed-same [] [] e = refl
rowed-same (t ∷ ts) (u ∷ us) e = let r : rowed ts ≡ rowed us = cc in let q : t ≡ u = cc in let s = rowed-same ts us r in λ i. q i ∷ s i
rowed-same [] (u ∷ us) e = absurd (cc)
rowed-same (t ∷ ts) [] e = absurd (cc)

module _ (told : Bool) (ts : List Term) where
  abbrev pub shown : List Var → TermId → NTerm
  shown ws i = term_seen told (nameless_term ws (term_at ts i.0))

  shown-listed : (ws : List Var) (ids : List TermId) → terms_seen told (nameless_terms ws (listed (map (λ i. term_at ts i.0) ids))) ≡ rowed (map (shown ws) ids)
  shown-listed ws [] = refl
  shown-listed ws (i ∷ ids) = ap (nmore (shown ws i)) (shown-listed ws ids)

  abbrev app_form : List Var → Sym → List Sort → List TermId → NTerm
  app_form ws f ss xs = napp f (sorts_seen told ss) (rowed (map (shown ws) xs))

  pub record SameApp (ws vs : List Var) (f g : Sym) (ss rs : List Sort) (xs ys : List TermId) : Type 0 where
    pub symbols : f ≡ g
    pub sorts : sorts_seen told ss ≡ sorts_seen told rs
    pub args : map (shown ws) xs ≡ map (shown vs) ys

  module _ (ws vs : List Var) (s t : ℕ) (m n : TermNode) (f g : Sym) (ss rs : List Sort) (xs ys : List TermId) (left : term_tree ts m ≡ term_at ts s) (right : term_tree ts n ≡ term_at ts t) (is : m ≡ App f ss xs) (js : n ≡ App g rs ys) where
    form-left : term_seen told (nameless_term ws (term_at ts s)) ≡ app_form ws f ss xs
    form-left = let p = rw is at left in ap (λ x. term_seen told (nameless_term ws x)) (sym p) ∙ ap (napp f (sorts_seen told ss)) (shown-listed ws xs)

    form-right : term_seen told (nameless_term vs (term_at ts t)) ≡ app_form vs g rs ys
    form-right = let p = rw js at right in ap (λ x. term_seen told (nameless_term vs x)) (sym p) ∙ ap (napp g (sorts_seen told rs)) (shown-listed vs ys)

    pub same_apps : term_seen told (nameless_term ws (term_at ts s)) ≡ term_seen told (nameless_term vs (term_at ts t)) → SameApp ws vs f g ss rs xs ys
    same_apps e =
        let r : app_form ws f ss xs ≡ app_form vs g rs ys = sym form-left ∙ e ∙ form-right in
        let k : rowed (map (shown ws) xs) ≡ rowed (map (shown vs) ys) = cc in
        record { symbols = cc; sorts = cc; args = rowed-same (map (shown ws) xs) (map (shown vs) ys) k }

    pub apps_same : f ≡ g → sorts_seen told ss ≡ sorts_seen told rs → map (shown ws) xs ≡ map (shown vs) ys → term_seen told (nameless_term ws (term_at ts s)) ≡ term_seen told (nameless_term vs (term_at ts t))
    apps_same a b c = form-left ∙ (λ i. napp (a i) (b i) (rowed (c i))) ∙ sym form-right

  pub app_is_no_var : (ws vs : List Var) (s t : ℕ) (m n : TermNode) (v : Var) (f : Sym) (ss : List Sort) (xs : List TermId) → term_tree ts m ≡ term_at ts s → term_tree ts n ≡ term_at ts t → m ≡ var_node v → n ≡ App f ss xs
      → term_seen told (nameless_term ws (term_at ts s)) ≡ term_seen told (nameless_term vs (term_at ts t)) → ⊥
  app_is_no_var ws vs s t m n v f ss xs left right is js e =
      let p = rw is at left in
      let q = rw js at right in
      (no_app ws v).unlike told f (sorts_seen told ss) (terms_seen told (nameless_terms vs (listed (map (λ i. term_at ts i.0) xs))))
      (ap (λ x. term_seen told (nameless_term ws x)) p ∙ e ∙ ap (λ x. term_seen told (nameless_term vs x)) (sym q))

-- ---- connectives
data Parts : Conn → List NSent → NSent → Type 0 where
  one : {p : NSent} → Parts Not (p ∷ []) (nnegated p)
  two : {c : Binary} {p q : NSent} → Parts (conn_of c) (p ∷ q ∷ []) (njoined c p q)

no_atom : {c : Conn} {ss : List NSent} {p : NSent} {t : NTerm} → Parts c ss p → p ≡ natom t → ⊥
no_atom one e = cc
no_atom two e = cc

pub record SameConn (c d : Conn) (ss rs : List NSent) : Type 0 where
  pub conns : c ≡ d
  pub parts : ss ≡ rs

same_parts : {c d : Conn} {ss rs : List NSent} {p q : NSent} → Parts c ss p → Parts d rs q → p ≡ q → SameConn c d ss rs
same_parts one one e = record { conns = refl; parts = cc }
same_parts one two e = absurd (cc)
same_parts two one e = absurd (cc)
same_parts (two {c} {p} {q}) (two {c = d} {p = r} {q = s}) e = record { conns = let k : c ≡ d = cc in ap conn_of k; parts = cc }

module _ (told : Bool) (ss : List Sent) where
  abbrev pub sent_shown : List Var → SentId → NSent
  sent_shown ws i = seen told (nameless_under ws (sent_at ss i.0))

  pair : (ws : List Var) (c : Binary) (ids : List SentId) → length ids ≡ 2 → Parts (conn_of c) (map (sent_shown ws) ids) (seen told (nameless_under ws (parts_tree (Some c) (map (λ i. sent_at ss i.0) ids))))
  pair ws c [] e = absurd (omega arith)
  pair ws c (p ∷ []) e = absurd (omega arith)
  pair ws c (p ∷ q ∷ []) e = two
  pair ws c (p ∷ q ∷ r ∷ ids) e = absurd (omega arith)

  parts_of : (ws : List Var) (c : Conn) (ids : List SentId) → length ids ≡ arity c → Parts c (map (sent_shown ws) ids) (seen told (nameless_under ws (conn_tree c (map (λ i. sent_at ss i.0) ids))))
  parts_of ws Not [] e = absurd (omega arith)
  parts_of ws Not (p ∷ []) e = one
  parts_of ws Not (p ∷ q ∷ ids) e = absurd (omega arith)
  parts_of ws And ids e = pair ws binary.And ids e
  parts_of ws Or ids e = pair ws binary.Or ids e
  parts_of ws If ids e = pair ws binary.If ids e
  parts_of ws Iff ids e = pair ws binary.Iff ids e

  -- a connective's node
  node_parts : (ts : List Term) (ws : List Var) (a k p : ℕ) (m : SentNode) (c : Conn) (ids : List SentId) → sent_tree ts ss m ≡ sent_at ss p → IsSentBelow a k m → m ≡ node.Conn c ids → Parts c (map (sent_shown ws) ids) (seen told (nameless_under ws (sent_at ss p)))
  node_parts ts ws a k p m c ids tree below is =
      let x = rw is at tree in
      let w = rw is at below in
      let r = parts_of ws c ids w.0 in
      rw x at r

  module _ (ts : List Term) (ws vs : List Var) (a b k l : ℕ) (p q : ℕ) (m n : SentNode) (left : sent_tree ts ss m ≡ sent_at ss p) (right : sent_tree ts ss n ≡ sent_at ss q) where
    pub conn_is_no_atom : (c : Conn) (ids : List SentId) (t : TermId) → IsSentBelow a k m → m ≡ node.Conn c ids → n ≡ node.Atom t → seen told (nameless_under ws (sent_at ss p)) ≡ seen told (nameless_under vs (sent_at ss q)) → ⊥
    conn_is_no_atom c ids t below is js e =
        let y = rw js at right in
        no_atom (node_parts ts ws a k p m c ids left below is) (e ∙ ap (λ x. seen told (nameless_under vs x)) (sym y))

    pub conns_are_same : (c d : Conn) (xs ys : List SentId) → IsSentBelow a k m → IsSentBelow b l n → m ≡ node.Conn c xs → n ≡ node.Conn d ys → seen told (nameless_under ws (sent_at ss p)) ≡ seen told (nameless_under vs (sent_at ss q)) → SameConn c d (map (sent_shown ws) xs) (map (sent_shown vs) ys)
    conns_are_same c d xs ys below under is js e = same_parts (node_parts ts ws a k p m c xs left below is) (node_parts ts vs b l q n d ys right under js) e
