-- Matching of nodes.
use Rattle.std.proofs.Common.{◌≡◌, ℕ, ◌==◌, Bool, true, List, [], ◌∷◌, length, map, Some, None, refl, sym, ◌∙◌, ap, arith}
use Rattle.std.specs.Prelude.{if◌then◌else◌, option_and_then}
use Rattle.ath_sorts.specs.declared.sorts.Sym.{Sym}
use Rattle.ath_sorts.specs.declared.sorts.SVar.{SVar}
use Rattle.ath_sorts.specs.declared.sorts.Sort.{Sort, Var as sort_var, Con, out-Sort}
use Rattle.ath_sorts.specs.declared.sorts.Sort.TheOpen as one
use Rattle.ath_sorts.specs.declared.sorts.Sort.TheVariants.{rolls-Con, outs-Var, outs-Con}
use Rattle.ath_sorts.specs.declared.sorts.Sort.TheFolds.{fold-roll-Sort}
use Rattle.ath_sorts.proofs.Gets.{length-map'}
use Rattle.ath_sorts.proofs.Bools.{num_same, same_num}
use Rattle.ath_trees.specs.declared.node.Var.{Var}
use Rattle.ath_trees.specs.declared.node.Conn.{Conn}
use Rattle.ath_trees.specs.declared.node.Conn.TheVariants.{Not, And, Or, If, Iff}
use Rattle.ath_trees.specs.declared.node.Binary.{Binary}
use Rattle.ath_trees.specs.declared.node.Binary.TheVariants as binary
use Rattle.ath_trees.specs.declared.node.TermId.{TermId}
use Rattle.ath_trees.specs.declared.node.SentId.{SentId}
use Rattle.ath_trees.specs.Tree.{Term, listed, Sent}
use Rattle.ath_trees.specs.Nameless.{NTerm, natom, nameless_term, nameless_terms, nameless_under}
use Rattle.ath_trees.specs.Instance.{Found, match_all, match_con, match_step, match_sort, match_term, match_terms, same_binary, match_sent}
use Rattle.ath_trees.proofs.Occurring.{not_true}
use Rattle.ath_terms.specs.declared.node.TermNode.{TermNode}
use Rattle.ath_terms.specs.declared.node.TermNode.TheVariants.{Var as var_node, App}
use Rattle.ath_terms.specs.declared.node.SentNode.{SentNode}
use Rattle.ath_terms.specs.declared.node.SentNode.TheVariants as node
use Rattle.ath_terms.specs.Trees.{term_at, sent_at}
use Rattle.ath_terms.specs.Nodes.{term_tree, sent_tree, conn_tree, parts_tree, arity, IsSentBelow}
use Rattle.ath_alpha.specs.Answer.{answer}
use Rattle.ath_alpha.proofs.BinderLaws.{no_app}
use Rattle.ath_alpha.proofs.WalkLaws.{Map, walk, walk-after-uneven, walk-one}

module _ (rigid : SVar → Bool) where
  -- ---- sorts
  pub walk-sorts : (ss ts : List Sort) (s : Map) → match_all (map (match_sort rigid) ss) ts s ≡ walk (match_sort rigid) ss ts s
  walk-sorts [] [] s = refl
  walk-sorts [] (t ∷ ts) s = refl
  walk-sorts (x ∷ ss) [] s = refl
  walk-sorts (x ∷ ss) (t ∷ ts) s = ap (λ k. option_and_then k (match_sort rigid x t s)) (λ i r. walk-sorts ss ts r i)

  match-con : (c : Sym) (args : List Sort) (t : Sort) (s : Map) → match_sort rigid (Con c args) t s ≡ match_con c (map (match_sort rigid) args) (out-Sort t) s
  match-con c args t s = ap (λ x. match_sort rigid x t s) (sym (rolls-Con c args)) ∙ ap (λ (k : Sort → Map → Found). k t s) (fold-roll-Sort (Sort → Map → Found) (match_step rigid) (one.Con c args))

  pub match-con-var : (c : Sym) (args : List Sort) (v : SVar) (s : Map) → match_sort rigid (Con c args) (sort_var v) s ≡ None
  match-con-var c args v s = match-con c args (sort_var v) s ∙ ap (λ x. match_con c (map (match_sort rigid) args) x s) (outs-Var v)

  pub match-cons : (c d : Sym) (args ts : List Sort) (s : Map) → match_sort rigid (Con c args) (Con d ts) s ≡ (if c.0 == d.0 then walk (match_sort rigid) args ts s else None)
  match-cons c d args ts s =
      match-con c args (Con d ts) s ∙ ap (λ x. match_con c (map (match_sort rigid) args) x s) (outs-Con d ts) ∙ ap (λ (x : Found). if c.0 == d.0 then x else None) (walk-sorts args ts s)

  module _ (c d : Sym) (args ts : List Sort) (a b : Sort) (s : Map) (is_a : a ≡ Con c args) (is_b : b ≡ Con d ts) where
    at-cons : match_sort rigid a b s ≡ (if c.0 == d.0 then walk (match_sort rigid) args ts s else None)
    at-cons = (λ i. match_sort rigid (is_a i) (is_b i) s) ∙ match-cons c d args ts s

    pub match-cons-same : c.0 ≡ d.0 → match_sort rigid a b s ≡ walk (match_sort rigid) args ts s
    match-cons-same e = at-cons ∙ rw (e, num_same d.0) refl

    pub match-cons-other : (c.0 ≡ d.0 → ⊥) → None ≡ match_sort rigid a b s
    match-cons-other h = let e = not_true (c.0 == d.0) (λ k. h (same_num c.0 d.0 k)) in sym (at-cons ∙ rw e refl)

  -- ---- terms
  module _ (ts : List Term) (ws vs : List Var) where
    abbrev pub match_terms_at : TermId → TermId → Map → Found
    match_terms_at i j s = match_term rigid (nameless_term ws (term_at ts i.0)) (nameless_term vs (term_at ts j.0)) s

    walk-terms : (xs ys : List TermId) (s : Map) → match_terms rigid (nameless_terms ws (listed (map (λ i. term_at ts i.0) xs))) (nameless_terms vs (listed (map (λ i. term_at ts i.0) ys))) s ≡ walk match_terms_at xs ys s
    walk-terms [] [] s = refl
    walk-terms [] (y ∷ ys) s = refl
    walk-terms (x ∷ xs) [] s = refl
    walk-terms (x ∷ xs) (y ∷ ys) s = ap (λ k. option_and_then k (match_terms_at x y s)) (λ i r. walk-terms xs ys r i)

    -- two applications
    module _ (p q : ℕ) (m n : TermNode) (f g : Sym) (ss rs : List Sort) (xs ys : List TermId) (s : Map) (left : term_tree ts m ≡ term_at ts p) (right : term_tree ts n ≡ term_at ts q) (is : m ≡ App f ss xs) (js : n ≡ App g rs ys) where
      abbrev whole : Found
      whole = match_term rigid (nameless_term ws (term_at ts p)) (nameless_term vs (term_at ts q)) s

      at-apps : whole ≡ (if f.0 == g.0 then option_and_then (walk match_terms_at xs ys) (match_all (map (match_sort rigid) ss) rs s) else None)
      at-apps =
          let a = rw is at left in
          let b = rw js at right in
          (λ i. match_term rigid (nameless_term ws (sym a i)) (nameless_term vs (sym b i)) s)
          ∙ ap (λ (k : Map → Found). if f.0 == g.0 then option_and_then k (match_all (map (match_sort rigid) ss) rs s) else None) (λ i r. walk-terms xs ys r i)

      pub match-apps-other : (f.0 ≡ g.0 → ⊥) → None ≡ whole
      match-apps-other h = let e = not_true (f.0 == g.0) (λ k. h (same_num f.0 g.0 k)) in sym (at-apps ∙ rw e refl)

      at-same : f.0 ≡ g.0 → whole ≡ option_and_then (walk match_terms_at xs ys) (match_all (map (match_sort rigid) ss) rs s)
      at-same e = at-apps ∙ rw (e, num_same g.0) refl

      pub match-apps-uneven : f.0 ≡ g.0 → (length xs ≡ length ys → ⊥) → None ≡ whole
      match-apps-uneven e h = walk-after-uneven match_terms_at xs ys (match_all (map (match_sort rigid) ss) rs s) h ∙ sym (at-same e)

      pub match-apps-same : f.0 ≡ g.0 → (b : Bool) (t : Map) → b ≡ true → answer b t ≡ match_all (map (match_sort rigid) ss) rs s → whole ≡ walk match_terms_at xs ys t
      match-apps-same e b t go h = at-same e ∙ ap (option_and_then (walk match_terms_at xs ys)) (sym h ∙ ap (λ c. answer c t) go)

    pub match-var-app : (p q : ℕ) (m n : TermNode) (v : Var) (f : Sym) (ss : List Sort) (xs : List TermId) (s : Map) → term_tree ts m ≡ term_at ts p → term_tree ts n ≡ term_at ts q → m ≡ var_node v → n ≡ App f ss xs
        → None ≡ match_term rigid (nameless_term ws (term_at ts p)) (nameless_term vs (term_at ts q)) s
    match-var-app p q m n v f ss xs s left right is js =
        let a = rw is at left in
        let b = rw js at right in
        sym ((λ i. match_term rigid (nameless_term ws (sym a i)) (nameless_term vs (sym b i)) s) ∙ (no_app ws v).unmatched rigid f ss (nameless_terms vs (listed (map (λ i. term_at ts i.0) xs))) s)

    pub match-app-var : (p q : ℕ) (m n : TermNode) (v : Var) (f : Sym) (ss : List Sort) (xs : List TermId) (s : Map) → term_tree ts m ≡ term_at ts p → term_tree ts n ≡ term_at ts q → m ≡ App f ss xs → n ≡ var_node v
        → None ≡ match_term rigid (nameless_term ws (term_at ts p)) (nameless_term vs (term_at ts q)) s
    match-app-var p q m n v f ss xs s left right is js =
        let a = rw is at left in
        let b = rw js at right in
        sym ((λ i. match_term rigid (nameless_term ws (sym a i)) (nameless_term vs (sym b i)) s) ∙ (no_app vs v).unmatching rigid f ss (nameless_terms ws (listed (map (λ i. term_at ts i.0) xs))) s)

  -- ---- sentences
  module _ (ss : List Sent) (ws vs : List Var) where
    abbrev pub match_sents_at : SentId → SentId → Map → Found
    match_sents_at i j s = match_sent rigid (nameless_under ws (sent_at ss i.0)) (nameless_under vs (sent_at ss j.0)) s

    pair : (c : Binary) → same_binary c c ≡ true → (xs ys : List SentId) (s : Map) → length xs ≡ 2 → length ys ≡ 2
        → match_sent rigid (nameless_under ws (parts_tree (Some c) (map (λ i. sent_at ss i.0) xs))) (nameless_under vs (parts_tree (Some c) (map (λ i. sent_at ss i.0) ys))) s ≡ walk match_sents_at xs ys s
    pair c e (p ∷ q ∷ []) (r ∷ t ∷ []) s h k = rw e (ap (λ m. option_and_then m (match_sents_at p r s)) (λ i u. sym (walk-one match_sents_at q t u) i))
    pair c e [] ys s h k = absurd (omega arith)
    pair c e (p ∷ []) ys s h k = absurd (omega arith)
    pair c e (p ∷ q ∷ x ∷ xs) ys s h k = absurd (omega arith)
    pair c e xs [] s h k = absurd (omega arith)
    pair c e xs (r ∷ []) s h k = absurd (omega arith)
    pair c e xs (r ∷ t ∷ y ∷ ys) s h k = absurd (omega arith)

    walk-conn : (c : Conn) (xs ys : List SentId) (s : Map) → length xs ≡ arity c → length ys ≡ arity c
        → match_sent rigid (nameless_under ws (conn_tree c (map (λ i. sent_at ss i.0) xs))) (nameless_under vs (conn_tree c (map (λ i. sent_at ss i.0) ys))) s ≡ walk match_sents_at xs ys s
    walk-conn Not (p ∷ []) (q ∷ []) s h k = sym (walk-one match_sents_at p q s)
    walk-conn Not [] ys s h k = absurd (omega arith)
    walk-conn Not (p ∷ r ∷ xs) ys s h k = absurd (omega arith)
    walk-conn Not xs [] s h k = absurd (omega arith)
    walk-conn Not xs (q ∷ r ∷ ys) s h k = absurd (omega arith)
    walk-conn And xs ys s h k = pair binary.And refl xs ys s h k
    walk-conn Or xs ys s h k = pair binary.Or refl xs ys s h k
    walk-conn If xs ys s h k = pair binary.If refl xs ys s h k
    walk-conn Iff xs ys s h k = pair binary.Iff refl xs ys s h k

    -- two connectives
    pub match-conns : (ts : List Term) (a b k l p q : ℕ) (m n : SentNode) (c d : Conn) (xs ys : List SentId) (s : Map) → sent_tree ts ss m ≡ sent_at ss p → sent_tree ts ss n ≡ sent_at ss q → IsSentBelow a k m → IsSentBelow b l n
        → m ≡ node.Conn c xs → n ≡ node.Conn d ys → c ≡ d → match_sent rigid (nameless_under ws (sent_at ss p)) (nameless_under vs (sent_at ss q)) s ≡ walk match_sents_at xs ys s
    match-conns ts a b k l p q m n c d xs ys s left right below under is js e =
        let x = rw is at left in
        let y = rw (js, sym e) at right in
        let g = rw is at below in
        let h = rw (js, sym e) at under in
        (λ i. match_sent rigid (nameless_under ws (sym x i)) (nameless_under vs (sym y i)) s) ∙ walk-conn c xs ys s g.0 h.0

  -- ---- an atom and a connective
  no-atom-pair : (ws : List Var) (c : Binary) (ps : List Sent) (t : NTerm) (s : Map) → length ps ≡ 2 → (None ≡ match_sent rigid (natom t) (nameless_under ws (parts_tree (Some c) ps)) s) × (None ≡ match_sent rigid (nameless_under ws (parts_tree (Some c) ps)) (natom t) s)
  no-atom-pair ws c (p ∷ q ∷ []) t s h = (refl, refl)
  no-atom-pair ws c [] t s h = absurd (omega arith)
  no-atom-pair ws c (p ∷ []) t s h = absurd (omega arith)
  no-atom-pair ws c (p ∷ q ∷ r ∷ ps) t s h = absurd (omega arith)

  no-atom : (ws : List Var) (c : Conn) (ps : List Sent) (t : NTerm) (s : Map) → length ps ≡ arity c → (None ≡ match_sent rigid (natom t) (nameless_under ws (conn_tree c ps)) s) × (None ≡ match_sent rigid (nameless_under ws (conn_tree c ps)) (natom t) s)
  no-atom ws Not (p ∷ []) t s h = (refl, refl)
  no-atom ws Not [] t s h = absurd (omega arith)
  no-atom ws Not (p ∷ q ∷ ps) t s h = absurd (omega arith)
  no-atom ws And ps t s h = no-atom-pair ws binary.And ps t s h
  no-atom ws Or ps t s h = no-atom-pair ws binary.Or ps t s h
  no-atom ws If ps t s h = no-atom-pair ws binary.If ps t s h
  no-atom ws Iff ps t s h = no-atom-pair ws binary.Iff ps t s h

  module _ (ts : List Term) (ss : List Sent) (ws vs : List Var) (a k p q : ℕ) (m n : SentNode) (c : Conn) (ids : List SentId) (t : TermId) (s : Map) (left : sent_tree ts ss m ≡ sent_at ss p) (right : sent_tree ts ss n ≡ sent_at ss q) (below : IsSentBelow a k m) (is : m ≡ node.Conn c ids) (js : n ≡ node.Atom t) where
    atom-form : nameless_under vs (sent_at ss q) ≡ natom (nameless_term vs (term_at ts t.0))
    atom-form = let y = rw js at right in ap (nameless_under vs) (sym y)

    conn-form : nameless_under ws (sent_at ss p) ≡ nameless_under ws (conn_tree c (map (λ i. sent_at ss i.0) ids))
    conn-form = let x = rw is at left in ap (nameless_under ws) (sym x)

    neither : (None ≡ match_sent rigid (natom (nameless_term vs (term_at ts t.0))) (nameless_under ws (conn_tree c (map (λ i. sent_at ss i.0) ids))) s) × (None ≡ match_sent rigid (nameless_under ws (conn_tree c (map (λ i. sent_at ss i.0) ids))) (natom (nameless_term vs (term_at ts t.0))) s)
    neither = let w = rw is at below in no-atom ws c (map (λ i. sent_at ss i.0) ids) (nameless_term vs (term_at ts t.0)) s (length-map' (λ i. sent_at ss i.0) ids ∙ w.0)

    pub match-conn-atom : None ≡ match_sent rigid (nameless_under ws (sent_at ss p)) (nameless_under vs (sent_at ss q)) s
    match-conn-atom = neither.1 ∙ (λ i. match_sent rigid (sym conn-form i) (sym atom-form i) s)

    pub match-atom-conn : None ≡ match_sent rigid (nameless_under vs (sent_at ss q)) (nameless_under ws (sent_at ss p)) s
    match-atom-conn = neither.0 ∙ (λ i. match_sent rigid (sym atom-form i) (sym conn-form i) s)
