-- The tree of a connective has its parts.
use Rattle.std.proofs.Common.{◌≡◌, ℕ, ◌&&◌, Bool, true, false, List, [], ◌∷◌, length, map, Some, refl, sym, ◌∙◌, ap, arith}
use Rattle.std.specs.List.{list_all}
use Rattle.ath_sorts.specs.declared.sorts.SVar.{SVar}
use Rattle.ath_sorts.specs.declared.sorts.Sort.{Sort}
use Rattle.ath_sorts.specs.Signature.{Signature}
use Rattle.ath_trees.specs.SortsIn.{sent_has_small_sorts}
use Rattle.ath_trees.specs.Under.{sent_under}
use Rattle.ath_trees.specs.declared.node.Conn.{Conn}
use Rattle.ath_trees.specs.declared.node.Binary.{Binary}
use Rattle.ath_trees.specs.declared.node.Binary.TheVariants as binary
use Rattle.ath_trees.specs.declared.node.Conn.TheVariants.{Not, And, Or, If, Iff}
use Rattle.ath_trees.specs.declared.node.TermId.{TermId}
use Rattle.ath_trees.specs.declared.node.SentId.{SentId}
use Rattle.ath_terms.specs.declared.node.SentNode.{SentNode}
use Rattle.ath_terms.specs.declared.node.SentNode.TheVariants as node
use Rattle.ath_trees.specs.declared.node.Var.{Var}
use Rattle.ath_trees.specs.Variables.{with_sent, with_sents}
use Rattle.ath_trees.specs.Tree.{Term, Sent, atom, negated, joined, conn_of}
use Rattle.ath_terms.specs.Trees.{term_at, sent_at}
use Rattle.ath_terms.specs.Nodes.{parts_tree, conn_tree, sent_tree, arity, IsSentBelow}

data Parts : Conn → List Sent → Sent → Type 0 where
  one : {p : Sent} → Parts Not (p ∷ []) (negated p)
  two : {c : Binary} {p q : Sent} → Parts (conn_of c) (p ∷ q ∷ []) (joined c p q)

pair : (c : Binary) (ss : List Sent) → length ss ≡ 2 → Parts (conn_of c) ss (parts_tree (Some c) ss)
pair c [] e = absurd (omega arith)
pair c (p ∷ []) e = absurd (omega arith)
pair c (p ∷ q ∷ []) e = two
pair c (p ∷ q ∷ r ∷ ss) e = absurd (omega arith)

parts_of : (c : Conn) (ss : List Sent) → length ss ≡ arity c → Parts c ss (conn_tree c ss)
parts_of Not [] e = absurd (omega arith)
parts_of Not (p ∷ []) e = one
parts_of Not (p ∷ q ∷ ss) e = absurd (omega arith)
parts_of And ss e = pair binary.And ss e
parts_of Or ss e = pair binary.Or ss e
parts_of If ss e = pair binary.If ss e
parts_of Iff ss e = pair binary.Iff ss e

-- a connective of two parts
pub pair_tree : (c : Binary) (x y : Sent) → joined c x y ≡ conn_tree (conn_of c) (x ∷ y ∷ [])
pair_tree binary.And x y = refl
pair_tree binary.Or x y = refl
pair_tree binary.If x y = refl
pair_tree binary.Iff x y = refl

no_atom : {c : Conn} {ss : List Sent} {p : Sent} {t : Term} → Parts c ss p → p ≡ atom t → ⊥
no_atom one e = cc
no_atom two e = cc

pub conn-not-atom : (c : Conn) (ss : List Sent) (t : Term) → length ss ≡ arity c → conn_tree c ss ≡ atom t → ⊥
conn-not-atom c ss t l e = no_atom (parts_of c ss l) e

pub record SameConn (c d : Conn) (ss rs : List Sent) : Type 0 where
  pub conns : c ≡ d
  pub parts : ss ≡ rs

same_parts : {c d : Conn} {ss rs : List Sent} {p q : Sent} → Parts c ss p → Parts d rs q → p ≡ q → SameConn c d ss rs
same_parts one one e = record { conns = refl; parts = cc }
same_parts one two e = absurd (cc)
same_parts two one e = absurd (cc)
same_parts (two {c} {p} {q}) (two {c = d} {p = r} {q = s}) e = record { conns = let k : c ≡ d = cc in ap conn_of k; parts = cc }

pub conns-same : (c d : Conn) (ss rs : List Sent) → length ss ≡ arity c → length rs ≡ arity d → conn_tree c ss ≡ conn_tree d rs → SameConn c d ss rs
conns-same c d ss rs l k e = same_parts (parts_of c ss l) (parts_of d rs k) e

length-map : {A B : Type 0} (f : A → B) (xs : List A) → length (map f xs) ≡ length xs
length-map f [] = refl
length-map f (x ∷ xs) = let e = length-map f xs in omega arith

vars_of_parts : (found : List Var) {c : Conn} {ss : List Sent} {p : Sent} → Parts c ss p → with_sent found p ≡ with_sents found ss
vars_of_parts found one = refl
vars_of_parts found two = refl

-- its free variables are those of its parts
pub vars_of_conn : (found : List Var) (c : Conn) (ss : List Sent) (ids : List SentId) → length ids ≡ arity c → with_sent found (conn_tree c (map (λ i. sent_at ss i.0) ids)) ≡ with_sents found (map (λ i. sent_at ss i.0) ids)
vars_of_conn found c ss ids l = vars_of_parts found (parts_of c (map (λ i. sent_at ss i.0) ids) (length-map (λ i. sent_at ss i.0) ids ∙ l))

under_parts : (f : SVar → Sort) {c : Conn} {ss : List Sent} {p : Sent} → Parts c ss p → sent_under f p ≡ conn_tree c (map (sent_under f) ss)
under_parts f one = refl
under_parts f (two {c} {p} {q}) = pair_tree c (sent_under f p) (sent_under f q)

through : (f : SVar → Sort) (ss : List Sent) (ids : List SentId) → map (sent_under f) (map (λ i. sent_at ss i.0) ids) ≡ map (λ i. sent_under f (sent_at ss i.0)) ids
through f ss [] = refl
through f ss (i ∷ ids) = ap (λ l. sent_under f (sent_at ss i.0) ∷ l) (through f ss ids)

-- under a substitution it is the connective of its parts under it
pub under_of_conn : (f : SVar → Sort) (c : Conn) (ss : List Sent) (ids : List SentId) → length ids ≡ arity c → sent_under f (conn_tree c (map (λ i. sent_at ss i.0) ids)) ≡ conn_tree c (map (λ i. sent_under f (sent_at ss i.0)) ids)
under_of_conn f c ss ids l = under_parts f (parts_of c (map (λ i. sent_at ss i.0) ids) (length-map (λ i. sent_at ss i.0) ids ∙ l)) ∙ ap (conn_tree c) (through f ss ids)

small_parts : (sig : Signature) (f : SVar → Sort) {c : Conn} {ss : List Sent} {p : Sent} → Parts c ss p → sent_has_small_sorts sig (sent_under f p) ≡ list_all (λ q. sent_has_small_sorts sig (sent_under f q)) ss
small_parts sig f (one {p}) = sym (and-end (sent_has_small_sorts sig (sent_under f p)))
  where
    and-end : (b : Bool) → (b && true) ≡ b
    and-end true = refl
    and-end false = refl
small_parts sig f (two {c} {p} {q}) = ap (λ b. sent_has_small_sorts sig (sent_under f p) && b) (sym (and-end (sent_has_small_sorts sig (sent_under f q))))
  where
    and-end : (b : Bool) → (b && true) ≡ b
    and-end true = refl
    and-end false = refl

map-all : (p : Sent → Bool) (ss : List Sent) (ids : List SentId) → list_all p (map (λ i. sent_at ss i.0) ids) ≡ list_all (λ i. p (sent_at ss i.0)) ids
map-all p ss [] = refl
map-all p ss (i ∷ ids) = ap (λ b. p (sent_at ss i.0) && b) (map-all p ss ids)

pub small_of_conn : (sig : Signature) (f : SVar → Sort) (c : Conn) (ss : List Sent) (ids : List SentId) → length ids ≡ arity c → sent_has_small_sorts sig (sent_under f (conn_tree c (map (λ i. sent_at ss i.0) ids))) ≡ list_all (λ i. sent_has_small_sorts sig (sent_under f (sent_at ss i.0))) ids
small_of_conn sig f c ss ids l = small_parts sig f (parts_of c (map (λ i. sent_at ss i.0) ids) (length-map (λ i. sent_at ss i.0) ids ∙ l)) ∙ map-all (λ q. sent_has_small_sorts sig (sent_under f q)) ss ids

pub under_of_list : (f : SVar → Sort) (c : Conn) (ss : List Sent) → length ss ≡ arity c → sent_under f (conn_tree c ss) ≡ conn_tree c (map (sent_under f) ss)
under_of_list f c ss l = under_parts f (parts_of c ss l)

vars_in_parts : (found : List Var) {c : Conn} {ss : List Sent} {p : Sent} → Parts c ss p → with_sent found p ≡ with_sents found ss
vars_in_parts found one = refl
vars_in_parts found two = refl

pub vars_of_list : (found : List Var) (c : Conn) (ss : List Sent) → length ss ≡ arity c → with_sent found (conn_tree c ss) ≡ with_sents found ss
vars_of_list found c ss l = vars_in_parts found (parts_of c ss l)

ends : (b : Bool) → b ≡ (b && true)
ends true = refl
ends false = refl

small_in_parts : (sig : Signature) {c : Conn} {ss : List Sent} {p : Sent} → Parts c ss p → sent_has_small_sorts sig p ≡ list_all (sent_has_small_sorts sig) ss
small_in_parts sig (one {p}) = ends (sent_has_small_sorts sig p)
small_in_parts sig (two {c} {p} {q}) = ap (λ b. sent_has_small_sorts sig p && b) (ends (sent_has_small_sorts sig q))

pub small_of_list : (sig : Signature) (c : Conn) (ss : List Sent) → length ss ≡ arity c → sent_has_small_sorts sig (conn_tree c ss) ≡ list_all (sent_has_small_sorts sig) ss
small_of_list sig c ss l = small_in_parts sig (parts_of c ss l)

-- over two nodes of a store
module _ (ts : List Term) (ss : List Sent) (a b k l : ℕ) (p q : ℕ) (m n : SentNode) (left : sent_tree ts ss m ≡ sent_at ss p) (right : sent_tree ts ss n ≡ sent_at ss q) where
  pub conn_is_no_atom : (c : Conn) (ids : List SentId) (t : TermId) → IsSentBelow a k m → m ≡ node.Conn c ids → n ≡ node.Atom t → sent_at ss p ≡ sent_at ss q → ⊥
  conn_is_no_atom c ids t below is js e =
      let x = rw is at left in
      let y = rw js at right in
      let w = rw is at below in
      conn-not-atom c (map (λ i. sent_at ss i.0) ids) (term_at ts t.0) (length-map (λ i. sent_at ss i.0) ids ∙ w.0) (x ∙ e ∙ sym y)

  pub conns_are_same : (c d : Conn) (xs ys : List SentId) → IsSentBelow a k m → IsSentBelow b l n → m ≡ node.Conn c xs → n ≡ node.Conn d ys → sent_at ss p ≡ sent_at ss q → SameConn c d (map (λ i. sent_at ss i.0) xs) (map (λ i. sent_at ss i.0) ys)
  conns_are_same c d xs ys below under is js e =
      let x = rw is at left in
      let y = rw js at right in
      let w = rw is at below in
      let v = rw js at under in
      conns-same c d (map (λ i. sent_at ss i.0) xs) (map (λ i. sent_at ss i.0) ys) (length-map (λ i. sent_at ss i.0) xs ∙ w.0) (length-map (λ i. sent_at ss i.0) ys ∙ v.0) (x ∙ e ∙ sym y)
