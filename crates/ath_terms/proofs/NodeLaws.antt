-- Nodes and their trees.
use Rattle.std.proofs.Common.{◌≡◌, ℕ, suc, ◌<◌, List, [], ◌∷◌, map, refl, ap, arith}
use Rattle.std.specs.List.{All}
use Rattle.ath_terms.specs.declared.node.TermNode.{TermNode}
use Rattle.ath_terms.specs.declared.node.TermNode.TheVariants.{Var, App}
use Rattle.ath_terms.specs.declared.node.SentNode.{SentNode}
use Rattle.ath_terms.specs.declared.node.SentNode.TheVariants as node
use Rattle.ath_trees.specs.Tree.{Term, app, listed, Sent, atom, equal, bound}
use Rattle.ath_terms.specs.Blank.{blank}
use Rattle.ath_terms.specs.Trees.{term_at, sent_at}
use Rattle.ath_terms.specs.Nodes.{term_tree, conn_tree, sent_tree, IsTermBelow, IsSentBelow}
use Rattle.ath_terms.proofs.BuiltLaws.{Respects}

map-agrees : {A B : Type 0} (f g : A → B) (P : A → Type 0) → ((a : A) → P a → f a ≡ g a) → (xs : List A) → All P xs → map f xs ≡ map g xs
map-agrees f g P h [] all = refl
map-agrees f g P h (x ∷ xs) all =
    let a = h x (all 0 x (omega arith)) in
    let b = map-agrees f g P h xs (λ k d l. all (suc k) d (omega arith)) in
    λ i. a i ∷ b i

pub terms-respect : Respects Term TermNode term_tree IsTermBelow blank
terms-respect = record { agrees = go }
  where
    go : (k : ℕ) (n : TermNode) (us vs : List Term) → IsTermBelow k n → ((j : ℕ) → j < k → term_at us j ≡ term_at vs j) → term_tree us n ≡ term_tree vs n
    go k (Var v) us vs b h = refl
    go k (App f ss ids) us vs b h = ap (λ ts. app f ss (listed ts)) (map-agrees (λ i. term_at us i.0) (λ i. term_at vs i.0) (λ i. i.0 < k) (λ a l. h a.0 l) ids b)

pub sents-respect : (ts : List Term) (m : ℕ) → Respects Sent SentNode (sent_tree ts) (IsSentBelow m) (atom blank)
sents-respect ts m = record { agrees = go }
  where
    go : (k : ℕ) (n : SentNode) (us vs : List Sent) → IsSentBelow m k n → ((j : ℕ) → j < k → sent_at us j ≡ sent_at vs j) → sent_tree ts us n ≡ sent_tree ts vs n
    go k (node.Atom t) us vs b h = refl
    go k (node.Eq s t) us vs b h = refl
    go k (node.Conn c ids) us vs b h = ap (conn_tree c) (map-agrees (λ i. sent_at us i.0) (λ i. sent_at vs i.0) (λ i. i.0 < k) (λ a l. h a.0 l) ids b.1)
    go k (node.Quant q v p) us vs b h = ap (bound q v) (h p.0 b)

-- with the same terms
pub sent_tree-keeps : (ts us : List Term) (ss : List Sent) (m k : ℕ) (s : SentNode) → ((j : ℕ) → j < m → term_at us j ≡ term_at ts j) → IsSentBelow m k s → sent_tree us ss s ≡ sent_tree ts ss s
sent_tree-keeps ts us ss m k (node.Atom t) h b = ap atom (h t.0 b)
sent_tree-keeps ts us ss m k (node.Eq s t) h b = let p = h s.0 b.0 in let q = h t.0 b.1 in λ i. equal (p i) (q i)
sent_tree-keeps ts us ss m k (node.Conn c ids) h b = refl
sent_tree-keeps ts us ss m k (node.Quant q v p) h b = refl
