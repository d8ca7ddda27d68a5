-- The trees of numbered nodes, whose parts have smaller numbers.
use Rattle.std.specs.Prelude.{◌≡◌, ℕ, ◌<◌, List, [], ◌∷◌, length, map, Option, Some, None}
use Rattle.std.specs.List.{All}
use Rattle.ath_trees.specs.declared.node.Conn.{Conn}
use Rattle.ath_trees.specs.declared.node.Binary.{Binary}
use Rattle.ath_trees.specs.declared.node.Conn.TheVariants.{Not}
use Rattle.ath_terms.specs.declared.node.TermNode.{TermNode}
use Rattle.ath_terms.specs.declared.node.TermNode.TheVariants.{Var, App}
use Rattle.ath_terms.specs.declared.node.SentNode.{SentNode}
use Rattle.ath_terms.specs.declared.node.SentNode.TheVariants as node
use Rattle.ath_trees.specs.Tree.{Term, var, app, listed, Sent, atom, equal, negated, joined, bound, binary_of}
use Rattle.ath_terms.specs.Built.{built}
use Rattle.ath_terms.specs.Blank.{blank}
use Rattle.ath_terms.specs.Trees.{term_at, sent_at}

abbrev pub term_tree : List Term → TermNode → Term
term_tree ts (Var v) = var v
term_tree ts (App f ss ids) = app f ss (listed (map (λ i. term_at ts i.0) ids))

abbrev pub parts_tree : Option Binary → List Sent → Sent
parts_tree None (p ∷ ps) = negated p
parts_tree (Some c) (p ∷ q ∷ ps) = joined c p q
parts_tree c ps = atom blank

abbrev pub conn_tree : Conn → List Sent → Sent
conn_tree c ps = parts_tree (binary_of c) ps

abbrev pub sent_tree : List Term → List Sent → SentNode → Sent
sent_tree ts ss (node.Atom t) = atom (term_at ts t.0)
sent_tree ts ss (node.Eq s t) = equal (term_at ts s.0) (term_at ts t.0)
sent_tree ts ss (node.Conn c ids) = conn_tree c (map (λ i. sent_at ss i.0) ids)
sent_tree ts ss (node.Quant q v p) = bound q v (sent_at ss p.0)

abbrev pub arity : Conn → ℕ
arity Not = 1
arity c = 2

-- its parts have numbers below k
abbrev pub IsTermBelow : ℕ → TermNode → Type 0
IsTermBelow k (Var v) = Unit {0}
IsTermBelow k (App f ss ids) = All (λ i. i.0 < k) ids

-- its terms have numbers below m, and its sentences below k
abbrev pub IsSentBelow : ℕ → ℕ → SentNode → Type 0
IsSentBelow m k (node.Atom t) = t.0 < m
IsSentBelow m k (node.Eq s t) = (s.0 < m) × (t.0 < m)
IsSentBelow m k (node.Conn c ids) = (length ids ≡ arity c) × All (λ i. i.0 < k) ids
IsSentBelow m k (node.Quant q v p) = p.0 < k

abbrev pub term_trees : List TermNode → List Term
term_trees ns = built term_tree [] ns

abbrev pub sent_trees : List Term → List SentNode → List Sent
sent_trees ts ns = built (sent_tree ts) [] ns
