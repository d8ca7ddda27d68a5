-- What the nodes of a store stand for, and that they are in order, with the measures of their trees.
use Rattle.std.specs.Prelude.{List, length, map}
use Rattle.ath_sorts.specs.declared.sorts.Sort.{Sort}
use Rattle.ath_terms.specs.declared.node.TermNode.{TermNode}
use Rattle.ath_terms.specs.declared.node.SentNode.{SentNode}
use Rattle.ath_terms.specs.declared.store.KeptTerm.{KeptTerm}
use Rattle.ath_terms.specs.declared.store.KeptSent.{KeptSent}
use Rattle.ath_terms.specs.Trees.{Trees}
use Rattle.ath_terms.specs.Nodes.{term_trees, sent_trees, IsTermBelow, IsSentBelow}
use Rattle.ath_terms.specs.Built.{IsOrdered}
use Rattle.ath_terms.specs.Kept.{Extent, AreKept}

abbrev pub nodes_of : List KeptTerm → List TermNode
nodes_of es = map (λ e. e.node) es

abbrev pub sorts_of : List KeptTerm → List Sort
sorts_of es = map (λ e. e.sort) es

abbrev pub extents_of : List KeptTerm → List Extent
extents_of es = map (λ e. record { nodes = e.nodes; levels = e.levels }) es

abbrev pub sent_nodes_of : List KeptSent → List SentNode
sent_nodes_of ms = map (λ e. e.node) ms

abbrev pub sent_extents_of : List KeptSent → List Extent
sent_extents_of ms = map (λ e. record { nodes = e.nodes; levels = e.levels }) ms

abbrev pub whole_view : List KeptTerm → List KeptSent → Trees
whole_view es ms = record { terms = term_trees (nodes_of es); sorts = sorts_of es; sents = sent_trees (term_trees (nodes_of es)) (sent_nodes_of ms) }

-- parts have smaller numbers
abbrev pub IsWell : List TermNode → List SentNode → Type 0
IsWell ns ms = IsOrdered IsTermBelow 0 ns × IsOrdered (IsSentBelow (length ns)) 0 ms

abbrev pub IsWhole : List KeptTerm → List KeptSent → Type 0
IsWhole es ms = IsWell (nodes_of es) (sent_nodes_of ms) × AreKept (whole_view es ms).terms (extents_of es) (whole_view es ms).sents (sent_extents_of ms)
