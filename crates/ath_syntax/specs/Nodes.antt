-- Phrases and patterns as numbered nodes.
use Rattle.std.specs.Prelude.{◌≡◌, ℕ, ◌++◌, List, [], ◌∷◌, Bool, Option, Some, slice_get, option_map}
use Rattle.ath_syntax.specs.declared.node.PhraseId.{PhraseId}
use Rattle.ath_syntax.specs.declared.node.Node.{Node}
use Rattle.ath_syntax.specs.declared.node.PatNode.{PatNode}

-- a number is a place in its list
pub record Nodes : Type 0 where
  pub phrases : List Node
  pub patterns : List PatNode

-- every number keeps its node
pub record KeepsNodes (old new : Nodes) : Type 0 where
  pub phrase : (i : ℕ) (n : Node) → slice_get old.phrases i ≡ Some n → slice_get new.phrases i ≡ Some n
  pub pattern : (i : ℕ) (n : PatNode) → slice_get old.patterns i ≡ Some n → slice_get new.patterns i ≡ Some n

abbrev pub with_phrase : Nodes → Node → Nodes
with_phrase s n = record { phrases = s.phrases ++ n ∷ []; patterns = s.patterns }

abbrev pub with_pattern : Nodes → PatNode → Nodes
with_pattern s n = record { phrases = s.phrases; patterns = s.patterns ++ n ∷ [] }

abbrev pub deduces : Node → Bool
deduces n = n.deduction

-- whether the phrase of this number is a deduction, where there is one
abbrev pub kind_at : Nodes → PhraseId → Option Bool
kind_at s i = option_map deduces (slice_get s.phrases i.0)
