-- The parts of a built node, which have to be built too.
use Rattle.std.specs.Prelude.{ℕ, List, Option, Some, None, if◌then◌else◌}
use Rattle.ath_syntax.specs.declared.node.PhraseId.{PhraseId}
use Rattle.ath_syntax.specs.Nodes.{Nodes}
use Rattle.ath_syntax.specs.Stands.{ArePhrases}
use Rattle.ath_syntax.specs.Tree.{Phrase, name_at, variable_at, ascribe_at, apply_at, call_at, Phrases, no_phrases, more_phrases}
use Rattle.ath_session.specs.Unbuilt.{is_head, is_method_name}

-- none where the node itself isn't built
abbrev pub parts : List (List ℕ) → Phrase → Option Phrases
parts names (name_at p n) = Some no_phrases
parts names (variable_at p x k s) = Some no_phrases
parts names (ascribe_at p x s) = Some (more_phrases x no_phrases)
parts names (apply_at p f xs) = if is_head f then Some xs else None
parts names (call_at p f xs) = if is_method_name names f then Some xs else None
parts names x = None

abbrev pub ArePartsOf : Nodes → Option (List PhraseId) → Option Phrases → Type 0
ArePartsOf s None None = Unit {0}
ArePartsOf s (Some is) (Some xs) = ArePhrases s is xs
ArePartsOf s None (Some xs) = ⊥
ArePartsOf s (Some is) None = ⊥
