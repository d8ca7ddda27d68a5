-- Values as the arguments of calls, and the parts of an implication.
use Rattle.std.specs.Prelude.{ℕ, ◌≡◌, ◌<◌, ◌+◌, List, ◌∷◌, ◌++◌, Option, Some, None, length, map}
use Rattle.ath_sorts.specs.declared.signature.Symbol.{Symbol}
use Rattle.ath_trees.specs.declared.node.TermId.{TermId}
use Rattle.ath_trees.specs.declared.node.SentId.{SentId}
use Rattle.ath_trees.specs.declared.node.Var.{Var}
use Rattle.ath_trees.specs.declared.node.Binary.TheVariants.{If}
use Rattle.ath_trees.specs.Tree.{Sent, joined}
use Rattle.ath_terms.specs.Trees.{Trees, term_at, sent_at}
use Rattle.ath_env.specs.declared.value.Value as value
use Rattle.ath_env.specs.declared.value.Value.TheVariants as code
use Rattle.ath_env.specs.Values.{Value}
use Rattle.ath_env.specs.Stands.{IsIn, value_at}
use Rattle.ath_eval.specs.declared.kinds.Part.{Part as Piece}
use Rattle.ath_eval.specs.declared.kinds.Part.TheVariants as piece
use Rattle.ath_eval.specs.declared.kinds.Parts.{Parts}
use Rattle.ath_eval.specs.declared.kinds.Parts.TheVariants as parts
use Rattle.ath_eval.specs.declared.kinds.Terms.{Terms}
use Rattle.ath_eval.specs.declared.kinds.Terms.TheVariants as terms
use Rattle.ath_eval.specs.declared.kinds.Variables.{Variables}
use Rattle.ath_eval.specs.declared.kinds.Variables.TheVariants as variables
use Rattle.ath_eval.specs.Applying.{Kinds, all_are, wrong_at, Part, term_part, sentence_part}

-- the numbers of the parts of an implication, where it is one
abbrev pub AreParts : Trees → Sent → Option (SentId × SentId) → Type 0
AreParts s p (Some ids) = (ids.0.0 < length s.sents) × (ids.1.0 < length s.sents) × (p ≡ joined If (sent_at s.sents ids.0.0) (sent_at s.sents ids.1.0))
AreParts s p None = (a b : Sent) → p ≡ joined If a b → ⊥

abbrev pub values_at : Trees → List value.Value → List Value
values_at s vs = map (value_at s) vs

-- the arguments are all terms; or those before one that is none are
abbrev pub MatchTerms : List value.Value → Terms → Type 0
MatchTerms vs (terms.All ids) = vs ≡ map (λ t. code.Term t) ids.items
MatchTerms vs (terms.Wrong i) =
    (ids : List TermId) × (v : value.Value) × (rest : List value.Value) × (vs ≡ map (λ t. code.Term t) ids ++ v ∷ rest) × ((t : TermId) → v ≡ code.Term t → ⊥) × (i ≡ length ids + 1)

-- the variables that the arguments are, or the number of the first that is none
abbrev pub kinds_found : Variables → Kinds Var
kinds_found (variables.All vs) = all_are vs.items
kinds_found (variables.Wrong i) = wrong_at i

-- a part of a connective as a value, and as a tree
abbrev pub piece_value : Piece → value.Value
piece_value (piece.Term t) = code.Term t
piece_value (piece.Sent p) = code.Sent p

abbrev pub piece_tree : Trees → Piece → Part
piece_tree s (piece.Term t) = term_part (term_at s.terms t.0)
piece_tree s (piece.Sent p) = sentence_part (sent_at s.sents p.0)

abbrev pub IsNoPiece : value.Value → Type 0
IsNoPiece v = (p : Piece) → v ≡ piece_value p → ⊥

abbrev pub MatchPiece : value.Value → Option Piece → Type 0
MatchPiece v (Some p) = v ≡ piece_value p
MatchPiece v None = IsNoPiece v

-- the arguments are all terms and sentences; or those before one that is neither are
abbrev pub MatchParts : List value.Value → Parts → Type 0
MatchParts vs (parts.All ps) = vs ≡ map piece_value ps.items
MatchParts vs (parts.Wrong i) =
    (ps : List Piece) × (v : value.Value) × (rest : List value.Value) × (vs ≡ map piece_value ps ++ v ∷ rest) × IsNoPiece v × (i ≡ length ps + 1)

abbrev pub IsPieceIn : Trees → Piece → Type 0
IsPieceIn s p = IsIn s (piece_value p)

-- the number of arguments of a symbol, where it is declared
abbrev pub wanted_by : Option Symbol → Option ℕ
wanted_by (Some d) = Some (length d.args)
wanted_by None = None
