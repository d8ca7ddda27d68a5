-- How two nodes of values are compared: they are alike by themselves, and then their parts are left, pair by pair.
use Rattle.std.specs.Prelude.{ℕ, ◌+◌, ◌<◌, ◌==◌, ◌&&◌, List, [], ◌∷◌, Bool, true, false, length}
use Rattle.std.specs.Str.{bytes_eq}
use Rattle.ath_trees.specs.Instance.{is_alpha_equal, same_quant}
use Rattle.ath_terms.specs.Trees.{Trees, term_at, sent_at}
use Rattle.ath_syntax.specs.Nodes.{Nodes}
use Rattle.ath_values.specs.declared.value.Value.{Value}
use Rattle.ath_values.specs.declared.value.Value.TheVariants as code
use Rattle.ath_values.specs.declared.value.ValueId.{ValueId}
use Rattle.ath_values.specs.Nodes.{Stores, nodes_at}
use Rattle.ath_values.specs.Stands.{IsValue}
use Rattle.ath_values.specs.Values.{ValueTree}
use Rattle.ath_equality.specs.Equality.{same_conn, same_term, equal_values}

-- the terms and sentences of a node are in the store
abbrev pub IsStored : Trees → Value → Type 0
IsStored s (code.Term t) = t.0 < length s.terms
IsStored s (code.Sent p) = p.0 < length s.sents
IsStored s v = Unit {0}

abbrev pub are_alike : Trees → Value → Value → Bool
are_alike s (code.Term t) (code.Term u) = same_term (term_at s.terms t.0) (term_at s.terms u.0)
are_alike s (code.Sent p) (code.Sent q) = is_alpha_equal (sent_at s.sents p.0) (sent_at s.sents q.0)
are_alike s (code.List is) (code.List js) = length is == length js
are_alike s (code.Str b) (code.Str c) = bytes_eq b c
are_alike s (code.Symbol f) (code.Symbol g) = f.0 == g.0
are_alike s (code.Conn c) (code.Conn d) = same_conn c d
are_alike s (code.Quant k) (code.Quant l) = same_quant k l
are_alike s code.Back code.Back = true
are_alike s v w = false

abbrev pub pairs : List ValueId → List ValueId → List (ValueId × ValueId)
pairs (i ∷ is) (j ∷ js) = (i, j) ∷ pairs is js
pairs [] js = []
pairs (i ∷ is) [] = []

abbrev pub parts : Value → Value → List (ValueId × ValueId)
parts (code.List is) (code.List js) = pairs is js
parts v w = []

-- the nodes on the left of some pairs
abbrev pub weight : Stores → List (ValueId × ValueId) → ℕ
weight e [] = 0
weight e (i ∷ is) = nodes_at e i.0 + weight e is

-- these pairs stand for values, which are equal pair by pair or aren't
pub data Tells (p : Nodes) (s : Trees) (e : Stores) : List (ValueId × ValueId) → Bool → Type 0 where
  tells_none : Tells p s e [] true
  tells_more : {i : ValueId × ValueId} {is : List (ValueId × ValueId)} {t u : ValueTree} {b : Bool} → IsValue p s e i.0 t → IsValue p s e i.1 u → Tells p s e is b → Tells p s e (i ∷ is) (equal_values t u && b)
