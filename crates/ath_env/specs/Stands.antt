-- What the code's values stand for.
use Rattle.std.specs.Prelude.{◌≡◌, ◌<◌, List, Option, Some, None, length, map}
use Rattle.std.specs.List.{All}
use Rattle.ath_trees.specs.declared.node.SentId.{SentId}
use Rattle.ath_trees.specs.Tree.{Sent}
use Rattle.ath_terms.specs.Trees.{Trees, term_at, sort_at, sent_at, IsSent}
use Rattle.ath_env.specs.declared.value.Value.{Value as Coded}
use Rattle.ath_env.specs.declared.value.Value.TheVariants as code
use Rattle.ath_env.specs.Values.{Value, a_term, a_sentence, a_symbol, a_connective, a_quantifier, a_back, a_method}

abbrev pub value_at : Trees → Coded → Value
value_at s (code.Term t) = a_term (term_at s.terms t.0) (sort_at s.sorts t.0)
value_at s (code.Sent p) = a_sentence (sent_at s.sents p.0)
value_at s (code.Symbol f) = a_symbol f
value_at s (code.Conn c) = a_connective c
value_at s (code.Quant q) = a_quantifier q
value_at s code.Back = a_back
value_at s (code.PrimMethod n) = a_method n

-- the number in a value is one of the store
abbrev pub IsIn : Trees → Coded → Type 0
IsIn s (code.Term t) = t.0 < length s.terms
IsIn s (code.Sent p) = p.0 < length s.sents
IsIn s (code.Symbol f) = Unit {0}
IsIn s (code.Conn c) = Unit {0}
IsIn s (code.Quant q) = Unit {0}
IsIn s code.Back = Unit {0}
IsIn s (code.PrimMethod n) = Unit {0}

abbrev pub IsValue : Trees → Coded → Value → Type 0
IsValue s v x = IsIn s v × (value_at s v ≡ x)

-- the values stand for these, one by one
abbrev pub AreValues : Trees → List Coded → List Value → Type 0
AreValues s vs xs = All (IsIn s) vs × (map (value_at s) vs ≡ xs)

-- the sentence that is found is this one, or there is none
abbrev pub IsSentenceOf : Trees → Option SentId → Option Sent → Type 0
IsSentenceOf s None None = Unit {0}
IsSentenceOf s (Some p) (Some x) = IsSent s p.0 x
IsSentenceOf s None (Some x) = ⊥
IsSentenceOf s (Some p) None = ⊥

-- the value that is found stands for this one, or there is none
abbrev pub IsFound : Trees → Option Coded → Option Value → Type 0
IsFound s None None = Unit {0}
IsFound s (Some v) (Some x) = IsValue s v x
IsFound s None (Some x) = ⊥
IsFound s (Some v) None = ⊥
