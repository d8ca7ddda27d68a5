-- Values as trees.
use Rattle.std.specs.Prelude.{ℕ, Option, Some, None, if◌then◌else◌}
use Rattle.ath_sorts.specs.declared.sorts.Sym.{Sym}
use Rattle.ath_sorts.specs.declared.sorts.Sort.{Sort}
use Rattle.ath_sorts.specs.Signature.{boolean}
use Rattle.ath_sorts.specs.Equality.{same_sort}
use Rattle.ath_trees.specs.declared.node.Conn.{Conn as Connective}
use Rattle.ath_trees.specs.declared.node.Quant.{Quant as Quantifier}
use Rattle.ath_trees.specs.Tree.{Term, Sent, atom, equal, negated, joined, bound}

-- a sentence that is a value by itself is no atom: an atom is the value of its term
pub data Value : Type 0 where
  -- a term with its sort
  a_term : Term → Sort → Value
  a_sentence : Sent → Value
  a_symbol : Sym → Value
  a_connective : Connective → Value
  a_quantifier : Quantifier → Value
  -- the mark `<==`
  a_back : Value
  -- a primitive method, by its number
  a_method : ℕ → Value

-- the term that a value is, where it is one
abbrev pub term_of : Value → Option Term
term_of (a_term t r) = Some t
term_of (a_sentence p) = None
term_of (a_symbol f) = None
term_of (a_connective c) = None
term_of (a_quantifier q) = None
term_of a_back = None
term_of (a_method n) = None

-- the sentence that a value is, where it is one: a term is one exactly where its sort is Boolean
abbrev pub sentence_of : Value → Option Sent
sentence_of (a_term t r) = if same_sort r boolean then Some (atom t) else None
sentence_of (a_sentence p) = Some p
sentence_of (a_symbol f) = None
sentence_of (a_connective c) = None
sentence_of (a_quantifier q) = None
sentence_of a_back = None
sentence_of (a_method n) = None

-- the value that a sentence is: an atom is always a term
abbrev pub value_of : Sent → Value
value_of (atom t) = a_term t boolean
value_of (equal s t) = a_sentence (equal s t)
value_of (negated p) = a_sentence (negated p)
value_of (joined c p q) = a_sentence (joined c p q)
value_of (bound k v p) = a_sentence (bound k v p)
