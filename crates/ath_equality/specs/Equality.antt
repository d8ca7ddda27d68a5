-- When two values are equal: equal terms, alpha-equal sentences, equal strings, symbols, connectives and marks, and lists of
-- equal values. A procedure or a method equals nothing, not even itself.
use Rattle.std.specs.Prelude.{◌==◌, ◌&&◌, Bool, true, false}
use Rattle.std.specs.Str.{bytes_eq}
use Rattle.ath_trees.specs.declared.node.Conn.{Conn}
use Rattle.ath_trees.specs.declared.node.Conn.TheVariants.{Not, And, Or, If, Iff}
use Rattle.ath_trees.specs.Instance.{is_alpha_equal, same_quant}
use Rattle.ath_trees.specs.Same.{same_sent}
use Rattle.ath_trees.specs.Tree.{Term, atom}
use Rattle.ath_values.specs.Values.{ValueTree, term_value, sentence_value, list_value, string_value, symbol_value, connective_value, quantifier_value, back_value, Values, no_values, more_values}

abbrev pub same_conn : Conn → Conn → Bool
same_conn Not Not = true
same_conn And And = true
same_conn Or Or = true
same_conn If If = true
same_conn Iff Iff = true
same_conn c d = false

-- two terms are one where their atoms are
abbrev pub same_term : Term → Term → Bool
same_term t u = same_sent (atom t) (atom u)

abbrev mutual
  pub equal_values : ValueTree → ValueTree → Bool
  equal_values (term_value t r) (term_value u q) = same_term t u
  equal_values (sentence_value x) (sentence_value y) = is_alpha_equal x y
  equal_values (list_value vs) (list_value ws) = equal_lists vs ws
  equal_values (string_value b) (string_value c) = bytes_eq b c
  equal_values (symbol_value f) (symbol_value g) = f.0 == g.0
  equal_values (connective_value c) (connective_value d) = same_conn c d
  equal_values (quantifier_value k) (quantifier_value l) = same_quant k l
  equal_values back_value back_value = true
  equal_values v w = false

  pub equal_lists : Values → Values → Bool
  equal_lists no_values no_values = true
  equal_lists (more_values v vs) (more_values w ws) = equal_values v w && equal_lists vs ws
  equal_lists vs ws = false
