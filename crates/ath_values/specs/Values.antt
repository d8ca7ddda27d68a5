-- Values and environments as trees: a closure holds its whole environment.
use Rattle.std.specs.Prelude.{ℕ, suc, zero, ◌+◌, List, Bool, true, false, Option, Some, None, max, slice_get, if◌then◌else◌}
use Rattle.ath_sorts.specs.declared.sorts.Sym.{Sym}
use Rattle.ath_sorts.specs.declared.sorts.Sort.{Sort}
use Rattle.ath_sorts.specs.Signature.{boolean}
use Rattle.ath_sorts.specs.Equality.{same_sort}
use Rattle.ath_trees.specs.declared.node.Conn.{Conn as Connective}
use Rattle.ath_trees.specs.declared.node.Quant.{Quant as Quantifier}
use Rattle.ath_trees.specs.Tree.{Term, Sent, atom, equal, negated, joined, bound}
use Rattle.ath_trees.specs.Measure.{term_size, term_depth, sent_size, sent_depth}
use Rattle.ath_syntax.specs.Tree.{Phrase}
use Rattle.ath_values.specs.declared.value.Kind.{Kind}

-- a member of a group: its name, whether it is a procedure or a method, its parameters, and its body
pub data MemberTree : Type 0 where
  member_tree : Sym → Kind → List Sym → Phrase → MemberTree

mutual
  pub data ValueTree : Type 0 where
    -- a term with its sort
    term_value : Term → Sort → ValueTree
    -- a sentence that is no atom: an atom is the value of its term
    sentence_value : Sent → ValueTree
    list_value : Values → ValueTree
    string_value : List ℕ → ValueTree
    symbol_value : Sym → ValueTree
    connective_value : Connective → ValueTree
    quantifier_value : Quantifier → ValueTree
    -- the mark `<==`
    back_value : ValueTree
    -- primitive procedures and methods, by their numbers
    procedure_value : ℕ → ValueTree
    method_value : ℕ → ValueTree
    -- parameters, body, and the environment in which it was written
    closure_value : Kind → List Sym → Phrase → EnvTree → ValueTree

  pub data Values : Type 0 where
    no_values : Values
    more_values : ValueTree → Values → Values

  -- a list of entries, the newest first
  pub data EnvTree : Type 0 where
    no_entries : EnvTree
    bound_entry : Sym → ValueTree → EnvTree → EnvTree
    group_entry : List MemberTree → EnvTree → EnvTree

abbrev pub is_atom : Sent → Bool
is_atom (atom t) = true
is_atom (equal s t) = false
is_atom (negated p) = false
is_atom (joined c p q) = false
is_atom (bound k v p) = false

-- the value that a sentence is: an atom is the value of its term
abbrev pub value_of : Sent → ValueTree
value_of (atom t) = term_value t boolean
value_of (equal s t) = sentence_value (equal s t)
value_of (negated p) = sentence_value (negated p)
value_of (joined c p q) = sentence_value (joined c p q)
value_of (bound k v p) = sentence_value (bound k v p)

-- the sentence that a value is, where it is one: a term is one exactly where its sort is Boolean
abbrev pub sentence_of : ValueTree → Option Sent
sentence_of (term_value t r) = if same_sort r boolean then Some (atom t) else None
sentence_of (sentence_value p) = Some p
sentence_of (list_value vs) = None
sentence_of (string_value b) = None
sentence_of (symbol_value f) = None
sentence_of (connective_value c) = None
sentence_of (quantifier_value q) = None
sentence_of back_value = None
sentence_of (procedure_value n) = None
sentence_of (method_value n) = None
sentence_of (closure_value k xs b e) = None

-- how many nodes a value has: one, or those of its term or sentence, or for a list one more than its members have
abbrev mutual
  pub value_size : ValueTree → ℕ
  value_size (term_value t r) = term_size t
  value_size (sentence_value p) = sent_size p
  value_size (list_value vs) = 1 + values_size vs
  value_size (string_value b) = 1
  value_size (symbol_value f) = 1
  value_size (connective_value c) = 1
  value_size (quantifier_value q) = 1
  value_size back_value = 1
  value_size (procedure_value n) = 1
  value_size (method_value n) = 1
  value_size (closure_value k xs b e) = 1

  pub values_size : Values → ℕ
  values_size no_values = 0
  values_size (more_values v vs) = value_size v + values_size vs

-- how deep it is, in the same way
abbrev mutual
  pub value_depth : ValueTree → ℕ
  value_depth (term_value t r) = term_depth t
  value_depth (sentence_value p) = sent_depth p
  value_depth (list_value vs) = 1 + values_depth vs
  value_depth (string_value b) = 1
  value_depth (symbol_value f) = 1
  value_depth (connective_value c) = 1
  value_depth (quantifier_value q) = 1
  value_depth back_value = 1
  value_depth (procedure_value n) = 1
  value_depth (method_value n) = 1
  value_depth (closure_value k xs b e) = 1

  pub values_depth : Values → ℕ
  values_depth no_values = 0
  values_depth (more_values v vs) = max (value_depth v) (values_depth vs)

-- how many entries an environment has, a group counted once
abbrev pub env_depth : EnvTree → ℕ
env_depth no_entries = 0
env_depth (bound_entry x v e) = 1 + env_depth e
env_depth (group_entry ms e) = 1 + env_depth e

-- the environment so many entries up; above all entries it is the one without any
abbrev pub above : ℕ → EnvTree → EnvTree
above zero e = e
above (suc n) no_entries = no_entries
above (suc n) (bound_entry x v e) = above n e
above (suc n) (group_entry ms e) = above n e

-- a member of a group is a closure over the environment that begins with that group
abbrev pub member_value : EnvTree → Option MemberTree → Option ValueTree
member_value e None = None
member_value e (Some (member_tree x k xs b)) = Some (closure_value k xs b e)

-- the value of a member of the newest entry: a name with a value has the member 0 alone
abbrev pub value_in : EnvTree → ℕ → Option ValueTree
value_in no_entries n = None
value_in (bound_entry x v e) zero = Some v
value_in (bound_entry x v e) (suc n) = None
value_in (group_entry ms e) n = member_value (group_entry ms e) (slice_get ms n)

-- the value at an address, of hops to an earlier entry and a member of that entry
abbrev pub value_at : EnvTree → ℕ → ℕ → Option ValueTree
value_at e hops n = value_in (above hops e) n
