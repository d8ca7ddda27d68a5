-- Which tree the number of a value and of an environment stands for.
use Rattle.std.specs.Prelude.{◌≡◌, ℕ, List, [], ◌∷◌, false, Option, Some, None, slice_get}
use Rattle.ath_sorts.specs.declared.sorts.Sym.{Sym}
use Rattle.ath_sorts.specs.declared.sorts.Sort.{Sort}
use Rattle.ath_trees.specs.declared.node.Conn.{Conn as Connective}
use Rattle.ath_trees.specs.declared.node.Quant.{Quant as Quantifier}
use Rattle.ath_trees.specs.declared.node.TermId.{TermId}
use Rattle.ath_trees.specs.declared.node.SentId.{SentId}
use Rattle.ath_trees.specs.Tree.{Term, Sent}
use Rattle.ath_terms.specs.Trees.{Trees, IsTermOf, IsSent}
use Rattle.ath_syntax.specs.declared.node.PhraseId.{PhraseId}
use Rattle.ath_syntax.specs.Nodes.{Nodes}
use Rattle.ath_syntax.specs.Stands.{IsPhrase}
use Rattle.ath_syntax.specs.Tree.{Phrase}
use Rattle.ath_values.specs.declared.value.Kind.{Kind}
use Rattle.ath_values.specs.declared.value.ValueId.{ValueId}
use Rattle.ath_values.specs.declared.value.EnvId.{EnvId}
use Rattle.ath_values.specs.declared.value.Member.{Member}
use Rattle.ath_values.specs.declared.value.Value.{Value}
use Rattle.ath_values.specs.declared.value.Value.TheVariants as code
use Rattle.ath_values.specs.declared.value.EnvNode.{EnvNode}
use Rattle.ath_values.specs.declared.value.EnvNode.TheVariants as node
use Rattle.ath_values.specs.declared.value.KeptValue.{KeptValue}
use Rattle.ath_values.specs.declared.value.KeptEnv.{KeptEnv}
use Rattle.ath_values.specs.Nodes.{Stores}
use Rattle.ath_values.specs.Values.{MemberTree, member_tree, ValueTree, term_value, sentence_value, list_value, string_value, symbol_value, connective_value, quantifier_value, back_value, procedure_value, method_value, closure_value, Values, no_values, more_values, EnvTree, no_entries, bound_entry, group_entry, is_atom, value_size, value_depth, env_depth}

pub data IsMember (p : Nodes) : Member → MemberTree → Type 0 where
  is_member : {m : Member} {b : Phrase} → IsPhrase p m.body b → IsMember p m (member_tree m.name m.kind m.params b)

pub data AreMembers (p : Nodes) : List Member → List MemberTree → Type 0 where
  members_none : AreMembers p [] []
  members_more : {m : Member} {ms : List Member} {t : MemberTree} {ts : List MemberTree} → IsMember p m t → AreMembers p ms ts → AreMembers p (m ∷ ms) (t ∷ ts)

-- p has the phrases, s the terms and sentences, and e the values and environments
mutual
  -- the number stands for the value, and its nodes and levels are kept
  pub data IsValue (p : Nodes) (s : Trees) (e : Stores) : ValueId → ValueTree → Type 0 where
    is_value : {i : ValueId} {k : KeptValue} {t : ValueTree} → slice_get e.values i.0 ≡ Some k → k.nodes ≡ value_size t → k.levels ≡ value_depth t → IsContent p s e k.value t → IsValue p s e i t

  pub data IsContent (p : Nodes) (s : Trees) (e : Stores) : Value → ValueTree → Type 0 where
    is_term : {i : TermId} {t : Term} {r : Sort} → IsTermOf s i.0 t r → IsContent p s e (code.Term i) (term_value t r)
    is_sentence : {i : SentId} {x : Sent} → IsSent s i.0 x → is_atom x ≡ false → IsContent p s e (code.Sent i) (sentence_value x)
    is_list : {is : List ValueId} {ts : Values} → AreValues p s e is ts → IsContent p s e (code.List is) (list_value ts)
    is_string : {b : List ℕ} → IsContent p s e (code.Str b) (string_value b)
    is_symbol : {f : Sym} → IsContent p s e (code.Symbol f) (symbol_value f)
    is_connective : {c : Connective} → IsContent p s e (code.Conn c) (connective_value c)
    is_quantifier : {q : Quantifier} → IsContent p s e (code.Quant q) (quantifier_value q)
    is_back : IsContent p s e code.Back back_value
    is_procedure : {n : ℕ} → IsContent p s e (code.PrimProc n) (procedure_value n)
    is_method : {n : ℕ} → IsContent p s e (code.PrimMethod n) (method_value n)
    is_closure : {k : Kind} {xs : List Sym} {i : PhraseId} {j : EnvId} {b : Phrase} {t : EnvTree} → IsPhrase p i b → IsEnv p s e j t → IsContent p s e (code.Closure k xs i j) (closure_value k xs b t)

  pub data AreValues (p : Nodes) (s : Trees) (e : Stores) : List ValueId → Values → Type 0 where
    values_none : AreValues p s e [] no_values
    values_more : {i : ValueId} {is : List ValueId} {t : ValueTree} {ts : Values} → IsValue p s e i t → AreValues p s e is ts → AreValues p s e (i ∷ is) (more_values t ts)

  -- the number stands for the environment, and the number of its entries is kept
  pub data IsEnv (p : Nodes) (s : Trees) (e : Stores) : EnvId → EnvTree → Type 0 where
    is_env : {i : EnvId} {k : KeptEnv} {t : EnvTree} → slice_get e.envs i.0 ≡ Some k → k.depth ≡ env_depth t → IsEntry p s e k.node t → IsEnv p s e i t

  pub data IsEntry (p : Nodes) (s : Trees) (e : Stores) : EnvNode → EnvTree → Type 0 where
    is_root : IsEntry p s e node.Root no_entries
    is_bind : {x : Sym} {i : ValueId} {j : EnvId} {t : ValueTree} {u : EnvTree} → IsValue p s e i t → IsEnv p s e j u → IsEntry p s e (node.Bind x i j) (bound_entry x t u)
    is_group : {ms : List Member} {j : EnvId} {ts : List MemberTree} {u : EnvTree} → AreMembers p ms ts → IsEnv p s e j u → IsEntry p s e (node.Group ms j) (group_entry ts u)

-- the value that is found stands for this one, or there is none
abbrev pub IsFound : Nodes → Trees → Stores → Option ValueId → Option ValueTree → Type 0
IsFound p s e None None = Unit {0}
IsFound p s e (Some i) (Some t) = IsValue p s e i t
IsFound p s e None (Some t) = ⊥
IsFound p s e (Some i) None = ⊥
