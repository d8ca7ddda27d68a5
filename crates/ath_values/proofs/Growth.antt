-- What a number stands for, it stands for after more was added.
use Rattle.std.proofs.Common.{List, [], ◌∷◌, ◌∙◌, arith}
use Rattle.ath_terms.specs.Trees.{Trees, Grows}
use Rattle.ath_terms.proofs.Grow.{sent-kept}
use Rattle.ath_syntax.specs.Nodes.{Nodes, KeepsNodes}
use Rattle.ath_syntax.proofs.Growth.{slice_get-front}
use Rattle.ath_syntax.proofs.Kept.{keep_phrase}
use Rattle.ath_values.specs.declared.value.EnvId.{EnvId}
use Rattle.ath_values.specs.declared.value.EnvNode.{EnvNode}
use Rattle.ath_values.specs.declared.value.KeptEnv.{KeptEnv}
use Rattle.ath_values.specs.declared.value.KeptValue.{KeptValue}
use Rattle.ath_values.specs.declared.value.Member.{Member}
use Rattle.ath_values.specs.declared.value.Value.{Value}
use Rattle.ath_values.specs.declared.value.ValueId.{ValueId}
use Rattle.ath_values.specs.Nodes.{Stores, KeepsValues, with_value, with_env}
use Rattle.ath_values.specs.Stands.{IsMember, is_member, AreMembers, members_none, members_more, IsValue, is_value, IsContent, is_term, is_sentence, is_list, is_string, is_symbol, is_connective, is_quantifier, is_back, is_procedure, is_method, is_closure, AreValues, values_none, values_more, IsEnv, is_env, IsEntry, is_root, is_bind, is_group}
use Rattle.ath_values.specs.Values.{MemberTree, ValueTree, Values, EnvTree}

pub values-refl : (e : Stores) → KeepsValues e e
values-refl e = record { value = λ i k h. h; env = λ i k h. h }

pub values-trans : (a b c : Stores) → KeepsValues a b → KeepsValues b c → KeepsValues a c
values-trans a b c g h = record { value = λ i k x. h.value i k (g.value i k x); env = λ i k x. h.env i k (g.env i k x) }

pub values-value : (e : Stores) (k : KeptValue) → KeepsValues e (with_value e k)
values-value e k = record { value = λ i m h. slice_get-front e.values (k ∷ []) i m h; env = λ i m h. h }

pub values-env : (e : Stores) (k : KeptEnv) → KeepsValues e (with_env e k)
values-env e k = record { value = λ i m h. h; env = λ i m h. slice_get-front e.envs (k ∷ []) i m h }

module _ (p q : Nodes) (s u : Trees) (e f : Stores) (more : KeepsNodes p q) (grows : Grows s u) (kept : KeepsValues e f) where
  keep_member : (m : Member) (t : MemberTree) → IsMember p m t → IsMember q m t
  keep_member m t (is_member a) = is_member (keep_phrase p q more _ _ a)

  keep_members : (ms : List Member) (ts : List MemberTree) → AreMembers p ms ts → AreMembers q ms ts
  keep_members ms ts members_none = members_none
  keep_members ms ts (members_more a b) = members_more (keep_member _ _ a) (keep_members _ _ b)

  mutual
    pub keep_value : (i : ValueId) (t : ValueTree) → IsValue p s e i t → IsValue q u f i t
    keep_value i t (is_value a n d c) = is_value (kept.value _ _ a) n d (keep_content _ t c)

    pub keep_content : (v : Value) (t : ValueTree) → IsContent p s e v t → IsContent q u f v t
    keep_content v t (is_term {i = i} h) = is_term ((omega (arith, grows.terms, h.0.0), grows.same_terms i.0 h.0.0 ∙ h.0.1), grows.same_sorts i.0 h.0.0 ∙ h.1)
    keep_content v t (is_sentence {i = i} {x = x} h o) = is_sentence (sent-kept s u i.0 x grows h) o
    keep_content v t (is_list a) = is_list (keep_values _ _ a)
    keep_content v t is_string = is_string
    keep_content v t is_symbol = is_symbol
    keep_content v t is_connective = is_connective
    keep_content v t is_quantifier = is_quantifier
    keep_content v t is_back = is_back
    keep_content v t is_procedure = is_procedure
    keep_content v t is_method = is_method
    keep_content v t (is_closure a b) = is_closure (keep_phrase p q more _ _ a) (keep_env _ _ b)

    pub keep_values : (is : List ValueId) (ts : Values) → AreValues p s e is ts → AreValues q u f is ts
    keep_values is ts values_none = values_none
    keep_values is ts (values_more a b) = values_more (keep_value _ _ a) (keep_values _ _ b)

    pub keep_env : (i : EnvId) (t : EnvTree) → IsEnv p s e i t → IsEnv q u f i t
    keep_env i t (is_env a d c) = is_env (kept.env _ _ a) d (keep_entry _ t c)

    pub keep_entry : (n : EnvNode) (t : EnvTree) → IsEntry p s e n t → IsEntry q u f n t
    keep_entry n t is_root = is_root
    keep_entry n t (is_bind a b) = is_bind (keep_value _ _ a) (keep_env _ _ b)
    keep_entry n t (is_group a b) = is_group (keep_members _ _ a) (keep_env _ _ b)
