-- A number stands for one value or environment at most.
use Rattle.std.proofs.Common.{◌≡◌, List, refl, sym, ◌∙◌, ap}
use Rattle.ath_terms.specs.Trees.{Trees}
use Rattle.ath_syntax.specs.Nodes.{Nodes}
use Rattle.ath_syntax.proofs.One.{one_phrase}
use Rattle.ath_values.specs.declared.value.EnvId.{EnvId}
use Rattle.ath_values.specs.declared.value.EnvNode.{EnvNode}
use Rattle.ath_values.specs.declared.value.Member.{Member}
use Rattle.ath_values.specs.declared.value.Value.{Value}
use Rattle.ath_values.specs.declared.value.ValueId.{ValueId}
use Rattle.ath_values.specs.Nodes.{Stores}
use Rattle.ath_values.specs.Stands.{IsMember, is_member, AreMembers, members_none, members_more, IsValue, is_value, IsContent, is_term, is_sentence, is_list, is_string, is_symbol, is_connective, is_quantifier, is_back, is_procedure, is_method, is_closure, AreValues, values_none, values_more, IsEnv, is_env, IsEntry, is_root, is_bind, is_group}
use Rattle.ath_values.specs.Values.{MemberTree, ValueTree, term_value, sentence_value, Values, EnvTree}
use Rattle.ath_values.proofs.Made.{content_at, entry_at}

module _ (p : Nodes) (s : Trees) (e : Stores) where
  one_member : (m : Member) (t u : MemberTree) → IsMember p m t → IsMember p m u → t ≡ u
  one_member m t u (is_member a) (is_member b) = let h = one_phrase p _ _ _ a b in cc

  one_members : (ms : List Member) (ts us : List MemberTree) → AreMembers p ms ts → AreMembers p ms us → ts ≡ us
  one_members ms ts us members_none members_none = refl
  one_members ms ts us (members_more a b) (members_more c d) = let h = one_member _ _ _ a c in let g = one_members _ _ _ b d in cc

  mutual
    pub one_value : (i : ValueId) (t u : ValueTree) → IsValue p s e i t → IsValue p s e i u → t ≡ u
    one_value i t u (is_value {k = k} g n d c) h = one_content k.value t u c (content_at p s e i k u h g)

    one_content : (v : Value) (t u : ValueTree) → IsContent p s e v t → IsContent p s e v u → t ≡ u
    one_content v t u (is_term {t = x} {r = a} h) (is_term {t = y} {r = b} k) =
        let f : x ≡ y = sym h.0.1 ∙ k.0.1 in
        let g : a ≡ b = sym h.1 ∙ k.1 in
        λ i. term_value (f i) (g i)
    one_content v t u (is_sentence h o) (is_sentence k q) = ap sentence_value (sym h.1 ∙ k.1)
    one_content v t u (is_list a) (is_list b) = let h = one_values _ _ _ a b in cc
    one_content v t u is_string is_string = refl
    one_content v t u is_symbol is_symbol = refl
    one_content v t u is_connective is_connective = refl
    one_content v t u is_quantifier is_quantifier = refl
    one_content v t u is_back is_back = refl
    one_content v t u is_procedure is_procedure = refl
    one_content v t u is_method is_method = refl
    one_content v t u (is_closure a b) (is_closure c d) = let h = one_phrase p _ _ _ a c in let g = one_env _ _ _ b d in cc

    one_values : (is : List ValueId) (ts us : Values) → AreValues p s e is ts → AreValues p s e is us → ts ≡ us
    one_values is ts us values_none values_none = refl
    one_values is ts us (values_more a b) (values_more c d) = let h = one_value _ _ _ a c in let g = one_values _ _ _ b d in cc

    pub one_env : (i : EnvId) (t u : EnvTree) → IsEnv p s e i t → IsEnv p s e i u → t ≡ u
    one_env i t u (is_env {k = k} g d c) h = one_entry k.node t u c (entry_at p s e i k u h g)

    one_entry : (n : EnvNode) (t u : EnvTree) → IsEntry p s e n t → IsEntry p s e n u → t ≡ u
    one_entry n t u is_root is_root = refl
    one_entry n t u (is_bind a b) (is_bind c d) = let h = one_value _ _ _ a c in let g = one_env _ _ _ b d in cc
    one_entry n t u (is_group a b) (is_group c d) = let h = one_members _ _ _ a c in let g = one_env _ _ _ b d in cc
