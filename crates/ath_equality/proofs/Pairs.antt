-- Pairs of values that are left to compare.
use Rattle.std.proofs.lemmas.Grind.{common_steps}
use Rattle.std.proofs.Common.{◌≡◌, ℕ, suc, ◌+◌, ◌<◌, ◌≤◌, ◌==◌, ◌&&◌, Bool, true, false, List, [], ◌∷◌, ◌++◌, length, refl, sym, ap, ◌∙◌, subst, arith, ◌↔◌, drop, get_or, append-nil}
use Rattle.std.proofs.lemmas.List.{drop_more, drop_all}
use Rattle.std.proofs.lemmas.Option.{slice_get_within}
use Rattle.ath_trees.specs.Instance.{is_alpha_equal}
use Rattle.ath_trees.specs.Measure.{term_size, sent_size}
use Rattle.ath_trees.specs.Tree.{Term, var, app, Sent, atom, equal, negated, joined, bound}
use Rattle.ath_terms.specs.Trees.{Trees}
use Rattle.ath_syntax.specs.Nodes.{Nodes}
use Rattle.ath_values.specs.declared.value.Value.{Value}
use Rattle.ath_values.specs.declared.value.Value.TheVariants as code
use Rattle.ath_values.specs.declared.value.ValueId.{ValueId}
use Rattle.ath_values.specs.Nodes.{Stores, listed_nodes}
use Rattle.ath_values.specs.Stands.{IsValue, is_value, IsContent, is_term, is_sentence, is_list, is_string, is_symbol, is_connective, is_quantifier, is_back, is_procedure, is_method, is_closure, AreValues, values_none, values_more}
use Rattle.ath_values.specs.Values.{ValueTree, Values, value_size, list_value}
use Rattle.ath_trees.proofs.SameLaws.{same_sent_is}
use Rattle.ath_terms.proofs.ListLaws.{append-assoc}
use Rattle.ath_values.proofs.Made.{nodes_of, content_nodes}
use Rattle.ath_equality.specs.Equality.{same_term, equal_values, equal_lists}
use Rattle.ath_equality.specs.Nodes.{IsStored, are_alike, pairs, parts, weight, Tells, tells_none, tells_more}

-- ---- Bools
and_true : (b : Bool) → b ≡ (b && true)
and_true true = refl
and_true false = refl

and_false : (b : Bool) → (b && false) ≡ false
and_false true = refl
and_false false = refl

and_left : (a b c : Bool) → (a && (b && c)) ≡ (b && (a && c))
and_left true true c = refl
and_left true false c = refl
and_left false true c = refl
and_left false false c = refl

and_group : (a b c : Bool) → (a && (b && c)) ≡ ((a && b) && c)
and_group true b c = refl
and_group false b c = refl

and_turned : (a b : Bool) → (a && b) ≡ (b && a)
and_turned true true = refl
and_turned true false = refl
and_turned false true = refl
and_turned false false = refl

same_lengths : (m n : ℕ) → (m == n) ≡ true → m ≡ n
same_lengths m n h = grind (arith, common_steps, h)

suc_lengths : (m n : ℕ) → (m == n) ≡ (suc m == suc n)
suc_lengths m n = grind (arith, common_steps)

-- ---- a test that tells equal terms
atom-inj : (t u : Term) → atom t ≡ atom u → t ≡ u
atom-inj t u e = cc

pub same_term_is : (b : Bool) (t u : Term) → (b ≡ true) ↔ (t ≡ u) → b ≡ same_term t u
same_term_is b t u h = same_sent_is b (atom t) (atom u) (λ e. ap atom (h.0 e), λ e. h.1 (atom-inj t u e))

-- ---- pairs that are pushed one by one
pub push_next : (before whole : List (ValueId × ValueId)) (xs ys : List ValueId) (i : ℕ) (d : ValueId) → i < length xs → i < length ys → before ++ pairs (drop i xs) (drop i ys) ≡ whole
    → (before ++ (get_or xs i d, get_or ys i d) ∷ []) ++ pairs (drop (i + 1) xs) (drop (i + 1) ys) ≡ whole
push_next before whole xs ys i d h g same =
    append-assoc before ((get_or xs i d, get_or ys i d) ∷ []) (pairs (drop (i + 1) xs) (drop (i + 1) ys))
    ∙ ap (λ l. before ++ pairs l (get_or ys i d ∷ drop (i + 1) ys)) (sym (drop_more xs i d h))
    ∙ ap (λ l. before ++ pairs (drop i xs) l) (sym (drop_more ys i d g))
    ∙ same

pub push_done : (before whole : List (ValueId × ValueId)) (xs ys : List ValueId) (i : ℕ) → length xs ≤ i → before ++ pairs (drop i xs) (drop i ys) ≡ whole → before ≡ whole
push_done before whole xs ys i h same = sym (append-nil before) ∙ ap (λ l. before ++ pairs l (drop i ys)) (sym (drop_all i xs h)) ∙ same

-- ---- every value has a node
term_positive : (t : Term) → 0 < term_size t
term_positive (var v) = omega arith
term_positive (app f ss ts) = omega arith

sent_positive : (x : Sent) → 0 < sent_size x
sent_positive (atom t) = term_positive t
sent_positive (equal s t) = omega arith
sent_positive (negated x) = omega arith
sent_positive (joined c x y) = omega arith
sent_positive (bound q v x) = omega arith

weight-append : (e : Stores) (is js : List (ValueId × ValueId)) → weight e (is ++ js) ≡ weight e is + weight e js
weight-append e [] js = omega arith
weight-append e (i ∷ is) js = let more = weight-append e is js in omega (arith, more)

pairs_weight : (e : Stores) (is js : List ValueId) → weight e (pairs is js) ≤ listed_nodes e is
pairs_weight e [] js = omega arith
pairs_weight e (i ∷ is) [] = omega arith
pairs_weight e (i ∷ is) (j ∷ js) = let more = pairs_weight e is js in omega (arith, more)

parts_weight : (e : Stores) (is : List ValueId) (w : Value) → weight e (parts (code.List is) w) ≤ listed_nodes e is
parts_weight e is (code.Term i) = omega arith
parts_weight e is (code.Sent i) = omega arith
parts_weight e is (code.List js) = pairs_weight e is js
parts_weight e is (code.Str b) = omega arith
parts_weight e is (code.Symbol f) = omega arith
parts_weight e is (code.Conn c) = omega arith
parts_weight e is (code.Quant q) = omega arith
parts_weight e is code.Back = omega arith
parts_weight e is (code.PrimProc n) = omega arith
parts_weight e is (code.PrimMethod n) = omega arith
parts_weight e is (code.Closure k xs b j) = omega arith

module _ (p : Nodes) (s : Trees) (e : Stores) where
  -- ---- the last pair, and more pairs
  pub tells_last : (is : List (ValueId × ValueId)) (i : ValueId × ValueId) (b : Bool) → Tells p s e (is ++ i ∷ []) b
      → (t : ValueTree) × (u : ValueTree) × (c : Bool) × IsValue p s e i.0 t × IsValue p s e i.1 u × Tells p s e is c × (b ≡ (equal_values t u && c))
  tells_last [] i b (tells_more {t = t} {u = u} h g tells_none) = (t, u, true, h, g, tells_none, refl)
  tells_last (j ∷ is) i b (tells_more {t = t} {u = u} {b = d} h g k) =
      let r = tells_last is i d k in
      (r.0, r.1, equal_values t u && r.2, r.3, r.4, tells_more h g r.5, ap (λ c. equal_values t u && c) r.6 ∙ and_left (equal_values t u) (equal_values r.0 r.1) r.2)

  pub popped : (all is : List (ValueId × ValueId)) (i : ValueId × ValueId) (b : Bool) → all ≡ is ++ i ∷ [] → Tells p s e all b
      → (t : ValueTree) × (u : ValueTree) × (c : Bool) × IsValue p s e i.0 t × IsValue p s e i.1 u × Tells p s e is c × (b ≡ (equal_values t u && c))
  popped all is i b same h = tells_last is i b (subst (λ (l : List (ValueId × ValueId)). Tells p s e l b) same h)

  tells_both : (is js : List (ValueId × ValueId)) (b c : Bool) → Tells p s e is b → Tells p s e js c → Tells p s e (is ++ js) (b && c)
  tells_both is js b c tells_none k = k
  tells_both is js b c (tells_more {is = rest} {t = t} {u = u} {b = d} h g more) k =
      subst (λ (x : Bool). Tells p s e (is ++ js) x) (and_group (equal_values t u) d c) (tells_more h g (tells_both rest js d c more k))

  tells_pairs : (is js : List ValueId) (ts us : Values) → AreValues p s e is ts → AreValues p s e js us → length is ≡ length js → Tells p s e (pairs is js) (equal_lists ts us)
  tells_pairs is js ts us values_none values_none h = tells_none
  tells_pairs is js ts us values_none (values_more c d) h = absurd (omega (arith, h))
  tells_pairs is js ts us (values_more a b) values_none h = absurd (omega (arith, h))
  tells_pairs is js ts us (values_more {is = is2} a b) (values_more {is = js2} c d) h = tells_more a c (tells_pairs is2 js2 _ _ b d (omega (arith, h)))

  lists_length : (is js : List ValueId) (ts us : Values) → AreValues p s e is ts → AreValues p s e js us → equal_lists ts us ≡ (length is == length js && equal_lists ts us)
  lists_length is js ts us values_none values_none = refl
  lists_length is js ts us values_none (values_more c d) = sym (and_false _)
  lists_length is js ts us (values_more a b) values_none = sym (and_false _)
  lists_length is js ts us (values_more {is = is2} {t = t} {ts = ts2} a b) (values_more {is = js2} {t = u} {ts = us2} c d) =
      let more = lists_length is2 js2 ts2 us2 b d in
      ap (λ x. equal_values t u && x) more
      ∙ and_left (equal_values t u) (length is2 == length js2) (equal_lists ts2 us2)
      ∙ ap (λ x. x && (equal_values t u && equal_lists ts2 us2)) (suc_lengths (length is2) (length js2))

  -- ---- two nodes: they are alike, and their parts are left
  compared : (v w : Value) (t u : ValueTree) → IsContent p s e v t → IsContent p s e w u → (d : Bool) × (are_alike s v w ≡ true → Tells p s e (parts v w) d) × (equal_values t u ≡ (are_alike s v w && d))
  compared v w t u (is_term h1) (is_term h2) = (true, λ _. tells_none, (λ i. same_term (sym h1.0.1 i) (sym h2.0.1 i)) ∙ and_true _)
  compared v w t u (is_term h1) (is_sentence h2 o2) = (true, λ _. tells_none, refl)
  compared v w t u (is_term h1) (is_list h2) = (true, λ _. tells_none, refl)
  compared v w t u (is_term h1) is_string = (true, λ _. tells_none, refl)
  compared v w t u (is_term h1) is_symbol = (true, λ _. tells_none, refl)
  compared v w t u (is_term h1) is_connective = (true, λ _. tells_none, refl)
  compared v w t u (is_term h1) is_quantifier = (true, λ _. tells_none, refl)
  compared v w t u (is_term h1) is_back = (true, λ _. tells_none, refl)
  compared v w t u (is_term h1) is_procedure = (true, λ _. tells_none, refl)
  compared v w t u (is_term h1) is_method = (true, λ _. tells_none, refl)
  compared v w t u (is_term h1) (is_closure h2 o2) = (true, λ _. tells_none, refl)
  compared v w t u (is_sentence h1 o1) (is_term h2) = (true, λ _. tells_none, refl)
  compared v w t u (is_sentence h1 o1) (is_sentence h2 o2) = (true, λ _. tells_none, (λ i. is_alpha_equal (sym h1.1 i) (sym h2.1 i)) ∙ and_true _)
  compared v w t u (is_sentence h1 o1) (is_list h2) = (true, λ _. tells_none, refl)
  compared v w t u (is_sentence h1 o1) is_string = (true, λ _. tells_none, refl)
  compared v w t u (is_sentence h1 o1) is_symbol = (true, λ _. tells_none, refl)
  compared v w t u (is_sentence h1 o1) is_connective = (true, λ _. tells_none, refl)
  compared v w t u (is_sentence h1 o1) is_quantifier = (true, λ _. tells_none, refl)
  compared v w t u (is_sentence h1 o1) is_back = (true, λ _. tells_none, refl)
  compared v w t u (is_sentence h1 o1) is_procedure = (true, λ _. tells_none, refl)
  compared v w t u (is_sentence h1 o1) is_method = (true, λ _. tells_none, refl)
  compared v w t u (is_sentence h1 o1) (is_closure h2 o2) = (true, λ _. tells_none, refl)
  compared v w t u (is_list h1) (is_term h2) = (true, λ _. tells_none, refl)
  compared v w t u (is_list h1) (is_sentence h2 o2) = (true, λ _. tells_none, refl)
  compared v w t u (is_list h1) (is_list h2) = (_, λ e. tells_pairs _ _ _ _ h1 h2 (same_lengths _ _ e), lists_length _ _ _ _ h1 h2)
  compared v w t u (is_list h1) is_string = (true, λ _. tells_none, refl)
  compared v w t u (is_list h1) is_symbol = (true, λ _. tells_none, refl)
  compared v w t u (is_list h1) is_connective = (true, λ _. tells_none, refl)
  compared v w t u (is_list h1) is_quantifier = (true, λ _. tells_none, refl)
  compared v w t u (is_list h1) is_back = (true, λ _. tells_none, refl)
  compared v w t u (is_list h1) is_procedure = (true, λ _. tells_none, refl)
  compared v w t u (is_list h1) is_method = (true, λ _. tells_none, refl)
  compared v w t u (is_list h1) (is_closure h2 o2) = (true, λ _. tells_none, refl)
  compared v w t u is_string (is_term h2) = (true, λ _. tells_none, refl)
  compared v w t u is_string (is_sentence h2 o2) = (true, λ _. tells_none, refl)
  compared v w t u is_string (is_list h2) = (true, λ _. tells_none, refl)
  compared v w t u is_string is_string = (true, λ _. tells_none, and_true _)
  compared v w t u is_string is_symbol = (true, λ _. tells_none, refl)
  compared v w t u is_string is_connective = (true, λ _. tells_none, refl)
  compared v w t u is_string is_quantifier = (true, λ _. tells_none, refl)
  compared v w t u is_string is_back = (true, λ _. tells_none, refl)
  compared v w t u is_string is_procedure = (true, λ _. tells_none, refl)
  compared v w t u is_string is_method = (true, λ _. tells_none, refl)
  compared v w t u is_string (is_closure h2 o2) = (true, λ _. tells_none, refl)
  compared v w t u is_symbol (is_term h2) = (true, λ _. tells_none, refl)
  compared v w t u is_symbol (is_sentence h2 o2) = (true, λ _. tells_none, refl)
  compared v w t u is_symbol (is_list h2) = (true, λ _. tells_none, refl)
  compared v w t u is_symbol is_string = (true, λ _. tells_none, refl)
  compared v w t u is_symbol is_symbol = (true, λ _. tells_none, and_true _)
  compared v w t u is_symbol is_connective = (true, λ _. tells_none, refl)
  compared v w t u is_symbol is_quantifier = (true, λ _. tells_none, refl)
  compared v w t u is_symbol is_back = (true, λ _. tells_none, refl)
  compared v w t u is_symbol is_procedure = (true, λ _. tells_none, refl)
  compared v w t u is_symbol is_method = (true, λ _. tells_none, refl)
  compared v w t u is_symbol (is_closure h2 o2) = (true, λ _. tells_none, refl)
  compared v w t u is_connective (is_term h2) = (true, λ _. tells_none, refl)
  compared v w t u is_connective (is_sentence h2 o2) = (true, λ _. tells_none, refl)
  compared v w t u is_connective (is_list h2) = (true, λ _. tells_none, refl)
  compared v w t u is_connective is_string = (true, λ _. tells_none, refl)
  compared v w t u is_connective is_symbol = (true, λ _. tells_none, refl)
  compared v w t u is_connective is_connective = (true, λ _. tells_none, and_true _)
  compared v w t u is_connective is_quantifier = (true, λ _. tells_none, refl)
  compared v w t u is_connective is_back = (true, λ _. tells_none, refl)
  compared v w t u is_connective is_procedure = (true, λ _. tells_none, refl)
  compared v w t u is_connective is_method = (true, λ _. tells_none, refl)
  compared v w t u is_connective (is_closure h2 o2) = (true, λ _. tells_none, refl)
  compared v w t u is_quantifier (is_term h2) = (true, λ _. tells_none, refl)
  compared v w t u is_quantifier (is_sentence h2 o2) = (true, λ _. tells_none, refl)
  compared v w t u is_quantifier (is_list h2) = (true, λ _. tells_none, refl)
  compared v w t u is_quantifier is_string = (true, λ _. tells_none, refl)
  compared v w t u is_quantifier is_symbol = (true, λ _. tells_none, refl)
  compared v w t u is_quantifier is_connective = (true, λ _. tells_none, refl)
  compared v w t u is_quantifier is_quantifier = (true, λ _. tells_none, and_true _)
  compared v w t u is_quantifier is_back = (true, λ _. tells_none, refl)
  compared v w t u is_quantifier is_procedure = (true, λ _. tells_none, refl)
  compared v w t u is_quantifier is_method = (true, λ _. tells_none, refl)
  compared v w t u is_quantifier (is_closure h2 o2) = (true, λ _. tells_none, refl)
  compared v w t u is_back (is_term h2) = (true, λ _. tells_none, refl)
  compared v w t u is_back (is_sentence h2 o2) = (true, λ _. tells_none, refl)
  compared v w t u is_back (is_list h2) = (true, λ _. tells_none, refl)
  compared v w t u is_back is_string = (true, λ _. tells_none, refl)
  compared v w t u is_back is_symbol = (true, λ _. tells_none, refl)
  compared v w t u is_back is_connective = (true, λ _. tells_none, refl)
  compared v w t u is_back is_quantifier = (true, λ _. tells_none, refl)
  compared v w t u is_back is_back = (true, λ _. tells_none, refl)
  compared v w t u is_back is_procedure = (true, λ _. tells_none, refl)
  compared v w t u is_back is_method = (true, λ _. tells_none, refl)
  compared v w t u is_back (is_closure h2 o2) = (true, λ _. tells_none, refl)
  compared v w t u is_procedure (is_term h2) = (true, λ _. tells_none, refl)
  compared v w t u is_procedure (is_sentence h2 o2) = (true, λ _. tells_none, refl)
  compared v w t u is_procedure (is_list h2) = (true, λ _. tells_none, refl)
  compared v w t u is_procedure is_string = (true, λ _. tells_none, refl)
  compared v w t u is_procedure is_symbol = (true, λ _. tells_none, refl)
  compared v w t u is_procedure is_connective = (true, λ _. tells_none, refl)
  compared v w t u is_procedure is_quantifier = (true, λ _. tells_none, refl)
  compared v w t u is_procedure is_back = (true, λ _. tells_none, refl)
  compared v w t u is_procedure is_procedure = (true, λ _. tells_none, refl)
  compared v w t u is_procedure is_method = (true, λ _. tells_none, refl)
  compared v w t u is_procedure (is_closure h2 o2) = (true, λ _. tells_none, refl)
  compared v w t u is_method (is_term h2) = (true, λ _. tells_none, refl)
  compared v w t u is_method (is_sentence h2 o2) = (true, λ _. tells_none, refl)
  compared v w t u is_method (is_list h2) = (true, λ _. tells_none, refl)
  compared v w t u is_method is_string = (true, λ _. tells_none, refl)
  compared v w t u is_method is_symbol = (true, λ _. tells_none, refl)
  compared v w t u is_method is_connective = (true, λ _. tells_none, refl)
  compared v w t u is_method is_quantifier = (true, λ _. tells_none, refl)
  compared v w t u is_method is_back = (true, λ _. tells_none, refl)
  compared v w t u is_method is_procedure = (true, λ _. tells_none, refl)
  compared v w t u is_method is_method = (true, λ _. tells_none, refl)
  compared v w t u is_method (is_closure h2 o2) = (true, λ _. tells_none, refl)
  compared v w t u (is_closure h1 o1) (is_term h2) = (true, λ _. tells_none, refl)
  compared v w t u (is_closure h1 o1) (is_sentence h2 o2) = (true, λ _. tells_none, refl)
  compared v w t u (is_closure h1 o1) (is_list h2) = (true, λ _. tells_none, refl)
  compared v w t u (is_closure h1 o1) is_string = (true, λ _. tells_none, refl)
  compared v w t u (is_closure h1 o1) is_symbol = (true, λ _. tells_none, refl)
  compared v w t u (is_closure h1 o1) is_connective = (true, λ _. tells_none, refl)
  compared v w t u (is_closure h1 o1) is_quantifier = (true, λ _. tells_none, refl)
  compared v w t u (is_closure h1 o1) is_back = (true, λ _. tells_none, refl)
  compared v w t u (is_closure h1 o1) is_procedure = (true, λ _. tells_none, refl)
  compared v w t u (is_closure h1 o1) is_method = (true, λ _. tells_none, refl)
  compared v w t u (is_closure h1 o1) (is_closure h2 o2) = (true, λ _. tells_none, refl)

  -- ---- what is asked of a node
  pub stored : (v : Value) (t : ValueTree) → IsContent p s e v t → IsStored s v
  stored v t (is_term h) = h.0.0
  stored v t (is_sentence h o) = h.0
  stored v t (is_list h) = tt
  stored v t is_string = tt
  stored v t is_symbol = tt
  stored v t is_connective = tt
  stored v t is_quantifier = tt
  stored v t is_back = tt
  stored v t is_procedure = tt
  stored v t is_method = tt
  stored v t (is_closure h o) = tt

  pub inside : (i : ValueId) (t : ValueTree) → IsValue p s e i t → i.0 < length e.values
  inside i t (is_value {k = k} g n d c) = slice_get_within e.values i.0 k g

  lighter_content : (v w : Value) (t : ValueTree) → IsContent p s e v t → weight e (parts v w) < value_size t
  lighter_content v w t (is_term {t = x} h) = term_positive x
  lighter_content v w t (is_sentence {x = x} h o) = sent_positive x
  lighter_content v w t (is_list {is = is} {ts = ts} h) =
      let n = content_nodes p s e (code.List is) (list_value ts) (is_list h) in
      let m = parts_weight e is w in
      omega (arith, n, m)
  lighter_content v w t is_string = omega arith
  lighter_content v w t is_symbol = omega arith
  lighter_content v w t is_connective = omega arith
  lighter_content v w t is_quantifier = omega arith
  lighter_content v w t is_back = omega arith
  lighter_content v w t is_procedure = omega arith
  lighter_content v w t is_method = omega arith
  lighter_content v w t (is_closure h o) = omega arith

  -- what is left is lighter than what was
  pub lighter : (is : List (ValueId × ValueId)) (i : ValueId × ValueId) (v w : Value) (t : ValueTree) → IsValue p s e i.0 t → IsContent p s e v t → weight e (is ++ parts v w) < weight e (is ++ i ∷ [])
  lighter is i v w t h c =
      let a = weight-append e is (parts v w) in
      let b = weight-append e is (i ∷ []) in
      let n = nodes_of p s e i.0 t h in
      let m = lighter_content v w t c in
      omega (arith, a, b, n, m)

  -- ---- a step
  pub step_on : (is : List (ValueId × ValueId)) (v w : Value) (t u : ValueTree) (b c : Bool) → IsContent p s e v t → IsContent p s e w u → Tells p s e is c → b ≡ (equal_values t u && c) → are_alike s v w ≡ true → Tells p s e (is ++ parts v w) b
  step_on is v w t u b c h g k same alike =
      let d = compared v w t u h g in
      let q : equal_values t u ≡ d.0 = d.2 ∙ ap (λ x. x && d.0) alike in
      let r : (c && d.0) ≡ b = and_turned c d.0 ∙ ap (λ x. x && c) (sym q) ∙ sym same in
      subst (λ (x : Bool). Tells p s e (is ++ parts v w) x) r (tells_both is (parts v w) c d.0 k (d.1 alike))

  pub step_off : (v w : Value) (t u : ValueTree) (b c : Bool) → IsContent p s e v t → IsContent p s e w u → b ≡ (equal_values t u && c) → are_alike s v w ≡ false → false ≡ b
  step_off v w t u b c h g same other =
      let d = compared v w t u h g in
      let q : equal_values t u ≡ false = d.2 ∙ ap (λ x. x && d.0) other in
      sym (same ∙ ap (λ x. x && c) q)

  pub told_first : (v w : ValueId) (t u : ValueTree) → IsValue p s e v t → IsValue p s e w u → Tells p s e ((v, w) ∷ []) (equal_values t u)
  told_first v w t u h g = subst (λ (x : Bool). Tells p s e ((v, w) ∷ []) x) (sym (and_true (equal_values t u))) (tells_more h g tells_none)

  pub all_told : (b : Bool) → Tells p s e [] b → true ≡ b
  all_told b tells_none = refl
