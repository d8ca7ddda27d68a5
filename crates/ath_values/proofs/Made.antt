-- What a number stands for, by its node, and what new nodes stand for.
use Rattle.std.proofs.Common.{◌≡◌, ℕ, zero, suc, ◌+◌, ◌<◌, ◌≤◌, max, List, [], ◌∷◌, ◌++◌, length, take, map, get_or, false, Option, Some, None, Result, Ok, Err, refl, sym, ap, ◌∙◌, subst, arith, length-append, ◌⊎◌, inl, inr}
use Rattle.std.specs.Prelude.{slice_get}
use Rattle.std.proofs.lemmas.List.{take_more}
use Rattle.std.proofs.lemmas.List.Recursion.{max_push}
use Rattle.std.proofs.lemmas.Option.{same_Some}
use Rattle.ath_sorts.specs.declared.sorts.Sym.{Sym}
use Rattle.ath_trees.specs.declared.limits.TheConstants.{MOST_TERM_NODES, MOST_TERM_LEVELS}
use Rattle.ath_trees.specs.Measure.{term_size, term_depth, sent_size, sent_depth}
use Rattle.ath_sorts.specs.Signature.{Signature, boolean}
use Rattle.ath_trees.specs.declared.node.Binary.{Binary}
use Rattle.ath_trees.specs.declared.node.Conn.TheVariants.{Not, And, Or, If, Iff}
use Rattle.ath_trees.specs.declared.node.SentId.{SentId}
use Rattle.ath_trees.specs.declared.node.TermId.{TermId}
use Rattle.ath_trees.specs.Tree.{Term, Sent, atom, equal, negated, joined, bound}
use Rattle.ath_trees.specs.WellSorted.{IsWellSorted}
use Rattle.ath_trees.proofs.UnderLaws.{sort_in-is}
use Rattle.ath_terms.specs.declared.node.SentNode.{SentNode}
use Rattle.ath_terms.specs.declared.node.SentNode.TheVariants as sent
use Rattle.ath_terms.specs.Nodes.{parts_tree, sent_tree, IsSentBelow}
use Rattle.ath_terms.specs.SortsIn.{IsSortedIn}
use Rattle.ath_terms.specs.Trees.{Trees, term_at, sort_at, sent_at}
use Rattle.ath_terms.proofs.Grow.{grows-none}
use Rattle.ath_syntax.specs.declared.node.PhraseId.{PhraseId}
use Rattle.ath_syntax.specs.Nodes.{Nodes}
use Rattle.ath_syntax.specs.Stands.{IsPhrase}
use Rattle.ath_syntax.specs.Tree.{Phrase}
use Rattle.ath_syntax.proofs.Growth.{slice_get-seam, slice_get-front, slice_get-push, KeepsNodes-refl}
use Rattle.ath_values.specs.declared.value.EnvId.{EnvId}
use Rattle.ath_values.specs.declared.value.EnvNode.{EnvNode}
use Rattle.ath_values.specs.declared.value.EnvNode.TheVariants as node
use Rattle.ath_values.specs.declared.value.KeptEnv.{KeptEnv}
use Rattle.ath_values.specs.declared.value.KeptValue.{KeptValue}
use Rattle.ath_values.specs.declared.value.Kind.{Kind}
use Rattle.ath_values.specs.declared.value.Member.{Member}
use Rattle.ath_values.specs.declared.value.Value.{Value}
use Rattle.ath_values.specs.declared.value.Value.TheVariants as code
use Rattle.ath_values.specs.declared.value.ValueId.{ValueId}
use Rattle.ath_values.specs.declared.value.ValueError.{ValueError}
use Rattle.ath_values.specs.declared.value.ValueError.TheVariants.{TooLarge, TooDeep, Memory}
use Rattle.ath_values.specs.Measures.{IsMeasured, IsMade, measured_nodes, measured_levels}
use Rattle.ath_values.specs.Nodes.{Stores, AreKept, with_value, with_env, nodes_at, levels_at, kept_nodes, kept_levels, kept_depth, depth_at, listed_nodes, listed_levels, IsValueIn, IsBelow}
use Rattle.ath_values.specs.Stands.{IsMember, is_member, AreMembers, members_none, members_more, IsValue, is_value, IsContent, is_term, is_sentence, is_list, is_string, is_symbol, is_connective, is_quantifier, is_back, is_procedure, is_method, is_closure, AreValues, values_none, values_more, IsEnv, is_env, IsEntry, is_root, is_bind, is_group, IsFound}
use Rattle.ath_values.specs.Values.{is_atom, term_value, sentence_value, value_of, MemberTree, ValueTree, Values, EnvTree, no_entries, bound_entry, group_entry, closure_value, value_size, value_depth, values_size, values_depth, env_depth, above, member_value, value_in}
use Rattle.ath_values.proofs.Growth.{values-value, values-env, keep_content, keep_entry}

-- ---- measures of lists
nodes_push : (e : Stores) (vs : List ValueId) (v : ValueId) → listed_nodes e (vs ++ v ∷ []) ≡ listed_nodes e vs + nodes_at e v
nodes_push e [] v = omega arith
nodes_push e (w ∷ vs) v = let more = nodes_push e vs v in omega (arith, more)

levels_push : (e : Stores) (vs : List ValueId) (v : ValueId) → listed_levels e (vs ++ v ∷ []) ≡ max (listed_levels e vs) (levels_at e v)
levels_push e = max_push (listed_levels e) (levels_at e) refl (λ x xs. refl)

pub nodes_next : (e : Stores) (vs : List ValueId) (i : ℕ) (d : ValueId) (total : ℕ) → i < length vs → total ≡ listed_nodes e (take i vs) → total + nodes_at e (get_or vs i d) ≡ listed_nodes e (take (i + 1) vs)
nodes_next e vs i d total lt h = ap (λ n. n + nodes_at e (get_or vs i d)) h ∙ sym (nodes_push e (take i vs) (get_or vs i d)) ∙ ap (listed_nodes e) (sym (take_more vs i d lt))

pub levels_next : (e : Stores) (vs : List ValueId) (i : ℕ) (d : ValueId) (most : ℕ) → i < length vs → most ≡ listed_levels e (take i vs) → max most (levels_at e (get_or vs i d)) ≡ listed_levels e (take (i + 1) vs)
levels_next e vs i d most lt h = ap (λ n. max n (levels_at e (get_or vs i d))) h ∙ sym (levels_push e (take i vs) (get_or vs i d)) ∙ ap (listed_levels e) (sym (take_more vs i d lt))

module _ (P Q : ValueId → Type 0) (by : (i : ValueId) → P i → Q i) where
  measured_same : (r : Result ValueId ValueError) (n d : ℕ) → IsMeasured P r n d → IsMeasured Q r n d
  measured_same (Ok i) n d h = (by i h.0, h.1, h.2)
  measured_same (Err (TooLarge m)) n d h = h
  measured_same (Err (TooDeep m)) n d h = h
  measured_same (Err Memory) n d h = h

  pub measured_by : (r : Result ValueId ValueError) (n m d k : ℕ) → n ≡ m → d ≡ k → IsMeasured P r n d → IsMeasured Q r m k
  measured_by r n m d k x y h = rw (sym x, sym y) (measured_same r n d h)

-- the number of a new node is one of the store
pub inside_with : (e f : Stores) (k : KeptValue) (i : ValueId) → (i.0 ≡ length e.values) × (f ≡ with_value e k) → IsValueIn f i
inside_with e f k i h = subst (λ (g : Stores). IsValueIn g i) (sym h.1) (omega (arith, h.0, length-append e.values (k ∷ [])))

pub many_with : (e f : Stores) (k : KeptValue) → f ≡ with_value e k → length e.values ≤ length f.values
many_with e f k h = subst (λ (g : Stores). length e.values ≤ length g.values) (sym h) (omega (arith, length-append e.values (k ∷ [])))

module _ (p : Nodes) (s : Trees) (e : Stores) where
  -- ---- by the node
  pub content_at : (i : ValueId) (k : KeptValue) (t : ValueTree) → IsValue p s e i t → slice_get e.values i.0 ≡ Some k → IsContent p s e k.value t
  content_at i k t (is_value {k = m} g n d c) h = rw (same_Some _ _ (sym h ∙ g)) c

  pub nodes_of : (i : ValueId) (t : ValueTree) → IsValue p s e i t → nodes_at e i ≡ value_size t
  nodes_of i t (is_value {k = m} g n d c) = ap kept_nodes g ∙ n

  pub levels_of : (i : ValueId) (t : ValueTree) → IsValue p s e i t → levels_at e i ≡ value_depth t
  levels_of i t (is_value {k = m} g n d c) = ap kept_levels g ∙ d

  pub entry_at : (i : EnvId) (k : KeptEnv) (t : EnvTree) → IsEnv p s e i t → slice_get e.envs i.0 ≡ Some k → IsEntry p s e k.node t
  entry_at i k t (is_env {k = m} g d c) h = rw (same_Some _ _ (sym h ∙ g)) c

  pub depth_of : (i : EnvId) (t : EnvTree) → IsEnv p s e i t → depth_at e i ≡ env_depth t
  depth_of i t (is_env {k = m} g d c) = ap kept_depth g ∙ d

  pub root_stands : AreKept e → IsEnv p s e (record { 0 = 0 }) no_entries
  root_stands h = is_env h.root refl is_root

  -- ---- measures
  list_nodes : (is : List ValueId) (ts : Values) → AreValues p s e is ts → listed_nodes e is ≡ values_size ts
  list_nodes is ts values_none = refl
  list_nodes is ts (values_more {i = i} {is = rest} {t = t} {ts = us} a b) =
      let x = nodes_of i t a in
      let y = list_nodes rest us b in
      λ j. x j + y j

  list_levels : (is : List ValueId) (ts : Values) → AreValues p s e is ts → listed_levels e is ≡ values_depth ts
  list_levels is ts values_none = refl
  list_levels is ts (values_more {i = i} {is = rest} {t = t} {ts = us} a b) =
      let x = levels_of i t a in
      let y = list_levels rest us b in
      λ j. max (x j) (y j)

  pub content_nodes : (v : Value) (t : ValueTree) → IsContent p s e v t → measured_nodes s e v ≡ value_size t
  content_nodes v t (is_term h) = ap term_size h.0.1
  content_nodes v t (is_sentence h o) = ap sent_size h.1
  content_nodes v t (is_list a) = ap (λ n. 1 + n) (list_nodes _ _ a)
  content_nodes v t is_string = refl
  content_nodes v t is_symbol = refl
  content_nodes v t is_connective = refl
  content_nodes v t is_quantifier = refl
  content_nodes v t is_back = refl
  content_nodes v t is_procedure = refl
  content_nodes v t is_method = refl
  content_nodes v t (is_closure a b) = refl

  pub content_levels : (v : Value) (t : ValueTree) → IsContent p s e v t → measured_levels s e v ≡ value_depth t
  content_levels v t (is_term h) = ap term_depth h.0.1
  content_levels v t (is_sentence h o) = ap sent_depth h.1
  content_levels v t (is_list a) = ap (λ n. 1 + n) (list_levels _ _ a)
  content_levels v t is_string = refl
  content_levels v t is_symbol = refl
  content_levels v t is_connective = refl
  content_levels v t is_quantifier = refl
  content_levels v t is_back = refl
  content_levels v t is_procedure = refl
  content_levels v t is_method = refl
  content_levels v t (is_closure a b) = refl

  -- ---- new nodes
  pub value_new : (f : Stores) (v : Value) (n d : ℕ) (i : ValueId) (t : ValueTree) → f ≡ with_value e (record { value = v; nodes = n; levels = d }) → i.0 ≡ length e.values → n ≡ value_size t → d ≡ value_depth t → IsContent p s e v t → IsValue p s f i t
  value_new f v n d i t is at hn hd c =
      let k : KeptValue = record { value = v; nodes = n; levels = d } in
      subst (λ (g : Stores). IsValue p s g i t) (sym is) (is_value (slice_get-seam e.values k i.0 at) hn hd (keep_content p p s s e (with_value e k) (KeepsNodes-refl p) (grows-none s) (values-value e k) v t c))

  pub env_new : (f : Stores) (n : EnvNode) (d : ℕ) (i : EnvId) (t : EnvTree) → f ≡ with_env e (record { node = n; depth = d }) → i.0 ≡ length e.envs → d ≡ env_depth t → IsEntry p s e n t → IsEnv p s f i t
  env_new f n d i t is at hd c =
      let k : KeptEnv = record { node = n; depth = d } in
      subst (λ (g : Stores). IsEnv p s g i t) (sym is) (is_env (slice_get-seam e.envs k i.0 at) hd (keep_entry p p s s e (with_env e k) (KeepsNodes-refl p) (grows-none s) (values-env e k) n t c))

  pub made_new : (f : Stores) (v : Value) (n d : ℕ) (t : ValueTree) (r : Result ValueId ValueError) → n ≡ measured_nodes s e v → d ≡ measured_levels s e v → IsContent p s e v t
      → IsMeasured (λ i. (i.0 ≡ length e.values) × (f ≡ with_value e (record { value = v; nodes = n; levels = d }))) r n d → IsMade p s f r t
  made_new f v n d t r hn hd c h =
      let x : n ≡ value_size t = hn ∙ content_nodes v t c in
      let y : d ≡ value_depth t = hd ∙ content_levels v t c in
      measured_by (λ i. (i.0 ≡ length e.values) × (f ≡ with_value e (record { value = v; nodes = n; levels = d }))) (λ i. IsValue p s f i t) (λ i g. value_new f v n d i t g.1 g.0 x y c) r n (value_size t) d (value_depth t) x y h

  pub term_new : (f : Stores) (j : TermId) (n d : ℕ) (i : ValueId) → j.0 < length s.terms → f ≡ with_value e (record { value = code.Term j; nodes = n; levels = d }) → i.0 ≡ length e.values
      → n ≡ term_size (term_at s.terms j.0) → d ≡ term_depth (term_at s.terms j.0) → IsValue p s f i (term_value (term_at s.terms j.0) (sort_at s.sorts j.0))
  term_new f j n d i inside is at hn hd = value_new f (code.Term j) n d i _ is at hn hd (is_term ((inside, refl), refl))

  pub bind_new : (f : Stores) (x : Sym) (v : ValueId) (up i : EnvId) (t : EnvTree) (u : ValueTree) → f ≡ with_env e (record { node = node.Bind x v up; depth = 1 + depth_at e up }) → i.0 ≡ length e.envs → IsEnv p s e up t → IsValue p s e v u → IsEnv p s f i (bound_entry x u t)
  bind_new f x v up i t u is at h g = env_new f _ _ i _ is at (ap (λ n. 1 + n) (depth_of up t h)) (is_bind g h)

  pub group_new : (f : Stores) (ms : List Member) (up i : EnvId) (t : EnvTree) (ts : List MemberTree) → f ≡ with_env e (record { node = node.Group ms up; depth = 1 + depth_at e up }) → i.0 ≡ length e.envs → IsEnv p s e up t → AreMembers p ms ts → IsEnv p s f i (group_entry ts t)
  group_new f ms up i t ts is at h g = env_new f _ _ i _ is at (ap (λ n. 1 + n) (depth_of up t h)) (is_group g h)

  pub closure_new : (f : Stores) (k : Kind) (xs : List Sym) (body : PhraseId) (env : EnvId) (i : ValueId) (b : Phrase) (t : EnvTree) → f ≡ with_value e (record { value = code.Closure k xs body env; nodes = 1; levels = 1 }) → i.0 ≡ length e.values → IsPhrase p body b → IsEnv p s e env t → IsValue p s f i (closure_value k xs b t)
  closure_new f k xs body env i b t is at h g = value_new f _ 1 1 i _ is at refl refl (is_closure h g)

  -- ---- the parent
  pub root_parent : (i : EnvId) (t : EnvTree) → IsEnv p s e i t → IsEntry p s e node.Root t → IsEnv p s e i (above 1 t)
  root_parent i t h is_root = h

  pub bind_parent : (x : Sym) (v : ValueId) (up : EnvId) (t : EnvTree) → IsEntry p s e (node.Bind x v up) t → IsEnv p s e up (above 1 t)
  bind_parent x v up t (is_bind a b) = b

  pub group_parent : (ms : List Member) (up : EnvId) (t : EnvTree) → IsEntry p s e (node.Group ms up) t → IsEnv p s e up (above 1 t)
  group_parent ms up t (is_group a b) = b

  -- ---- members
  pub none_of_root : (t : EnvTree) (n : ℕ) → IsEntry p s e node.Root t → IsFound p s e None (value_in t n)
  none_of_root t n is_root = tt

  pub first_of_bind : (x : Sym) (v : ValueId) (up : EnvId) (t : EnvTree) (n : ℕ) → n ≡ 0 → IsEntry p s e (node.Bind x v up) t → IsFound p s e (Some v) (value_in t n)
  first_of_bind x v up t n z (is_bind a b) = rw z a

  pub none_of_bind : (x : Sym) (v : ValueId) (up : EnvId) (t : EnvTree) (n : ℕ) → (n ≡ 0 → ⊥) → IsEntry p s e (node.Bind x v up) t → IsFound p s e None (value_in t n)
  none_of_bind x v up t zero z (is_bind a b) = absurd (z refl)
  none_of_bind x v up t (suc n) z (is_bind a b) = tt

members_none_at : (p : Nodes) (ms : List Member) (ts : List MemberTree) (n : ℕ) → AreMembers p ms ts → slice_get ms n ≡ None → slice_get ts n ≡ None
members_none_at p ms ts n members_none h = refl
members_none_at p ms ts zero (members_more a b) h = absurd (cc)
members_none_at p ms ts (suc n) (members_more {ms = rest} {ts = us} a b) h = members_none_at p rest us n b h

members_some_at : (p : Nodes) (ms : List Member) (ts : List MemberTree) (n : ℕ) (m : Member) → AreMembers p ms ts → slice_get ms n ≡ Some m → (t : MemberTree) × (slice_get ts n ≡ Some t) × IsMember p m t
members_some_at p ms ts n m members_none h = absurd (cc)
members_some_at p ms ts zero m (members_more {t = t} a b) h = (t, refl, rw (same_Some _ _ (sym h)) a)
members_some_at p ms ts (suc n) m (members_more {ms = rest} {ts = us} a b) h = members_some_at p rest us n m b h

module _ (p : Nodes) (s : Trees) (e : Stores) (ms : List Member) (up : EnvId) (n : ℕ) where
  pub none_of_group : (t : EnvTree) → slice_get ms n ≡ None → IsEntry p s e (node.Group ms up) t → IsFound p s e None (value_in t n)
  none_of_group t h (is_group {ts = ts} a b) = rw (members_none_at p ms ts n a h) tt

  -- the closure over the environment that begins with the group
  member_stands : (f : Stores) (i : ValueId) (env : EnvId) (m : Member) (u : EnvTree) (o : Option MemberTree) (t : MemberTree)
      → f ≡ with_value e (record { value = code.Closure m.kind m.params m.body env; nodes = 1; levels = 1 })
      → i.0 ≡ length e.values → IsEnv p s e env u → o ≡ Some t → IsMember p m t → IsFound p s f (Some i) (member_value u o)
  member_stands f i env m u o t is at h q (is_member {b = b} c) = rw q (closure_new p s e f m.kind m.params m.body env i b u is at c h)

  pub some_of_group : (f : Stores) (i : ValueId) (env : EnvId) (m : Member) (t : EnvTree)
      → f ≡ with_value e (record { value = code.Closure m.kind m.params m.body env; nodes = 1; levels = 1 })
      → i.0 ≡ length e.values → IsEnv p s e env t → slice_get ms n ≡ Some m → IsEntry p s e (node.Group ms up) t → IsFound p s f (Some i) (value_in t n)
  some_of_group f i env m t is at h g (is_group {ts = ts} {u = u} a b) =
      let x = members_some_at p ms ts n m a g in
      member_stands f i env m (group_entry ts u) (slice_get ts n) x.0 is at h x.1 x.2

-- ---- the ancestor one entry further up
above_one : (n : ℕ) (t : EnvTree) → above 1 (above n t) ≡ above (suc n) t
above_one zero t = refl
above_one (suc n) no_entries = refl
above_one (suc n) (bound_entry x v t) = above_one n t
above_one (suc n) (group_entry ms t) = above_one n t

pub above_next : (n : ℕ) (t : EnvTree) → above 1 (above n t) ≡ above (n + 1) t
above_next n t = let e : suc n ≡ n + 1 = omega arith in above_one n t ∙ ap (λ m. above m t) e

-- ---- the value that a sentence is
own_value : (x : Sent) → is_atom x ≡ false → value_of x ≡ sentence_value x
own_value (atom t) h = absurd (cc)
own_value (equal a b) h = refl
own_value (negated x) h = refl
own_value (joined c x y) h = refl
own_value (bound q v x) h = refl

one_part : (ss : List Sent) (ids : List SentId) → length ids ≡ 1 → is_atom (parts_tree None (map (λ i. sent_at ss i.0) ids)) ≡ false
one_part ss [] h = absurd (omega (arith, h))
one_part ss (i ∷ ids) h = refl

two_parts : (ss : List Sent) (b : Binary) (ids : List SentId) → length ids ≡ 2 → is_atom (parts_tree (Some b) (map (λ i. sent_at ss i.0) ids)) ≡ false
two_parts ss b [] h = absurd (omega (arith, h))
two_parts ss b (i ∷ []) h = absurd (omega (arith, h))
two_parts ss b (i ∷ j ∷ ids) h = refl

not_atom : (ts : List Term) (ss : List Sent) (m k : ℕ) (n : SentNode) → IsSentBelow m k n → ((t : TermId) → n ≡ sent.Atom t → ⊥) → is_atom (sent_tree ts ss n) ≡ false
not_atom ts ss m k (sent.Atom t) h other = absurd (other t refl)
not_atom ts ss m k (sent.Eq a b) h other = refl
not_atom ts ss m k (sent.Conn Not ids) h other = one_part ss ids h.0
not_atom ts ss m k (sent.Conn And ids) h other = two_parts ss _ ids h.0
not_atom ts ss m k (sent.Conn Or ids) h other = two_parts ss _ ids h.0
not_atom ts ss m k (sent.Conn If ids) h other = two_parts ss _ ids h.0
not_atom ts ss m k (sent.Conn Iff ids) h other = two_parts ss _ ids h.0
not_atom ts ss m k (sent.Quant q v x) h other = refl

module _ (q : Nodes) (s : Trees) (e f : Stores) (p : SentId) (n : SentNode) (tree : sent_tree s.terms s.sents n ≡ sent_at s.sents p.0) (below : IsSentBelow (length s.terms) p.0 n) where
  pub own_stands : (size depth : ℕ) (i : ValueId) → ((t : TermId) → n ≡ sent.Atom t → ⊥) → p.0 < length s.sents → f ≡ with_value e (record { value = code.Sent p; nodes = size; levels = depth }) → i.0 ≡ length e.values
      → size ≡ sent_size (sent_at s.sents p.0) → depth ≡ sent_depth (sent_at s.sents p.0) → IsValue q s f i (value_of (sent_at s.sents p.0))
  own_stands size depth i other inside is at hs hd =
      let x = sent_at s.sents p.0 in
      let o : is_atom x ≡ false = ap is_atom (sym tree) ∙ not_atom s.terms s.sents (length s.terms) p.0 n below other in
      subst (λ (t : ValueTree). IsValue q s f i t) (sym (own_value x o)) (value_new q s e f (code.Sent p) size depth i (sentence_value x) is at hs hd (is_sentence (inside, refl) o))

  pub atom_inside : (t : TermId) → n ≡ sent.Atom t → t.0 < length s.terms
  atom_inside t is = subst (λ (m : SentNode). IsSentBelow (length s.terms) p.0 m) is below

  pub atom_stands : (sig : Signature) (t : TermId) (i : ValueId) → n ≡ sent.Atom t → p.0 < length s.sents → IsSortedIn sig s → IsValue q s f i (term_value (term_at s.terms t.0) (sort_at s.sorts t.0)) → IsValue q s f i (value_of (sent_at s.sents p.0))
  atom_stands sig t i is inside h v =
      let x = term_at s.terms t.0 in
      let same : atom x ≡ sent_at s.sents p.0 = subst (λ (m : SentNode). sent_tree s.terms s.sents m ≡ sent_at s.sents p.0) is tree in
      let w : IsWellSorted sig (atom x) = subst (IsWellSorted sig) (sym same) (h.sents p.0 inside) in
      let r : sort_at s.sorts t.0 ≡ boolean = sym (sort_in-is sig x (sort_at s.sorts t.0) (h.terms t.0 (atom_inside t is))) ∙ sort_in-is sig x boolean w in
      let to : term_value x (sort_at s.sorts t.0) ≡ value_of (sent_at s.sents p.0) = ap (term_value x) r ∙ ap value_of same in
      subst (λ (u : ValueTree). IsValue q s f i u) to v

-- ---- what is kept
below_more : (m n i : ℕ) (k : EnvNode) → m ≤ n → IsBelow m i k → IsBelow n i k
below_more m n i node.Root h b = tt
below_more m n i (node.Bind x v e) h b = (b.0, omega (arith, b.1, h))
below_more m n i (node.Group ms e) h b = b

pub kept_with_value : (e : Stores) (k : KeptValue) → AreKept e → k.nodes ≤ MOST_TERM_NODES → k.levels ≤ MOST_TERM_LEVELS → AreKept (with_value e k)
kept_with_value e k h n d = record {
  values = λ i m g. at i m (slice_get-push e.values k i m g);
  root = h.root;
  envs = λ i m g. (below_more (length e.values) (length (e.values ++ k ∷ [])) i m.node (omega (arith, length-append e.values (k ∷ []))) (h.envs i m g).0, (h.envs i m g).1);
}
  where
    at : (i : ℕ) (m : KeptValue) → ((i < length e.values) × (slice_get e.values i ≡ Some m)) ⊎ ((i ≡ length e.values) × (k ≡ m)) → (m.nodes ≤ MOST_TERM_NODES) × (m.levels ≤ MOST_TERM_LEVELS)
    at i m (inl g) = h.values i m g.1
    at i m (inr g) = subst (λ (j : KeptValue). (j.nodes ≤ MOST_TERM_NODES) × (j.levels ≤ MOST_TERM_LEVELS)) g.1 (n, d)

pub kept_with_env : (e : Stores) (k : KeptEnv) → AreKept e → IsBelow (length e.values) (length e.envs) k.node → k.depth ≤ length e.envs → AreKept (with_env e k)
kept_with_env e k h b d = record {
  values = h.values;
  root = slice_get-front e.envs (k ∷ []) 0 _ h.root;
  envs = λ i m g. at i m (slice_get-push e.envs k i m g);
}
  where
    at : (i : ℕ) (m : KeptEnv) → ((i < length e.envs) × (slice_get e.envs i ≡ Some m)) ⊎ ((i ≡ length e.envs) × (k ≡ m)) → IsBelow (length e.values) i m.node × (m.depth ≤ i)
    at i m (inl g) = h.envs i m g.1
    at i m (inr g) = subst (λ (j : KeptEnv). IsBelow (length e.values) i j.node × (j.depth ≤ i)) g.1 (subst (λ (l : ℕ). IsBelow (length e.values) l k.node × (k.depth ≤ l)) (sym g.0) (b, d))
