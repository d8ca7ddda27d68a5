-- The map that a graph stands for.
use Rattle.std.proofs.Common.{◌≡◌, ℕ, zero, suc, ◌+◌, ◌<◌, ◌≤◌, true, false, cond, nat_lt, IsTrue, List, [], ◌∷◌, ◌++◌, length, slice_get, Some, None, refl, sym, ◌∙◌, ap, subst, arith, ◌⊎◌, inl, inr}
use Rattle.std.proofs.lemmas.Grind.{common_steps}
use Rattle.ath_unifiers.specs.declared.graph.Graph.{Graph}
use Rattle.ath_unifiers.specs.declared.nodes.Node.{Node}
use Rattle.ath_unifiers.specs.declared.nodes.Node.TheVariants.{Leaf, Branch}
use Rattle.ath_sorts.specs.declared.sorts.SVar.{SVar}
use Rattle.ath_sorts.specs.declared.sorts.SVar.TheVariants.{Written, Made}
use Rattle.ath_sorts.specs.declared.sorts.Sort.{Sort, Var}
use Rattle.ath_sorts.specs.declared.sorts.Sym.{Sym}
use Rattle.ath_sorts.specs.Sorts.{is_small, same_svar, image, apply_to, depth_of}
use Rattle.ath_sorts.specs.Substitutions.{entry_of}
use Rattle.ath_unifiers.specs.Unifiers.{HasUnifier, IsLeastUnifier}
use Rattle.ath_unifiers.specs.Order.{precedes, vars_read}
use Rattle.ath_unifiers.specs.Graphs.{class_at, head_at, Respects, IsGraph, LeafFree, Unfolds, leaf, branch, HasTrees, IsOrdered, stands_before, Solves, IsSolution, HasSmallImages, HasLargeImage}
use Rattle.ath_sorts.proofs.Gets.{get-there, get-within, some-inj, some-not-none}
use Rattle.ath_unifiers.proofs.GraphTrees.{leaf-inj, leaf-not-branch, tree-value, trees-respected}
use Rattle.ath_unifiers.proofs.GraphValues.{value-leaf}
use Rattle.ath_sorts.proofs.SortLaws.{apply-var, size-var, depth-var, Var-inj, Var-not-Con, same_svar-true, same_svar-refl, same-or-not}
use Rattle.ath_sorts.proofs.SubstitutionLaws.{image-some, image-none}
use Rattle.ath_sorts.proofs.Bools.{true-not-false, num_cases}
use Rattle.ath_sorts.proofs.SubstitutionLaws.{opt_cases, entry-kept, entry-absent}

below_or_last : (i n : ℕ) → i < n + 1 → (i < n) ⊎ (i ≡ n)
below_or_last i n l = grind (arith, common_steps)

entry-other : (s : List (SVar × Sort)) (v : SVar) (t : Sort) (w : SVar) → (v ≡ w → ⊥) → entry_of s w ≡ None → entry_of (s ++ (v, t) ∷ []) w ≡ None
entry-other s v t w apart h = entry-absent s (v, t) w h ∙ elim (same-or-not v w) [ inl p ↦ absurd (apart (same_svar-true v w p)) | inr p ↦ ap (λ b. cond b (Some t) None) p ]

image-new : (s : List (SVar × Sort)) (v : SVar) (t : Sort) → entry_of s v ≡ None → image (s ++ (v, t) ∷ []) v ≡ t
image-new s v t h = image-some (s ++ (v, t) ∷ []) v t (entry-absent s (v, t) v h ∙ ap (λ b. cond b (Some t) None) (same_svar-refl v))

image-kept : (s : List (SVar × Sort)) (v : SVar) (t : Sort) (w : SVar) → (v ≡ w → ⊥) → image (s ++ (v, t) ∷ []) w ≡ image s w
image-kept s v t w apart = elim (opt_cases (entry_of s w)) [
  | inl n ↦ image-none (s ++ (v, t) ∷ []) w (entry-other s v t w apart n) ∙ sym (image-none s w n)
  | inr n ↦ image-some (s ++ (v, t) ∷ []) w n.0 (entry-kept s (v, t) w n.0 n.1) ∙ sym (image-some s w n.0 n.1)
]

module _ (g : Graph) (is_graph : IsGraph g) (n : ℕ) (s : List (SVar × Sort)) (h : IsSolution g n s) where
  -- a node that is no variable changes nothing
  pub solution_skips : ((v : SVar) → slice_get g.nodes n ≡ Some (Leaf v) → ⊥) → IsSolution g (n + 1) s
  solution_skips no_leaf = record {
    maps = λ i v l k. elim (below_or_last i n l) [ inl p ↦ h.maps i v p k | inr p ↦ absurd (no_leaf v (ap (slice_get g.nodes) (sym p) ∙ k)) ];
    others = λ v no_node. h.others v (λ i l k. no_node i (omega arith) k);
    moves = h.moves;
  }

  unmapped : (v : SVar) → slice_get g.nodes n ≡ Some (Leaf v) → entry_of s v ≡ None
  unmapped v k = h.others v (λ i l q. let e = is_graph.distinct i n v q k in omega arith)

  -- nor does a variable that names its class
  pub solution_stays : (v : SVar) → slice_get g.nodes n ≡ Some (Leaf v) → class_at g.class n ≡ n → IsSolution g (n + 1) s
  solution_stays v k named = record {
    maps = λ i w l q. elim (below_or_last i n l) [
      | inl p ↦ h.maps i w p q
      | inr p ↦
          let same : v ≡ w = leaf-inj v w (sym k ∙ ap (slice_get g.nodes) (sym p) ∙ q) in
          let own : Unfolds g n (image s v) = leaf v (ap (slice_get g.nodes) named ∙ k) (image-none s v (unmapped v k)) in
          subst (λ x. Unfolds g x (image s w)) (sym p) (subst (λ x. Unfolds g n (image s x)) same own)
    ];
    others = λ w no_node. h.others w (λ i l q. no_node i (omega arith) q);
    moves = h.moves;
  }

  pub solution_maps : (v : SVar) (t : Sort) → slice_get g.nodes n ≡ Some (Leaf v) → (class_at g.class n ≡ n → ⊥) → Unfolds g n t → IsSolution g (n + 1) (s ++ (v, t) ∷ [])
  solution_maps v t k moved a =
      let none = unmapped v k in
      record {
        maps = λ i w l q. elim (below_or_last i n l) [
          | inl p ↦
              let apart : v ≡ w → ⊥ = λ e. let z = is_graph.distinct i n w q (k ∙ ap (λ x. Some (Leaf x)) e) in omega arith in
              subst (Unfolds g i) (sym (image-kept s v t w apart)) (h.maps i w p q)
          | inr p ↦
              let same : v ≡ w = leaf-inj v w (sym k ∙ ap (slice_get g.nodes) (sym p) ∙ q) in
              subst (λ x. Unfolds g x (image (s ++ (v, t) ∷ []) w)) (sym p) (subst (λ x. Unfolds g n (image (s ++ (v, t) ∷ []) x)) same (subst (Unfolds g n) (sym (image-new s v t none)) a))
        ];
        others = λ w no_node. entry-other s v t w (λ e. no_node n (omega arith) (k ∙ ap (λ x. Some (Leaf x)) e)) (h.others w (λ i l q. no_node i (omega arith) q));
        moves = λ w e. elim (opt_cases (entry_of s w)) [
          | inl p ↦ elim (same-or-not v w) [
            | inl q ↦
                let same = same_svar-true v w q in
                let is : t ≡ Var w = some-inj t (Var w) (sym (entry-absent s (v, t) w p ∙ ap (λ b. cond b (Some t) None) q) ∙ e) in
                not_own v k moved (subst (Unfolds g n) (is ∙ ap Var (sym same)) a)
            | inr q ↦ some-not-none (Var w) (sym e ∙ entry-absent s (v, t) w p ∙ ap (λ b. cond b (Some t) None) q)
          ]
          | inr p ↦ h.moves w (p.1 ∙ sym (entry-kept s (v, t) w p.0 p.1) ∙ e)
        ];
      }
    where
      own : (v : SVar) → slice_get g.nodes n ≡ Some (Leaf v) → (u : SVar) → head_at g n ≡ Some (Leaf u) → Var v ≡ Var u → class_at g.class n ≡ n
      own v k u q e = is_graph.distinct (class_at g.class n) n v (q ∙ ap (λ x. Some (Leaf x)) (sym (Var-inj v u e))) k

      not_own : (v : SVar) → slice_get g.nodes n ≡ Some (Leaf v) → (class_at g.class n ≡ n → ⊥) → Unfolds g n (Var v) → ⊥
      not_own v k moved (leaf u q e) = moved (own v k u q e)
      not_own v k moved (branch c js ts q b e) = Var-not-Con v c ts e

pub small_depth : (t : Sort) → is_small t ≡ true → depth_of t ≤ 64
small_depth t h = grind (arith, common_steps)

pub solution_none : (g : Graph) → IsSolution g 0 []
solution_none g = record {
  maps = λ i v l k. absurd (omega arith);
  others = λ v no_node. refl;
  moves = λ v e. some-not-none (Var v) (sym e);
}

-- there is such a map
solution_below : (g : Graph) → IsGraph g → HasTrees g → (n : ℕ) → n ≤ length g.nodes → (s : List (SVar × Sort)) × IsSolution g n s
solution_below g is_graph trees zero l = ([], solution_none g)
solution_below g is_graph trees (suc n) l = next (solution_below g is_graph trees n (omega arith)) (get-there g.nodes n (omega arith)) (num_cases (class_at g.class n) n)
  where
    up : (s : List (SVar × Sort)) → IsSolution g (n + 1) s → IsSolution g (suc n) s
    up s h = let e : n + 1 ≡ suc n = omega arith in subst (λ k. IsSolution g k s) e h

    next : (s : List (SVar × Sort)) × IsSolution g n s → (m : Node) × (slice_get g.nodes n ≡ Some m) → (class_at g.class n ≡ n) ⊎ (class_at g.class n ≡ n → ⊥) → (s : List (SVar × Sort)) × IsSolution g (suc n) s
    next (s, h) (Branch c js, k) d = (s, up s (solution_skips g is_graph n s h (λ v q. leaf-not-branch v c js (sym q ∙ k))))
    next (s, h) (Leaf v, k) (inl named) = (s, up s (solution_stays g is_graph n s h v k named))
    next (s, h) (Leaf v, k) (inr moved) = let t = trees n (omega arith) in (s ++ (v, t.0) ∷ [], up (s ++ (v, t.0) ∷ []) (solution_maps g is_graph n s h v t.0 k moved t.1))

pub solution_there : (g : Graph) → IsGraph g → HasTrees g → (s : List (SVar × Sort)) × IsSolution g (length g.nodes) s
solution_there g is_graph trees = solution_below g is_graph trees (length g.nodes) (omega arith)

find_leaf : (nodes : List Node) (v : SVar) → ((i : ℕ) × (slice_get nodes i ≡ Some (Leaf v))) ⊎ LeafFree nodes v
find_leaf [] v = inr (λ i h. some-not-none (Leaf v) (sym h))
find_leaf (n ∷ nodes) v = by n (find_leaf nodes v)
  where
    by : (m : Node) → ((i : ℕ) × (slice_get nodes i ≡ Some (Leaf v))) ⊎ LeafFree nodes v → ((i : ℕ) × (slice_get (m ∷ nodes) i ≡ Some (Leaf v))) ⊎ LeafFree (m ∷ nodes) v
    by m (inl r) = inl (suc r.0, r.1)
    by (Branch c js) (inr free) = inr (λ i h. not_branch c js free i h)
      where
        not_branch : (c : Sym) (js : List ℕ) → LeafFree nodes v → (i : ℕ) → slice_get (Branch c js ∷ nodes) i ≡ Some (Leaf v) → ⊥
        not_branch c js free zero h = leaf-not-branch v c js (sym h)
        not_branch c js free (suc i) h = free i h
    by (Leaf w) (inr free) = elim (same-or-not w v) [
      | inl p ↦ inl (0, ap (λ x. Some (Leaf x)) (same_svar-true w v p))
      | inr p ↦ inr (λ i h. not_leaf w p free i h)
    ]
      where
        not_leaf : (w : SVar) → same_svar w v ≡ false → LeafFree nodes v → (i : ℕ) → slice_get (Leaf w ∷ nodes) i ≡ Some (Leaf v) → ⊥
        not_leaf w p free zero h = true-not-false (sym (ap (same_svar w) (sym (leaf-inj w v h)) ∙ same_svar-refl w) ∙ p)
        not_leaf w p free (suc i) h = free i h

before_precedes : (read : List SVar) (g : Graph) → IsOrdered read g → (i j : ℕ) (w v : SVar) → slice_get g.nodes i ≡ Some (Leaf w) → slice_get g.nodes j ≡ Some (Leaf v) → stands_before w i v j ≡ true → precedes read w v ≡ true
before_precedes read g o i j (Written a) (Written b) h k p = o.first i j (Written a) (Written b) (lower i j p) h k
  where
    lower : (i j : ℕ) → nat_lt i j ≡ true → i < j
    lower i j p = grind (arith, common_steps)
before_precedes read g o i j (Written a) (Made n) h k p = refl
before_precedes read g o i j (Made m) (Written b) h k p = absurd (true-not-false (sym p))
before_precedes read g o i j (Made m) (Made n) h k p = p

module _ (g : Graph) (pairs : List (Sort × Sort)) (solves : Solves g pairs) (s : List (SVar × Sort)) (h : IsSolution g (length g.nodes) s) where
  maps_all : (i : ℕ) (v : SVar) → slice_get g.nodes i ≡ Some (Leaf v) → Unfolds g i (image s v)
  maps_all i v k = h.maps i v (get-within g.nodes i (Leaf v) k) k

  respected : Respects (image s) g
  respected = trees-respected solves.stands.graph solves.stands.closed solves.trees (image s) maps_all

  unmoved : (v : SVar) → LeafFree g.nodes v → image s v ≡ Var v
  unmoved v free = image-none s v (h.others v (λ i l k. free i k))

  -- a map that respects the graph isn't changed by the solution before it
  absorbs : (f : SVar → Sort) → Respects f g → (v : SVar) → apply_to f (image s v) ≡ f v
  absorbs f r v = elim (find_leaf g.nodes v) [
    | inl k ↦ tree-value solves.stands.graph f r (get-within g.nodes k.0 (Leaf v) k.1) (maps_all k.0 v k.1) ∙ value-leaf f g.nodes k.0 v k.1
    | inr free ↦ ap (apply_to f) (unmoved v free) ∙ apply-var f v
  ]

  least_of : (i : ℕ) (v w : SVar) → slice_get g.nodes i ≡ Some (Leaf v) → head_at g i ≡ Some (Leaf w) → (v ≡ w) ⊎ IsTrue (precedes (vars_read pairs) w v)
  least_of i v w k q = elim (solves.stands.graph.least i v w k q) [
    | inl p ↦ inl (leaf-inj v w (sym k ∙ ap (slice_get g.nodes) (sym p) ∙ q))
    | inr p ↦ inr (before_precedes (vars_read pairs) g solves.stands.ordered (class_at g.class i) i w v q k p)
  ]

  least_grown : (i : ℕ) (v w : SVar) (t : Sort) → slice_get g.nodes i ≡ Some (Leaf v) → Unfolds g i t → t ≡ Var w → (v ≡ w) ⊎ IsTrue (precedes (vars_read pairs) w v)
  least_grown i v w t k (leaf u q p) e = least_of i v w k (q ∙ ap (λ x. Some (Leaf x)) (Var-inj u w (sym p ∙ e)))
  least_grown i v w t k (branch c js ts q b p) e = absurd (Var-not-Con w c ts (sym e ∙ p))

  pub least_unifier : IsLeastUnifier s pairs
  least_unifier = record {
    unifies = solves.stands.unifies (image s) respected;
    idempotent = absorbs (image s) respected;
    most_general = λ f u. (f, λ v. sym (absorbs f (solves.stands.respects f u) v));
    least = λ v w e. elim (find_leaf g.nodes v) [
      | inl k ↦ least_grown k.0 v w (image s v) k.1 (maps_all k.0 v k.1) e
      | inr free ↦ inl (Var-inj v w (sym (unmoved v free) ∙ e))
    ];
  }

  pub all_small : HasSmallImages g → (v : SVar) → is_small (image s v) ≡ true
  all_small small v = elim (find_leaf g.nodes v) [
    | inl k ↦ small k.0 v (image s v) k.1 (maps_all k.0 v k.1)
    | inr free ↦ ap is_small (unmoved v free) ∙ var_small v
  ]
    where
      var_small : (v : SVar) → is_small (Var v) ≡ true
      var_small v = let a = size-var v in let b = depth-var v in grind (arith, common_steps)

  pub one_large : HasLargeImage g → (v : SVar) × (is_small (image s v) ≡ false)
  one_large large = (large.1.0, large.1.1.1 (image s large.1.0) (maps_all large.0 large.1.0 large.1.1.0))

pub has_unifier : (g : Graph) (pairs : List (Sort × Sort)) → Solves g pairs → HasUnifier pairs
has_unifier g pairs solves =
    let s = solution_there g solves.stands.graph solves.trees in
    (image s.0, (least_unifier g pairs solves s.0 s.1).unifies)
