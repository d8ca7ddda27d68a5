-- What becomes of a graph when nodes are added.
use Rattle.std.proofs.Common.{◌≡◌, ℕ, suc, ◌+◌, ◌<◌, ◌≤◌, Bool, true, false, cond, ◌||◌, IsTrue, List, [], ◌∷◌, ◌++◌, length, map, slice_get, Some, unwrap_or, refl, sym, ◌∙◌, ap, subst, arith, ◌⊎◌, inl, inr, append_assoc}
use Rattle.std.proofs.lemmas.Grind.{common_steps}
use Rattle.std.proofs.lemmas.List.Folds.{list_any-append}
use Rattle.std.specs.List.{AllByRecursion, list_any}
use Rattle.ath_unifiers.specs.declared.graph.Graph.{Graph}
use Rattle.ath_unifiers.specs.declared.nodes.Node.{Node}
use Rattle.ath_unifiers.specs.declared.nodes.Node.TheVariants.{Leaf, Branch}
use Rattle.ath_sorts.specs.declared.sorts.SVar.{SVar}
use Rattle.ath_sorts.specs.declared.sorts.Sort.{Sort, Var, Con}
use Rattle.ath_sorts.specs.declared.sorts.Sym.{Sym}
use Rattle.ath_sorts.specs.Sorts.{same_svar, apply_to}
use Rattle.ath_unifiers.specs.Order.{comes_first, concatenated, vars_of}
use Rattle.ath_unifiers.specs.Graphs.{class_at, value, Respects, IsGraph, IsClosed, LeafFree, IsOrdered, GraphGrows, AddsSort, AddsSorts, stands_before}
use Rattle.ath_sorts.proofs.Gets.{get-left, get-seam, get-last, get-within, get-past, length-snoc, length-both, all-weaker, all-snoc, map-same, map-both}
use Rattle.ath_unifiers.proofs.GraphTrees.{leaf-inj, leaf-not-branch, branch-inj}
use Rattle.ath_unifiers.proofs.GraphValues.{value-kept, value-leaf, value-new-leaf, value-new-branch}
use Rattle.ath_unifiers.proofs.VariableLaws.{vars-var, vars-con}
use Rattle.ath_sorts.proofs.SortLaws.{apply-var, apply-con, same_svar-true, same_svar-refl}
use Rattle.ath_sorts.proofs.Bools.{true-not-false, bool_cases, either_of, either_to}
use Rattle.ath_sorts.proofs.Gets.{append-none}

first_kept_step : (b c p q : Bool) → (p ≡ true → q ≡ true) → cond b false (cond c true p) ≡ true → cond b false (cond c true q) ≡ true
first_kept_step true c p q n h = h
first_kept_step false true p q n h = refl
first_kept_step false false p q n h = n h

pub first_kept : (read more : List SVar) (u w : SVar) → comes_first read u w ≡ true → comes_first (read ++ more) u w ≡ true
first_kept [] more u w h = absurd (true-not-false (sym h))
first_kept (x ∷ read) more u w h = first_kept_step (same_svar x w) (same_svar x u) (comes_first read u w) (comes_first (read ++ more) u w) (first_kept read more u w) h

first_new_step : (b c p r s : Bool) → (r ≡ true → s ≡ false → p ≡ true) → (c || r) ≡ true → (b || s) ≡ false → cond b false (cond c true p) ≡ true
first_new_step true c p r s n h k = absurd (true-not-false k)
first_new_step false true p r s n h k = refl
first_new_step false false p r s n h k = n h k

first_new : (read more : List SVar) (u v : SVar) → list_any (λ w. same_svar w u) read ≡ true → list_any (λ w. same_svar w v) read ≡ false → comes_first (read ++ more) u v ≡ true
first_new [] more u v h k = absurd (true-not-false (sym h))
first_new (x ∷ read) more u v h k = first_new_step (same_svar x v) (same_svar x u) (comes_first (read ++ more) u v) (list_any (λ w. same_svar w u) read) (list_any (λ w. same_svar w v) read) (first_new read more u v) h k

any_left : (read more : List SVar) (u : SVar) → list_any (λ w. same_svar w u) read ≡ true → list_any (λ w. same_svar w u) (read ++ more) ≡ true
any_left read more u h = list_any-append (λ w. same_svar w u) read more ∙ either_to (list_any (λ w. same_svar w u) read) (list_any (λ w. same_svar w u) more) (inl h)

any_right : (read : List SVar) (v : SVar) → list_any (λ w. same_svar w v) (read ++ v ∷ []) ≡ true
any_right read v = list_any-append (λ w. same_svar w v) read (v ∷ []) ∙ either_to (list_any (λ w. same_svar w v) read) (list_any (λ w. same_svar w v) (v ∷ [])) (inr (either_to (same_svar v v) false (inl (same_svar-refl v))))

any_cases : (read : List SVar) (v u : SVar) → list_any (λ w. same_svar w u) (read ++ v ∷ []) ≡ true → (list_any (λ w. same_svar w u) read ≡ true) ⊎ (v ≡ u)
any_cases read v u h = elim (either_of (list_any (λ w. same_svar w u) read) (list_any (λ w. same_svar w u) (v ∷ [])) (sym (list_any-append (λ w. same_svar w u) read (v ∷ [])) ∙ h)) [
  | inl p ↦ inl p
  | inr p ↦ elim (either_of (same_svar v u) false p) [ inl q ↦ inr (same_svar-true v u q) | inr q ↦ absurd (true-not-false (sym q)) ]
]

pub ordered_nodes : (read : List SVar) (g new : Graph) → new.nodes ≡ g.nodes → IsOrdered read g → IsOrdered read new
ordered_nodes read g new e o =
    let to : (i : ℕ) (u : SVar) → slice_get new.nodes i ≡ Some (Leaf u) → slice_get g.nodes i ≡ Some (Leaf u) = λ i u h. ap (λ ns. slice_get ns i) (sym e) ∙ h in
    record {
      first = λ i j u w l h k. o.first i j u w l (to i u h) (to j w k);
      there = λ i u h. o.there i u (to i u h);
      read_before = λ u h. let r = o.read_before u h in (r.0, ap (λ ns. slice_get ns r.0) e ∙ r.1);
    }

ordered_none : (read : List SVar) (g : Graph) → IsOrdered read g → IsOrdered (read ++ []) g
ordered_none read g o = subst (λ (r : List SVar). IsOrdered r g) (sym (append-none read)) o

pub grows_none : (g : Graph) → GraphGrows g g []
grows_none g = record {
  more = ([], sym (append-none g.nodes));
  graph = λ h. h;
  closed = λ h c. c;
  respects = λ f h r. r;
  respected = λ f h r. r;
  ordered = λ read o. ordered_none read g o;
}

pub grows_then : (a b c : Graph) (vs ws : List SVar) → GraphGrows a b vs → GraphGrows b c ws → GraphGrows a c (vs ++ ws)
grows_then a b c vs ws p q = record {
  more = (p.more.0 ++ q.more.0, q.more.1 ∙ ap (λ r. r ++ q.more.0) p.more.1 ∙ append_assoc a.nodes p.more.0 q.more.0);
  graph = λ h. q.graph (p.graph h);
  closed = λ h k. q.closed (p.graph h) (p.closed h k);
  respects = λ f h r. q.respects f (p.graph h) (p.respects f h r);
  respected = λ f h r. p.respected f h (q.respected f (p.graph h) r);
  ordered = λ read o. subst (λ (r : List SVar). IsOrdered r c) (append_assoc read vs ws) (q.ordered (read ++ vs) (p.ordered read o));
}

in_or_out : (n i : ℕ) → (i < n) ⊎ (n ≤ i)
in_or_out n i = grind (arith, common_steps)

-- one more node, as a class of its own
module _ (g : Graph) (n : Node) (fresh : (v : SVar) → n ≡ Leaf v → LeafFree g.nodes v) (before : (c : Sym) (js : List ℕ) → n ≡ Branch c js → AllByRecursion (λ j. j < length g.nodes) js) where
  abbrev class' : List ℕ
  class' = g.class ++ length g.nodes ∷ []

  abbrev new : Graph
  new = record { nodes = g.nodes ++ n ∷ []; class = g.class ++ length g.nodes ∷ [] }

  class_old : IsGraph g → (i : ℕ) → i < length g.nodes → class_at class' i ≡ class_at g.class i
  class_old h i l = ap (λ o. unwrap_or o i) (get-left g.class (length g.nodes ∷ []) i (let e = h.even in omega arith))

  class_new : IsGraph g → class_at class' (length g.nodes) ≡ length g.nodes
  class_new h = ap (class_at class') (sym h.even) ∙ ap (λ o. unwrap_or o (length g.class)) (get-seam g.class (length g.nodes) [])

  class_past : IsGraph g → (i : ℕ) → length g.nodes ≤ i → class_at class' i ≡ i
  class_past h i l = elim (in_or_out (suc (length g.nodes)) i) [
    | inl p ↦ let e : i ≡ length g.nodes = omega arith in ap (class_at class') e ∙ class_new h ∙ sym e
    | inr p ↦ ap (λ o. unwrap_or o i) (get-past class' i (let k = length-snoc g.class (length g.nodes) in let e = h.even in omega arith))
  ]

  node_old : (i : ℕ) (m : Node) → slice_get g.nodes i ≡ Some m → slice_get (g.nodes ++ n ∷ []) i ≡ Some m
  node_old i m h = get-left g.nodes (n ∷ []) i (get-within g.nodes i m h) ∙ h

  head_old : IsGraph g → (i : ℕ) → i < length g.nodes → slice_get (g.nodes ++ n ∷ []) (class_at class' i) ≡ slice_get g.nodes (class_at g.class i)
  head_old h i l = ap (slice_get (g.nodes ++ n ∷ [])) (class_old h i l) ∙ get-left g.nodes (n ∷ []) (class_at g.class i) (h.below i l)

  head_new : IsGraph g → slice_get (g.nodes ++ n ∷ []) (class_at class' (length g.nodes)) ≡ Some n
  head_new h = ap (slice_get (g.nodes ++ n ∷ [])) (class_new h) ∙ get-seam g.nodes n []

  below' : IsGraph g → (i : ℕ) → i < length (g.nodes ++ n ∷ []) → class_at class' i < length (g.nodes ++ n ∷ [])
  below' h i l = let k = length-snoc g.nodes n in elim (in_or_out (length g.nodes) i) [
    | inl p ↦ let c = class_old h i p in let b = h.below i p in omega arith
    | inr p ↦ let c = class_past h i p in omega arith
  ]

  named' : IsGraph g → (i : ℕ) → class_at class' (class_at class' i) ≡ class_at class' i
  named' h i = elim (in_or_out (length g.nodes) i) [
    | inl p ↦ ap (class_at class') (class_old h i p) ∙ class_old h (class_at g.class i) (h.below i p) ∙ h.named i ∙ sym (class_old h i p)
    | inr p ↦ ap (class_at class') (class_past h i p)
  ]

  branches' : IsGraph g → (i : ℕ) (c : Sym) (js : List ℕ) → slice_get (g.nodes ++ n ∷ []) i ≡ Some (Branch c js) → (d : Sym) × ((ks : List ℕ) × (slice_get (g.nodes ++ n ∷ []) (class_at class' i) ≡ Some (Branch d ks)))
  branches' h i c js k = elim (get-last g.nodes n i (Branch c js) k) [
    | inl p ↦ let r = h.branches i c js p.1 in (r.0, (r.1.0, head_old h i p.0 ∙ r.1.1))
    | inr p ↦ (c, (js, ap (λ x. slice_get (g.nodes ++ n ∷ []) (class_at class' x)) p.0 ∙ head_new h ∙ ap Some p.1))
  ]

  least' : IsGraph g → (i : ℕ) (u w : SVar) → slice_get (g.nodes ++ n ∷ []) i ≡ Some (Leaf u) → slice_get (g.nodes ++ n ∷ []) (class_at class' i) ≡ Some (Leaf w) → (class_at class' i ≡ i) ⊎ IsTrue (stands_before w (class_at class' i) u i)
  least' h i u w k q = elim (get-last g.nodes n i (Leaf u) k) [
    | inl p ↦ elim (h.least i u w p.1 (sym (head_old h i p.0) ∙ q)) [
      | inl r ↦ inl (class_old h i p.0 ∙ r)
      | inr r ↦ inr (subst (λ x. stands_before w x u i ≡ true) (sym (class_old h i p.0)) r)
    ]
    | inr p ↦ inl (ap (class_at class') p.0 ∙ class_new h ∙ sym p.0)
  ]

  children' : IsGraph g → (i : ℕ) (c : Sym) (js : List ℕ) → slice_get (g.nodes ++ n ∷ []) i ≡ Some (Branch c js) → AllByRecursion (λ j. j < i) js
  children' h i c js k = elim (get-last g.nodes n i (Branch c js) k) [
    | inl p ↦ h.children i c js p.1
    | inr p ↦ subst (λ x. AllByRecursion (λ j. j < x) js) (sym p.0) (before c js p.1)
  ]

  distinct' : IsGraph g → (i j : ℕ) (u : SVar) → slice_get (g.nodes ++ n ∷ []) i ≡ Some (Leaf u) → slice_get (g.nodes ++ n ∷ []) j ≡ Some (Leaf u) → i ≡ j
  distinct' h i j u k q = elim (get-last g.nodes n i (Leaf u) k) [
    | inl p ↦ elim (get-last g.nodes n j (Leaf u) q) [
      | inl r ↦ h.distinct i j u p.1 r.1
      | inr r ↦ absurd (fresh u r.1 i p.1)
    ]
    | inr p ↦ elim (get-last g.nodes n j (Leaf u) q) [
      | inl r ↦ absurd (fresh u p.1 j r.1)
      | inr r ↦ p.0 ∙ sym r.0
    ]
  ]

  graph' : IsGraph g → IsGraph new
  graph' h = record {
    even = length-snoc g.class (length g.nodes) ∙ ap (λ x. x + 1) h.even ∙ sym (length-snoc g.nodes n);
    below = below' h;
    named = named' h;
    branches = branches' h;
    least = least' h;
    children = children' h;
    distinct = distinct' h;
  }

  classes_old : IsGraph g → (k : ℕ) (js : List ℕ) → k < length g.nodes → AllByRecursion (λ j. j < k) js → map (class_at class') js ≡ map (class_at g.class) js
  classes_old h k js l a = map-same (class_at class') (class_at g.class) js (all-weaker (λ j. j < k) (λ j. class_at class' j ≡ class_at g.class j) js (λ j m. class_old h j (omega arith)) a)

  closed' : IsGraph g → IsClosed g → IsClosed new
  closed' h cl i l c d js ks k q = elim (get-last g.nodes n i (Branch c js) k) [
    | inl p ↦
        let q' = sym (head_old h i p.0) ∙ q in
        let r = cl i p.0 c d js ks p.1 q' in
        let a = classes_old h i js p.0 (h.children i c js p.1) in
        let b = classes_old h (class_at g.class i) ks (h.below i p.0) (h.children (class_at g.class i) d ks q') in
        (r.0, a ∙ r.1 ∙ sym b)
    | inr p ↦
        let e = branch-inj c d js ks (ap Some (sym p.1) ∙ sym (ap (λ x. slice_get (g.nodes ++ n ∷ []) (class_at class' x)) p.0 ∙ head_new h) ∙ q) in
        (ap (λ z. z.0) e.0, ap (map (class_at class')) e.1)
  ]

  respects' : (f : SVar → Sort) → IsGraph g → Respects f g → Respects f new
  respects' f h r i l = elim (in_or_out (length g.nodes) i) [
    | inl p ↦ value-kept f g.nodes (n ∷ []) i p ∙ r i p ∙ sym (value-kept f g.nodes (n ∷ []) (class_at g.class i) (h.below i p)) ∙ ap (value f (g.nodes ++ n ∷ [])) (sym (class_old h i p))
    | inr p ↦ ap (value f (g.nodes ++ n ∷ [])) (sym (class_past h i p))
  ]

  respected' : (f : SVar → Sort) → IsGraph g → Respects f new → Respects f g
  respected' f h r i p =
      sym (value-kept f g.nodes (n ∷ []) i p) ∙ r i (let k = length-snoc g.nodes n in omega arith) ∙ ap (value f (g.nodes ++ n ∷ [])) (class_old h i p) ∙ value-kept f g.nodes (n ∷ []) (class_at g.class i) (h.below i p)

-- the variables that a node adds
ordered_branch : (g : Graph) (c : Sym) (js : List ℕ) (class : List ℕ) (read : List SVar) → IsOrdered read g → IsOrdered (read ++ []) (record { nodes = g.nodes ++ Branch c js ∷ []; class = class })
ordered_branch g c js class read o =
    let old : (i : ℕ) (u : SVar) → slice_get (g.nodes ++ Branch c js ∷ []) i ≡ Some (Leaf u) → slice_get g.nodes i ≡ Some (Leaf u) = λ i u h. elim (get-last g.nodes (Branch c js) i (Leaf u) h) [ inl p ↦ p.1 | inr p ↦ absurd (leaf-not-branch u c js (ap Some (sym p.1))) ] in
    let new : Graph = record { nodes = g.nodes ++ Branch c js ∷ []; class = class } in
    ordered_none read new (record {
      first = λ i j u w l h k. o.first i j u w l (old i u h) (old j w k);
      there = λ i u h. o.there i u (old i u h);
      read_before = λ u h. let r = o.read_before u h in (r.0, get-left g.nodes (Branch c js ∷ []) r.0 (get-within g.nodes r.0 (Leaf u) r.1) ∙ r.1);
    })

ordered_leaf : (g : Graph) (v : SVar) (class : List ℕ) (read : List SVar) → LeafFree g.nodes v → IsOrdered read g → IsOrdered (read ++ v ∷ []) (record { nodes = g.nodes ++ Leaf v ∷ []; class = class })
ordered_leaf g v class read free o =
    let unread : list_any (λ w. same_svar w v) read ≡ false = elim (bool_cases (list_any (λ w. same_svar w v) read)) [ inl p ↦ absurd (let r = o.read_before v p in free r.0 r.1) | inr p ↦ p ] in
    record {
      first = λ i j u w l h k. elim (get-last g.nodes (Leaf v) j (Leaf w) k) [
        | inl q ↦ elim (get-last g.nodes (Leaf v) i (Leaf u) h) [
          | inl p ↦ first_kept read (v ∷ []) u w (o.first i j u w l p.1 q.1)
          | inr p ↦ absurd (let a = p.0 in let b = q.0 in omega arith)
        ]
        | inr q ↦ elim (get-last g.nodes (Leaf v) i (Leaf u) h) [
          | inl p ↦ subst (λ (x : SVar). comes_first (read ++ v ∷ []) u x ≡ true) (leaf-inj v w (ap Some q.1)) (first_new read (v ∷ []) u v (o.there i u p.1) unread)
          | inr p ↦ absurd (let a = p.0 in let b = q.0 in omega arith)
        ]
      ];
      there = λ i u h. elim (get-last g.nodes (Leaf v) i (Leaf u) h) [
        | inl p ↦ any_left read (v ∷ []) u (o.there i u p.1)
        | inr p ↦ subst (λ (x : SVar). list_any (λ w. same_svar w x) (read ++ v ∷ []) ≡ true) (leaf-inj v u (ap Some p.1)) (any_right read v)
      ];
      read_before = λ u h. elim (any_cases read v u h) [
        | inl p ↦ let r = o.read_before u p in (r.0, get-left g.nodes (Leaf v ∷ []) r.0 (get-within g.nodes r.0 (Leaf u) r.1) ∙ r.1)
        | inr p ↦ (length g.nodes, get-seam g.nodes (Leaf v) [] ∙ ap (λ x. Some (Leaf x)) p)
      ];
    }

graph_is : (g made : Graph) (n : Node) → made.nodes ≡ g.nodes ++ n ∷ [] → made.class ≡ g.class ++ length g.nodes ∷ [] → made ≡ record { nodes = g.nodes ++ n ∷ []; class = g.class ++ length g.nodes ∷ [] }
graph_is g made n p q = λ i. record { nodes = p i; class = q i }

pub adds_leaf : (g new : Graph) (v : SVar) (at : ℕ) → LeafFree g.nodes v → at ≡ length g.nodes → new.nodes ≡ g.nodes ++ Leaf v ∷ [] → new.class ≡ g.class ++ at ∷ [] → AddsSort g new (Var v) at
adds_leaf g new v at free is p q =
    let fresh : (w : SVar) → Leaf v ≡ Leaf w → LeafFree g.nodes w = λ w e. subst (LeafFree g.nodes) (leaf-inj v w (ap Some e)) free in
    let before : (c : Sym) (js : List ℕ) → Leaf v ≡ Branch c js → AllByRecursion (λ j. j < length g.nodes) js = λ c js e. absurd (leaf-not-branch v c js (ap Some e)) in
    let target : Graph = record { nodes = g.nodes ++ Leaf v ∷ []; class = g.class ++ length g.nodes ∷ [] } in
    let P : Graph → ℕ → Type 0 = λ x k. AddsSort g x (Var v) k in
    let grown : GraphGrows g target (v ∷ []) = record {
      more = (Leaf v ∷ [], refl);
      graph = graph' g (Leaf v) fresh before;
      closed = closed' g (Leaf v) fresh before;
      respects = respects' g (Leaf v) fresh before;
      respected = respected' g (Leaf v) fresh before;
      ordered = λ read o. ordered_leaf g v (g.class ++ length g.nodes ∷ []) read free o;
    } in
    let e : new ≡ target = graph_is g new (Leaf v) p (q ∙ ap (λ (k : ℕ). g.class ++ k ∷ []) is) in
    subst (λ x. P x at) (sym e) (subst (λ k. P target k) (sym is) (record {
      grows = subst (GraphGrows g target) (sym (vars-var v)) grown;
      within = let k = length-snoc g.nodes (Leaf v) in omega arith;
      is_value = λ f. value-new-leaf f g.nodes v ∙ sym (apply-var f v);
    }))

-- a variable that has a node already
pub adds_known : (g : Graph) (v : SVar) (at : ℕ) → slice_get g.nodes at ≡ Some (Leaf v) → AddsSort g g (Var v) at
adds_known g v at h =
    let grown : GraphGrows g g (v ∷ []) = record {
      more = ([], sym (append-none g.nodes));
      graph = λ k. k;
      closed = λ k c. c;
      respects = λ f k r. r;
      respected = λ f k r. r;
      ordered = λ read o. record {
        first = λ i j u w l k q. first_kept read (v ∷ []) u w (o.first i j u w l k q);
        there = λ i u k. any_left read (v ∷ []) u (o.there i u k);
        read_before = λ u k. elim (any_cases read v u k) [ inl p ↦ o.read_before u p | inr p ↦ (at, h ∙ ap (λ x. Some (Leaf x)) p) ];
      };
    } in
    record {
      grows = subst (GraphGrows g g) (sym (vars-var v)) grown;
      within = get-within g.nodes at (Leaf v) h;
      is_value = λ f. value-leaf f g.nodes at v h ∙ sym (apply-var f v);
    }

concatenated-last : (vss : List (List SVar)) (vs : List SVar) → concatenated (vss ++ vs ∷ []) ≡ concatenated vss ++ vs
concatenated-last [] vs = append-none vs
concatenated-last (ws ∷ vss) vs = ap (λ r. ws ++ r) (concatenated-last vss vs) ∙ sym (append_assoc ws (concatenated vss) vs)

pub adds_none : (g : Graph) → AddsSorts g g [] []
adds_none g = record { grows = grows_none g; within = tt; are_values = λ f. refl }

pub longer : (a b : Graph) (vs : List SVar) → GraphGrows a b vs → length a.nodes ≤ length b.nodes
longer a b vs g = let l = length-both a.nodes g.more.0 in let e = ap length g.more.1 in omega arith

pub kept_value : (a b : Graph) (vs : List SVar) → GraphGrows a b vs → (f : SVar → Sort) (i : ℕ) → i < length a.nodes → value f b.nodes i ≡ value f a.nodes i
kept_value a b vs g f i l = ap (λ ns. value f ns i) g.more.1 ∙ value-kept f a.nodes g.more.0 i l

pub adds_more : (a b c : Graph) (ss : List Sort) (is : List ℕ) (s : Sort) (i : ℕ) → AddsSorts a b ss is → AddsSort b c s i → AddsSorts a c (ss ++ s ∷ []) (is ++ i ∷ [])
adds_more a b c ss is s i p q =
    let n = longer b c (vars_of s) q.grows in
    let vs = concatenated-last (map vars_of ss) (vars_of s) in
    record {
      grows = subst (GraphGrows a c) (sym (ap concatenated (map-both vars_of ss (s ∷ [])) ∙ vs)) (grows_then a b c (concatenated (map vars_of ss)) (vars_of s) p.grows q.grows);
      within = all-snoc (λ j. j < length c.nodes) is i (all-weaker (λ j. j < length b.nodes) (λ j. j < length c.nodes) is (λ j l. omega arith) p.within) q.within;
      are_values = λ f.
          map-both (value f c.nodes) is (i ∷ [])
          ∙ (λ x. (map-same (value f c.nodes) (value f b.nodes) is (all-weaker (λ j. j < length b.nodes) (λ j. value f c.nodes j ≡ value f b.nodes j) is (λ j l. kept_value b c (vars_of s) q.grows f j l) p.within) ∙ p.are_values f) x ++ q.is_value f x ∷ [])
          ∙ sym (map-both (apply_to f) ss (s ∷ []));
    }

pub adds_con : (a b new : Graph) (c : Sym) (args : List Sort) (js : List ℕ) (at : ℕ) → AddsSorts a b args js → at ≡ length b.nodes → new.nodes ≡ b.nodes ++ Branch c js ∷ [] → new.class ≡ b.class ++ at ∷ [] → AddsSort a new (Con c args) at
adds_con a b new c args js at h is p q =
    let fresh : (w : SVar) → Branch c js ≡ Leaf w → LeafFree b.nodes w = λ w e. absurd (leaf-not-branch w c js (ap Some (sym e))) in
    let before : (d : Sym) (ks : List ℕ) → Branch c js ≡ Branch d ks → AllByRecursion (λ j. j < length b.nodes) ks = λ d ks e. subst (AllByRecursion (λ j. j < length b.nodes)) (branch-inj c d js ks (ap Some e)).1 h.within in
    let target : Graph = record { nodes = b.nodes ++ Branch c js ∷ []; class = b.class ++ length b.nodes ∷ [] } in
    let P : Graph → ℕ → Type 0 = λ x k. AddsSort a x (Con c args) k in
    let grown : GraphGrows b target [] = record {
      more = (Branch c js ∷ [], refl);
      graph = graph' b (Branch c js) fresh before;
      closed = closed' b (Branch c js) fresh before;
      respects = respects' b (Branch c js) fresh before;
      respected = respected' b (Branch c js) fresh before;
      ordered = λ read o. ordered_branch b c js (b.class ++ length b.nodes ∷ []) read o;
    } in
    let e : new ≡ target = graph_is b new (Branch c js) p (q ∙ ap (λ (k : ℕ). b.class ++ k ∷ []) is) in
    subst (λ x. P x at) (sym e) (subst (λ k. P target k) (sym is) (record {
      grows = subst (GraphGrows a target) (append-none (concatenated (map vars_of args)) ∙ sym (vars-con c args)) (grows_then a b target (concatenated (map vars_of args)) [] h.grows grown);
      within = let k = length-snoc b.nodes (Branch c js) in omega arith;
      is_value = λ f. value-new-branch f b.nodes c js ∙ ap (Con c) (h.are_values f) ∙ sym (apply-con f c args);
    }))
