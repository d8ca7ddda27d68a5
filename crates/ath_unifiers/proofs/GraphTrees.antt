-- The trees of nodes, and the sorts that they give to unifiers.
use Rattle.std.proofs.Common.{◌≡◌, ℕ, zero, suc, ◌<◌, List, [], ◌∷◌, length, map, slice_get, Option, Some, refl, sym, ◌∙◌, ap, subst, arith}
use Rattle.std.specs.List.{AllByRecursion}
use Rattle.ath_unifiers.specs.declared.graph.Graph.{Graph}
use Rattle.ath_unifiers.specs.declared.nodes.Node.{Node}
use Rattle.ath_unifiers.specs.declared.nodes.Node.TheVariants.{Leaf, Branch}
use Rattle.ath_sorts.specs.declared.sorts.SVar.{SVar}
use Rattle.ath_sorts.specs.declared.sorts.Sort.{Sort, Var, Con}
use Rattle.ath_sorts.specs.declared.sorts.Sym.{Sym}
use Rattle.ath_sorts.specs.Sorts.{apply_to}
use Rattle.ath_unifiers.specs.Graphs.{class_at, value, Respects, IsGraph, IsClosed, Unfolds, leaf, branch, AllUnfold, nothing, further, HasTrees}
use Rattle.ath_sorts.proofs.Gets.{get-there, all-weaker}
use Rattle.ath_unifiers.proofs.GraphValues.{value-leaf, value-branch}
use Rattle.ath_sorts.proofs.SortLaws.{apply-var, apply-con}

pub leaf-inj : (v w : SVar) → ◌≡◌ {A = Option Node} (Some (Leaf v)) (Some (Leaf w)) → v ≡ w
leaf-inj v w e = cc

pub leaf-not-branch : (v : SVar) (c : Sym) (js : List ℕ) → ◌≡◌ {A = Option Node} (Some (Leaf v)) (Some (Branch c js)) → ⊥
leaf-not-branch v c js e = cc

pub branch-inj : (c d : Sym) (js ks : List ℕ) → ◌≡◌ {A = Option Node} (Some (Branch c js)) (Some (Branch d ks)) → (c ≡ d) × (js ≡ ks)
branch-inj c d js ks e = (cc, cc)

-- the tree of a node is that of its class
pub grows-class : {g : Graph} (i j : ℕ) {t : Sort} → class_at g.class i ≡ class_at g.class j → Unfolds g i t → Unfolds g j t
grows-class {g} i j e (leaf v h p) = leaf v (ap (slice_get g.nodes) (sym e) ∙ h) p
grows-class {g} i j e (branch c js ts h a p) = branch c js ts (ap (slice_get g.nodes) (sym e) ∙ h) a p

pub all-class : {g : Graph} (js ks : List ℕ) {ts : List Sort} → map (class_at g.class) js ≡ map (class_at g.class) ks → AllUnfold g ks ts → AllUnfold g js ts
all-class [] [] e nothing = nothing
all-class [] (k ∷ ks) e (further a as') = absurd (cc)
all-class (j ∷ js) [] e nothing = absurd (cc)
all-class {g} (j ∷ js) (k ∷ ks) e (further a as') =
    let p : class_at g.class j ≡ class_at g.class k = cc in
    let q : map (class_at g.class) js ≡ map (class_at g.class) ks = cc in
    further (grows-class k j (sym p) a) (all-class js ks q as')

mutual
  -- a node has one tree
  pub grows-same : {g : Graph} {i : ℕ} {t u : Sort} → Unfolds g i t → Unfolds g i u → t ≡ u
  grows-same (leaf v h p) (leaf w k q) = p ∙ ap Var (leaf-inj v w (sym h ∙ k)) ∙ sym q
  grows-same (leaf v h p) (branch c js ts k a q) = absurd (leaf-not-branch v c js (sym h ∙ k))
  grows-same (branch c js ts h a p) (leaf v k q) = absurd (leaf-not-branch v c js (sym k ∙ h))
  grows-same {g} (branch c js ts h a p) (branch d ks us k b q) =
      let e = branch-inj d c ks js (sym k ∙ h) in
      let r = all-same a (subst (λ x. AllUnfold g x us) e.1 b) in
      p ∙ (λ i. Con (sym e.0 i) (r i)) ∙ sym q

  pub all-same : {g : Graph} {js : List ℕ} {ts us : List Sort} → AllUnfold g js ts → AllUnfold g js us → ts ≡ us
  all-same nothing nothing = refl
  all-same (further a as') (further b bs) = λ i. grows-same a b i ∷ all-same as' bs i

-- what a map makes of the tree of a node is the sort of the node, where the map makes the sorts of each class equal
module _ {g : Graph} (is_graph : IsGraph g) (f : SVar → Sort) (r : Respects f g) where
  mutual
    pub tree-value : {i : ℕ} {t : Sort} → i < length g.nodes → Unfolds g i t → apply_to f t ≡ value f g.nodes i
    tree-value {i} inside (leaf v h p) = ap (apply_to f) p ∙ apply-var f v ∙ sym (value-leaf f g.nodes (class_at g.class i) v h) ∙ sym (r i inside)
    tree-value {i} inside (branch c js ts h a p) =
        let below = is_graph.children (class_at g.class i) c js h in
        let named = is_graph.below i inside in
        let all = all-weaker (λ j. j < class_at g.class i) (λ j. j < length g.nodes) js (λ j k. omega arith) below in
        ap (apply_to f) p ∙ apply-con f c ts ∙ ap (Con c) (trees-values all a) ∙ sym (value-branch f g.nodes (class_at g.class i) c js h below) ∙ sym (r i inside)

    pub trees-values : {js : List ℕ} {ts : List Sort} → AllByRecursion (λ j. j < length g.nodes) js → AllUnfold g js ts → map (apply_to f) ts ≡ map (value f g.nodes) js
    trees-values all nothing = refl
    trees-values all (further a as') = λ i. tree-value all.0 a i ∷ trees-values all.1 as' i

-- a map that sends variables to their trees sends each sort to its tree
module _ {g : Graph} (is_graph : IsGraph g) (closed : IsClosed g) (trees : HasTrees g) (s : SVar → Sort) (maps : (i : ℕ) (v : SVar) → slice_get g.nodes i ≡ Some (Leaf v) → Unfolds g i (s v)) where
  tree-of-branch : (i : ℕ) (c : Sym) (js : List ℕ) (t : Sort) → i < length g.nodes → slice_get g.nodes i ≡ Some (Branch c js) → Unfolds g i t → (ts : List Sort) × (AllUnfold g js ts × (t ≡ Con c ts))
  tree-of-branch i c js t inside h (leaf v k p) = let q = is_graph.branches i c js h in absurd (leaf-not-branch v q.0 q.1.0 (sym k ∙ q.1.1))
  tree-of-branch i c js t inside h (branch d ks ts k a p) =
      let q = closed i inside c d js ks h k in
      (ts, (all-class js ks q.1 a, p ∙ (λ x. Con (record { 0 = sym q.0 x }) ts)))

  all-values : (js : List ℕ) (ts : List Sort) → AllByRecursion (λ j. (t : Sort) → Unfolds g j t → value s g.nodes j ≡ t) js → AllUnfold g js ts → map (value s g.nodes) js ≡ ts
  all-values [] [] all nothing = refl
  all-values [] (t ∷ ts) all a = elim a [ ]
  all-values (j ∷ js) [] all a = elim a [ ]
  all-values (j ∷ js) (t ∷ ts) all (further a as') = λ x. all.0 t a x ∷ all-values js ts all.1 as' x

  value-tree-below : (m i : ℕ) → i < m → i < length g.nodes → (t : Sort) → Unfolds g i t → value s g.nodes i ≡ t
  value-tree-below zero i low inside t a = absurd (omega arith)
  value-tree-below (suc m) i low inside t a = by (get-there g.nodes i inside)
      (λ j before. value-tree-below m j (omega arith) (omega arith))
    where
      by : (n : Node) × (slice_get g.nodes i ≡ Some n) → ((j : ℕ) → j < i → (u : Sort) → Unfolds g j u → value s g.nodes j ≡ u) → value s g.nodes i ≡ t
      by (Leaf v, h) rest = value-leaf s g.nodes i v h ∙ grows-same (maps i v h) a
      by (Branch c js, h) rest =
          let q = tree-of-branch i c js t inside h a in
          let below = is_graph.children i c js h in
          let all = all-weaker (λ j. j < i) (λ j. (u : Sort) → Unfolds g j u → value s g.nodes j ≡ u) js rest below in
          value-branch s g.nodes i c js h below ∙ ap (Con c) (all-values js q.0 all q.1.0) ∙ sym q.1.1

  pub value-tree : (i : ℕ) → i < length g.nodes → (t : Sort) → Unfolds g i t → value s g.nodes i ≡ t
  value-tree i inside t a = value-tree-below (suc i) i (omega arith) inside t a

  pub trees-respected : Respects s g
  trees-respected i inside =
      let t = trees i inside in
      let b = is_graph.below i inside in
      value-tree i inside t.0 t.1 ∙ sym (value-tree (class_at g.class i) b t.0 (grows-class i (class_at g.class i) (sym (is_graph.named i)) t.1))
