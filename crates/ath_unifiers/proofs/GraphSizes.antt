-- The trees of nodes and their limits.
use Rattle.std.proofs.Common.{◌≡◌, ℕ, zero, suc, ◌+◌, ◌-◌, ◌<◌, ◌≤◌, max, List, [], ◌∷◌, ◌++◌, length, map, sum, drop, get_or, slice_get, Some, None, refl, sym, ◌∙◌, ap, subst, arith}
use Rattle.std.proofs.lemmas.Grind.{common_steps}
use Rattle.std.specs.Option.{SomeIff}
use Rattle.ath_unifiers.specs.declared.graph.Graph.{Graph}
use Rattle.ath_unifiers.specs.declared.nodes.Node.{Node}
use Rattle.ath_unifiers.specs.declared.nodes.Node.TheVariants.{Leaf, Branch}
use Rattle.ath_sorts.specs.declared.sorts.SVar.{SVar}
use Rattle.ath_sorts.specs.declared.sorts.Sort.{Sort, Var, Con}
use Rattle.ath_sorts.specs.declared.sorts.Sym.{Sym}
use Rattle.ath_sorts.specs.Sorts.{size_of, depth_of, greatest}
use Rattle.ath_unifiers.specs.Graphs.{class_at, head_at, Unfolds, leaf, branch, AllUnfold, nothing, further, IsNoBranch}
use Rattle.ath_sorts.proofs.Gets.{get-or-get, some-inj, some-not-none}
use Rattle.ath_unifiers.proofs.GraphTrees.{leaf-not-branch, branch-inj}
use Rattle.ath_sorts.proofs.SortLaws.{sort_induction, size-var, size-con, depth-var, depth-con}

-- every sort has a node and a level
pub has_size : (s : Sort) → (0 < size_of s) × (0 < depth_of s)
has_size =
    let P : Sort → Type 0 = λ s. (0 < size_of s) × (0 < depth_of s) in
    sort_induction P
    (λ v. (let e = size-var v in omega arith, let e = depth-var v in omega arith))
    (λ c args h. (let e = size-con c args in omega arith, let e = depth-con c args in omega arith))

-- the tree of a node with a constructor
pub branch-tree : {g : Graph} {i : ℕ} {t : Sort} (c : Sym) (js : List ℕ) → head_at g i ≡ Some (Branch c js) → Unfolds g i t → (ts : List Sort) × (AllUnfold g js ts × (t ≡ Con c ts))
branch-tree c js h (leaf v k p) = absurd (leaf-not-branch v c js (sym k ∙ h))
branch-tree {g} {i} {t} c js h (branch d ks ts k a p) =
    let e = branch-inj d c ks js (sym k ∙ h) in
    (ts, (subst (λ x. AllUnfold g x ts) e.1 a, p ∙ ap (λ z. Con z ts) e.0))

-- the tree of a node without one
pub leaf-tree : {g : Graph} {i : ℕ} {t : Sort} → IsNoBranch (head_at g i) → Unfolds g i t → (v : SVar) × (t ≡ Var v)
leaf-tree h (leaf v k p) = (v, p)
leaf-tree h (branch c js ts k a p) = absurd (subst IsNoBranch k h)

pub tree-at : {g : Graph} (js : List ℕ) (ts : List Sort) (i j : ℕ) → AllUnfold g js ts → slice_get js i ≡ Some j → (t : Sort) × ((slice_get ts i ≡ Some t) × Unfolds g j t)
tree-at [] [] i j nothing h = absurd (some-not-none j (sym h))
tree-at [] (t ∷ ts) i j a h = elim a [ ]
tree-at (k ∷ js) [] i j a h = elim a [ ]
tree-at {g} (k ∷ js) (t ∷ ts) zero j (further a as') h = (t, (refl, subst (λ x. Unfolds g x t) (some-inj k j h) a))
tree-at (k ∷ js) (t ∷ ts) (suc i) j (further a as') h = tree-at js ts i j as' h

pub trees-length : {g : Graph} (js : List ℕ) (ts : List Sort) → AllUnfold g js ts → length ts ≡ length js
trees-length [] [] nothing = refl
trees-length [] (t ∷ ts) a = elim a [ ]
trees-length (k ∷ js) [] a = elim a [ ]
trees-length (k ∷ js) (t ∷ ts) (further a as') = ap suc (trees-length js ts as')

drop-size : (ts : List Sort) (i : ℕ) (t : Sort) → slice_get ts i ≡ Some t → sum (map size_of (drop i ts)) ≡ size_of t + sum (map size_of (drop (suc i) ts))
drop-size [] i t h = absurd (some-not-none t (sym h))
drop-size (u ∷ ts) zero t h = let e = some-inj u t h in first u t ts e
  where
    first : (u t : Sort) (ts : List Sort) → u ≡ t → sum (map size_of (u ∷ ts)) ≡ size_of t + sum (map size_of ts)
    first u t ts e = let k = ap size_of e in grind (arith, common_steps)
drop-size (u ∷ ts) (suc i) t h = drop-size ts i t h

drop-depth : (ts : List Sort) (i : ℕ) (t : Sort) → slice_get ts i ≡ Some t → greatest (map depth_of (drop i ts)) ≡ max (depth_of t) (greatest (map depth_of (drop (suc i) ts)))
drop-depth [] i t h = absurd (some-not-none t (sym h))
drop-depth (u ∷ ts) zero t h = ap (λ s. max (depth_of s) (greatest (map depth_of ts))) (some-inj u t h)
drop-depth (u ∷ ts) (suc i) t h = drop-depth ts i t h

-- what the loop over the arguments keeps
abbrev pub Kept : ℕ → ℕ → ℕ → ℕ → List Sort → Type 0
Kept left budget depth i ts = (left + sum (map size_of ts) + 1 ≡ budget + sum (map size_of (drop i ts))) × (max (depth - 1) (greatest (map depth_of ts)) ≡ max (depth - 1) (greatest (map depth_of (drop i ts))))

pub kept_turn : (left next budget depth i : ℕ) (ts : List Sort) (t : Sort) → Kept left budget depth i ts → slice_get ts i ≡ Some t → ((size_of t ≤ left) × (depth_of t ≤ depth - 1)) × (next ≡ left - size_of t) → Kept next budget depth (i + 1) ts
kept_turn left next budget depth i ts t k h n =
    let a = drop-size ts i t h in
    let b = drop-depth ts i t h in
    let P : ℕ → Type 0 = λ x. Kept next budget depth x ts in
    let p = n.0.0 in
    let q = n.0.1 in
    let r = n.1 in
    let u = k.0 in
    let w = k.1 in
    let e : suc i ≡ i + 1 = omega arith in
    subst P e (omega arith, omega arith)

pub kept_all : (left budget depth i : ℕ) (ts : List Sort) (t : Sort) (c : Sym) → 0 < budget → 0 < depth → Kept left budget depth i ts → length ts ≤ i → t ≡ Con c ts → ((size_of t ≤ budget) × (depth_of t ≤ depth)) × (left ≡ budget - size_of t)
kept_all left budget depth i ts t c b d k out e =
    let s = ap size_of e ∙ size-con c ts in
    let z = ap depth_of e ∙ depth-con c ts in
    let n = nothing_left ts i out in
    let p : sum (map size_of (drop i ts)) ≡ 0 = ap (λ x. sum (map size_of x)) n in
    let q : greatest (map depth_of (drop i ts)) ≡ 0 = ap (λ x. greatest (map depth_of x)) n in
    let u = k.0 in
    let w = k.1 in
    ((omega arith, omega arith), omega arith)
  where
    nothing_left : (ts : List Sort) (i : ℕ) → length ts ≤ i → drop i ts ≡ []
    nothing_left [] zero h = refl
    nothing_left [] (suc i) h = refl
    nothing_left (t ∷ ts) zero h = absurd (omega arith)
    nothing_left (t ∷ ts) (suc i) h = nothing_left ts i (omega arith)

-- an argument that doesn't fit
pub kept_fails : (left budget depth i : ℕ) (ts : List Sort) (t s : Sort) (c : Sym) → Kept left budget depth i ts → slice_get ts i ≡ Some s → ((size_of s ≤ left) × (depth_of s ≤ depth - 1) → ⊥) → t ≡ Con c ts → (size_of t ≤ budget) × (depth_of t ≤ depth) → ⊥
kept_fails left budget depth i ts t s c k h no_fit e fits =
    let x = ap size_of e ∙ size-con c ts in
    let z = ap depth_of e ∙ depth-con c ts in
    let a = drop-size ts i s h in
    let b = drop-depth ts i s h in
    let u = k.0 in
    let w = k.1 in
    let p = fits.0 in
    let q = fits.1 in
    no_fit (omega arith, omega arith)

pub leaf_fits : (budget depth : ℕ) (t : Sort) (v : SVar) → 0 < budget → 0 < depth → t ≡ Var v → ((size_of t ≤ budget) × (depth_of t ≤ depth)) × (budget - 1 ≡ budget - size_of t)
leaf_fits budget depth t v b d e =
    let s = ap size_of e ∙ size-var v in
    let z = ap depth_of e ∙ depth-var v in
    ((omega arith, omega arith), omega arith)

-- the loop over the arguments, where each has a tree
pub turn : (g : Graph) (js : List ℕ) (left next budget depth i j : ℕ) → slice_get js i ≡ Some j → ((t : Sort) → Unfolds g j t → SomeIff (Some next) ((size_of t ≤ left) × (depth_of t ≤ depth - 1)) (left - size_of t)) → ((ts : List Sort) → AllUnfold g js ts → Kept left budget depth i ts) → (ts : List Sort) → AllUnfold g js ts → Kept next budget depth (i + 1) ts
turn g js left next budget depth i j h fits kept ts a =
    let t = tree-at js ts i j a h in
    kept_turn left next budget depth i ts t.0 (kept ts a) t.1.0 (fits t.0 t.1.1)

pub all_turns : (g : Graph) (at : ℕ) (c : Sym) (js : List ℕ) (left budget depth i : ℕ) → head_at g at ≡ Some (Branch c js) → 0 < budget → 0 < depth → length js ≤ i → ((ts : List Sort) → AllUnfold g js ts → Kept left budget depth i ts) → (t : Sort) → Unfolds g at t → ((size_of t ≤ budget) × (depth_of t ≤ depth)) × (left ≡ budget - size_of t)
all_turns g at c js left budget depth i h b d out kept t a =
    let r = branch-tree c js h a in
    let l = trees-length js r.0 r.1.0 in
    kept_all left budget depth i r.0 t c b d (kept r.0 r.1.0) (omega arith) r.1.1

pub turn_fails : (g : Graph) (at : ℕ) (c : Sym) (js : List ℕ) (left budget depth i j : ℕ) → head_at g at ≡ Some (Branch c js) → slice_get js i ≡ Some j → ((t : Sort) → Unfolds g j t → SomeIff None ((size_of t ≤ left) × (depth_of t ≤ depth - 1)) (left - size_of t)) → ((ts : List Sort) → AllUnfold g js ts → Kept left budget depth i ts) → (t : Sort) → Unfolds g at t → (size_of t ≤ budget) × (depth_of t ≤ depth) → ⊥
turn_fails g at c js left budget depth i j h k no_fit kept t a =
    let r = branch-tree c js h a in
    let s = tree-at js r.0 i j r.1.0 k in
    kept_fails left budget depth i r.0 t s.0 c (kept r.0 r.1.0) s.1.0 (no_fit s.0 s.1.1) r.1.1

-- a part is less deep
pub part_depth : (ts : List Sort) (i : ℕ) (t : Sort) → slice_get ts i ≡ Some t → depth_of t ≤ greatest (map depth_of ts)
part_depth [] i t h = absurd (some-not-none t (sym h))
part_depth (u ∷ ts) zero t h = let e = ap depth_of (some-inj u t h) in omega arith
part_depth (u ∷ ts) (suc i) t h = let r = part_depth ts i t h in omega arith

pub child_tree : (g : Graph) (at : ℕ) (c : Sym) (js : List ℕ) (depth i j : ℕ) → head_at g at ≡ Some (Branch c js) → slice_get js i ≡ Some j → (t : Sort) × (Unfolds g at t × (depth_of t ≤ depth)) → (t : Sort) × (Unfolds g j t × (depth_of t ≤ depth - 1))
child_tree g at c js depth i j h k t =
    let r = branch-tree c js h t.1.0 in
    let s = tree-at js r.0 i j r.1.0 k in
    let d = t.1.1 in
    let e = ap depth_of r.1.1 ∙ depth-con c r.0 in
    let p = part_depth r.0 i s.0 s.1.0 in
    (s.0, (s.1.1, omega arith))

-- the node that names the class of one with a tree
pub head_is : (g : Graph) (at : ℕ) (t : Sort) (nodes : List Node) (cls : ℕ) (n : Node) → Unfolds g at t → nodes ≡ g.nodes → cls ≡ class_at g.class at → n ≡ get_or nodes cls n → head_at g at ≡ Some n
head_is g at t nodes cls n a p q e = by a
  where
    same : (m : Node) → head_at g at ≡ Some m → head_at g at ≡ Some n
    same m h =
        let k : slice_get nodes cls ≡ Some m = (λ i. slice_get (p i) (q i)) ∙ h in
        h ∙ ap Some (sym (e ∙ get-or-get nodes cls n m k))

    by : Unfolds g at t → head_at g at ≡ Some n
    by (leaf v h r) = same (Leaf v) h
    by (branch c js ts h b r) = same (Branch c js) h

pub all_snoc : {g : Graph} (js : List ℕ) (ts : List Sort) (j : ℕ) (t : Sort) → AllUnfold g js ts → Unfolds g j t → AllUnfold g (js ++ j ∷ []) (ts ++ t ∷ [])
all_snoc [] [] j t nothing b = further b nothing
all_snoc [] (u ∷ ts) j t a b = elim a [ ]
all_snoc (k ∷ js) [] j t a b = elim a [ ]
all_snoc (k ∷ js) (u ∷ ts) j t (further a as') b = further a (all_snoc js ts j t as' b)
