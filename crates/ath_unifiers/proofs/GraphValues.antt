-- The sorts of nodes.
use Rattle.std.proofs.Common.{◌≡◌, ℕ, suc, ◌+◌, ◌<◌, List, [], ◌∷◌, ◌++◌, length, map, take, drop, slice_get, Some, unwrap_or, refl, sym, ◌∙◌, ap, arith, append_assoc}
use Rattle.std.specs.List.{AllByRecursion}
use Rattle.ath_unifiers.specs.declared.nodes.Node.{Node}
use Rattle.ath_unifiers.specs.declared.nodes.Node.TheVariants.{Leaf, Branch}
use Rattle.ath_sorts.specs.declared.sorts.SVar.{SVar}
use Rattle.ath_sorts.specs.declared.sorts.Sort.{Sort, Con}
use Rattle.ath_sorts.specs.declared.sorts.Sym.{Sym}
use Rattle.ath_unifiers.specs.Graphs.{node_value, sort_at, values_from, value}
use Rattle.ath_sorts.proofs.Gets.{get-left, get-seam, split-at, length-snoc, map-same, all-weaker}

module _ (f : SVar → Sort) where
  values-more : (ss : List Sort) (ns ms : List Node) → values_from f ss (ns ++ ms) ≡ values_from f (values_from f ss ns) ms
  unfolding values_from
  values-more ss [] ms = refl
  values-more ss (n ∷ ns) ms = values-more (ss ++ node_value f (sort_at ss) n ∷ []) ns ms

  values-length : (ss : List Sort) (ns : List Node) → length (values_from f ss ns) ≡ length ss + length ns
  unfolding values_from
  values-length ss [] = omega arith
  values-length ss (n ∷ ns) =
      let r = values-length (ss ++ node_value f (sort_at ss) n ∷ []) ns in
      let k = length-snoc ss (node_value f (sort_at ss) n) in
      omega arith

  values-kept : (ss : List Sort) (ns : List Node) (i : ℕ) → i < length ss → sort_at (values_from f ss ns) i ≡ sort_at ss i
  unfolding values_from
  values-kept ss [] i h = refl
  values-kept ss (n ∷ ns) i h =
      let s = node_value f (sort_at ss) n in
      let k = length-snoc ss s in
      values-kept (ss ++ s ∷ []) ns i (omega arith) ∙ ap (λ o. unwrap_or o (sort_at [] 0)) (get-left ss (s ∷ []) i h)

  values-one : (ss : List Sort) (n : Node) → values_from f ss (n ∷ []) ≡ ss ++ node_value f (sort_at ss) n ∷ []
  unfolding values_from
  values-one ss n = refl

  -- nodes behind it don't change the sort of a node
  pub value-kept : (ns ms : List Node) (i : ℕ) → i < length ns → value f (ns ++ ms) i ≡ value f ns i
  value-kept ns ms i h =
      let l = values-length [] ns in
      ap (λ ss. sort_at ss i) (values-more [] ns ms) ∙ values-kept (values_from f [] ns) ms i (omega arith)

  value-last : (ns : List Node) (n : Node) → value f (ns ++ n ∷ []) (length ns) ≡ node_value f (value f ns) n
  value-last ns n =
      let ss = values_from f [] ns in
      let l : length ss ≡ length ns = values-length [] ns ∙ omega arith in
      ap (λ r. sort_at r (length ns)) (values-more [] ns (n ∷ []) ∙ values-one ss n) ∙ ap (λ k. sort_at (ss ++ node_value f (sort_at ss) n ∷ []) k) (sym l) ∙ ap (λ o. unwrap_or o (sort_at [] 0)) (get-seam ss (node_value f (sort_at ss) n) [])

  -- the sort of a node is made of the sorts of its arguments
  pub value-at : (ns : List Node) (i : ℕ) (n : Node) → slice_get ns i ≡ Some n → value f ns i ≡ node_value f (value f (take i ns)) n
  value-at ns i n h =
      let p = split-at ns i n h in
      let front = take i ns in
      let back = drop (suc i) ns in
      let l = length-snoc front n in
      let e : ns ≡ (front ++ n ∷ []) ++ back = p.0 ∙ sym (append_assoc front (n ∷ []) back) in
      ap (λ r. value f r i) e ∙ value-kept (front ++ n ∷ []) back i (let q = p.1 in omega arith) ∙ ap (value f (front ++ n ∷ [])) (sym p.1) ∙ value-last front n

  pub value-leaf : (ns : List Node) (i : ℕ) (v : SVar) → slice_get ns i ≡ Some (Leaf v) → value f ns i ≡ f v
  value-leaf ns i v h = value-at ns i (Leaf v) h

  pub value-branch : (ns : List Node) (i : ℕ) (c : Sym) (js : List ℕ) → slice_get ns i ≡ Some (Branch c js) → AllByRecursion (λ j. j < i) js → value f ns i ≡ Con c (map (value f ns) js)
  value-branch ns i c js h below =
      let p = split-at ns i (Branch c js) h in
      let front = take i ns in
      let same : (j : ℕ) → j < i → value f front j ≡ value f ns j = λ j k. sym (ap (λ r. value f r j) p.0 ∙ value-kept front (Branch c js ∷ drop (suc i) ns) j (let q = p.1 in omega arith)) in
      value-at ns i (Branch c js) h ∙ ap (Con c) (map-same (value f front) (value f ns) js (all-weaker (λ j. j < i) (λ j. value f front j ≡ value f ns j) js same below))

  -- the sort of a node that is added last
  pub value-new-leaf : (ns : List Node) (v : SVar) → value f (ns ++ Leaf v ∷ []) (length ns) ≡ f v
  value-new-leaf ns v = value-last ns (Leaf v)

  pub value-new-branch : (ns : List Node) (c : Sym) (js : List ℕ) → value f (ns ++ Branch c js ∷ []) (length ns) ≡ Con c (map (value f ns) js)
  value-new-branch ns c js = value-last ns (Branch c js)
