-- A term of a store with a term in place of a variable.
use Rattle.std.proofs.Common.{◌≡◌, ℕ, zero, suc, ◌+◌, ◌<◌, ◌≤◌, List, [], ◌∷◌, ◌++◌, length, map, take, get_or, refl, sym, ◌∙◌, ap, subst, arith}
use Rattle.std.proofs.lemmas.List.{take_all}
use Rattle.ath_sorts.specs.declared.sorts.Sym.{Sym}
use Rattle.ath_sorts.specs.declared.sorts.Sort.{Sort}
use Rattle.ath_sorts.specs.Signature.{Signature}
use Rattle.ath_trees.specs.declared.limits.TheConstants.{MOST_TERM_NODES, MOST_TERM_LEVELS}
use Rattle.ath_trees.specs.declared.node.Var.{Var as Variable}
use Rattle.ath_trees.specs.declared.node.TermId.{TermId}
use Rattle.ath_trees.specs.Measure.{term_size, terms_size, term_depth, terms_depth, IsSmall}
use Rattle.ath_trees.specs.Substitution.{subst_term, subst_terms}
use Rattle.ath_trees.specs.Tree.{Term, var, app, more, listed, atom}
use Rattle.ath_trees.specs.WellSorted.{HasSort}
use Rattle.ath_trees.proofs.Renaming.{size-term, depth-term}
use Rattle.ath_trees.proofs.Sorting.{has_sort-put}
use Rattle.ath_terms.specs.declared.node.TermNode.{TermNode}
use Rattle.ath_terms.specs.declared.node.TermNode.TheVariants.{Var, App}
use Rattle.ath_terms.specs.Kept.{IsTermKept}
use Rattle.ath_terms.specs.Lists.{AreTerms}
use Rattle.ath_terms.specs.Nodes.{term_tree, IsTermBelow}
use Rattle.ath_terms.specs.SortsIn.{IsSortedIn}
use Rattle.ath_terms.specs.Trees.{Trees, term_at, sort_at, Grows, IsTerm, IsTermOf}
use Rattle.ath_terms.proofs.Measures.{total, most, listed-size, listed-depth}
use Rattle.ath_terms.proofs.Grow.{term_node-kept}
use Rattle.ath_terms.proofs.Parts.{listed-same}
use Rattle.ath_subst.proofs.SameLaws.{Stay, AreSame, same-next, same-end, maps-stay}
use Rattle.ath_subst.proofs.StepLaws.{terms-kept, terms-push, terms-are, map-take-next}

-- the images of the terms of some ids
abbrev pub put_images : Variable → Trees → ℕ → List TermId → List Term
put_images x s by ids = map (λ j. subst_term x (term_at s.terms by) (term_at s.terms j.0)) ids

listed-put : (x : Variable) (b : Term) (ts : List Term) (ids : List TermId) → subst_terms x b (listed (map (λ j. term_at ts j.0) ids)) ≡ listed (map (λ j. subst_term x b (term_at ts j.0)) ids)
listed-put x b ts [] = refl
listed-put x b ts (i ∷ ids) = ap (more (subst_term x b (term_at ts i.0))) (listed-put x b ts ids)

-- a variable becomes the term, or stays
pub var-put : (s : Trees) (x v : Variable) (by t : ℕ) (n m : TermNode) → m ≡ n → m ≡ Var v → term_tree s.terms n ≡ term_at s.terms t → subst_term x (term_at s.terms by) (var v) ≡ subst_term x (term_at s.terms by) (term_at s.terms t)
var-put s x v by t n m e is tree = let q : n ≡ Var v = sym e ∙ is in ap (subst_term x (term_at s.terms by)) (rw q at tree)

-- a list's nodes
member-size : (g : TermId → Term) (ids : List TermId) (i : ℕ) (d : TermId) → i < length ids → term_size (g (get_or ids i d)) ≤ terms_size (listed (map g ids))
member-size g [] i d h = absurd (omega arith)
member-size g (x ∷ xs) zero d h = omega arith
member-size g (x ∷ xs) (suc i) d h = let r = member-size g xs i d (omega arith) in omega arith

member-depth : (g : TermId → Term) (ids : List TermId) (i : ℕ) (d : TermId) → i < length ids → term_depth (g (get_or ids i d)) ≤ terms_depth (listed (map g ids))
member-depth g [] i d h = absurd (omega arith)
member-depth g (x ∷ xs) zero d h = omega arith
member-depth g (x ∷ xs) (suc i) d h = let r = member-depth g xs i d (omega arith) in omega arith

some-size : (t : Term) → 0 < term_size t
some-size (var v) = omega arith
some-size (app f ss ts) = omega arith

count-size : (g : TermId → Term) (ids : List TermId) → length ids ≤ terms_size (listed (map g ids))
count-size g [] = omega arith
count-size g (x ∷ xs) = let r = count-size g xs in let s = some-size (g x) in omega arith

count-map : {A B : Type 0} (f : A → B) (xs : List A) → length (map f xs) ≡ length xs
count-map f [] = refl
count-map f (x ∷ xs) = ap suc (count-map f xs)

terms-count : (s : Trees) (ids : List TermId) (xs : List Term) → AreTerms s ids xs → length ids ≡ length xs
terms-count s [] [] h = refl
terms-count s (i ∷ ids) (x ∷ xs) h = ap suc (terms-count s ids xs h.1)
terms-count s [] (x ∷ xs) h = absurd h
terms-count s (i ∷ ids) [] h = absurd h

-- the image of one
abbrev pub img : Trees → Variable → ℕ → TermId → Term
img s x by j = subst_term x (term_at s.terms by) (term_at s.terms j.0)

-- ---- an application
module _ (old : Trees) (x : Variable) (by t : ℕ) (n m : TermNode) (e : m ≡ n) (tree : term_tree old.terms n ≡ term_at old.terms t) (below : IsTermBelow t n) (f : Sym) (sorts : List Sort) (ids xs : List TermId) (is : m ≡ App f sorts ids) (same : xs ≡ ids) (inside : t < length old.terms) (there : by < length old.terms) where
  abbrev pic : TermId → Term
  pic j = img old x by j

  node_is : n ≡ App f sorts xs
  node_is = rw same (sym e ∙ is)

  whole : subst_term x (term_at old.terms by) (term_at old.terms t) ≡ app f sorts (listed (map pic xs))
  whole = let q = rw node_is at tree in ap (subst_term x (term_at old.terms by)) (sym q) ∙ ap (app f sorts) (listed-put x (term_at old.terms by) old.terms xs)

  pub part-below : (i : ℕ) (d : TermId) → i < length xs → (get_or xs i d).0 < t
  part-below i d l = let q = rw node_is at below in q i d l

  pub size-is : term_size (subst_term x (term_at old.terms by) (term_at old.terms t)) ≡ 1 + total (λ j. term_size (img old x by j)) xs
  size-is = ap term_size whole ∙ ap (λ k. 1 + k) (listed-size pic xs)

  pub depth-is : term_depth (subst_term x (term_at old.terms by) (term_at old.terms t)) ≡ 1 + most (λ j. term_depth (img old x by j)) xs
  depth-is = ap term_depth whole ∙ ap (λ k. 1 + k) (listed-depth pic xs)

  module _ (small : IsSmall (atom (subst_term x (term_at old.terms by) (term_at old.terms t)))) where
    pub part-small : (s : Trees) (i : ℕ) (d : TermId) → i < length xs → Grows old s → IsSmall (atom (subst_term x (term_at s.terms by) (term_at s.terms (get_or xs i d).0)))
    part-small s i d l g =
        let b = part-below i d l in
        let p = g.same_terms by there in
        let q = g.same_terms (get_or xs i d).0 (omega arith) in
        let a = member-size pic xs i d l in
        let c = member-depth pic xs i d l in
        let w = rw whole at small in
        rw (p, q) (record { nodes = omega (arith, w.nodes); levels = omega (arith, w.levels) })

    pub parts-few : (s : Trees) (parts : List TermId) (i : ℕ) → length xs ≤ i → AreTerms s parts (map pic (take i xs)) → length parts ≤ MOST_TERM_NODES
    parts-few s parts i l a =
        let k = terms-count s parts (map pic (take i xs)) a in
        let b = rw (take_all i xs l) at k in
        let c = count-map pic xs in
        let d = count-size pic xs in
        let w = rw whole at small in
        omega (arith, w.nodes)

    pub put-kept : (s : Trees) (parts : List TermId) (i nodes levels : ℕ) → length xs ≤ i → AreTerms s parts (map pic (take i xs)) → nodes ≡ 1 + terms_size (listed (map (λ j. term_at s.terms j.0) parts)) → levels ≡ 1 + terms_depth (listed (map (λ j. term_at s.terms j.0) parts))
        → IsTermKept (term_tree s.terms (App f sorts parts)) (record { nodes = nodes; levels = levels })
    put-kept s parts i nodes levels l a p q =
        let k = terms-are s parts (map pic (take i xs)) a ∙ ap (map pic) (take_all i xs l) in
        let w = rw whole at small in
        rw (p, q, k) (record { nodes = refl; levels = refl; small = w })

  pub put-step : (s u : Trees) (parts : List TermId) (i : ℕ) (d part : TermId) → i < length xs → Grows old s → Grows s u → AreTerms s parts (map pic (take i xs)) → IsTerm u part.0 (subst_term x (term_at s.terms by) (term_at s.terms (get_or xs i d).0)) → AreTerms u (parts ++ part ∷ []) (map pic (take (i + 1) xs))
  put-step s u parts i d part l g k a r =
      let b = part-below i d l in
      let p = g.same_terms by there in
      let q = g.same_terms (get_or xs i d).0 (omega arith) in
      subst (AreTerms u (parts ++ part ∷ [])) (sym (map-take-next pic xs i d l))
      (terms-push u parts (map pic (take i xs)) part (pic (get_or xs i d)) (terms-kept s u parts (map pic (take i xs)) k a) (r.0, r.1 ∙ (λ j. subst_term x (p j) (q j))))

  pub put-tree : (s : Trees) (parts : List TermId) (i : ℕ) → length xs ≤ i → AreTerms s parts (map pic (take i xs)) → term_tree s.terms (App f sorts parts) ≡ subst_term x (term_at old.terms by) (term_at old.terms t)
  put-tree s parts i l a = ap (λ (ts : List Term). app f sorts (listed ts)) (terms-are s parts (map pic (take i xs)) a ∙ ap (map pic) (take_all i xs l)) ∙ sym whole

  -- where the term comes out as it was
  put-stay : subst_term x (term_at old.terms by) (term_at old.terms t) ≡ term_at old.terms t → (d : TermId) (i : ℕ) → Stay pic (λ j. term_at old.terms j.0) xs d i
  put-stay left d i =
      let q : app f sorts (listed (map (λ j. term_at old.terms j.0) xs)) ≡ term_at old.terms t = rw node_is at tree in
      let p : app f sorts (listed (map pic xs)) ≡ app f sorts (listed (map (λ j. term_at old.terms j.0) xs)) = sym whole ∙ left ∙ sym q in
      let r : listed (map pic xs) ≡ listed (map (λ j. term_at old.terms j.0) xs) = cc in
      maps-stay pic (λ j. term_at old.terms j.0) xs d i (listed-same (map pic xs) (map (λ j. term_at old.terms j.0) xs) r)

  pub put-same-next : (s u : Trees) (parts : List TermId) (i : ℕ) (d part : TermId) → i < length xs → (Stay pic (λ j. term_at old.terms j.0) xs d i → AreSame old s parts (take i xs)) → (subst_term x (term_at s.terms by) (term_at s.terms (get_or xs i d).0) ≡ term_at s.terms (get_or xs i d).0 → (part ≡ get_or xs i d) × (u ≡ s))
      → Stay pic (λ j. term_at old.terms j.0) xs d (i + 1) → AreSame old u (parts ++ part ∷ []) (take (i + 1) xs)
  put-same-next s u parts i d part l before here = same-next pic (λ j. term_at old.terms j.0) old s u xs parts i d part l before
      (λ e h. here (subst (λ (z : Trees). subst_term x (term_at z.terms by) (term_at z.terms (get_or xs i d).0) ≡ term_at z.terms (get_or xs i d).0) (sym e) h))

  pub put-same : (s : Trees) (parts : List TermId) (i : ℕ) (d : TermId) → length xs ≤ i → (Stay pic (λ j. term_at old.terms j.0) xs d i → AreSame old s parts (take i xs)) → subst_term x (term_at old.terms by) (term_at old.terms t) ≡ term_at old.terms t → AreSame old s parts xs
  put-same s parts i d l before left = same-end pic (λ j. term_at old.terms j.0) old s xs parts i d l before (put-stay left d (length xs))

  pub put-left : (s : Trees) (parts : List TermId) (r : Sort) → Grows old s → r ≡ sort_at s.sorts t → xs ≡ parts → IsTermOf s t (term_tree s.terms (App f sorts parts)) r
  put-left s parts r g e same' =
      let q : n ≡ App f sorts parts = node_is ∙ ap (App f sorts) same' in
      (rw q at (term_node-kept old s t n g inside below tree), sym e)

-- the new term has the sort of the old one
pub put-has : (sig : Signature) (s : Trees) (x : Variable) (by t : ℕ) (y : Term) (r : Sort) → IsSortedIn sig s → by < length s.terms → t < length s.terms → sort_at s.sorts by ≡ x.sort → y ≡ subst_term x (term_at s.terms by) (term_at s.terms t) → r ≡ sort_at s.sorts t → HasSort sig y r
put-has sig s x by t y r h b l fits e q =
    let a = subst (HasSort sig (term_at s.terms by)) fits (h.terms by b) in
    let c = has_sort-put sig x (term_at s.terms by) (term_at s.terms t) (sort_at s.sorts t) a (h.terms t l) in
    subst (λ (z : Term). HasSort sig z r) (sym e) (subst (HasSort sig (subst_term x (term_at s.terms by) (term_at s.terms t))) (sym q) c)

-- a variable in place of another changes no size
pub renaming-small : (y z : Variable) (b t : Term) → b ≡ var z → term_size t ≤ MOST_TERM_NODES → term_depth t ≤ MOST_TERM_LEVELS → IsSmall (atom (subst_term y b t))
renaming-small y z b t e h k = rw e (record { nodes = omega (arith, size-term y z t); levels = omega (arith, depth-term y z t) })

pub renaming-small-later : (old new : Trees) (y z : Variable) (by t : ℕ) → Grows old new → IsTerm old by (var z) → t < length old.terms → term_size (term_at old.terms t) ≤ MOST_TERM_NODES → term_depth (term_at old.terms t) ≤ MOST_TERM_LEVELS
    → IsSmall (atom (subst_term y (term_at new.terms by) (term_at new.terms t)))
renaming-small-later old new y z by t g there l h k =
    let p = g.same_terms t l in
    let q : term_at new.terms by ≡ var z = g.same_terms by there.0 ∙ there.1 in
    rw p (renaming-small y z (term_at new.terms by) (term_at old.terms t) q h k)

-- what is put in is the variable
pub put-var : (s u : Trees) (y z : Variable) (by r : ℕ) (t : Term) → IsTerm u r (subst_term y (term_at s.terms by) t) → IsTerm s by (var z) → IsTerm u r (subst_term y (var z) t)
put-var s u y z by r t w there = (w.0, w.1 ∙ ap (λ b. subst_term y b t) there.1)

pub var-has : (sig : Signature) (s : Trees) (z : Variable) (by : ℕ) (r : Sort) → IsSortedIn sig s → IsTermOf s by (var z) r → HasSort sig (var z) r
var-has sig s z by r h there = subst (λ (t : Term). HasSort sig t r) there.0.1 (subst (HasSort sig (term_at s.terms by)) there.1 (h.terms by there.0.0))
