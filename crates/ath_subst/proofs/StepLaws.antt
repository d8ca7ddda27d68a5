-- A term of a store under a substitution, one node later.
use Rattle.std.proofs.Common.{◌≡◌, ℕ, zero, suc, ◌+◌, ◌<◌, ◌≤◌, true, List, [], ◌∷◌, ◌++◌, length, map, take, get_or, refl, sym, ◌∙◌, ap, subst, arith}
use Rattle.std.specs.List.{All}
use Rattle.std.proofs.lemmas.List.{take_all}
use Rattle.ath_sorts.specs.declared.sorts.Sym.{Sym}
use Rattle.ath_sorts.specs.declared.sorts.SVar.{SVar}
use Rattle.ath_sorts.specs.declared.sorts.Sort.{Sort}
use Rattle.ath_sorts.specs.Signature.{Signature}
use Rattle.ath_sorts.specs.Sorts.{apply_to}
use Rattle.ath_trees.specs.declared.node.Var.{Var as Variable}
use Rattle.ath_trees.specs.declared.node.TermId.{TermId}
use Rattle.ath_terms.specs.declared.node.TermNode.{TermNode}
use Rattle.ath_terms.specs.declared.node.TermNode.TheVariants.{Var, App}
use Rattle.ath_trees.specs.Tree.{Term, app, listed}
use Rattle.ath_terms.specs.Trees.{Trees, term_at, sort_at, Grows, IsTerm, IsTermOf}
use Rattle.ath_terms.specs.Lists.{AreTerms}
use Rattle.ath_terms.specs.Nodes.{term_tree, IsTermBelow}
use Rattle.ath_terms.specs.SortsIn.{IsSortedIn}
use Rattle.ath_trees.specs.Under.{term_under}
use Rattle.ath_subst.specs.Under.{node_under}
use Rattle.ath_trees.specs.WellSorted.{is_valid_sort, HasSort}
use Rattle.ath_terms.proofs.Grow.{term-kept, term_node-kept}
use Rattle.ath_subst.proofs.SameLaws.{Stay, AreSame, same-next, same-end, args-stay}
use Rattle.ath_trees.proofs.UnderLaws.{listed-under, has_sort-under}

-- the trees of some terms under a substitution
abbrev pub images_of : Trees → (SVar → Sort) → List TermId → List Term
images_of s f ids = map (λ j. term_under f (term_at s.terms j.0)) ids

pub terms-kept : (s u : Trees) (ids : List TermId) (xs : List Term) → Grows s u → AreTerms s ids xs → AreTerms u ids xs
terms-kept s u [] [] g h = tt
terms-kept s u (i ∷ ids) (x ∷ xs) g h = (term-kept s u i.0 x g h.0, terms-kept s u ids xs g h.1)
terms-kept s u [] (x ∷ xs) g h = h
terms-kept s u (i ∷ ids) [] g h = h

pub terms-push : (u : Trees) (ids : List TermId) (xs : List Term) (i : TermId) (x : Term) → AreTerms u ids xs → IsTerm u i.0 x → AreTerms u (ids ++ i ∷ []) (xs ++ x ∷ [])
terms-push u [] [] i x h k = (k, tt)
terms-push u (j ∷ ids) (y ∷ xs) i x h k = (h.0, terms-push u ids xs i x h.1 k)
terms-push u [] (y ∷ xs) i x h k = absurd h
terms-push u (j ∷ ids) [] i x h k = absurd h

pub map-take-next : {A B : Type 0} (f : A → B) (xs : List A) (i : ℕ) (d : A) → i < length xs → map f (take (i + 1) xs) ≡ map f (take i xs) ++ f (get_or xs i d) ∷ []
map-take-next f [] i d h = absurd (omega arith)
map-take-next f (x ∷ xs) zero d h = refl
map-take-next f (x ∷ xs) (suc i) d h = let s : suc i + 1 ≡ suc (i + 1) = omega arith in rw s (ap (λ l. f x ∷ l) (map-take-next f xs i d (omega arith)))

-- the terms that were built so far, and one more
pub images-next : (old s u : Trees) (f : SVar → Sort) (ids parts : List TermId) (i : ℕ) (d part : TermId) → i < length ids → Grows s u → AreTerms s parts (images_of old f (take i ids)) → IsTerm u part.0 (term_under f (term_at old.terms (get_or ids i d).0)) → AreTerms u (parts ++ part ∷ []) (images_of old f (take (i + 1) ids))
images-next old s u f ids parts i d part h g a k =
    subst (AreTerms u (parts ++ part ∷ [])) (sym (map-take-next (λ (j : TermId). term_under f (term_at old.terms j.0)) ids i d h))
    (terms-push u parts (images_of old f (take i ids)) part (term_under f (term_at old.terms (get_or ids i d).0)) (terms-kept s u parts (images_of old f (take i ids)) g a) k)

pub terms-below : (s : Trees) (ids : List TermId) (xs : List Term) → AreTerms s ids xs → All (λ i. i.0 < length s.terms) ids
terms-below s [] xs h k d l = absurd (omega arith)
terms-below s (i ∷ ids) (x ∷ xs) h zero d l = h.0.0
terms-below s (i ∷ ids) (x ∷ xs) h (suc k) d l = terms-below s ids xs h.1 k d (omega arith)
terms-below s (i ∷ ids) [] h k d l = absurd h

pub terms-are : (s : Trees) (ids : List TermId) (xs : List Term) → AreTerms s ids xs → map (λ i. term_at s.terms i.0) ids ≡ xs
terms-are s [] [] h = refl
terms-are s (i ∷ ids) (x ∷ xs) h = let p = h.0.1 in let q = terms-are s ids xs h.1 in λ j. p j ∷ q j
terms-are s [] (x ∷ xs) h = absurd h
terms-are s (i ∷ ids) [] h = absurd h

-- what the node with its sorts replaced is
node_cases-var : (f : SVar → Sort) (n m : TermNode) (v : Variable) → m ≡ node_under f n → m ≡ Var v → (ts us : List Term) → term_tree us (Var v) ≡ term_under f (term_tree ts n)
node_cases-var f (Var w) m v e is ts us = ap (term_tree us) (sym is ∙ e)
node_cases-var f (App g ss ids) m v e is ts us = absurd (cc)

pub map-through : (f : SVar → Sort) (ts : List Term) (ids : List TermId) → map (term_under f) (map (λ i. term_at ts i.0) ids) ≡ map (λ i. term_under f (term_at ts i.0)) ids
map-through f ts [] = refl
map-through f ts (i ∷ ids) = ap (λ l. term_under f (term_at ts i.0) ∷ l) (map-through f ts ids)

pub record IsApp (f : SVar → Sort) (ts : List Term) (n : TermNode) (g : Sym) (sorts : List Sort) (ids : List TermId) : Type 0 where
  pub tree : term_under f (term_tree ts n) ≡ app g sorts (listed (map (λ i. term_under f (term_at ts i.0)) ids))
  pub below : (k : ℕ) → IsTermBelow k n → All (λ i. i.0 < k) ids

pub node_cases-app : (f : SVar → Sort) (n m : TermNode) (g : Sym) (sorts : List Sort) (ids : List TermId) → m ≡ node_under f n → m ≡ App g sorts ids → (ts : List Term) → IsApp f ts n g sorts ids
node_cases-app f (Var w) m g sorts ids e is ts = absurd (cc)
node_cases-app f (App h ss js) m g sorts ids e is ts =
    let q = sym is ∙ e in
    let a : g ≡ h = cc in
    let b : sorts ≡ map (apply_to f) ss = cc in
    let c : ids ≡ js = cc in
    record {
      tree = (λ i. app (sym a i) (sym b i) (listed-under f (map (λ j. term_at ts j.0) js) i)) ∙ ap (λ l. app g sorts (listed l)) (map-through f ts js ∙ ap (map (λ i. term_under f (term_at ts i.0))) (sym c));
      below = λ k l. rw c l;
    }

module _ (old : Trees) (f : SVar → Sort) (n m : TermNode) (g : Sym) (sorts : List Sort) (ids xs : List TermId) (t : ℕ) (e : m ≡ node_under f n) (is : m ≡ App g sorts ids) (same : xs ≡ ids) where
  the_app : IsApp f old.terms n g sorts ids
  the_app = node_cases-app f n m g sorts ids e is old.terms

  part-inside : IsTermBelow t n → t < length old.terms → (i : ℕ) (d : TermId) → i < length xs → (get_or xs i d).0 < length old.terms
  part-inside b h i d l =
      let below = the_app.below t b in
      let k : i < length ids = rw same at l in
      let q = below i d k in
      rw same (omega arith)

  -- one part more
  pub images-step : (s u : Trees) (parts : List TermId) (i : ℕ) (d part : TermId) → IsTermBelow t n → t < length old.terms → i < length xs → Grows old s → Grows s u → AreTerms s parts (images_of old f (take i xs)) → IsTerm u part.0 (term_under f (term_at s.terms (get_or xs i d).0)) → AreTerms u (parts ++ part ∷ []) (images_of old f (take (i + 1) xs))
  images-step s u parts i d part b h l k grows a r =
      images-next old s u f xs parts i d part l grows a (r.0, r.1 ∙ ap (term_under f) (k.same_terms (get_or xs i d).0 (part-inside b h i d l)))

  -- the node with all of them
  pub app-tree : (s : Trees) (parts : List TermId) (i : ℕ) → term_tree old.terms n ≡ term_at old.terms t → length xs ≤ i → AreTerms s parts (images_of old f (take i xs)) → term_tree s.terms (App g sorts parts) ≡ term_under f (term_at old.terms t)
  app-tree s parts i tree l a =
      ap (λ (ts : List Term). app g sorts (listed ts)) (terms-are s parts (images_of old f (take i xs)) a ∙ ap (images_of old f) (take_all i xs l ∙ same))
      ∙ sym the_app.tree ∙ ap (term_under f) tree

  -- where the term comes out as it was
  pub images-same-next : (s u : Trees) (parts : List TermId) (i : ℕ) (d part : TermId) → i < length xs → (Stay (λ j. term_under f (term_at old.terms j.0)) (λ j. term_at old.terms j.0) xs d i → AreSame old s parts (take i xs))
      → (s ≡ old → term_under f (term_at s.terms (get_or xs i d).0) ≡ term_at s.terms (get_or xs i d).0 → (part ≡ get_or xs i d) × (u ≡ s)) → Stay (λ j. term_under f (term_at old.terms j.0)) (λ j. term_at old.terms j.0) xs d (i + 1) → AreSame old u (parts ++ part ∷ []) (take (i + 1) xs)
  images-same-next s u parts i d part l before here = same-next (λ j. term_under f (term_at old.terms j.0)) (λ j. term_at old.terms j.0) old s u xs parts i d part l before
      (λ q h. here q (subst (λ (z : Trees). term_under f (term_at z.terms (get_or xs i d).0) ≡ term_at z.terms (get_or xs i d).0) (sym q) h))

  pub images-same : (s : Trees) (parts : List TermId) (i : ℕ) (d : TermId) → length xs ≤ i → (Stay (λ j. term_under f (term_at old.terms j.0)) (λ j. term_at old.terms j.0) xs d i → AreSame old s parts (take i xs)) → term_tree old.terms n ≡ term_at old.terms t → term_under f (term_at old.terms t) ≡ term_at old.terms t → AreSame old s parts xs
  images-same s parts i d l before tree left = same-end (λ j. term_under f (term_at old.terms j.0)) (λ j. term_at old.terms j.0) old s xs parts i d l before (args-stay old f n m t e tree left g sorts ids xs d (length xs) is same the_app.tree)

  pub app-left : (s : Trees) (parts : List TermId) (r : Sort) → Grows old s → t < length old.terms → IsTermBelow t n → term_tree old.terms n ≡ term_at old.terms t → r ≡ sort_at old.sorts t → n ≡ m → xs ≡ parts → IsTermOf s t (term_tree s.terms (App g sorts parts)) r
  app-left s parts r k inside below tree q one same' =
      let a : n ≡ App g sorts parts = one ∙ is ∙ ap (App g sorts) (sym same ∙ same') in
      (rw a at (term_node-kept old s t n k inside below tree), k.same_sorts t inside ∙ sym q)

has_same : (sig : Signature) (x y : Term) (r q : Sort) → x ≡ y → r ≡ q → HasSort sig y q → HasSort sig x r
has_same sig x y r q p e h = rw (p, e) h

-- the new node has the sort that it is given
pub node_has : (sig : Signature) (s : Trees) (f : SVar → Sort) (t : ℕ) (x : Term) (r : Sort) → IsSortedIn sig s → ((v : SVar) → is_valid_sort sig (f v) ≡ true) → t < length s.terms → x ≡ term_under f (term_at s.terms t) → r ≡ apply_to f (sort_at s.sorts t) → HasSort sig x r
node_has sig s f t x r h ok l p e = has_same sig x (term_under f (term_at s.terms t)) r (apply_to f (sort_at s.sorts t)) p e (has_sort-under sig h.valid f ok (h.terms t l))

pub var-tree : (old : Trees) (f : SVar → Sort) (n m : TermNode) (v : Variable) (t : ℕ) → m ≡ node_under f n → m ≡ Var v → term_tree old.terms n ≡ term_at old.terms t → term_tree old.terms (Var v) ≡ term_under f (term_at old.terms t)
var-tree old f n m v t e is tree = node_cases-var f n m v e is old.terms old.terms ∙ ap (term_under f) tree
