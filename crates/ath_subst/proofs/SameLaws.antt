-- Walks over trees that come out as they were: their parts keep their ids, and nothing is added to the store.
use Rattle.std.proofs.Common.{◌≡◌, ℕ, zero, suc, ◌+◌, ◌<◌, ◌≤◌, List, [], ◌∷◌, ◌++◌, length, map, take, get_or, sym, ◌∙◌, ap, arith}
use Rattle.std.proofs.lemmas.List.{take_all}
use Rattle.ath_sorts.specs.declared.sorts.Sym.{Sym}
use Rattle.ath_sorts.specs.declared.sorts.SVar.{SVar}
use Rattle.ath_sorts.specs.declared.sorts.Sort.{Sort}
use Rattle.ath_sorts.specs.Signature.{Signature}
use Rattle.ath_sorts.specs.Sorts.{apply_to}
use Rattle.ath_trees.specs.declared.node.TermId.{TermId}
use Rattle.ath_trees.specs.Tree.{Term, app, listed}
use Rattle.ath_trees.specs.SortsIn.{sort_in}
use Rattle.ath_trees.specs.Under.{term_under, terms_under}
use Rattle.ath_trees.proofs.UnderLaws.{sort_in-is, sort_in-under}
use Rattle.ath_terms.specs.declared.node.TermNode.{TermNode}
use Rattle.ath_terms.specs.declared.node.TermNode.TheVariants.{Var, App}
use Rattle.ath_terms.specs.Nodes.{term_tree}
use Rattle.ath_terms.specs.SortsIn.{IsSortedIn}
use Rattle.ath_terms.specs.Trees.{Trees, term_at, sort_at}
use Rattle.ath_terms.proofs.Parts.{listed-same}
use Rattle.ath_terms.proofs.VariableLaws.{next}
use Rattle.ath_subst.specs.Under.{node_under}

-- the first parts come out as they were
abbrev pub Stay : {I X : Type 0} → (I → X) → (I → X) → List I → I → ℕ → Type 0
Stay f g ids d i = (k : ℕ) → k < i → k < length ids → f (get_or ids k d) ≡ g (get_or ids k d)

-- these are their ids, in the store as it was
abbrev pub AreSame : {I : Type 0} → Trees → Trees → List I → List I → Type 0
AreSame old new parts ids = (parts ≡ ids) × (new ≡ old)

pub same-next : {I X : Type 0} (f g : I → X) (old s u : Trees) (ids parts : List I) (i : ℕ) (d part : I) → i < length ids → (Stay f g ids d i → AreSame old s parts (take i ids)) → (s ≡ old → f (get_or ids i d) ≡ g (get_or ids i d) → (part ≡ get_or ids i d) × (u ≡ s))
    → Stay f g ids d (i + 1) → AreSame old u (parts ++ part ∷ []) (take (i + 1) ids)
same-next f g old s u ids parts i d part l before here stay =
    let b = before (λ k h m. stay k (omega arith) m) in
    let p = here b.1 (stay i (omega arith) l) in
    let x = b.0 in
    let y = p.0 in
    ((λ j. x j ++ y j ∷ []) ∙ sym (next ids i d l), p.1 ∙ b.1)

pub same-end : {I X : Type 0} (f g : I → X) (old s : Trees) (ids parts : List I) (i : ℕ) (d : I) → length ids ≤ i → (Stay f g ids d i → AreSame old s parts (take i ids)) → Stay f g ids d (length ids) → AreSame old s parts ids
same-end f g old s ids parts i d l before stay = let b = before (λ k h m. stay k m m) in (b.0 ∙ take_all i ids l, b.1)

pub maps-stay : {I X : Type 0} (f g : I → X) (ids : List I) (d : I) (i : ℕ) → map f ids ≡ map g ids → Stay f g ids d i
maps-stay f g [] d i e k h l = absurd (omega arith)
maps-stay f g (x ∷ xs) d i e zero h l = cc
maps-stay f g (x ∷ xs) d i e (suc k) h l = let r : map f xs ≡ map g xs = cc in maps-stay f g xs d i r k (omega arith) (omega arith)

-- ---- terms under a sort substitution
node-stays : (f : SVar → Sort) (ts : List Term) (n : TermNode) → term_under f (term_tree ts n) ≡ term_tree ts n → node_under f n ≡ n
node-stays f ts (Var v) e = cc
node-stays f ts (App g ss ids) e =
    let q : app g (map (apply_to f) ss) (terms_under f (listed (map (λ j. term_at ts j.0) ids))) ≡ app g ss (listed (map (λ j. term_at ts j.0) ids)) = e in
    let r : map (apply_to f) ss ≡ ss = cc in
    ap (λ (l : List Sort). App g l ids) r

module _ (old : Trees) (f : SVar → Sort) (n m : TermNode) (t : ℕ) (e : m ≡ node_under f n) (tree : term_tree old.terms n ≡ term_at old.terms t) (left : term_under f (term_at old.terms t) ≡ term_at old.terms t) where
  tree-stays : term_under f (term_tree old.terms n) ≡ term_tree old.terms n
  tree-stays = ap (term_under f) tree ∙ left ∙ sym tree

  pub node-same : n ≡ m
  node-same = sym (node-stays f old.terms n tree-stays) ∙ sym e

  pub args-stay : (g : Sym) (sorts : List Sort) (ids xs : List TermId) (d : TermId) (i : ℕ) → m ≡ App g sorts ids → xs ≡ ids → term_under f (term_tree old.terms n) ≡ app g sorts (listed (map (λ j. term_under f (term_at old.terms j.0)) ids)) → Stay (λ j. term_under f (term_at old.terms j.0)) (λ j. term_at old.terms j.0) xs d i
  args-stay g sorts ids xs d i is same e' =
      let q : n ≡ App g sorts ids = node-same ∙ is in
      let p : app g sorts (listed (map (λ j. term_under f (term_at old.terms j.0)) ids)) ≡ app g sorts (listed (map (λ j. term_at old.terms j.0) ids)) = sym e' ∙ tree-stays ∙ ap (term_tree old.terms) q in
      let r : listed (map (λ j. term_under f (term_at old.terms j.0)) ids) ≡ listed (map (λ j. term_at old.terms j.0) ids) = cc in
      rw same (maps-stay (λ j. term_under f (term_at old.terms j.0)) (λ j. term_at old.terms j.0) ids d i (listed-same _ _ r))

  -- the kept sort of a well-sorted term stays too
  pub sort-stays : (sig : Signature) → IsSortedIn sig old → t < length old.terms → apply_to f (sort_at old.sorts t) ≡ sort_at old.sorts t
  sort-stays sig h l =
      let has = h.terms t l in
      sym (sort_in-under sig f (term_at old.terms t) (sort_at old.sorts t) h.valid has) ∙ (λ i. sort_in sig (left i)) ∙ sort_in-is sig (term_at old.terms t) (sort_at old.sorts t) has
