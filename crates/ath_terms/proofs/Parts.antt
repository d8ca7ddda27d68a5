-- When the trees of two nodes are one, so are their parts.
use Rattle.std.proofs.Common.{◌≡◌, ℕ, zero, suc, ◌<◌, ◌≤◌, ◌+◌, List, [], ◌∷◌, length, map, take, get_or, refl, sym, ◌∙◌, ap, arith}
use Rattle.std.proofs.lemmas.Grind.{common_steps}
use Rattle.ath_sorts.specs.declared.sorts.Sym.{Sym}
use Rattle.ath_sorts.specs.declared.sorts.Sort.{Sort}
use Rattle.ath_trees.specs.declared.node.TermId.{TermId}
use Rattle.ath_terms.specs.declared.node.TermNode.{TermNode}
use Rattle.ath_terms.specs.declared.node.TermNode.TheVariants.{App}
use Rattle.ath_trees.specs.Tree.{Term, app, listed}
use Rattle.ath_terms.specs.Trees.{term_at}
use Rattle.ath_terms.specs.Nodes.{term_tree}

take-all : {A : Type 0} (xs : List A) (n : ℕ) → length xs ≤ n → take n xs ≡ xs
take-all xs n e = grind (arith, common_steps)

module _ {A B : Type 0} (f : A → B) where
  pub map-lengths : (xs ys : List A) → map f xs ≡ map f ys → length xs ≡ length ys
  map-lengths [] [] e = refl
  map-lengths (x ∷ xs) (y ∷ ys) e = let r : map f xs ≡ map f ys = cc in let q = map-lengths xs ys r in omega arith
  map-lengths [] (y ∷ ys) e = absurd (cc)
  map-lengths (x ∷ xs) [] e = absurd (cc)

  pub map-at : (xs ys : List A) (i : ℕ) (a b : A) → i < length xs → i < length ys → map f xs ≡ map f ys → f (get_or xs i a) ≡ f (get_or ys i b)
  map-at [] ys i a b h k e = absurd (omega arith)
  map-at (x ∷ xs) [] i a b h k e = absurd (omega arith)
  map-at (x ∷ xs) (y ∷ ys) zero a b h k e = cc
  map-at (x ∷ xs) (y ∷ ys) (suc i) a b h k e = let r : map f xs ≡ map f ys = cc in map-at xs ys i a b (omega arith) (omega arith) r

  -- one member more
  pub map-take-more : (xs ys : List A) (i : ℕ) (a b : A) → i < length xs → i < length ys → map f (take i xs) ≡ map f (take i ys) → f (get_or xs i a) ≡ f (get_or ys i b) → map f (take (i + 1) xs) ≡ map f (take (i + 1) ys)
  map-take-more [] ys i a b h k e g = absurd (omega arith)
  map-take-more (x ∷ xs) [] i a b h k e g = absurd (omega arith)
  map-take-more (x ∷ xs) (y ∷ ys) zero a b h k e g = ap (λ z. z ∷ []) g
  map-take-more (x ∷ xs) (y ∷ ys) (suc i) a b h k e g =
      let r : map f (take i xs) ≡ map f (take i ys) = cc in
      let q : f x ≡ f y = cc in
      let s : suc i + 1 ≡ suc (i + 1) = omega arith in
      let t = map-take-more xs ys i a b (omega arith) (omega arith) r g in
      rw s (λ j. q j ∷ t j)

  -- every member
  pub map-take-all : (xs ys : List A) (n : ℕ) → length xs ≤ n → length ys ≤ n → map f (take n xs) ≡ map f (take n ys) → map f xs ≡ map f ys
  map-take-all xs ys n h k e = let p = take-all xs n h in let q = take-all ys n k in rw (p, q) at e

pub listed-same : (ts us : List Term) → listed ts ≡ listed us → ts ≡ us
listed-same [] [] e = refl
listed-same (t ∷ ts) (u ∷ us) e = let r : listed ts ≡ listed us = cc in let q : t ≡ u = cc in let s = listed-same ts us r in λ i. q i ∷ s i
listed-same [] (u ∷ us) e = absurd (cc)
listed-same (t ∷ ts) [] e = absurd (cc)

pub record SameApp (ts : List Term) (f g : Sym) (ss rs : List Sort) (xs ys : List TermId) : Type 0 where
  pub symbols : f ≡ g
  pub sorts : ss ≡ rs
  pub args : map (λ i. term_at ts i.0) xs ≡ map (λ i. term_at ts i.0) ys

module _ (ts : List Term) (s t : ℕ) (m n : TermNode) (f g : Sym) (ss rs : List Sort) (xs ys : List TermId) (left : term_tree ts m ≡ term_at ts s) (right : term_tree ts n ≡ term_at ts t) (is : m ≡ App f ss xs) (js : n ≡ App g rs ys) where
  pub same_apps : term_at ts s ≡ term_at ts t → SameApp ts f g ss rs xs ys
  same_apps e =
      let p = rw is at left in
      let q = rw js at right in
      let r : app f ss (listed (map (λ i. term_at ts i.0) xs)) ≡ app g rs (listed (map (λ i. term_at ts i.0) ys)) = p ∙ e ∙ sym q in
      let k : listed (map (λ i. term_at ts i.0) xs) ≡ listed (map (λ i. term_at ts i.0) ys) = cc in
      record { symbols = cc; sorts = cc; args = listed-same (map (λ i. term_at ts i.0) xs) (map (λ i. term_at ts i.0) ys) k }

  pub apps_same : f ≡ g → ss ≡ rs → map (λ i. term_at ts i.0) xs ≡ map (λ i. term_at ts i.0) ys → term_at ts s ≡ term_at ts t
  apps_same a b c =
      let p = rw is at left in
      let q = rw js at right in
      sym p ∙ (λ i. app (a i) (b i) (listed (c i))) ∙ q
