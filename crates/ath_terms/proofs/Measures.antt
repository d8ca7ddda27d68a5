-- Sums and greatest members, and the nodes and levels of an application.
use Rattle.std.proofs.Common.{◌≡◌, ℕ, zero, suc, ◌+◌, ◌<◌, ◌≤◌, max, List, [], ◌∷◌, length, map, take, get_or, refl, ap, arith}
use Rattle.std.proofs.lemmas.Grind.{common_steps}
use Rattle.ath_sorts.specs.declared.sorts.Sym.{Sym}
use Rattle.ath_sorts.specs.declared.sorts.Sort.{Sort}
use Rattle.ath_trees.specs.declared.node.TermId.{TermId}
use Rattle.ath_terms.specs.declared.node.TermNode.{TermNode}
use Rattle.ath_terms.specs.declared.node.TermNode.TheVariants.{App}
use Rattle.ath_trees.specs.Tree.{Term, listed}
use Rattle.ath_terms.specs.Trees.{term_at}
use Rattle.ath_terms.specs.Nodes.{term_tree, IsTermBelow}
use Rattle.ath_trees.specs.Measure.{term_size, terms_size, term_depth, terms_depth}

abbrev pub total : {A : Type 0} → (A → ℕ) → List A → ℕ
total f [] = 0
total f (x ∷ xs) = f x + total f xs

abbrev pub most : {A : Type 0} → (A → ℕ) → List A → ℕ
most f [] = 0
most f (x ∷ xs) = max (f x) (most f xs)

take-all : {A : Type 0} (xs : List A) (n : ℕ) → length xs ≤ n → take n xs ≡ xs
take-all xs n e = grind (arith, common_steps)

module _ {A : Type 0} (f : A → ℕ) where
  pub total-next : (xs : List A) (i : ℕ) (d : A) → i < length xs → total f (take (i + 1) xs) ≡ total f (take i xs) + f (get_or xs i d)
  total-next [] i d h = absurd (omega arith)
  total-next (x ∷ xs) zero d h = omega arith
  total-next (x ∷ xs) (suc i) d h =
      let s : suc i + 1 ≡ suc (i + 1) = omega arith in
      let t = total-next xs i d (omega arith) in
      rw s (omega (arith, t))

  pub total-within : (xs : List A) (i : ℕ) (d : A) → i < length xs → total f (take i xs) + f (get_or xs i d) ≤ total f xs
  total-within [] i d h = absurd (omega arith)
  total-within (x ∷ xs) zero d h = omega arith
  total-within (x ∷ xs) (suc i) d h = let t = total-within xs i d (omega arith) in omega (arith, t)

  pub total-all : (xs : List A) (n : ℕ) → length xs ≤ n → total f (take n xs) ≡ total f xs
  total-all xs n h = ap (total f) (take-all xs n h)

  pub most-next : (xs : List A) (i : ℕ) (d : A) → i < length xs → most f (take (i + 1) xs) ≡ max (most f (take i xs)) (f (get_or xs i d))
  most-next [] i d h = absurd (omega arith)
  most-next (x ∷ xs) zero d h = omega arith
  most-next (x ∷ xs) (suc i) d h =
      let s : suc i + 1 ≡ suc (i + 1) = omega arith in
      let t = most-next xs i d (omega arith) in
      rw s (omega (arith, t))

  pub most-within : (xs : List A) (i : ℕ) (d : A) → i < length xs → f (get_or xs i d) ≤ most f xs
  most-within [] i d h = absurd (omega arith)
  most-within (x ∷ xs) zero d h = omega arith
  most-within (x ∷ xs) (suc i) d h = let t = most-within xs i d (omega arith) in omega (arith, t)

  pub most-all : (xs : List A) (n : ℕ) → length xs ≤ n → most f (take n xs) ≡ most f xs
  most-all xs n h = ap (most f) (take-all xs n h)

pub listed-size : {A : Type 0} (g : A → Term) (xs : List A) → terms_size (listed (map g xs)) ≡ total (λ x. term_size (g x)) xs
listed-size g [] = refl
listed-size g (x ∷ xs) = let t = listed-size g xs in omega (arith, t)

pub listed-depth : {A : Type 0} (g : A → Term) (xs : List A) → terms_depth (listed (map g xs)) ≡ most (λ x. term_depth (g x)) xs
listed-depth g [] = refl
listed-depth g (x ∷ xs) = let t = listed-depth g xs in omega (arith, t)

module _ (ts : List Term) (t : ℕ) (n : TermNode) (tree : term_tree ts n ≡ term_at ts t) (f : Sym) (ss : List Sort) (xs ids : List TermId) (is : n ≡ App f ss ids) (same : xs ≡ ids) where
  pub term-size-is : term_size (term_at ts t) ≡ 1 + total (λ j. term_size (term_at ts j.0)) xs
  term-size-is = rw same (let p = rw is at tree in rw (← p) (ap (λ n. 1 + n) (listed-size (λ j. term_at ts j.0) ids)))

  pub term-depth-is : term_depth (term_at ts t) ≡ 1 + most (λ j. term_depth (term_at ts j.0)) xs
  term-depth-is = rw same (let p = rw is at tree in rw (← p) (ap (λ n. 1 + n) (listed-depth (λ j. term_at ts j.0) ids)))

  pub term-part-below : (i : ℕ) (d : TermId) → IsTermBelow t n → i < length xs → (get_or xs i d).0 < t
  term-part-below i d b h = let q = rw is at b in rw same (q i d (rw same at h))
