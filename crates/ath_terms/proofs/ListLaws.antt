-- Loops over the arguments of an application.
use Rattle.std.proofs.Common.{◌≡◌, ℕ, ◌+◌, ◌<◌, ◌≤◌, max, List, [], ◌∷◌, ◌++◌, length, map, take, get_or, refl, sym, ◌∙◌, ap, arith}
use Rattle.std.proofs.lemmas.List.{take_all}
use Rattle.ath_trees.specs.declared.node.TermId.{TermId}
use Rattle.ath_trees.specs.declared.node.Var.{Var as Variable}
use Rattle.ath_trees.specs.Tree.{Term, listed}
use Rattle.ath_trees.specs.Measure.{term_size, terms_size, term_depth, terms_depth}
use Rattle.ath_trees.specs.Variables.{with_terms}
use Rattle.ath_terms.specs.Trees.{term_at}
use Rattle.ath_terms.proofs.Measures.{total, total-next, total-all, most, most-next, most-all, listed-size, listed-depth}
use Rattle.ath_terms.proofs.VariableLaws.{term_vars_to}

pub append-assoc : {A : Type 0} (xs ys zs : List A) → (xs ++ ys) ++ zs ≡ xs ++ (ys ++ zs)
append-assoc [] ys zs = refl
append-assoc (x ∷ xs) ys zs = ap (λ l. x ∷ l) (append-assoc xs ys zs)

-- ---- variables
pub list_vars-all : (ts : List Term) (args : List TermId) (i : ℕ) (found : List Variable) → length args ≤ i → found ≡ term_vars_to ts [] args i → found ≡ with_terms [] (listed (map (λ j. term_at ts j.0) args))
list_vars-all ts args i found h e = e ∙ ap (λ (l : List TermId). with_terms [] (listed (map (λ j. term_at ts j.0) l))) (take_all i args h)

module _ (ts : List Term) (args : List TermId) where
  abbrev pub sizes_to : ℕ → ℕ
  sizes_to i = total (λ (j : TermId). term_size (term_at ts j.0)) (take i args)

  pub sizes-next : (i : ℕ) (d : TermId) (n : ℕ) → i < length args → n ≡ sizes_to i → n + term_size (term_at ts (get_or args i d).0) ≡ sizes_to (i + 1)
  sizes-next i d n h e = let t = total-next (λ (j : TermId). term_size (term_at ts j.0)) args i d h in omega arith

  pub sizes-all : (i n : ℕ) → length args ≤ i → n ≡ sizes_to i → n ≡ terms_size (listed (map (λ j. term_at ts j.0) args))
  sizes-all i n h e = e ∙ total-all (λ (j : TermId). term_size (term_at ts j.0)) args i h ∙ sym (listed-size (λ (j : TermId). term_at ts j.0) args)

  abbrev pub depths_to : ℕ → ℕ
  depths_to i = most (λ (j : TermId). term_depth (term_at ts j.0)) (take i args)

  pub depths-next : (i : ℕ) (d : TermId) (n : ℕ) → i < length args → n ≡ depths_to i → max n (term_depth (term_at ts (get_or args i d).0)) ≡ depths_to (i + 1)
  depths-next i d n h e = ap (λ (k : ℕ). max k (term_depth (term_at ts (get_or args i d).0))) e ∙ sym (most-next (λ (j : TermId). term_depth (term_at ts j.0)) args i d h)

  pub depths-all : (i n : ℕ) → length args ≤ i → n ≡ depths_to i → n ≡ terms_depth (listed (map (λ j. term_at ts j.0) args))
  depths-all i n h e = e ∙ most-all (λ (j : TermId). term_depth (term_at ts j.0)) args i h ∙ sym (listed-depth (λ (j : TermId). term_at ts j.0) args)
