-- The pairs of namesakes.
use Rattle.std.proofs.Common.{◌≡◌, ℕ, ◌+◌, ◌<◌, ◌≤◌, List, [], ◌∷◌, ◌++◌, length, take, get_or, refl, sym, ◌∙◌, ap}
use Rattle.std.specs.Prelude.{find}
use Rattle.std.proofs.lemmas.List.{take_all}
use Rattle.ath_sorts.specs.declared.sorts.Sort.{Sort}
use Rattle.ath_trees.specs.declared.node.Var.{Var}
use Rattle.ath_trees.specs.Variables.{is_namesake}
use Rattle.ath_terms.proofs.VariableLaws.{next}
use Rattle.ath_terms.proofs.ListLaws.{append-assoc}
use Rattle.ath_terms.specs.Marks.{AreApartFrom, AreApart}
use Rattle.ath_terms.specs.Found.{name_key, same_name_key}
use Rattle.ath_construction.specs.Construction.{pair_after, pairs_from, variable_pairs}

-- the pairs of one variable more
append-nil : {A : Type 0} (xs : List A) → xs ++ [] ≡ xs
append-nil [] = refl
append-nil (x ∷ xs) = ap (λ l. x ∷ l) (append-nil xs)

pairs-push : (before vs : List Var) (v : Var) → pairs_from before (vs ++ v ∷ []) ≡ pairs_from before vs ++ pair_after (find (is_namesake v) (before ++ vs)) v
pairs-push before [] v = append-nil (pair_after (find (is_namesake v) before) v) ∙ ap (λ (l : List Var). pair_after (find (is_namesake v) l) v) (sym (append-nil before))
pairs-push before (w ∷ vs) v =
    ap (λ l. pair_after (find (is_namesake w) before) w ++ l) (pairs-push (before ++ w ∷ []) vs v ∙ ap (λ (l : List Var). pairs_from (before ++ w ∷ []) vs ++ pair_after (find (is_namesake v) l) v) (append-assoc before (w ∷ []) vs))
    ∙ sym (append-assoc (pair_after (find (is_namesake w) before) w) (pairs_from (before ++ w ∷ []) vs) (pair_after (find (is_namesake v) (before ++ w ∷ vs)) v))

module _ (old : List (Sort × Sort)) (xs : List Var) where
  abbrev pub pairs_to : ℕ → List (Sort × Sort)
  pairs_to i = old ++ variable_pairs (take i xs)

  pub pairs-next : (i : ℕ) (d : Var) (pairs more : List (Sort × Sort)) → i < length xs → pairs ≡ pairs_to i → more ≡ pairs ++ pair_after (find (is_namesake (get_or xs i d)) (take i xs)) (get_or xs i d) → more ≡ pairs_to (i + 1)
  pairs-next i d pairs more h e f =
      f ∙ ap (λ (l : List (Sort × Sort)). l ++ pair_after (find (is_namesake (get_or xs i d)) (take i xs)) (get_or xs i d)) e
      ∙ append-assoc old (variable_pairs (take i xs)) (pair_after (find (is_namesake (get_or xs i d)) (take i xs)) (get_or xs i d))
      ∙ ap (λ l. old ++ l) (sym (pairs-push [] (take i xs) (get_or xs i d)) ∙ ap variable_pairs (sym (next xs i d h)))

  pub pairs-all : (i : ℕ) (pairs : List (Sort × Sort)) → length xs ≤ i → pairs ≡ pairs_to i → pairs ≡ old ++ variable_pairs xs
  pairs-all i pairs h e = e ∙ ap (λ (l : List Var). old ++ variable_pairs l) (take_all i xs h)

-- ---- the table of first namesakes
pub namesake-first : (v : Var) (xs : List Var) → find (λ w. same_name_key (name_key v) (name_key w)) xs ≡ find (is_namesake v) xs
namesake-first v xs = refl

-- ---- no pairs
pairs-apart : (before vs : List Var) → AreApartFrom before vs → pairs_from before vs ≡ []
pairs-apart before [] h = refl
pairs-apart before (v ∷ vs) h = let p = h.0 in let q = pairs-apart (before ++ v ∷ []) vs h.1 in λ i. pair_after (p i) v ++ q i

-- where no two have one name and index there are none
pub apart-none : (old : List (Sort × Sort)) (vs : List Var) → AreApart vs → old ≡ old ++ variable_pairs vs
apart-none old vs h = sym (ap (λ l. old ++ l) (pairs-apart [] vs h) ∙ append-nil old)
