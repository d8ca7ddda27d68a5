-- What is valid and well-sorted in a signature is so in one with more.
use Rattle.std.proofs.Common.{◌≡◌, ℕ, true, List, [], ◌∷◌, length, Option, Some, None, refl, sym, ◌∙◌}
use Rattle.std.specs.List.{list_all, AllByRecursion}
use Rattle.ath_sorts.specs.declared.sorts.Sym.{Sym}
use Rattle.ath_sorts.specs.declared.sorts.Sort.{Sort}
use Rattle.ath_sorts.specs.declared.signature.Symbol.{Symbol}
use Rattle.ath_sorts.specs.Signature.{Signature, arity_of, symbol_of}
use Rattle.ath_sorts.proofs.SortLaws.{sort_induction}
use Rattle.ath_sorts.proofs.Bools.{and_parts}
use Rattle.ath_trees.specs.Tree.{Term, Terms, Sent, atom, equal, negated, joined, bound}
use Rattle.ath_trees.specs.WellSorted.{has_arity, is_valid_sort, HasSort, var_has, app_has, HaveSorts, none_has, more_has, IsWellSorted, AreWellSorted}
use Rattle.ath_trees.proofs.ValidSorts.{both_true, valid-var, valid-con}

module _ (sig other : Signature) (arities : (n : Sym) (k : ℕ) → arity_of sig n ≡ Some k → arity_of other n ≡ Some k) (symbols : (n : Sym) (d : Symbol) → symbol_of sig n ≡ Some d → symbol_of other n ≡ Some d) where
  arity_kept : (c : Sym) (n : ℕ) (o : Option ℕ) → arity_of sig c ≡ o → has_arity o n ≡ true → has_arity (arity_of other c) n ≡ true
  arity_kept c n None e h = absurd (cc)
  arity_kept c n (Some k) e h = rw (arities c k e) h

  all_kept : (args : List Sort) → AllByRecursion (λ s. is_valid_sort sig s ≡ true → is_valid_sort other s ≡ true) args → list_all (is_valid_sort sig) args ≡ true → list_all (is_valid_sort other) args ≡ true
  all_kept [] h e = refl
  all_kept (s ∷ ss) h e =
      let p = and_parts (is_valid_sort sig s) (list_all (is_valid_sort sig) ss) e in
      both_true (is_valid_sort other s) (list_all (is_valid_sort other) ss) (h.0 p.0) (all_kept ss h.1 p.1)

  pub valid_kept : (s : Sort) → is_valid_sort sig s ≡ true → is_valid_sort other s ≡ true
  valid_kept =
      let P : Sort → Type 0 = λ s. is_valid_sort sig s ≡ true → is_valid_sort other s ≡ true in
      sort_induction P
      (λ v e. valid-var other v)
      (λ c args h e.
      let p = and_parts (has_arity (arity_of sig c) (length args)) (list_all (is_valid_sort sig) args) (sym (valid-con sig c args) ∙ e) in
      valid-con other c args ∙ both_true (has_arity (arity_of other c) (length args)) (list_all (is_valid_sort other) args) (arity_kept c (length args) (arity_of sig c) refl p.0) (all_kept args h p.1))

  every_kept : (args : List Sort) → list_all (is_valid_sort sig) args ≡ true → list_all (is_valid_sort other) args ≡ true
  every_kept [] e = refl
  every_kept (s ∷ ss) e =
      let p = and_parts (is_valid_sort sig s) (list_all (is_valid_sort sig) ss) e in
      both_true (is_valid_sort other s) (list_all (is_valid_sort other) ss) (valid_kept s p.0) (every_kept ss p.1)

  mutual
    pub has_sort-kept : {t : Term} {s : Sort} → HasSort sig t s → HasSort other t s
    has_sort-kept (var_has {v} {s} p e) = var_has (valid_kept v.sort p) e
    has_sort-kept (app_has {f} {sorts} {args} {s} d is l v h e) = app_has d (symbols f d is) l (every_kept sorts v) (have_sorts-kept h) e

    pub have_sorts-kept : {ts : Terms} {ss : List Sort} → HaveSorts sig ts ss → HaveSorts other ts ss
    have_sorts-kept none_has = none_has
    have_sorts-kept (more_has h hs) = more_has (has_sort-kept h) (have_sorts-kept hs)

  pub well_sorted-kept : (p : Sent) → IsWellSorted sig p → IsWellSorted other p
  well_sorted-kept (atom t) h = has_sort-kept h
  well_sorted-kept (equal s t) h = (h.0, (has_sort-kept h.1.0, has_sort-kept h.1.1))
  well_sorted-kept (negated p) h = well_sorted-kept p h
  well_sorted-kept (joined c p q) h = (well_sorted-kept p h.0, well_sorted-kept q h.1)
  well_sorted-kept (bound k v p) h = (valid_kept v.sort h.0, well_sorted-kept p h.1)

  pub all_well_sorted-kept : (ps : List Sent) → AreWellSorted sig ps → AreWellSorted other ps
  all_well_sorted-kept [] h = tt
  all_well_sorted-kept (p ∷ ps) h = (well_sorted-kept p h.0, all_well_sorted-kept ps h.1)
