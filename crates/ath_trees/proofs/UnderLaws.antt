-- Trees under a sort substitution keep their form, and are well-sorted where they were.
use Rattle.std.proofs.Common.{◌≡◌, ◌+◌, max, true, List, [], ◌∷◌, length, map, Option, refl, sym, ◌∙◌, ap, subst, arith}
use Rattle.ath_sorts.specs.declared.sorts.SVar.{SVar}
use Rattle.ath_sorts.specs.declared.sorts.Sort.{Sort}
use Rattle.ath_sorts.specs.declared.signature.Symbol.{Symbol}
use Rattle.ath_sorts.specs.Signature.{Signature, boolean}
use Rattle.ath_sorts.specs.Sorts.{apply_to}
use Rattle.ath_sorts.specs.Validity.{IsValid}
use Rattle.ath_sorts.proofs.SortLaws.{apply-con}
use Rattle.ath_trees.specs.Tree.{Term, Terms, var, app, none, more, listed, Sent, atom, equal, negated, joined, bound}
use Rattle.ath_trees.specs.Measure.{term_size, terms_size, term_depth, terms_depth, sent_size, sent_depth}
use Rattle.ath_trees.specs.SortsIn.{result_sort, sort_in}
use Rattle.ath_trees.specs.Under.{term_under, terms_under, sent_under}
use Rattle.ath_trees.specs.WellSorted.{is_valid_sort, HasSort, var_has, app_has, HaveSorts, none_has, more_has, IsWellSorted}
use Rattle.ath_trees.proofs.ValidSorts.{valid_under, valid_all_under, at_sorts_under, all_at_sorts_under, symbol_good}

pub listed-under : (f : SVar → Sort) (xs : List Term) → terms_under f (listed xs) ≡ listed (map (term_under f) xs)
listed-under f [] = refl
listed-under f (x ∷ xs) = ap (more (term_under f x)) (listed-under f xs)

mutual
  pub size-under : (f : SVar → Sort) (t : Term) → term_size (term_under f t) ≡ term_size t
  size-under f (var v) = refl
  size-under f (app s sorts args) = ap (λ n. 1 + n) (sizes-under f args)

  sizes-under : (f : SVar → Sort) (ts : Terms) → terms_size (terms_under f ts) ≡ terms_size ts
  sizes-under f none = refl
  sizes-under f (more t ts) = let p = size-under f t in let q = sizes-under f ts in omega arith

mutual
  pub depth-under : (f : SVar → Sort) (t : Term) → term_depth (term_under f t) ≡ term_depth t
  depth-under f (var v) = refl
  depth-under f (app s sorts args) = ap (λ n. 1 + n) (depths-under f args)

  depths-under : (f : SVar → Sort) (ts : Terms) → terms_depth (terms_under f ts) ≡ terms_depth ts
  depths-under f none = refl
  depths-under f (more t ts) = let p = depth-under f t in let q = depths-under f ts in λ i. max (p i) (q i)

pub sent_size-under : (f : SVar → Sort) (p : Sent) → sent_size (sent_under f p) ≡ sent_size p
sent_size-under f (atom t) = size-under f t
sent_size-under f (equal s t) = let p = size-under f s in let q = size-under f t in omega arith
sent_size-under f (negated p) = let q = sent_size-under f p in omega arith
sent_size-under f (joined c p q) = let x = sent_size-under f p in let y = sent_size-under f q in omega arith
sent_size-under f (bound k v p) = let q = sent_size-under f p in omega arith

pub sent_depth-under : (f : SVar → Sort) (p : Sent) → sent_depth (sent_under f p) ≡ sent_depth p
sent_depth-under f (atom t) = depth-under f t
sent_depth-under f (equal s t) = let p = depth-under f s in let q = depth-under f t in λ i. 1 + max (p i) (q i)
sent_depth-under f (negated p) = ap (λ n. 1 + n) (sent_depth-under f p)
sent_depth-under f (joined c p q) = let x = sent_depth-under f p in let y = sent_depth-under f q in λ i. 1 + max (x i) (y i)
sent_depth-under f (bound k v p) = ap (λ n. 1 + n) (sent_depth-under f p)

-- the sort of a well-sorted term
pub sort_in-is : (sig : Signature) (t : Term) (s : Sort) → HasSort sig t s → sort_in sig t ≡ s
sort_in-is sig (var v) s (var_has p e) = sym e
sort_in-is sig (app f sorts args) s (app_has d is l v h e) = ap (λ (o : Option Symbol). result_sort o sorts) is ∙ sym e

pub sort_in-under : (sig : Signature) (f : SVar → Sort) (t : Term) (s : Sort) → IsValid sig → HasSort sig t s → sort_in sig (term_under f t) ≡ apply_to f s
sort_in-under sig f (var v) s valid (var_has p e) = ap (apply_to f) (sym e)
sort_in-under sig f (app g sorts args) s valid (app_has d is l v h e) =
    let good = symbol_good sig g d valid is in
    ap (λ (o : Option Symbol). result_sort o (map (apply_to f) sorts)) is ∙ sym (at_sorts_under sig d.params sorts f l d.result good.result_there good.result_written) ∙ ap (apply_to f) (sym e)

map-length : (f : Sort → Sort) (xs : List Sort) → length (map f xs) ≡ length xs
map-length f [] = refl
map-length f (x ∷ xs) = let e = map-length f xs in omega arith

module _ (sig : Signature) (valid : IsValid sig) (f : SVar → Sort) (ok : (v : SVar) → is_valid_sort sig (f v) ≡ true) where
  mutual
    pub has_sort-under : {t : Term} {s : Sort} → HasSort sig t s → HasSort sig (term_under f t) (apply_to f s)
    has_sort-under (var_has {v} {s} p e) = var_has (valid_under sig f ok v.sort p) (ap (apply_to f) e)
    has_sort-under (app_has {f = g} {sorts} {args} {s} d is l v h e) =
        let good = symbol_good sig g d valid is in
        app_has d is (map-length (apply_to f) sorts ∙ l) (valid_all_under sig f ok sorts v)
        (subst (HaveSorts sig (terms_under f args)) (all_at_sorts_under sig d.params sorts f l d.args good.args_there good.args_written) (have_sorts-under h))
        (ap (apply_to f) e ∙ at_sorts_under sig d.params sorts f l d.result good.result_there good.result_written)

    pub have_sorts-under : {ts : Terms} {ss : List Sort} → HaveSorts sig ts ss → HaveSorts sig (terms_under f ts) (map (apply_to f) ss)
    have_sorts-under none_has = none_has
    have_sorts-under (more_has h hs) = more_has (has_sort-under h) (have_sorts-under hs)

  boolean-under : apply_to f boolean ≡ boolean
  boolean-under = apply-con f (record { 0 = 0 }) []

  pub well_sorted-under : (p : Sent) → IsWellSorted sig p → IsWellSorted sig (sent_under f p)
  well_sorted-under (atom t) h = subst (HasSort sig (term_under f t)) boolean-under (has_sort-under h)
  well_sorted-under (equal s t) h = (apply_to f h.0, (has_sort-under h.1.0, has_sort-under h.1.1))
  well_sorted-under (negated p) h = well_sorted-under p h
  well_sorted-under (joined c p q) h = (well_sorted-under p h.0, well_sorted-under q h.1)
  well_sorted-under (bound k v p) h = (valid_under sig f ok v.sort h.0, well_sorted-under p h.1)
