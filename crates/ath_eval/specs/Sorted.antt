-- That a store is sorted in a signature has one proof at most, so that a struct may carry it.
use Rattle.std.specs.Prelude.{◌≡◌, Bool, true, List, [], ◌∷◌, length, map, Option, Some}
use Rattle.std.specs.List.{list_all, AllByRecursion-prop}
use Rattle.std.specs.Coded.{Coded-set, coded_bool, coded_ℕ, coded_option, ×_prop, Unit-prop}
use Rattle.std.proofs.Common.{ℕ, ap, sym, ◌∙◌}
use mathlib.Core.HLevel.{Σ_prop_path}
use Rattle.ath_sorts.specs.contracts.sorts.Sort as sort
use Rattle.ath_sorts.specs.contracts.signature.Symbol as symbol
use Rattle.ath_sorts.specs.contracts.signature.Flaw as flaw
use Rattle.ath_sorts.specs.declared.sorts.Sym.{Sym}
use Rattle.ath_sorts.specs.declared.sorts.Sort.{Sort}
use Rattle.ath_sorts.specs.declared.signature.Symbol.{Symbol}
use Rattle.ath_sorts.specs.declared.signature.Flaw.{Flaw}
use Rattle.ath_sorts.specs.Signature.{Signature, symbol_of, at_sorts, boolean}
use Rattle.ath_sorts.specs.Validity.{AreDistinct, IsValidSymbol, IsValid}
use Rattle.ath_trees.specs.Tree.{Term, Terms, var, app, none, more, Sent, atom, equal, negated, joined, bound}
use Rattle.ath_trees.specs.WellSorted.{is_valid_sort, HasSort, var_has, app_has, HaveSorts, none_has, more_has, IsWellSorted}
use Rattle.ath_terms.specs.Trees.{Trees, term_at, sort_at, sent_at}
use Rattle.ath_terms.specs.SortsIn.{IsSortedIn}

same-bools : {a b : Bool} → IsProp (a ≡ b)
same-bools {a} {b} = Coded-set coded_bool a b

same-numbers : {m n : ℕ} → IsProp (m ≡ n)
same-numbers {m} {n} = Coded-set coded_ℕ m n

same-sorts : {s t : Sort} → IsProp (s ≡ t)
same-sorts {s} {t} = Coded-set sort.the_row.coded s t

same-symbols : {s t : Option Symbol} → IsProp (s ≡ t)
same-symbols {s} {t} = Coded-set (coded_option symbol.the_row.coded) s t

same-flaws : {e f : Option Flaw} → IsProp (e ≡ f)
same-flaws {e} {f} = Coded-set (coded_option flaw.the_row.coded) e f

symbol-is : (d e : Symbol) → ◌≡◌ {A = Option Symbol} (Some d) (Some e) → d ≡ e
symbol-is d e h = cc

module _ (sig : Signature) where
  -- what an application with these arguments owes at its symbol
  abbrev Owes : Sym → List Sort → Terms → Sort → Symbol → Type 0
  Owes f sorts args s d =
      (symbol_of sig f ≡ Some d) × ((length sorts ≡ length d.params) × ((list_all (is_valid_sort sig) sorts ≡ true) × (HaveSorts sig args (map (at_sorts d.params sorts) d.args) × (s ≡ at_sorts d.params sorts d.result))))

  abbrev owed : (f : Sym) (sorts : List Sort) (args : Terms) (s : Sort) → (d : Symbol) × Owes f sorts args s d → HasSort sig (app f sorts args) s
  owed f sorts args s o = app_has o.0 o.1.0 o.1.1.0 o.1.1.1.0 o.1.1.1.1.0 o.1.1.1.1.1

  owes-prop : (f : Sym) (sorts : List Sort) (args : Terms) (s : Sort) → ((ss : List Sort) → IsProp (HaveSorts sig args ss)) → (d : Symbol) → IsProp (Owes f sorts args s d)
  owes-prop f sorts args s h d =
      let symbols : IsProp (symbol_of sig f ≡ Some d) = same-symbols in
      let counts : IsProp (length sorts ≡ length d.params) = same-numbers in
      let valid : IsProp (list_all (is_valid_sort sig) sorts ≡ true) = same-bools in
      let result : IsProp (s ≡ at_sorts d.params sorts d.result) = same-sorts in
      ×_prop symbols (×_prop counts (×_prop valid (×_prop (h (map (at_sorts d.params sorts) d.args)) result)))

  owed-prop : (f : Sym) (sorts : List Sort) (args : Terms) (s : Sort) → ((ss : List Sort) → IsProp (HaveSorts sig args ss)) → IsProp ((d : Symbol) × Owes f sorts args s d)
  owed-prop f sorts args s h x y = Σ_prop_path (owes-prop f sorts args s h) {u = x} {v = y} (symbol-is x.0 y.0 (sym x.1.0 ∙ y.1.0))

  mutual
    has_sort-prop : (t : Term) (s : Sort) → IsProp (HasSort sig t s)
    has_sort-prop (var v) s (var_has a e) (var_has b f) = λ i. var_has (same-bools a b i) (same-sorts e f i)
    has_sort-prop (app f sorts args) s (app_has d is l v h e) (app_has d' is' l' v' h' e') =
        ap (owed f sorts args s) (owed-prop f sorts args s (have_sorts-prop args) (d, (is, (l, (v, (h, e))))) (d', (is', (l', (v', (h', e'))))))

    have_sorts-prop : (ts : Terms) (ss : List Sort) → IsProp (HaveSorts sig ts ss)
    have_sorts-prop none [] none_has none_has = λ i. none_has
    have_sorts-prop none (s ∷ ss) x y = elim x [ ]
    have_sorts-prop (more t ts) [] x y = elim x [ ]
    have_sorts-prop (more t ts) (s ∷ ss) (more_has a h) (more_has b k) = λ i. more_has (has_sort-prop t s a b i) (have_sorts-prop ts ss h k i)

  one-sort : (t : Term) (r s : Sort) → HasSort sig t r → HasSort sig t s → r ≡ s
  one-sort (var v) r s (var_has a e) (var_has b f) = e ∙ sym f
  one-sort (app f sorts args) r s (app_has d is l v h e) (app_has d' is' l' v' h' e') = e ∙ ap (λ (x : Symbol). at_sorts x.params sorts x.result) (symbol-is d d' (sym is ∙ is')) ∙ sym e'

  well_sorted-prop : (p : Sent) → IsProp (IsWellSorted sig p)
  well_sorted-prop (atom t) = has_sort-prop t boolean
  well_sorted-prop (equal s t) = λ x y. Σ_prop_path (λ r. ×_prop (has_sort-prop s r) (has_sort-prop t r)) (one-sort s x.0 y.0 x.1.0 y.1.0)
  well_sorted-prop (negated p) = well_sorted-prop p
  well_sorted-prop (joined c p q) = ×_prop (well_sorted-prop p) (well_sorted-prop q)
  well_sorted-prop (bound q v p) = ×_prop same-bools (well_sorted-prop p)

  distinct-prop : (ns : List Sym) → IsProp (AreDistinct ns)
  distinct-prop [] = Unit-prop
  distinct-prop (n ∷ ns) = ×_prop same-bools (distinct-prop ns)

  symbol-prop : (d : Symbol) → IsProp (IsValidSymbol sig d)
  symbol-prop d x y = λ i. record {
    params_differ = distinct-prop d.params x.params_differ y.params_differ i;
    sorts_there = same-flaws x.sorts_there y.sorts_there i;
    none_made = same-bools x.none_made y.none_made i;
    params_occur = same-flaws x.params_occur y.params_occur i;
  }

  valid-prop : IsProp (IsValid sig)
  valid-prop x y = λ i. record {
    sorts_differ = distinct-prop (map (λ e. e.0) sig.sorts) x.sorts_differ y.sorts_differ i;
    symbols_differ = distinct-prop (map (λ s. s.name) sig.symbols) x.symbols_differ y.symbols_differ i;
    symbols = AllByRecursion-prop (IsValidSymbol sig) symbol-prop sig.symbols x.symbols y.symbols i;
  }

  pub sorted-prop : (s : Trees) → IsProp (IsSortedIn sig s)
  sorted-prop s x y = λ i. record {
    valid = valid-prop x.valid y.valid i;
    boolean_there = Coded-set (coded_option coded_ℕ) _ _ x.boolean_there y.boolean_there i;
    terms = λ k l. has_sort-prop (term_at s.terms k) (sort_at s.sorts k) (x.terms k l) (y.terms k l) i;
    sents = λ k l. well_sorted-prop (sent_at s.sents k) (x.sents k l) (y.sents k l) i;
  }
