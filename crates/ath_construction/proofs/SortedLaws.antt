-- What is constructed is well-sorted, where its parts are.
use Rattle.std.proofs.Common.{◌≡◌, ℕ, ◌&&◌, Bool, true, false, List, [], ◌∷◌, length, map, Option, Some, refl, sym, ◌∙◌, ap, subst, if◌then◌else◌, nat_lt}
use Rattle.std.specs.Prelude.{zip}
use Rattle.std.specs.List.{list_all, AllByRecursion}
use Rattle.ath_sorts.specs.declared.sorts.SVar.{SVar}
use Rattle.ath_sorts.specs.declared.sorts.SVar.TheVariants.{Written}
use Rattle.ath_sorts.specs.declared.sorts.Sort.{Sort}
use Rattle.ath_sorts.specs.declared.signature.Symbol.{Symbol}
use Rattle.ath_sorts.specs.Signature.{Signature, arity_of, symbol_of, at_sorts, boolean}
use Rattle.ath_sorts.specs.Sorts.{image, apply_to}
use Rattle.ath_unifiers.specs.Unifiers.{IsLeastUnifier}
use Rattle.ath_sorts.specs.Validity.{IsValid}
use Rattle.ath_sorts.proofs.SortLaws.{apply-con}
use Rattle.ath_unifiers.specs.Unified.{Unified, solved, clashes, too_large, unified}
use Rattle.ath_unifiers.specs.Outcomes.{IsUnified}
use Rattle.ath_unifiers.proofs.Outcomes.{unified_is}
use Rattle.ath_trees.specs.declared.node.Conn.{Conn}
use Rattle.ath_trees.specs.declared.node.Binary.{Binary}
use Rattle.ath_trees.specs.declared.node.Binary.TheVariants as binary
use Rattle.ath_trees.specs.declared.node.Quant.{Quant}
use Rattle.ath_trees.specs.declared.node.Quant.TheVariants.{Forall}
use Rattle.ath_trees.specs.declared.node.Var.{Var}
use Rattle.ath_trees.specs.declared.node.Conn.TheVariants.{Not, And, Or, If, Iff}
use Rattle.ath_trees.specs.Tree.{Term, app, listed, Sent}
use Rattle.ath_trees.specs.declared.limits.TheConstants.{MOST_TERM_NODES, MOST_TERM_LEVELS}
use Rattle.ath_trees.specs.Measure.{sent_size, sent_depth}
use Rattle.ath_trees.specs.SortsIn.{sort_in}
use Rattle.ath_trees.specs.Under.{term_under, terms_under}
use Rattle.ath_trees.specs.Variables.{with_term, with_terms, with_sent, with_sents, free_vars}
use Rattle.ath_trees.specs.Closing.{closed_over}
use Rattle.ath_trees.specs.WellSorted.{has_arity, is_valid_sort, HasSort, app_has, HaveSorts, none_has, more_has, IsWellSorted, AreWellSorted}
use Rattle.ath_construction.specs.Construction.{Plan, made_sorts, variable_pairs, app_plan, equation_plan, ascription_plan, atom_plan, connective_plan, quantifier_plan, grouped, connected, takes, wanted, term_measure, sent_measure}
use Rattle.ath_construction.specs.Closure.{closed_one, closed_in_turn, universal_closure}
use Rattle.ath_construction.specs.Construction.{Built, builds, refuses, counts, sort_above, nodes_above, levels_above, within, by_unifier, constructed, made_app, made_equation, made_ascription, atom_by, made_atom, made_connective, made_quantifier}
use Rattle.ath_terms.specs.Limits.{Measure}
use Rattle.ath_trees.proofs.ValidSorts.{both_true, valid-con, valid_under, valid_all_under, all_at_sorts_under, symbol_good}
use Rattle.ath_trees.proofs.UnderLaws.{sort_in-is, has_sort-under, have_sorts-under}
use Rattle.ath_trees.proofs.Sorting.{at_sorts-sorted, closed-sorted}
use Rattle.ath_construction.proofs.UnifierValid.{unifier_valid}
use Rattle.ath_construction.proofs.ConstructionLaws.{AreVars, has_sort-valid, zip-valid, term_vars-valid, terms_vars-valid, sent_vars-valid, sents_vars-valid, append-valid, variable_pairs-valid}
use Rattle.ath_construction.proofs.ArgumentLaws.{made-length}
use Rattle.ath_construction.proofs.ApplicationLaws.{made-valid, declared-valid, zip-pairs-valid, zip-unified, lengths}
use Rattle.ath_construction.proofs.Planned.{app_counted}

-- ---- the tree that is constructed is that by the least unifier
within-is : {T : Type 0} (x y : T) (m : Measure) → within x m ≡ builds y → y ≡ x
within-is {T} x y m e = go m.small (nat_lt MOST_TERM_NODES m.nodes) (nat_lt MOST_TERM_LEVELS m.levels) e
  where
    go : (a b d : Bool) → (if a then (if b then refuses (nodes_above m.nodes) else if d then refuses (levels_above m.levels) else builds x) else refuses sort_above) ≡ builds y → y ≡ x
    go true true d f = absurd (cc)
    go true false true f = absurd (cc)
    go true false false f = cc
    go false b d f = absurd (cc)

abbrev pub IsLeast : {T : Type 0} → Plan T → T → Type 0
IsLeast p x = (u : List (SVar × Sort)) × (IsLeastUnifier u p.pairs × (x ≡ p.tree (image u)))

by-least : {T : Type 0} (p : Plan T) (m : T → Measure) (x : T) (r : Unified) → IsUnified p.pairs r → by_unifier p m r ≡ builds x → IsLeast p x
by-least p m x (solved u) h e = (u, (h.0, within-is (p.tree (image u)) x (m (p.tree (image u))) e))
by-least p m x (clashes at) h e = absurd (cc)
by-least p m x too_large h e = absurd (cc)

pub constructed-least : {T : Type 0} (p : Plan T) (m : T → Measure) (x : T) → constructed p m ≡ builds x → IsLeast p x
constructed-least p m x e = by-least p m x (unified p.pairs) (unified_is p.pairs) e

-- ---- in a valid signature, with the sort Boolean
module _ (sig : Signature) (valid : IsValid sig) (there : arity_of sig (record { 0 = 0 }) ≡ Some 0) where
  -- a term has its own sort
  abbrev pub IsSorted : Term → Type 0
  IsSorted t = HasSort sig t (sort_in sig t)

  pub own-sort : (t : Term) (s : Sort) → HasSort sig t s → IsSorted t
  own-sort t s h = subst (HasSort sig t) (sym (sort_in-is sig t s h)) h

  boolean-valid : is_valid_sort sig boolean ≡ true
  boolean-valid = valid-con sig (record { 0 = 0 }) [] ∙ ap (λ (o : Option ℕ). has_arity o 0 && true) there

  boolean-stays : (f : SVar → Sort) → apply_to f boolean ≡ boolean
  boolean-stays f = apply-con f (record { 0 = 0 }) []

  -- a term whose sort is made another
  pub ascription-sorted : (t x : Term) (s : Sort) → IsSorted t → is_valid_sort sig s ≡ true → made_ascription sig t s ≡ builds x → IsSorted x
  ascription-sorted t x s h good e =
      let k = constructed-least (ascription_plan sig t s) (term_measure sig) x e in
      let ok = unifier_valid sig k.0 (ascription_plan sig t s).pairs k.1.0 ((has_sort-valid sig t (sort_in sig t) valid h, good), variable_pairs-valid sig (with_term [] t) (term_vars-valid sig [] t (sort_in sig t) tt h)) in
      subst IsSorted (sym k.1.1) (own-sort (term_under (image k.0) t) (apply_to (image k.0) (sort_in sig t)) (has_sort-under sig valid (image k.0) ok h))

  pub equation-sorted : (s t : Term) (x : Sent) → IsSorted s → IsSorted t → made_equation sig s t ≡ builds x → IsWellSorted sig x
  equation-sorted s t x h g e =
      let k = constructed-least (equation_plan sig s t) (sent_measure sig) x e in
      let vars = term_vars-valid sig (with_term [] s) t (sort_in sig t) (term_vars-valid sig [] s (sort_in sig s) tt h) g in
      let ok = unifier_valid sig k.0 (equation_plan sig s t).pairs k.1.0 ((has_sort-valid sig s (sort_in sig s) valid h, has_sort-valid sig t (sort_in sig t) valid g), variable_pairs-valid sig (with_term (with_term [] s) t) vars) in
      let left = has_sort-under sig valid (image k.0) ok h in
      let right = has_sort-under sig valid (image k.0) ok g in
      subst (IsWellSorted sig) (sym k.1.1) (apply_to (image k.0) (sort_in sig t), (subst (HasSort sig (term_under (image k.0) s)) k.1.0.unifies.0 left, right))

  -- ---- atoms
  plain-atom : (t : Term) (x : Sent) → IsSorted t → constructed (atom_plan sig t) (sent_measure sig) ≡ builds x → IsWellSorted sig x
  plain-atom t x h e =
      let k = constructed-least (atom_plan sig t) (sent_measure sig) x e in
      let ok = unifier_valid sig k.0 (atom_plan sig t).pairs k.1.0 ((has_sort-valid sig t (sort_in sig t) valid h, boolean-valid), variable_pairs-valid sig (with_term [] t) (term_vars-valid sig [] t (sort_in sig t) tt h)) in
      subst (IsWellSorted sig) (sym k.1.1) (subst (HasSort sig (term_under (image k.0) t)) (k.1.0.unifies.0 ∙ boolean-stays (image k.0)) (has_sort-under sig valid (image k.0) ok h))

  atom-by : (t : Term) (x : Sent) → IsSorted t → (r : Unified) → atom_by sig t r ≡ builds x → IsWellSorted sig x
  atom-by t x h (solved u) e = plain-atom t x h e
  atom-by t x h (clashes at) e = absurd (cc)
  atom-by t x h too_large e = plain-atom t x h e

  pub atom-sorted : (t : Term) (x : Sent) → IsSorted t → made_atom sig t ≡ builds x → IsWellSorted sig x
  atom-sorted t x h e = atom-by t x h (unified ((sort_in sig t, boolean) ∷ [])) e

  -- ---- applications
  have-own : (ts : List Term) → AllByRecursion IsSorted ts → HaveSorts sig (listed ts) (map (sort_in sig) ts)
  have-own [] h = none_has
  have-own (t ∷ ts) h = more_has h.0 (have-own ts h.1)

  own-valid : (ts : List Term) → AllByRecursion IsSorted ts → list_all (is_valid_sort sig) (map (sort_in sig) ts) ≡ true
  own-valid [] h = refl
  own-valid (t ∷ ts) h = both_true (is_valid_sort sig (sort_in sig t)) (list_all (is_valid_sort sig) (map (sort_in sig) ts)) (has_sort-valid sig t (sort_in sig t) valid h.0) (own-valid ts h.1)

  module _ (d : Symbol) (n : ℕ) (ts : List Term) (is : symbol_of sig d.name ≡ Some d) (l : length d.args ≡ length ts) (h : AllByRecursion IsSorted ts) where
    abbrev made : List Sort
    made = made_sorts n d.params

    abbrev wanted_sorts : List Sort
    wanted_sorts = map (at_sorts d.params made) d.args

    module _ (u : List (SVar × Sort)) (least : IsLeastUnifier u (app_plan sig n d ts).pairs) where
      images-valid : (v : SVar) → is_valid_sort sig (image u v) ≡ true
      images-valid =
          let good = symbol_good sig d.name d valid is in
          let inst = zip-valid sig d.params made (made-valid sig n d.params) in
          let args = declared-valid sig d.params (image (zip (map (λ q. Written q) d.params) made)) inst d.args good.args_there in
          let vars = terms_vars-valid sig [] (listed ts) (map (sort_in sig) ts) tt (have-own ts h) in
          unifier_valid sig u (app_plan sig n d ts).pairs least (append-valid sig (zip wanted_sorts (map (sort_in sig) ts)) (variable_pairs (with_terms [] (listed ts)))
          (zip-pairs-valid sig wanted_sorts (map (sort_in sig) ts) args (own-valid ts h)) (variable_pairs-valid sig (with_terms [] (listed ts)) vars))

      sorts-are : map (apply_to (image u)) (map (sort_in sig) ts) ≡ map (at_sorts d.params (map (apply_to (image u)) made)) d.args
      sorts-are =
          let good = symbol_good sig d.name d valid is in
          let same = lengths (at_sorts d.params made) d.args ∙ l ∙ sym (lengths (sort_in sig) ts) in
          sym (zip-unified (image u) wanted_sorts (map (sort_in sig) ts) (variable_pairs (with_terms [] (listed ts))) same least.unifies)
          ∙ all_at_sorts_under sig d.params made (image u) (made-length n d.params) d.args good.args_there good.args_written

      under-sorted : HasSort sig (term_under (image u) (app d.name made (listed ts))) (at_sorts d.params (map (apply_to (image u)) made) d.result)
      under-sorted =
          let args = have_sorts-under sig valid (image u) images-valid (have-own ts h) in
          let sorts = valid_all_under sig (image u) images-valid made (made-valid sig n d.params) in
          app_has d is (lengths (apply_to (image u)) made ∙ made-length n d.params) sorts (subst (HaveSorts sig (terms_under (image u) (listed ts))) sorts-are args) refl

    pub application-sorted : (x : Term) → made_app sig n d ts ≡ builds x → IsSorted x
    application-sorted x e =
        let k = constructed-least (app_plan sig n d ts) (term_measure sig) x (sym (app_counted sig n d ts l) ∙ e) in
        subst IsSorted (sym k.1.1) (own-sort (term_under (image k.0) (app d.name made (listed ts))) (at_sorts d.params (map (apply_to (image k.0)) made) d.result) (under-sorted k.0 k.1.0))

  -- ---- connectives
  grouped-sorted : (c : Binary) (p : Sent) (ps : List Sent) → IsWellSorted sig p → AreWellSorted sig ps → IsWellSorted sig (grouped c (p ∷ ps))
  grouped-sorted c p [] h g = h
  grouped-sorted c p (q ∷ ps) h g = (h, grouped-sorted c q ps g.0 g.1)

  whole-sorted : (c : Conn) (ps : List Sent) → AreWellSorted sig ps → takes c (length ps) ≡ true → IsWellSorted sig (connected c ps)
  whole-sorted Not [] h e = absurd (cc)
  whole-sorted And [] h e = absurd (cc)
  whole-sorted Or [] h e = absurd (cc)
  whole-sorted If [] h e = absurd (cc)
  whole-sorted Iff [] h e = absurd (cc)
  whole-sorted Not (p ∷ ps) h e = h.0
  whole-sorted And (p ∷ ps) h e = grouped-sorted binary.And p ps h.0 h.1
  whole-sorted Or (p ∷ ps) h e = grouped-sorted binary.Or p ps h.0 h.1
  whole-sorted If (p ∷ ps) h e = grouped-sorted binary.If p ps h.0 h.1
  whole-sorted Iff (p ∷ ps) h e = grouped-sorted binary.Iff p ps h.0 h.1

  pub connective-sorted : (c : Conn) (ps : List Sent) (x : Sent) → AreWellSorted sig ps → made_connective sig c ps ≡ builds x → IsWellSorted sig x
  connective-sorted c ps x h e = go (takes c (length ps)) (λ f. whole-sorted c ps h f) e
    where
      go : (b : Bool) → (b ≡ true → IsWellSorted sig (connected c ps)) → (if b then constructed (connective_plan ps (connected c ps)) (sent_measure sig) else refuses (counts (wanted c) (length ps))) ≡ builds x → IsWellSorted sig x
      go true g f =
          let k = constructed-least (connective_plan ps (connected c ps)) (sent_measure sig) x f in
          let ok = unifier_valid sig k.0 (connective_plan ps (connected c ps)).pairs k.1.0 (variable_pairs-valid sig (with_sents [] ps) (sents_vars-valid sig [] ps tt h)) in
          subst (IsWellSorted sig) (sym k.1.1) (at_sorts-sorted sig valid (image k.0) ok (connected c ps) (g refl))
      go false g f = absurd (cc)

  -- ---- quantifiers
  pub quantified-sorted : (k : Quant) (v : Var) (p x : Sent) → is_valid_sort sig v.sort ≡ true → IsWellSorted sig p → made_quantifier sig k v p ≡ builds x → IsWellSorted sig x
  quantified-sorted k v p x s h e =
      let l = constructed-least (quantifier_plan k v p) (sent_measure sig) x e in
      let ok = unifier_valid sig l.0 (quantifier_plan k v p).pairs l.1.0 (variable_pairs-valid sig (with_sent (v ∷ []) p) (sent_vars-valid sig (v ∷ []) p (s, tt) h)) in
      subst (IsWellSorted sig) (sym l.1.1) (valid_under sig (image l.0) ok v.sort s, at_sorts-sorted sig valid (image l.0) ok p h)

-- ---- closures
module _ (sig : Signature) where
  turned-sorted : (vs : List Var) (p x : Sent) → AreVars sig vs → IsWellSorted sig p → closed_in_turn vs p ≡ builds x → IsWellSorted sig x
  turned-sorted [] p x h w e = let k : p ≡ x = cc in subst (IsWellSorted sig) k w
  turned-sorted (v ∷ vs) p x h w e = go (closed_in_turn vs p) (λ q f. turned-sorted vs p q h.1 w f) e
    where
      go : (b : Built Sent) → ((q : Sent) → b ≡ builds q → IsWellSorted sig q) → closed_one v b ≡ builds x → IsWellSorted sig x
      go (refuses why) f m = absurd (cc)
      go (builds q) f m = subst (IsWellSorted sig) (sym (within-is (closed_over Forall v q) x (record { small = true; nodes = sent_size (closed_over Forall v q); levels = sent_depth (closed_over Forall v q) }) m)) (closed-sorted sig Forall v q h.0 (f q refl))

  pub closure-sorted : (p x : Sent) → IsWellSorted sig p → universal_closure p ≡ builds x → IsWellSorted sig x
  closure-sorted p x w e = turned-sorted (free_vars p) p x (sent_vars-valid sig [] p tt w) w e
