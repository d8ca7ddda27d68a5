-- Applications: their pairs, and what is built.
use Rattle.std.proofs.Common.{◌≡◌, ℕ, suc, ◌+◌, max, ◌<◌, ◌&&◌, ◌==◌, Bool, true, false, cond, List, [], ◌∷◌, ◌++◌, length, map, Option, Some, None, refl, sym, ◌∙◌, ap, subst, arith}
use Rattle.std.specs.Prelude.{zip, Result, Ok, Err}
use Rattle.std.specs.List.{All, list_all}
use Rattle.ath_sorts.specs.declared.sorts.Sym.{Sym}
use Rattle.ath_sorts.specs.declared.sorts.SVar.{SVar}
use Rattle.ath_sorts.specs.declared.sorts.SVar.TheVariants.{Written, Made}
use Rattle.ath_sorts.specs.declared.sorts.Sort.{Sort, Var}
use Rattle.ath_sorts.specs.declared.signature.Symbol.{Symbol}
use Rattle.ath_sorts.specs.Sorts.{is_small, image, apply_to}
use Rattle.ath_sorts.specs.Signature.{Signature, symbol_of, symbol_among, at_sorts}
use Rattle.ath_sorts.specs.Declaring.{use_faults, use_fault}
use Rattle.ath_unifiers.specs.Unifiers.{Unifies}
use Rattle.ath_sorts.proofs.Bools.{and_parts, same_num}
use Rattle.ath_sorts.proofs.Gets.{some-inj}
use Rattle.ath_sorts.proofs.ValidityLaws.{first_none}
use Rattle.ath_trees.specs.declared.node.TermId.{TermId}
use Rattle.ath_terms.specs.declared.measure.BuildError.{BuildError}
use Rattle.ath_terms.specs.declared.measure.BuildError.TheVariants.{ArgCount}
use Rattle.ath_terms.specs.declared.node.TermNode.TheVariants.{App}
use Rattle.ath_terms.specs.Lists.{AreTerms}
use Rattle.ath_terms.specs.Nodes.{term_tree}
use Rattle.ath_subst.proofs.StepLaws.{terms-are, map-through}
use Rattle.ath_trees.specs.Measure.{terms_size, terms_depth}
use Rattle.ath_trees.specs.Tree.{Term, Terms, app, none, more, listed}
use Rattle.ath_terms.specs.Trees.{Trees, term_at, sort_at, IsTermOf}
use Rattle.ath_trees.specs.SortsIn.{result_sort, sort_in, have_small_sorts}
use Rattle.ath_terms.specs.SortsIn.{IsSortedIn}
use Rattle.ath_trees.specs.Variables.{with_terms}
use Rattle.ath_trees.specs.Under.{term_under, terms_under}
use Rattle.ath_trees.specs.WellSorted.{is_valid_sort, HasSort, app_has, HaveSorts, none_has, more_has}
use Rattle.ath_construction.specs.Construction.{made_sorts, variable_pairs, term_measure, app_plan, counts, refuses, made_app}
use Rattle.ath_construction.specs.Listing.{terms_of, sorts_of, arguments, app_pairs, app_measure}
use Rattle.ath_construction.specs.Answers.{IsTermBuilt}
use Rattle.ath_construction.specs.Steps.{MatchSolved}
use Rattle.ath_terms.specs.Limits.{MatchMeasured}
use Rattle.ath_construction.proofs.Planned.{app_built, app_miscounted}
use Rattle.ath_trees.proofs.ValidSorts.{both_true, valid-var, valid_under, valid_all_under, use_valid, at_sorts_under, all_at_sorts_under, symbol_good, IsGood}
use Rattle.ath_trees.proofs.UnderLaws.{sort_in-is, have_sorts-under, listed-under, size-under, depth-under}
use Rattle.std.proofs.lemmas.List.Folds.{list_all-map}
use Rattle.ath_construction.proofs.UnifierValid.{AreValid, unifier_valid}
use Rattle.ath_construction.proofs.ArgumentLaws.{made-length}
use Rattle.ath_construction.proofs.ConstructionLaws.{measured-is, refused-solve, refused-measure, within-measure, has_sort-valid, zip-valid, terms_vars-valid, variable_pairs-valid, append-valid}

kept-are : (sig : Signature) (s : Trees) (ids : List TermId) → IsSortedIn sig s → All (λ i. i.0 < length s.terms) ids → map (sort_in sig) (terms_of s ids) ≡ sorts_of s ids
kept-are sig s [] h all = refl
kept-are sig s (i ∷ ids) h all =
    let p = sort_in-is sig (term_at s.terms i.0) (sort_at s.sorts i.0) (h.terms i.0 (all 0 i (omega arith))) in
    let q = kept-are sig s ids h (λ k d l. all (suc k) d (omega arith)) in
    λ j. p j ∷ q j

have-sorts : (sig : Signature) (s : Trees) (ids : List TermId) → IsSortedIn sig s → All (λ i. i.0 < length s.terms) ids → HaveSorts sig (arguments s ids) (sorts_of s ids)
have-sorts sig s [] h all = none_has
have-sorts sig s (i ∷ ids) h all = more_has (h.terms i.0 (all 0 i (omega arith))) (have-sorts sig s ids h (λ k d l. all (suc k) d (omega arith)))

sorts-valid : (sig : Signature) (s : Trees) (ids : List TermId) → IsSortedIn sig s → All (λ i. i.0 < length s.terms) ids → list_all (is_valid_sort sig) (sorts_of s ids) ≡ true
sorts-valid sig s [] h all = refl
sorts-valid sig s (i ∷ ids) h all = both_true (is_valid_sort sig (sort_at s.sorts i.0)) (list_all (is_valid_sort sig) (sorts_of s ids))
    (has_sort-valid sig (term_at s.terms i.0) (sort_at s.sorts i.0) h.valid (h.terms i.0 (all 0 i (omega arith)))) (sorts-valid sig s ids h (λ k d l. all (suc k) d (omega arith)))

pub made-valid : (sig : Signature) (n : ℕ) (ps : List Sym) → list_all (is_valid_sort sig) (made_sorts n ps) ≡ true
made-valid sig n [] = refl
made-valid sig n (p ∷ ps) = both_true (is_valid_sort sig (Var (Made n))) (list_all (is_valid_sort sig) (made_sorts (n + 1) ps)) (valid-var sig (Made n)) (made-valid sig (n + 1) ps)

pub declared-valid : (sig : Signature) (params : List Sym) (f : SVar → Sort) → ((v : SVar) → is_valid_sort sig (f v) ≡ true) → (args : List Sort) → use_faults sig params args ≡ None → list_all (is_valid_sort sig) (map (apply_to f) args) ≡ true
declared-valid sig params f ok [] e = refl
declared-valid sig params f ok (s ∷ ss) e =
    let p = first_none (use_fault sig params s) (map (use_fault sig params) ss) e in
    both_true (is_valid_sort sig (apply_to f s)) (list_all (is_valid_sort sig) (map (apply_to f) ss)) (valid_under sig f ok s (use_valid sig params s p.0)) (declared-valid sig params f ok ss p.1)

pub zip-pairs-valid : (sig : Signature) (xs ys : List Sort) → list_all (is_valid_sort sig) xs ≡ true → list_all (is_valid_sort sig) ys ≡ true → AreValid sig (zip xs ys)
zip-pairs-valid sig [] ys p q = tt
zip-pairs-valid sig (x ∷ xs) [] p q = tt
zip-pairs-valid sig (x ∷ xs) (y ∷ ys) p q =
    let a = and_parts (is_valid_sort sig x) (list_all (is_valid_sort sig) xs) p in
    let b = and_parts (is_valid_sort sig y) (list_all (is_valid_sort sig) ys) q in
    ((a.0, b.0), zip-pairs-valid sig xs ys a.1 b.1)

-- what unifies the pairs of two lists makes the lists equal
pub zip-unified : (f : SVar → Sort) (xs ys : List Sort) (rest : List (Sort × Sort)) → length xs ≡ length ys → Unifies f (zip xs ys ++ rest) → map (apply_to f) xs ≡ map (apply_to f) ys
zip-unified f [] [] rest l u = refl
zip-unified f [] (y ∷ ys) rest l u = absurd (omega arith)
zip-unified f (x ∷ xs) [] rest l u = absurd (omega arith)
zip-unified f (x ∷ xs) (y ∷ ys) rest l u = let p = u.0 in let q = zip-unified f xs ys rest (omega arith) u.1 in λ i. p i ∷ q i

pub lengths : {A B : Type 0} (f : A → B) (xs : List A) → length (map f xs) ≡ length xs
lengths f [] = refl
lengths f (x ∷ xs) = let e = lengths f xs in omega arith

-- a symbol that is found has the name that was looked for
pub found-name : (ss : List Symbol) (n : Sym) (d : Symbol) → symbol_among ss n ≡ Some d → d.name ≡ n
found-name [] n d e = absurd (cc)
found-name (s ∷ ss) n d e = by (s.name.0 == n.0) refl (λ h. found-name ss n d h) e
  where
    by : (b : Bool) → (s.name.0 == n.0) ≡ b → (symbol_among ss n ≡ Some d → d.name ≡ n) → cond b (Some s) (symbol_among ss n) ≡ Some d → d.name ≡ n
    by true q k h = let g : s ≡ d = cc in let p = same_num s.name.0 n.0 q in ap (λ (x : Symbol). x.name) (sym g) ∙ (λ i. record { 0 = p i })
    by false q k h = k h

module _ (sig : Signature) (old : Trees) (d : Symbol) (first : ℕ) (ids : List TermId) (inst : List (SVar × Sort)) (made : List Sort) (result : Sort) (pairs : List (Sort × Sort))
    (sorted : IsSortedIn sig old) (there : symbol_of sig d.name ≡ Some d) (inside : All (λ i. i.0 < length old.terms) ids) (same : length d.args ≡ length ids)
    (made_are : made ≡ made_sorts first d.params) (inst_is : inst ≡ zip (map (λ p. Written p) d.params) made) (result_is : result ≡ apply_to (image inst) d.result) (pairs_are : pairs ≡ app_pairs old (image inst) d.args ids) where
  good : IsGood sig d
  good = symbol_good sig d.name d sorted.valid there

  inst_at : (s : Sort) → apply_to (image inst) s ≡ at_sorts d.params (made_sorts first d.params) s
  inst_at s = ap (λ (e : List (SVar × Sort)). apply_to (image e) s) (inst_is ∙ ap (zip (map (λ p. Written p) d.params)) made_are)

  all_at : (ss : List Sort) → map (apply_to (image inst)) ss ≡ map (at_sorts d.params (made_sorts first d.params)) ss
  all_at [] = refl
  all_at (s ∷ ss) = let p = inst_at s in let q = all_at ss in λ i. p i ∷ q i

  listed_are : pairs ≡ (app_plan sig first d (terms_of old ids)).pairs
  listed_are =
      let k = kept-are sig old ids sorted inside in
      pairs_are ∙ (λ i. zip (all_at d.args i) (sym k i) ++ variable_pairs (with_terms [] (arguments old ids)))

  counted : length d.args ≡ length (terms_of old ids)
  counted = same ∙ sym (lengths (λ (i : TermId). term_at old.terms i.0) ids)

  pub app-unsolved : (new : Trees) (e : BuildError) → MatchSolved pairs (Err e) → IsTermBuilt sig new (made_app sig first d (terms_of old ids)) (Err e)
  app-unsolved new e h = app_built sig new first d (terms_of old ids) (Err e) counted
      (refused-solve (app_plan sig first d (terms_of old ids)).pairs (λ f. term_measure sig ((app_plan sig first d (terms_of old ids)).tree f)) e (subst (λ (ps : List (Sort × Sort)). MatchSolved ps (Err e)) listed_are h))

  -- the sort of the result, under a substitution
  result_under : (f : SVar → Sort) → apply_to f result ≡ at_sorts d.params (map (apply_to f) (made_sorts first d.params)) d.result
  result_under f = ap (apply_to f) (result_is ∙ inst_at d.result) ∙ at_sorts_under sig d.params (made_sorts first d.params) f (made-length first d.params) d.result good.result_there good.result_written

  result_in : (f : SVar → Sort) → sort_in sig ((app_plan sig first d (terms_of old ids)).tree f) ≡ apply_to f result
  result_in f = ap (λ (o : Option Symbol). result_sort o (map (apply_to f) (made_sorts first d.params))) there ∙ sym (result_under f)

  terms_size-under : (f : SVar → Sort) (ts : Terms) → terms_size (terms_under f ts) ≡ terms_size ts
  terms_size-under f none = refl
  terms_size-under f (more t ts) = let p = size-under f t in let q = terms_size-under f ts in omega arith

  terms_depth-under : (f : SVar → Sort) (ts : Terms) → terms_depth (terms_under f ts) ≡ terms_depth ts
  terms_depth-under f none = refl
  terms_depth-under f (more t ts) = let p = depth-under f t in let q = terms_depth-under f ts in λ i. max (p i) (q i)

  -- the measure as the code finds it
  measure_is : (f : SVar → Sort) → app_measure sig f made result (arguments old ids) ≡ term_measure sig ((app_plan sig first d (terms_of old ids)).tree f)
  measure_is f =
      let r = sym (result_in f) in
      let m = ap (list_all (λ s. is_small (apply_to f s))) made_are ∙ sym (list_all-map is_small (apply_to f) (made_sorts first d.params)) in
      let p = sym (terms_size-under f (arguments old ids)) in
      let q = sym (terms_depth-under f (arguments old ids)) in
      λ i. record {
        small = is_small (r i) && (m i && have_small_sorts sig (terms_under f (arguments old ids)));
        nodes = 1 + p i;
        levels = 1 + q i;
      }

  module _ (u : List (SVar × Sort)) (solved : MatchSolved pairs (Ok u)) where
    solved_listed : MatchSolved (app_plan sig first d (terms_of old ids)).pairs (Ok u)
    solved_listed = subst (λ (ps : List (Sort × Sort)). MatchSolved ps (Ok u)) listed_are solved

    pub app-unmeasured : (new : Trees) (e : BuildError) → MatchMeasured (app_measure sig (image u) made result (arguments old ids)) (Err e) → IsTermBuilt sig new (made_app sig first d (terms_of old ids)) (Err e)
    app-unmeasured new e h = app_built sig new first d (terms_of old ids) (Err e) counted
        (refused-measure (app_plan sig first d (terms_of old ids)).pairs (λ f. term_measure sig ((app_plan sig first d (terms_of old ids)).tree f)) u e solved_listed
        (measured-is (app_measure sig (image u) made result (arguments old ids)) (term_measure sig ((app_plan sig first d (terms_of old ids)).tree (image u))) (Err e) (measure_is (image u)) h))

    -- the tree as the code builds it
    tree_is : term_under (image u) (app d.name made (arguments old ids)) ≡ (app_plan sig first d (terms_of old ids)).tree (image u)
    tree_is = ap (λ (l : List Sort). term_under (image u) (app d.name l (arguments old ids))) made_are

    pub app-built : (new : Trees) (r : TermId) (v : Unit {0}) → MatchMeasured (app_measure sig (image u) made result (arguments old ids)) (Ok v)
        → IsTermOf new r.0 (term_under (image u) (app d.name made (arguments old ids))) (apply_to (image u) result) → IsTermBuilt sig new (made_app sig first d (terms_of old ids)) (Ok r)
    app-built new r v h is = app_built sig new first d (terms_of old ids) (Ok r) counted (
      u,
      (
        within-measure (app_plan sig first d (terms_of old ids)).pairs (term_measure sig ((app_plan sig first d (terms_of old ids)).tree (image u))) u v solved_listed
            (measured-is (app_measure sig (image u) made result (arguments old ids)) (term_measure sig ((app_plan sig first d (terms_of old ids)).tree (image u))) (Ok v) (measure_is (image u)) h),
        ((is.0.0, is.0.1 ∙ tree_is), is.1 ∙ sym (result_in (image u))),
      ),
    )

    made_ok : (v : SVar) → is_valid_sort sig (image inst v) ≡ true
    made_ok v = ap (λ (e : List (SVar × Sort)). is_valid_sort sig (image e v)) (inst_is ∙ ap (zip (map (λ p. Written p) d.params)) made_are) ∙ zip-valid sig d.params (made_sorts first d.params) (made-valid sig first d.params) v

    pub app-valid : (v : SVar) → is_valid_sort sig (image u v) ≡ true
    app-valid =
        let vs = terms_vars-valid sig [] (arguments old ids) (sorts_of old ids) tt (have-sorts sig old ids sorted inside) in
        let ps = zip-pairs-valid sig (map (apply_to (image inst)) d.args) (sorts_of old ids) (declared-valid sig d.params (image inst) made_ok d.args good.args_there) (sorts-valid sig old ids sorted inside) in
        unifier_valid sig u pairs solved.0 (subst (AreValid sig) (sym pairs_are) (append-valid sig (zip (map (apply_to (image inst)) d.args) (sorts_of old ids)) (variable_pairs (with_terms [] (arguments old ids))) ps (variable_pairs-valid sig (with_terms [] (arguments old ids)) vs)))

    unified : map (apply_to (image u)) (map (at_sorts d.params (made_sorts first d.params)) d.args) ≡ map (apply_to (image u)) (sorts_of old ids)
    unified =
        let h = subst (λ (ps : List (Sort × Sort)). MatchSolved ps (Ok u)) pairs_are solved in
        let l : length (map (apply_to (image inst)) d.args) ≡ length (sorts_of old ids) = lengths (apply_to (image inst)) d.args ∙ same ∙ sym (lengths (λ (i : TermId). sort_at old.sorts i.0) ids) in
        ap (map (apply_to (image u))) (sym (all_at d.args)) ∙ zip-unified (image u) (map (apply_to (image inst)) d.args) (sorts_of old ids) (variable_pairs (with_terms [] (arguments old ids))) l h.0.unifies

    all-valid : list_all (is_valid_sort sig) (map (apply_to (image u)) (made_sorts first d.params)) ≡ true
    all-valid = valid_all_under sig (image u) app-valid (made_sorts first d.params) (made-valid sig first d.params)

    pub app-sorted : HasSort sig (term_under (image u) (app d.name made (arguments old ids))) (apply_to (image u) result)
    app-sorted =
        let args = have_sorts-under sig sorted.valid (image u) app-valid (have-sorts sig old ids sorted inside) in
        let sorts = sym unified ∙ all_at_sorts_under sig d.params (made_sorts first d.params) (image u) (made-length first d.params) d.args good.args_there good.args_written in
        subst (λ (t : Term). HasSort sig t (apply_to (image u) result)) (sym tree_is)
        (app_has d there (lengths (apply_to (image u)) (made_sorts first d.params) ∙ made-length first d.params) all-valid (subst (HaveSorts sig (terms_under (image u) (arguments old ids))) sorts args) (result_under (image u)))

-- ---- the node
pub app-tree : (old new : Trees) (f : SVar → Sort) (name : Sym) (made images : List Sort) (ids parts : List TermId) → images ≡ map (apply_to f) made
    → AreTerms new parts (map (λ i. term_under f (term_at old.terms i.0)) ids) → term_tree new.terms (App name images parts) ≡ term_under f (app name made (arguments old ids))
app-tree old new f name made images ids parts e a =
    let p = terms-are new parts (map (λ i. term_under f (term_at old.terms i.0)) ids) a ∙ sym (map-through f old.terms ids) in
    (λ i. app name (e i) (listed (p i))) ∙ ap (app name (map (apply_to f) made)) (sym (listed-under f (terms_of old ids)))

-- ---- the whole
-- the symbol that is found is found under its own name
pub found-there : (sig : Signature) (f : Sym) (s : Symbol) → symbol_of sig f ≡ Some s → symbol_of sig s.name ≡ Some s
found-there sig f s e = ap (symbol_of sig) (found-name sig.symbols f s e) ∙ e

pub app-whole : (sig : Signature) (new : Trees) (n : ℕ) (f : Sym) (s d : Symbol) (args : List Term) (r : Result TermId BuildError) → symbol_of sig f ≡ Some s → symbol_of sig f ≡ Some d → IsTermBuilt sig new (made_app sig n s args) r → IsTermBuilt sig new (made_app sig n d args) r
app-whole sig new n f s d args r p q h = subst (λ (x : Symbol). IsTermBuilt sig new (made_app sig n x args) r) (some-inj s d (sym p ∙ q)) h

-- another number of arguments
pub app-other : (sig : Signature) (new : Trees) (n : ℕ) (f : Sym) (s d : Symbol) (args : List Term) (want given : ℕ) → symbol_of sig f ≡ Some s → symbol_of sig f ≡ Some d → want ≡ length s.args
    → given ≡ length args → (want ≡ given → ⊥) → IsTermBuilt sig new (made_app sig n d args) (Err (ArgCount want given))
app-other sig new n f s d args want given p q e g other =
    app-whole sig new n f s d args (Err (ArgCount want given)) p q (app_miscounted sig n s args (λ k. other (e ∙ k ∙ sym g)) ∙ (λ i. refuses (counts (sym e i) (sym g i))))

pub trees-counted : (s : Trees) (ids : List TermId) → length (terms_of s ids) ≡ length ids
trees-counted s ids = lengths (λ (i : TermId). term_at s.terms i.0) ids

-- the measure at equal sort arguments
pub these-measured : (sig : Signature) (f : SVar → Sort) (result : Sort) (args : Terms) (these made : List Sort) (e : BuildError) → these ≡ made → MatchMeasured (app_measure sig f these result args) (Err e) → MatchMeasured (app_measure sig f made result args) (Err e)
these-measured sig f result args these made e p h = subst (λ (l : List Sort). MatchMeasured (app_measure sig f l result args) (Err e)) p h
