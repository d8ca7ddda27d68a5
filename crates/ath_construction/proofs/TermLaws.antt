-- Ascriptions and atoms: their pairs, and what is built.
use Rattle.std.proofs.Common.{◌≡◌, ℕ, zero, suc, ◌<◌, ◌&&◌, Bool, true, Option, List, [], ◌∷◌, length, take, sym, ◌∙◌, ap, subst, arith}
use Rattle.std.specs.Prelude.{Result, Ok, Err}
use Rattle.ath_sorts.specs.declared.sorts.SVar.{SVar}
use Rattle.ath_sorts.specs.declared.sorts.Sort.{Sort}
use Rattle.ath_sorts.specs.Signature.{Signature, boolean}
use Rattle.ath_sorts.specs.Sorts.{image, apply_to}
use Rattle.ath_unifiers.specs.Unifiers.{HasUnifier}
use Rattle.ath_trees.specs.declared.node.TermId.{TermId}
use Rattle.ath_trees.specs.declared.node.SentId.{SentId}
use Rattle.ath_terms.specs.declared.measure.BuildError.{BuildError}
use Rattle.ath_terms.specs.declared.measure.BuildError.TheVariants.{SortClash, ArgCount, NotBoolean, TooLarge, TooDeep, SortTooLarge, Memory}
use Rattle.ath_trees.specs.Measure.{term_size, term_depth}
use Rattle.ath_trees.specs.Tree.{Term, atom}
use Rattle.ath_terms.specs.Trees.{Trees, term_at, sort_at, Grows, IsTermOf, IsSent}
use Rattle.ath_trees.specs.SortsIn.{sort_in, has_small_sorts}
use Rattle.ath_terms.specs.SortsIn.{IsSortedIn}
use Rattle.ath_trees.specs.Variables.{with_term}
use Rattle.ath_trees.specs.Under.{term_under}
use Rattle.ath_trees.specs.WellSorted.{has_arity, is_valid_sort}
use Rattle.ath_construction.specs.Construction.{variable_pairs, term_measure, ascription_plan, atom_plan, made_ascription, made_atom}
use Rattle.ath_construction.specs.Answers.{IsTermBuilt, IsSentBuilt}
use Rattle.ath_construction.specs.Steps.{MatchSolved, MatchBoolean}
use Rattle.ath_terms.specs.Limits.{MatchMeasured}
use Rattle.ath_construction.proofs.Planned.{MatchAtom, term_built, atom_built}
use Rattle.ath_trees.proofs.UnderLaws.{sort_in-is, sort_in-under, size-under, depth-under}
use Rattle.ath_sorts.proofs.SortLaws.{apply-con}
use Rattle.ath_trees.proofs.ValidSorts.{valid-con}
use Rattle.ath_construction.proofs.UnifierValid.{AreValid, unifier_valid}
use Rattle.ath_construction.proofs.ConstructionLaws.{measured-is, refused-solve, refused-measure, within-measure, has_sort-valid, term_vars-valid, variable_pairs-valid}

abbrev pub term_listed : Trees → ℕ → Sort → List (Sort × Sort)
term_listed old t sort = (sort_at old.sorts t, sort) ∷ variable_pairs (with_term [] (term_at old.terms t))

-- the measure of a term under a substitution
pub term-measured : (sig : Signature) (old : Trees) (f : SVar → Sort) (t : ℕ) (small : Bool) (a c : ℕ) (r : Result (Unit {0}) BuildError)
    → small ≡ has_small_sorts sig (term_under f (term_at old.terms t)) → a ≡ term_size (term_at old.terms t) → c ≡ term_depth (term_at old.terms t)
    → MatchMeasured (record { small = small; nodes = a; levels = c }) r → MatchMeasured (term_measure sig (term_under f (term_at old.terms t))) r
term-measured sig old f t small a c r e p v h =
    let p' = p ∙ sym (size-under f (term_at old.terms t)) in
    let v' = v ∙ sym (depth-under f (term_at old.terms t)) in
    measured-is (record { small = small; nodes = a; levels = c }) (term_measure sig (term_under f (term_at old.terms t))) r
    (λ i. record { small = e i; nodes = p' i; levels = v' i }) h

module _ (sig : Signature) (old : Trees) (t : ℕ) (sort : Sort) (sorted : IsSortedIn sig old) (inside : t < length old.terms) (pairs : List (Sort × Sort)) (are : pairs ≡ term_listed old t sort) where
  listed : pairs ≡ (ascription_plan sig (term_at old.terms t) sort).pairs
  listed =
      let p = sort_in-is sig (term_at old.terms t) (sort_at old.sorts t) (sorted.terms t inside) in
      are ∙ (λ i. (sym p i, sort) ∷ variable_pairs (with_term [] (term_at old.terms t)))

  pub ascription-unsolved : (new : Trees) (e : BuildError) → MatchSolved pairs (Err e) → IsTermBuilt sig new (made_ascription sig (term_at old.terms t) sort) (Err e)
  ascription-unsolved new e h = term_built sig new (ascription_plan sig (term_at old.terms t) sort) (Err e)
      (refused-solve (ascription_plan sig (term_at old.terms t) sort).pairs (λ f. term_measure sig (term_under f (term_at old.terms t))) e (subst (λ (ps : List (Sort × Sort)). MatchSolved ps (Err e)) listed h))

  module _ (u : List (SVar × Sort)) (solved : MatchSolved pairs (Ok u)) where
    pub solved_listed : MatchSolved (ascription_plan sig (term_at old.terms t) sort).pairs (Ok u)
    solved_listed = subst (λ (ps : List (Sort × Sort)). MatchSolved ps (Ok u)) listed solved

    pub ascription-unmeasured : (new : Trees) (e : BuildError) → MatchMeasured (term_measure sig (term_under (image u) (term_at old.terms t))) (Err e) → IsTermBuilt sig new (made_ascription sig (term_at old.terms t) sort) (Err e)
    ascription-unmeasured new e h = term_built sig new (ascription_plan sig (term_at old.terms t) sort) (Err e) (refused-measure (ascription_plan sig (term_at old.terms t) sort).pairs (λ f. term_measure sig (term_under f (term_at old.terms t))) u e solved_listed h)

    pub ascription-built : (new : Trees) (r : TermId) (v : Unit {0}) → MatchMeasured (term_measure sig (term_under (image u) (term_at old.terms t))) (Ok v)
        → IsTermOf new r.0 (term_under (image u) (term_at old.terms t)) (apply_to (image u) (sort_at old.sorts t)) → IsTermBuilt sig new (made_ascription sig (term_at old.terms t) sort) (Ok r)
    ascription-built new r v h is = term_built sig new (ascription_plan sig (term_at old.terms t) sort) (Ok r) (
      u,
      (
        within-measure (ascription_plan sig (term_at old.terms t) sort).pairs (term_measure sig (term_under (image u) (term_at old.terms t))) u v solved_listed h,
        (is.0, is.1 ∙ sym (sort_in-under sig (image u) (term_at old.terms t) (sort_at old.sorts t) sorted.valid (sorted.terms t inside))),
      ),
    )

    pub term-valid : is_valid_sort sig sort ≡ true → (v : SVar) → is_valid_sort sig (image u v) ≡ true
    term-valid good =
        let l = sorted.terms t inside in
        let vs = term_vars-valid sig [] (term_at old.terms t) (sort_at old.sorts t) tt l in
        unifier_valid sig u pairs solved.0 (subst (AreValid sig) (sym are) ((has_sort-valid sig (term_at old.terms t) (sort_at old.sorts t) sorted.valid l, good), variable_pairs-valid sig (with_term [] (term_at old.terms t)) vs))

    pub term-sides : apply_to (image u) (sort_at old.sorts t) ≡ apply_to (image u) sort
    term-sides = let h = subst (λ (ps : List (Sort × Sort)). MatchSolved ps (Ok u)) are solved in h.0.unifies.0

-- ---- atoms
pub boolean-valid : (sig : Signature) (old : Trees) → IsSortedIn sig old → (sort : Sort) → sort ≡ boolean → is_valid_sort sig sort ≡ true
boolean-valid sig old h sort e = ap (is_valid_sort sig) e ∙ valid-con sig (record { 0 = 0 }) [] ∙ ap (λ (o : Option ℕ). has_arity o 0 && true) h.boolean_there

pub boolean-stays : (f : SVar → Sort) (sort : Sort) → sort ≡ boolean → apply_to f sort ≡ boolean
boolean-stays f sort e = ap (apply_to f) e ∙ apply-con f (record { 0 = 0 }) []

first_of : (p : Sort × Sort) (ps : List (Sort × Sort)) (at : ℕ) → 0 < at → HasUnifier (take at (p ∷ ps)) → HasUnifier (p ∷ [])
first_of p ps zero h u = absurd (omega arith)
first_of p ps (suc at) h u = (u.0, (u.1.0, tt))

module _ (sig : Signature) (t : Term) (id : TermId) (new : Trees) where
  abbrev plan_pairs : List (Sort × Sort)
  plan_pairs = (sort_in sig t, boolean) ∷ variable_pairs (with_term [] t)

  pub boolean-refused : (e : BuildError) → MatchBoolean id plan_pairs (Err e) → MatchAtom sig new id t (Err e)
  boolean-refused (NotBoolean i) h = (h.0, λ u. h.1.2 u)
  boolean-refused (SortClash a b) h = (first_of (sort_in sig t, boolean) (variable_pairs (with_term [] t)) h.0 h.1.0 h.1.1.0.1, (h.0, h.1.1))
  boolean-refused SortTooLarge h = ((image h.0, (h.1.0.unifies.0, tt)), refused-solve plan_pairs (λ f. term_measure sig (term_under f t)) SortTooLarge h)
  boolean-refused Memory h = tt
  boolean-refused (TooLarge n) h = absurd h
  boolean-refused (TooDeep n) h = absurd h
  boolean-refused (ArgCount a b) h = absurd h

  pub atom-refused : (u : List (SVar × Sort)) (e : BuildError) → MatchSolved plan_pairs (Ok u) → MatchMeasured (term_measure sig (term_under (image u) t)) (Err e) → MatchAtom sig new id t (Err e)
  atom-refused u SortTooLarge s h = ((image u, (s.0.unifies.0, tt)), refused-measure plan_pairs (λ f. term_measure sig (term_under f t)) u SortTooLarge s h)
  atom-refused u (TooLarge n) s h = ((image u, (s.0.unifies.0, tt)), refused-measure plan_pairs (λ f. term_measure sig (term_under f t)) u (TooLarge n) s h)
  atom-refused u (TooDeep n) s h = ((image u, (s.0.unifies.0, tt)), refused-measure plan_pairs (λ f. term_measure sig (term_under f t)) u (TooDeep n) s h)
  atom-refused u Memory s h = tt
  atom-refused u (SortClash a b) s h = absurd h
  atom-refused u (ArgCount a b) s h = absurd h
  atom-refused u (NotBoolean i) s h = absurd h

module _ (sig : Signature) (old : Trees) (t : TermId) (sorted : IsSortedIn sig old) (inside : t.0 < length old.terms) (pairs : List (Sort × Sort)) (sort : Sort) (as_it_is : sort ≡ boolean) (are : pairs ≡ term_listed old t.0 sort) (new : Trees) (grown : Grows old new) where
  the_atom : (r : Result SentId BuildError) → MatchAtom sig new t (term_at old.terms t.0) r → IsSentBuilt new (made_atom sig (term_at old.terms t.0)) r
  the_atom r h = atom_built sig new t (term_at old.terms t.0) (omega (arith, inside, grown.terms)) (grown.same_terms t.0 inside) r h

  boolean_listed : pairs ≡ (atom_plan sig (term_at old.terms t.0)).pairs
  boolean_listed = listed sig old t.0 sort sorted inside pairs are ∙ ap (λ s. (ascription_plan sig (term_at old.terms t.0) s).pairs) as_it_is

  pub atom-unsolved : (e : BuildError) → MatchBoolean t pairs (Err e) → IsSentBuilt new (made_atom sig (term_at old.terms t.0)) (Err e)
  atom-unsolved e h = the_atom (Err e) (boolean-refused sig (term_at old.terms t.0) t new e (subst (λ (ps : List (Sort × Sort)). MatchBoolean t ps (Err e)) boolean_listed h))

  module _ (u : List (SVar × Sort)) (solved : MatchSolved pairs (Ok u)) where
    solved_boolean : MatchSolved (atom_plan sig (term_at old.terms t.0)).pairs (Ok u)
    solved_boolean = subst (λ (ps : List (Sort × Sort)). MatchSolved ps (Ok u)) boolean_listed solved

    pub atom-unmeasured : (e : BuildError) → MatchMeasured (term_measure sig (term_under (image u) (term_at old.terms t.0))) (Err e) → IsSentBuilt new (made_atom sig (term_at old.terms t.0)) (Err e)
    atom-unmeasured e h = the_atom (Err e) (atom-refused sig (term_at old.terms t.0) t new u e solved_boolean h)

    pub atom-built : (r : SentId) (v : Unit {0}) → MatchMeasured (term_measure sig (term_under (image u) (term_at old.terms t.0))) (Ok v) → IsSent new r.0 (atom (term_under (image u) (term_at old.terms t.0))) → IsSentBuilt new (made_atom sig (term_at old.terms t.0)) (Ok r)
    atom-built r v h is = the_atom (Ok r) (((image u, (solved_boolean.0.unifies.0, tt)), (u, (within-measure (atom_plan sig (term_at old.terms t.0)).pairs (term_measure sig (term_under (image u) (term_at old.terms t.0))) u v solved_boolean h, is))))
