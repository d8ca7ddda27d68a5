-- Equations: their pairs, and what is built.
use Rattle.std.proofs.Common.{◌≡◌, ℕ, ◌+◌, max, ◌<◌, ◌&&◌, Bool, true, List, [], ◌∷◌, length, sym, ◌∙◌, ap, subst}
use Rattle.std.specs.Prelude.{Result, Ok, Err}
use Rattle.ath_sorts.specs.declared.sorts.SVar.{SVar}
use Rattle.ath_sorts.specs.declared.sorts.Sort.{Sort}
use Rattle.ath_sorts.specs.Signature.{Signature}
use Rattle.ath_sorts.specs.Sorts.{image, apply_to}
use Rattle.ath_trees.specs.declared.node.SentId.{SentId}
use Rattle.ath_terms.specs.declared.measure.BuildError.{BuildError}
use Rattle.ath_trees.specs.Measure.{term_size, term_depth}
use Rattle.ath_trees.specs.Tree.{equal}
use Rattle.ath_terms.specs.Trees.{Trees, term_at, sort_at, Grows, IsTerm, IsSent}
use Rattle.ath_trees.specs.SortsIn.{has_small_sorts}
use Rattle.ath_terms.specs.SortsIn.{IsSortedIn}
use Rattle.ath_trees.specs.Variables.{with_term}
use Rattle.ath_trees.specs.Under.{term_under}
use Rattle.ath_trees.specs.WellSorted.{is_valid_sort}
use Rattle.ath_construction.specs.Construction.{variable_pairs, sent_measure, equation_plan, made_equation}
use Rattle.ath_construction.specs.Steps.{MatchSolved}
use Rattle.ath_terms.specs.Limits.{MatchMeasured}
use Rattle.ath_construction.specs.Answers.{IsSentBuilt}
use Rattle.ath_construction.proofs.Planned.{sent_built}
use Rattle.ath_trees.proofs.UnderLaws.{sort_in-is, size-under, depth-under}
use Rattle.ath_construction.proofs.UnifierValid.{AreValid, unifier_valid}
use Rattle.ath_construction.proofs.ConstructionLaws.{measured-is, refused-solve, refused-measure, within-measure, has_sort-valid, term_vars-valid, variable_pairs-valid}

abbrev pub equation_listed : Trees → ℕ → ℕ → List (Sort × Sort)
equation_listed old s t = (sort_at old.sorts s, sort_at old.sorts t) ∷ variable_pairs (with_term (with_term [] (term_at old.terms s)) (term_at old.terms t))

module _ (sig : Signature) (old : Trees) (s t : ℕ) (sorted : IsSortedIn sig old) (left : s < length old.terms) (right : t < length old.terms) (pairs : List (Sort × Sort)) (are : pairs ≡ equation_listed old s t) where
  listed : pairs ≡ (equation_plan sig (term_at old.terms s) (term_at old.terms t)).pairs
  listed =
      let p = sort_in-is sig (term_at old.terms s) (sort_at old.sorts s) (sorted.terms s left) in
      let q = sort_in-is sig (term_at old.terms t) (sort_at old.sorts t) (sorted.terms t right) in
      are ∙ (λ i. (sym p i, sym q i) ∷ variable_pairs (with_term (with_term [] (term_at old.terms s)) (term_at old.terms t)))

  pub equation-unsolved : (new : Trees) (e : BuildError) → MatchSolved pairs (Err e) → IsSentBuilt new (made_equation sig (term_at old.terms s) (term_at old.terms t)) (Err e)
  equation-unsolved new e h = sent_built sig new (equation_plan sig (term_at old.terms s) (term_at old.terms t)) (Err e)
      (refused-solve (equation_plan sig (term_at old.terms s) (term_at old.terms t)).pairs (λ f. sent_measure sig (equal (term_under f (term_at old.terms s)) (term_under f (term_at old.terms t)))) e (subst (λ (ps : List (Sort × Sort)). MatchSolved ps (Err e)) listed h))

  module _ (u : List (SVar × Sort)) (solved : MatchSolved pairs (Ok u)) where
    solved_listed : MatchSolved (equation_plan sig (term_at old.terms s) (term_at old.terms t)).pairs (Ok u)
    solved_listed = subst (λ (ps : List (Sort × Sort)). MatchSolved ps (Ok u)) listed solved

    pub equation-unmeasured : (new : Trees) (e : BuildError) → MatchMeasured (sent_measure sig (equal (term_under (image u) (term_at old.terms s)) (term_under (image u) (term_at old.terms t)))) (Err e) → IsSentBuilt new (made_equation sig (term_at old.terms s) (term_at old.terms t)) (Err e)
    equation-unmeasured new e h = sent_built sig new (equation_plan sig (term_at old.terms s) (term_at old.terms t)) (Err e)
        (refused-measure (equation_plan sig (term_at old.terms s) (term_at old.terms t)).pairs (λ f. sent_measure sig (equal (term_under f (term_at old.terms s)) (term_under f (term_at old.terms t)))) u e solved_listed h)

    pub equation-built : (new : Trees) (p : SentId) (v : Unit {0})
        → MatchMeasured (sent_measure sig (equal (term_under (image u) (term_at old.terms s)) (term_under (image u) (term_at old.terms t)))) (Ok v)
        → IsSent new p.0 (equal (term_under (image u) (term_at old.terms s)) (term_under (image u) (term_at old.terms t)))
        → IsSentBuilt new (made_equation sig (term_at old.terms s) (term_at old.terms t)) (Ok p)
    equation-built new p v h is = sent_built sig new (equation_plan sig (term_at old.terms s) (term_at old.terms t)) (Ok p)
        ((u, (within-measure (equation_plan sig (term_at old.terms s) (term_at old.terms t)).pairs (sent_measure sig (equal (term_under (image u) (term_at old.terms s)) (term_under (image u) (term_at old.terms t)))) u v solved_listed h, is)))

    -- the images are valid, and the sides have one sort
    pub equation-valid : (v : SVar) → is_valid_sort sig (image u v) ≡ true
    equation-valid =
        let l = sorted.terms s left in
        let r = sorted.terms t right in
        let vs = term_vars-valid sig (with_term [] (term_at old.terms s)) (term_at old.terms t) (sort_at old.sorts t) (term_vars-valid sig [] (term_at old.terms s) (sort_at old.sorts s) tt l) r in
        unifier_valid sig u pairs solved.0
        (subst (AreValid sig) (sym are) (
          (has_sort-valid sig (term_at old.terms s) (sort_at old.sorts s) sorted.valid l, has_sort-valid sig (term_at old.terms t) (sort_at old.sorts t) sorted.valid r),
          variable_pairs-valid sig (with_term (with_term [] (term_at old.terms s)) (term_at old.terms t)) vs,
        ))

    pub equation-sides : apply_to (image u) (sort_at old.sorts s) ≡ apply_to (image u) (sort_at old.sorts t)
    equation-sides = let h = subst (λ (ps : List (Sort × Sort)). MatchSolved ps (Ok u)) are solved in h.0.unifies.0

-- its measure
pub equation-measured : (sig : Signature) (old : Trees) (f : SVar → Sort) (s t : ℕ) (small : Bool) (a b c d : ℕ) (r : Result (Unit {0}) BuildError)
    → small ≡ (has_small_sorts sig (term_under f (term_at old.terms s)) && has_small_sorts sig (term_under f (term_at old.terms t))) → a ≡ term_size (term_at old.terms s)
    → b ≡ term_size (term_at old.terms t) → c ≡ term_depth (term_at old.terms s) → d ≡ term_depth (term_at old.terms t)
    → MatchMeasured (record { small = small; nodes = 1 + a + b; levels = 1 + max c d }) r
    → MatchMeasured (sent_measure sig (equal (term_under f (term_at old.terms s)) (term_under f (term_at old.terms t)))) r
equation-measured sig old f s t small a b c d r e p q v w h =
    let p' = p ∙ sym (size-under f (term_at old.terms s)) in
    let q' = q ∙ sym (size-under f (term_at old.terms t)) in
    let v' = v ∙ sym (depth-under f (term_at old.terms s)) in
    let w' = w ∙ sym (depth-under f (term_at old.terms t)) in
    measured-is (record { small = small; nodes = 1 + a + b; levels = 1 + max c d }) (sent_measure sig (equal (term_under f (term_at old.terms s)) (term_under f (term_at old.terms t)))) r
    (λ i. record { small = e i; nodes = 1 + p' i + q' i; levels = 1 + max (v' i) (w' i) }) h

-- the sides under a substitution, in a store that grows
pub sides-under : (f : SVar → Sort) (old mid new : Trees) (s t l r : ℕ) → t < length old.terms → Grows old mid → Grows mid new → IsTerm mid l (term_under f (term_at old.terms s))
    → IsTerm new r (term_under f (term_at mid.terms t)) → equal (term_at new.terms l) (term_at new.terms r) ≡ equal (term_under f (term_at old.terms s)) (term_under f (term_at old.terms t))
sides-under f old mid new s t l r below g k h w =
    let x = k.same_terms l h.0 ∙ h.1 in
    let y = w.1 ∙ ap (term_under f) (g.same_terms t below) in
    λ i. equal (x i) (y i)
