-- Quantifiers: their measure, and what is built.
use Rattle.std.proofs.Common.{◌≡◌, ℕ, ◌+◌, ◌&&◌, Bool, true, List, [], ◌∷◌, sym, ◌∙◌, subst}
use Rattle.std.specs.Prelude.{Result, Ok, Err}
use Rattle.ath_sorts.specs.declared.sorts.SVar.{SVar}
use Rattle.ath_sorts.specs.declared.sorts.Sort.{Sort}
use Rattle.ath_sorts.specs.Signature.{Signature}
use Rattle.ath_sorts.specs.Sorts.{is_small, image, apply_to}
use Rattle.ath_sorts.specs.Validity.{IsValid}
use Rattle.ath_trees.specs.declared.node.Var.{Var}
use Rattle.ath_trees.specs.declared.node.Quant.{Quant}
use Rattle.ath_trees.specs.declared.node.SentId.{SentId}
use Rattle.ath_trees.specs.Measure.{sent_size, sent_depth}
use Rattle.ath_trees.specs.Tree.{Sent, bound}
use Rattle.ath_trees.specs.SortsIn.{sent_has_small_sorts}
use Rattle.ath_trees.specs.Under.{var_under}
use Rattle.ath_trees.specs.SortUnder.{sent_at_sorts}
use Rattle.ath_trees.specs.Variables.{with_sent}
use Rattle.ath_trees.specs.WellSorted.{is_valid_sort, IsWellSorted}
use Rattle.ath_trees.proofs.SortUnderLaws.{at_sorts-size, at_sorts-depth}
use Rattle.ath_trees.proofs.Sorting.{at_sorts-sorted}
use Rattle.ath_trees.proofs.ValidSorts.{valid_under}
use Rattle.ath_terms.specs.declared.measure.BuildError.{BuildError}
use Rattle.ath_terms.specs.Limits.{MatchMeasured}
use Rattle.ath_terms.specs.Trees.{Trees, IsSent}
use Rattle.ath_construction.specs.Construction.{variable_pairs, sent_measure, quantifier_plan, made_quantifier}
use Rattle.ath_construction.specs.Steps.{MatchSolved}
use Rattle.ath_construction.specs.Answers.{IsSentBuilt}
use Rattle.ath_construction.proofs.Planned.{sent_built}
use Rattle.ath_construction.proofs.UnifierValid.{unifier_valid}
use Rattle.ath_construction.proofs.ConstructionLaws.{measured-is, refused-solve, refused-measure, within-measure, sent_vars-valid, variable_pairs-valid}

-- the quantifier under a substitution
abbrev pub quantified : (SVar → Sort) → Quant → Var → Sent → Sent
quantified f k v p = bound k (var_under f v) (sent_at_sorts f p)

pub quantifier-measured : (sig : Signature) (f : SVar → Sort) (k : Quant) (v : Var) (p : Sent) (small : Bool) (a c : ℕ) (r : Result (Unit {0}) BuildError)
    → small ≡ (is_small (apply_to f v.sort) && sent_has_small_sorts sig (sent_at_sorts f p)) → a ≡ sent_size p → c ≡ sent_depth p
    → MatchMeasured (record { small = small; nodes = 1 + a; levels = 1 + c }) r → MatchMeasured (sent_measure sig (quantified f k v p)) r
quantifier-measured sig f k v p small a c r e q w h =
    let q' = q ∙ sym (at_sorts-size f p) in
    let w' = w ∙ sym (at_sorts-depth f p) in
    measured-is (record { small = small; nodes = 1 + a; levels = 1 + c }) (sent_measure sig (quantified f k v p)) r (λ i. record { small = e i; nodes = 1 + q' i; levels = 1 + w' i }) h

pub quantifier-sorted : (sig : Signature) (f : SVar → Sort) (k : Quant) (v : Var) (p x : Sent) → IsValid sig → ((w : SVar) → is_valid_sort sig (f w) ≡ true) → is_valid_sort sig v.sort ≡ true → IsWellSorted sig p → x ≡ quantified f k v p → IsWellSorted sig x
quantifier-sorted sig f k v p x valid ok s w e = subst (IsWellSorted sig) (sym e) (valid_under sig f ok v.sort s, at_sorts-sorted sig valid f ok p w)

module _ (sig : Signature) (k : Quant) (v : Var) (p : Sent) (pairs : List (Sort × Sort)) (are : pairs ≡ variable_pairs (with_sent (v ∷ []) p)) where
  abbrev listed : List (Sort × Sort)
  listed = variable_pairs (with_sent (v ∷ []) p)

  pub quantifier-unsolved : (new : Trees) (e : BuildError) → MatchSolved pairs (Err e) → IsSentBuilt new (made_quantifier sig k v p) (Err e)
  quantifier-unsolved new e h = sent_built sig new (quantifier_plan k v p) (Err e)
      (refused-solve listed (λ f. sent_measure sig (quantified f k v p)) e (subst (λ (l : List (Sort × Sort)). MatchSolved l (Err e)) are h))

  module _ (u : List (SVar × Sort)) (solved : MatchSolved pairs (Ok u)) where
    solved_listed : MatchSolved listed (Ok u)
    solved_listed = subst (λ (l : List (Sort × Sort)). MatchSolved l (Ok u)) are solved

    pub quantifier-unmeasured : (new : Trees) (e : BuildError) → MatchMeasured (sent_measure sig (quantified (image u) k v p)) (Err e) → IsSentBuilt new (made_quantifier sig k v p) (Err e)
    quantifier-unmeasured new e h = sent_built sig new (quantifier_plan k v p) (Err e) (refused-measure listed (λ f. sent_measure sig (quantified f k v p)) u e solved_listed h)

    pub quantifier-built : (new : Trees) (r : SentId) (w : Unit {0}) → MatchMeasured (sent_measure sig (quantified (image u) k v p)) (Ok w) → IsSent new r.0 (quantified (image u) k v p) → IsSentBuilt new (made_quantifier sig k v p) (Ok r)
    quantifier-built new r w h is = sent_built sig new (quantifier_plan k v p) (Ok r) ((u, (within-measure listed (sent_measure sig (quantified (image u) k v p)) u w solved_listed h, is)))

    pub quantifier-valid : is_valid_sort sig v.sort ≡ true → IsWellSorted sig p → (w : SVar) → is_valid_sort sig (image u w) ≡ true
    quantifier-valid s w = unifier_valid sig u listed solved_listed.0 (variable_pairs-valid sig (with_sent (v ∷ []) p) (sent_vars-valid sig (v ∷ []) p (s, tt) w))
