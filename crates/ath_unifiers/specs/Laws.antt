-- Laws of unifiers, and of the function that unifies.
use Rattle.std.specs.Prelude.{◌≡◌, List, Result}
use Rattle.ath_sorts.specs.declared.sorts.SVar.{SVar}
use Rattle.ath_sorts.specs.declared.sorts.Sort.{Sort}
use Rattle.ath_unifiers.specs.declared.unification.UnifyError.{UnifyError}
use Rattle.ath_sorts.specs.Sorts.{image, apply_to}
use Rattle.ath_unifiers.specs.Unifiers.{Unifies, IsLeastUnifier, MatchUnified}
use Rattle.ath_unifiers.specs.Unified.{unified}
use Rattle.ath_unifiers.specs.Outcomes.{IsUnified, MatchOutcome}

-- a unifier is unchanged by the least one before it
abbrev pub UnifiersFactor : Type 0
UnifiersFactor = (s : List (SVar × Sort)) (pairs : List (Sort × Sort)) (f : SVar → Sort) → IsLeastUnifier s pairs → Unifies f pairs → (v : SVar) → f v ≡ apply_to f (image s v)

-- two least unifiers of one list are equal
abbrev pub LeastUnifiersAgree : Type 0
LeastUnifiersAgree = (s t : List (SVar × Sort)) (pairs : List (Sort × Sort)) → IsLeastUnifier s pairs → IsLeastUnifier t pairs → (v : SVar) → image s v ≡ image t v

-- the function gives the least unifier, or why there is none
abbrev pub UnifiedIs : Type 0
UnifiedIs = (pairs : List (Sort × Sort)) → IsUnified pairs (unified pairs)

-- each answer that unification may give is that of the function
abbrev pub AnswersAgree : Type 0
AnswersAgree = (pairs : List (Sort × Sort)) (answer : Result (List (SVar × Sort)) UnifyError) → MatchUnified pairs answer → MatchOutcome answer (unified pairs)
