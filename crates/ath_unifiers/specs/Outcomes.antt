-- What the function that unifies says of unifiers, and of the answers of the code.
use Rattle.std.specs.Prelude.{◌≡◌, false, IsTrue, List, Result, Ok, Err}
use Rattle.ath_sorts.specs.declared.sorts.SVar.{SVar}
use Rattle.ath_sorts.specs.declared.sorts.Sort.{Sort}
use Rattle.ath_unifiers.specs.declared.unification.UnifyError.{UnifyError}
use Rattle.ath_unifiers.specs.declared.unification.UnifyError.TheVariants.{Clash, SortTooLarge, Memory}
use Rattle.ath_sorts.specs.Sorts.{image, is_small}
use Rattle.ath_unifiers.specs.Unifiers.{IsLeastUnifier, IsClash, MovesAll}
use Rattle.ath_unifiers.specs.Unified.{Unified, solved, clashes, too_large}

-- the outcome is the least unifier, where it exists and its images are within the limits
abbrev pub IsUnified : List (Sort × Sort) → Unified → Type 0
IsUnified pairs (solved s) = IsLeastUnifier s pairs × MovesAll s × ((v : SVar) → IsTrue (is_small (image s v)))
IsUnified pairs (clashes at) = IsClash pairs at
IsUnified pairs too_large = (s : List (SVar × Sort)) × IsLeastUnifier s pairs × ((v : SVar) × (is_small (image s v) ≡ false))

-- the answer is this outcome, where two maps with the same images count as one; or memory is wanted
abbrev pub MatchOutcome : Result (List (SVar × Sort)) UnifyError → Unified → Type 0
MatchOutcome (Ok s) u = (t : List (SVar × Sort)) × (u ≡ solved t) × ((v : SVar) → image s v ≡ image t v)
MatchOutcome (Err (Clash at)) u = u ≡ clashes at
MatchOutcome (Err SortTooLarge) u = u ≡ too_large
MatchOutcome (Err Memory) u = Unit {0}
