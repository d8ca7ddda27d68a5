-- What the steps of a construction answer: the unifier, and the limits.
use Rattle.std.specs.Prelude.{◌≡◌, ℕ, ◌<◌, false, IsTrue, List, slice_get, Some, Result, Ok, Err}
use Rattle.ath_sorts.specs.declared.sorts.SVar.{SVar}
use Rattle.ath_sorts.specs.declared.sorts.Sort.{Sort}
use Rattle.ath_sorts.specs.Sorts.{is_small, image}
use Rattle.ath_unifiers.specs.Unifiers.{IsLeastUnifier, IsClash}
use Rattle.ath_trees.specs.declared.node.TermId.{TermId}
use Rattle.ath_terms.specs.declared.measure.BuildError.{BuildError}
use Rattle.ath_terms.specs.declared.measure.BuildError.TheVariants.{SortClash, NotBoolean, SortTooLarge, Memory}

-- the error shows the sides of the pair at this place
abbrev pub IsClashAt : List (Sort × Sort) → ℕ → BuildError → Type 0
IsClashAt pairs at (SortClash a b) = slice_get pairs at ≡ Some (a, b)
IsClashAt pairs at e = ⊥

-- the answer is the least unifier, where its images are within the limits of a sort; else the clash, or that one isn't
abbrev pub MatchSolved : List (Sort × Sort) → Result (List (SVar × Sort)) BuildError → Type 0
MatchSolved pairs (Ok u) = IsLeastUnifier u pairs × ((v : SVar) → IsTrue (is_small (image u v)))
MatchSolved pairs (Err (SortClash a b)) = (at : ℕ) × (IsClash pairs at × (slice_get pairs at ≡ Some (a, b)))
MatchSolved pairs (Err SortTooLarge) = (u : List (SVar × Sort)) × (IsLeastUnifier u pairs × ((v : SVar) × (is_small (image u v) ≡ false)))
MatchSolved pairs (Err Memory) = Unit {0}
MatchSolved pairs (Err e) = ⊥

-- the same, where the first pair is an atom's
abbrev pub MatchBoolean : TermId → List (Sort × Sort) → Result (List (SVar × Sort)) BuildError → Type 0
MatchBoolean t pairs (Err (NotBoolean i)) = (i ≡ t) × IsClash pairs 0
MatchBoolean t pairs (Err (SortClash a b)) = (at : ℕ) × ((0 < at) × (IsClash pairs at × (slice_get pairs at ≡ Some (a, b))))
MatchBoolean t pairs r = MatchSolved pairs r
