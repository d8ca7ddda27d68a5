-- Refusals of constructions, as they are told.
use Rattle.std.specs.Prelude.{[], ◌∷◌}
use Rattle.ath_construction.specs.Construction.{Unbuilt, counts, not_boolean, clash, sort_above, nodes_above, levels_above}
use Rattle.ath_print.specs.declared.fault.FaultKind.TheVariants.{SortClash, ArgCount, NotBoolean, SortTooLarge, TooLarge, TooDeep}
use Rattle.ath_print.specs.Events.{Refusal, term_named, sort_named, number_named}
use Rattle.ath_eval.specs.Outcomes.{refusal}

abbrev pub told : Unbuilt → Refusal
told (counts want given) = refusal ArgCount (number_named want ∷ number_named given ∷ [])
told (not_boolean t) = refusal NotBoolean (term_named t ∷ [])
told (clash pair) = refusal SortClash (sort_named pair.0 ∷ sort_named pair.1 ∷ [])
told sort_above = refusal SortTooLarge []
told (nodes_above n) = refusal TooLarge (number_named n ∷ [])
told (levels_above n) = refusal TooDeep (number_named n ∷ [])
