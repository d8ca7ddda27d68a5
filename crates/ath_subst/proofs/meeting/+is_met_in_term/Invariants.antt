use Rattle.std.proofs.Common.{◌≡◌, false, take}
use Rattle.std.specs.List.{list_any}
use Rattle.ath_sorts.specs.Sorts.{image}
use Rattle.ath_subst.specs.Meeting.{meets_past}
use Rattle.ath_terms.specs.Trees.{term_at}
use Rattle.ath_subst.proofs.MeetingLaws.{any_term}
use Rattle.ath_subst.proofs.meeting.+is_met_in_term.Given as goal

abbrev pub decreases-is_met_in_term : goal.decreases-is_met_in_term
decreases-is_met_in_term l = l.t.0

abbrev pub invariant-loop-i : goal.invariant-loop-i
invariant-loop-i l = list_any (λ j. any_term (meets_past (image l.subst) l.v l.bound) (term_at l.store.terms j.0)) (take l.i l.parts) ≡ false
