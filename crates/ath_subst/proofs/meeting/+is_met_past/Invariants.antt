use Rattle.std.proofs.Common.{◌≡◌, false, take}
use Rattle.std.specs.List.{list_any}
use Rattle.ath_sorts.specs.Sorts.{image}
use Rattle.ath_subst.specs.Meeting.{meets_past}
use Rattle.ath_terms.specs.Trees.{sent_at}
use Rattle.ath_subst.proofs.MeetingLaws.{any_sent}
use Rattle.ath_subst.proofs.meeting.+is_met_past.Given as goal

abbrev pub decreases-is_met_past : goal.decreases-is_met_past
decreases-is_met_past l = l.p.0

abbrev pub invariant-loop-i : goal.invariant-loop-i
invariant-loop-i l = list_any (λ j. any_sent (meets_past (image l.subst) l.v l.bound) (sent_at l.store.sents j.0)) (take l.i l.parts) ≡ false
