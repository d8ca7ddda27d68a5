use Rattle.ath_session.proofs.UnbuiltLaws.{BuiltTo}
use Rattle.ath_session.proofs.unbuilt.+unbuilt.Given as goal

abbrev pub decreases-unbuilt : goal.decreases-unbuilt
decreases-unbuilt l = l.phrase.0

abbrev pub invariant-loop-part : goal.invariant-loop-part
invariant-loop-part l = BuiltTo l.phrases l.names l.fn.phrase l.parts l.part-index
