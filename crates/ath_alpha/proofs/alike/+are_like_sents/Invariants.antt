use Rattle.std.proofs.Common.{◌≡◌, take, map}
use Rattle.ath_alpha.specs.Binders.{lefts_of, rights_of}
use Rattle.ath_alpha.proofs.FormLaws.{sent_shown}
use Rattle.ath_alpha.proofs.alike.+are_like_sents.Given as goal

abbrev pub decreases-are_like_sents : goal.decreases-are_like_sents
decreases-are_like_sents l = l.p.0

abbrev pub invariant-loop-i : goal.invariant-loop-i
invariant-loop-i l = map (sent_shown l.told l.store.sents (lefts_of l.binders)) (take l.i l.xs) ≡ map (sent_shown l.told l.store.sents (rights_of l.binders)) (take l.i l.ys)
