use Rattle.std.proofs.Common.{◌≡◌, drop}
use Rattle.ath_sorts.specs.Instances.{is_rigid}
use Rattle.ath_alpha.specs.Binders.{lefts_of, rights_of}
use Rattle.ath_alpha.proofs.WalkLaws.{walk}
use Rattle.ath_alpha.proofs.MatchLaws.{match_sents_at}
use Rattle.ath_alpha.proofs.instance.+match_sents.Given as goal

abbrev pub decreases-match_sents : goal.decreases-match_sents
decreases-match_sents l = l.p.0

abbrev pub invariant-loop-i : goal.invariant-loop-i
invariant-loop-i l = walk (match_sents_at (is_rigid l.at.rigid.now) l.at.store.now.sents (lefts_of l.at.binders.now) (rights_of l.at.binders.now)) l.xs l.ys l.initial.found ≡ walk (match_sents_at (is_rigid l.at.rigid.now) l.at.store.now.sents (lefts_of l.at.binders.now) (rights_of l.at.binders.now)) (drop l.i l.xs) (drop l.i l.ys) l.found
