use Rattle.std.proofs.Common.{◌≡◌, take, map}
use Rattle.ath_alpha.specs.Binders.{lefts_of, rights_of}
use Rattle.ath_alpha.proofs.FormLaws.{shown}
use Rattle.ath_alpha.proofs.alike.+are_like_terms.Given as goal

abbrev pub decreases-are_like_terms : goal.decreases-are_like_terms
decreases-are_like_terms l = l.s.0

abbrev pub invariant-loop-i : goal.invariant-loop-i
invariant-loop-i l = map (shown l.told l.store.terms (lefts_of l.binders)) (take l.i l.xs) ≡ map (shown l.told l.store.terms (rights_of l.binders)) (take l.i l.ys)
