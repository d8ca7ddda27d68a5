use Rattle.std.proofs.Common.{length}
use Rattle.ath_numbering.proofs.Listings.{Taken}
use Rattle.ath_numbering.proofs.PatternLaws.{patterns_listed}
use Rattle.ath_numbering.proofs.pattern.+patterns.Given as goal

abbrev pub invariant-number_patterns-loop-tree : goal.invariant-number_patterns-loop-tree
invariant-number_patterns-loop-tree l = Taken patterns_listed l.fn.phrases l.phrases l.fn.trees l.trees l.numbers.items

abbrev pub decreases-number_patterns-loop-tree : goal.decreases-number_patterns-loop-tree
decreases-number_patterns-loop-tree l = length l.trees
