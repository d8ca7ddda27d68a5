-- What is closed so far.
use Rattle.std.proofs.Common.{◌≡◌, length}
use Rattle.ath_grammar.specs.Levels.{closed}
use Rattle.ath_grammar.proofs.levels.Levels.close.Given as goal

abbrev pub invariant-loop-part : goal.invariant-loop-part
invariant-loop-part l = closed l.self ≡ closed l.initial.self

abbrev pub decreases-loop-part : goal.decreases-loop-part
decreases-loop-part l = length l.self
