use Rattle.std.proofs.Common.{◌≡◌, length}
use Rattle.ath_grammar.specs.Grammar.{grammar}
use Rattle.ath_grammar.specs.Machine.{also, advance}
use Rattle.ath_grammar.specs.Trees.{trees}
use Rattle.ath_builder.specs.Values.{held}
use Rattle.ath_reader.specs.Runs.{left, seen_of}
use Rattle.ath_reader.proofs.machine.Machine.step.Given as goal

abbrev pub invariant-loop-item : goal.invariant-loop-item
invariant-loop-item l = also l.fits (advance trees grammar (seen_of l.seen) (left l.self) (held l.self.values)) ≡ advance trees grammar (seen_of l.seen) (left l.fn.self) (held l.fn.self.values)

abbrev pub decreases-loop-item : goal.decreases-loop-item
decreases-loop-item l = length l.self.items.items
