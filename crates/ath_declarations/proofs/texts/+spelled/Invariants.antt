use Rattle.std.proofs.Common.{◌≡◌, take, map}
use Rattle.ath_declarations.specs.Texts.{sort_of}
use Rattle.ath_declarations.proofs.texts.+spelled.Given as goal

abbrev pub invariant-loop-arg : goal.invariant-loop-arg
invariant-loop-arg l = l.sorts ≡ map sort_of (take l.arg-index l.arg-items)
