use Rattle.std.proofs.Common.{◌≡◌, fold}
use Rattle.ath_names.specs.Names.{interned, numbered}
use Rattle.ath_names.proofs.Names.add_numbered.Given as goal

abbrev pub invariant-loop-number : goal.invariant-loop-number
invariant-loop-number l = l.self ≡ fold interned l.initial.self (numbered l.stem l.number)
