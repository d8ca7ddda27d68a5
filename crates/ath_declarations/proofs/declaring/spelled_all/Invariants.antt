use Rattle.std.proofs.Common.{◌≡◌, take, map}
use Rattle.ath_declarations.specs.Texts.{sort_of}
use Rattle.ath_declarations.proofs.declaring.spelled_all.Given as goal

abbrev pub invariant-loop-text : goal.invariant-loop-text
invariant-loop-text l = l.sorts.items ≡ map sort_of (take l.text-index l.texts)
