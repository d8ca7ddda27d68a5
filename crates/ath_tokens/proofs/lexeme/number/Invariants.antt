use Rattle.std.proofs.Common.{◌≡◌, ◌^◌, ◌<◌, take}
use Rattle.ath_tokens.specs.Spelling.{number}
use Rattle.ath_tokens.proofs.lexeme.number.Given as goal

abbrev pub invariant-loop-digit : goal.invariant-loop-digit
invariant-loop-digit l = (l.value ≡ number (take l.digit-index l.digits)) × (l.value < 10 ^ l.digit-index)
