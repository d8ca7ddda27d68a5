-- what `from_utf8` says, as a test
use Rattle.std.proofs.Common.{◌∙◌, arith}
use Rattle.std.proofs.lemmas.Bool.{false_from_ne_true}
use Rattle.std.proofs.lemmas.Str.{IsUtf8-from_is_utf8, is_utf8-from_IsUtf8}
use Rattle.std.specs.Str.{is_utf8}
use Rattle.ath_tokens.proofs.lexeme.utf8_fault.Goals as goal

pub returns-in-Ok : goal.returns-in-Ok
returns-in-Ok c = is_utf8-from_IsUtf8 c.args.bytes.now c.in-Ok.ensures.cases.1

pub returns-in-Err : goal.returns-in-Err
returns-in-Err c = (
  false_from_ne_true (is_utf8 c.args.bytes.now) (λ t. c.in-Err.ensures.cases.0 (IsUtf8-from_is_utf8 c.args.bytes.now t)),
  c.valid_up_to.ensures ∙ c.in-Err.ensures.valid_len,
  omega (arith, c.valid_up_to.ensures, c.in-Err.ensures.cases.1.short),
)
