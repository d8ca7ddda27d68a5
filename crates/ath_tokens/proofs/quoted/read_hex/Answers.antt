use Rattle.std.proofs.Common.{sym, ◌∙◌, arith}
use Rattle.ath_tokens.proofs.HexLaws.{wrong-low}
use Rattle.ath_tokens.proofs.quoted.read_hex.Goals as goal

pub returns-then-not-is_ascii_hexdigit : goal.returns-then-not-is_ascii_hexdigit
returns-then-not-is_ascii_hexdigit c = (
  omega arith,
  wrong-low c.args.rest.now (omega arith) c.requires.backslash c.requires.x (sym c.is_octal_digit.ensures ∙ c.if-not-is_octal_digit.false) (sym c.is_ascii_hexdigit.ensures.value ∙ c.if-not-is_ascii_hexdigit.true),
)
