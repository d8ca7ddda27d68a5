use Rattle.ath_tokens.proofs.StringText.{string_utf8}
use Rattle.ath_tokens.proofs.lexeme.closed_string.Goals as goal

pub text_of-requires : goal.text_of-requires
text_of-requires c = string_utf8 c.args.body.now c.args.len c.args.bytes.items c.requires.closed c.in-None.ensures
