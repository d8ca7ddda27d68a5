use Rattle.std.proofs.Common.{sym, ◌∙◌}
use Rattle.ath_tokens.proofs.LexesLaws.{lexes-word}
use Rattle.ath_tokens.proofs.lexeme.read_lexeme.Goals as goal

pub returns-then-begins_part : goal.returns-then-begins_part
returns-then-begins_part c = lexes-word c.args.rest.now c.word_len.result c.requires (sym c.begins_part.ensures ∙ c.if-begins_part.true) c.word_len.ensures.len
