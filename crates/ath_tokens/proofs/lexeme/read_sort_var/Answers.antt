use Rattle.std.proofs.Common.{sym, ap, ◌∙◌}
use Rattle.std.specs.List.{prefix_len}
use Rattle.ath_tokens.specs.Bytes.{is_word_char}
use Rattle.ath_tokens.proofs.LexesLaws.{lexes-fault, lexes-sort_var, no_sort_var}
use Rattle.ath_tokens.proofs.lexeme.read_sort_var.Goals as goal

pub returns-then-not-is_at_part : goal.returns-then-not-is_at_part
returns-then-not-is_at_part c = lexes-fault c.args.rest.now c.stray.result (no_sort_var c.args.rest.now c.requires.some c.requires.mark (sym c.is_at_part.ensures ∙ c.if-not-is_at_part.true)) c.stray.ensures

pub returns : goal.returns
returns c = lexes-sort_var c.args.rest.now c.part_len.result c.requires.some c.requires.mark (sym c.is_at_part.ensures ∙ c.if-not-is_at_part.false) (c.part_len.ensures.len ∙ ap (prefix_len is_word_char) c.after.ensures)
