use Rattle.std.proofs.Common.{sym, ap, ◌∙◌, arith}
use Rattle.std.specs.Char.{is_ascii_digit}
use Rattle.std.specs.List.{list_all, prefix_len}
use Rattle.ath_tokens.specs.Bytes.{is_word_char}
use Rattle.ath_tokens.specs.Spelling.{number}
use Rattle.ath_tokens.specs.Scan.{index_digits}
use Rattle.ath_tokens.proofs.LexesLaws.{lexes-fault, lexes-var, var-digits, lexes-var_index, no_var}
use Rattle.ath_tokens.proofs.lexeme.read_var.Goals as goal

pub returns-then-not-is_at_part : goal.returns-then-not-is_at_part
returns-then-not-is_at_part c = lexes-fault c.args.rest.now c.stray.result (no_var c.args.rest.now c.requires.some c.requires.mark (sym c.is_at_part.ensures ∙ c.if-not-is_at_part.true)) c.stray.ensures

pub returns-then-digits-eq0 : goal.returns-then-digits-eq0
returns-then-digits-eq0 c =
    lexes-var c.part_len-name_len.result c.index_len-digits.result c.args.rest.now c.requires.some c.requires.mark (sym c.is_at_part.ensures ∙ c.if-not-is_at_part.false) (c.part_len-name_len.ensures.len ∙ ap (prefix_len is_word_char) c.after.ensures) (c.index_len-digits.ensures.len ∙ ap index_digits c.after-2.ensures) (omega arith)

pub number-requires-clause-digits : goal.number-requires-clause-digits
number-requires-clause-digits c =
    ap (list_all is_ascii_digit) c.part_of.ensures
    ∙ var-digits c.part_len-name_len.result c.index_len-digits.result c.args.rest.now c.requires.some c.requires.mark (sym c.is_at_part.ensures ∙ c.if-not-is_at_part.false) (c.part_len-name_len.ensures.len ∙ ap (prefix_len is_word_char) c.after.ensures) (c.index_len-digits.ensures.len ∙ ap index_digits c.after-2.ensures) (omega arith)

pub returns : goal.returns
returns c =
    lexes-var_index c.part_len-name_len.result c.index_len-digits.result c.args.rest.now c.requires.some c.requires.mark (sym c.is_at_part.ensures ∙ c.if-not-is_at_part.false) (c.part_len-name_len.ensures.len ∙ ap (prefix_len is_word_char) c.after.ensures) (c.index_len-digits.ensures.len ∙ ap index_digits c.after-2.ensures) (omega arith)
    c.number.result (c.number.ensures ∙ ap number c.part_of.ensures)
