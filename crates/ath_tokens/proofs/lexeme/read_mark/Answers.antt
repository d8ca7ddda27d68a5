use Rattle.std.proofs.Common.{sym, ◌∙◌, refl, slice_index}
use Rattle.ath_tokens.proofs.LexesLaws.{lexes-fault, lexes-becomes, lexes-punct, no_mark}
use Rattle.ath_tokens.proofs.lexeme.read_mark.Goals as goal

pub returns-then-is_at_becomes : goal.returns-then-is_at_becomes
returns-then-is_at_becomes c = lexes-becomes c.args.rest.now (sym c.is_at_becomes.ensures ∙ c.if-is_at_becomes.true)

pub returns-then-is_punct : goal.returns-then-is_punct
returns-then-is_punct c =
    lexes-punct c.args.rest.now (slice_index c.args.rest.now 0) refl c.requires.some c.requires.no_part c.requires.no_var c.requires.no_sort_var c.requires.no_string (sym c.is_punct.ensures ∙ c.if-is_punct.true)
    (sym c.is_at_becomes.ensures ∙ c.if-is_at_becomes.false)

pub returns : goal.returns
returns c =
    lexes-fault c.args.rest.now c.stray.result
    (no_mark c.args.rest.now c.requires.some c.requires.no_part c.requires.no_var c.requires.no_sort_var c.requires.no_string (sym c.is_punct.ensures ∙ c.if-is_punct.false)) c.stray.ensures
