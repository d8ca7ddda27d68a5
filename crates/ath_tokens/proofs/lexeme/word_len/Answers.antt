use Rattle.std.proofs.Common.{◌+◌, sym, ◌∙◌, drop}
use Rattle.ath_tokens.specs.Scan.{word_more}
use Rattle.ath_tokens.proofs.Scans.{word-step}
use Rattle.ath_tokens.proofs.lexeme.word_len.Goals as goal

pub loop-at-preserved : goal.loop-at-preserved
loop-at-preserved c = word-step c.args.rest.now c.loop-at.at (1 + word_more (drop 1 c.args.rest.now)) c.loop-at-test.true (sym c.goes_on_word.ensures ∙ c.if-goes_on_word.true) c.loop-at.invariant.1
