use Rattle.ath_tokens.proofs.LexesLaws.{lexes-string}
use Rattle.ath_tokens.proofs.lexeme.read_string.Goals as goal

pub returns : goal.returns
returns c =
    lexes-string c.args.rest.now c.after-body.result.now c.in_ok-quoted.quoted c.match_string.result c.requires.some c.requires.mark c.after-body.ensures c.in_ok-quoted.ensures.meaning c.in_ok-quoted.ensures.within c.match_string.ensures.meaning c.match_string.ensures.within
