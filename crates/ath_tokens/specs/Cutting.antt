-- What the cutting of a text has come to.
use Rattle.std.specs.Prelude.{ℕ, List, Option}
use Rattle.ath_tokens.specs.declared.tokens.LexError.{LexError}

-- a text and the number of its file, the byte from which the next token is looked for, and the error that is given from then on
pub record Cutting : Type 0 where
  pub text : List ℕ
  pub file : ℕ
  pub at : ℕ
  pub refused : Option LexError
