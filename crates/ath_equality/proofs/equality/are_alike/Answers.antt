use Rattle.ath_equality.proofs.Pairs.{same_term_is}
use Rattle.ath_equality.proofs.equality.are_alike.Goals as goal

pub returns-in-Term-w : goal.returns-in-Term-w
returns-in-Term-w c = rw (c.in-Term.is, c.in-Term-w.is) (same_term_is c.is_same_term.result _ _ c.is_same_term.ensures)
