use Rattle.ath_construction.proofs.connectives.connective.Goals as goal

pub returns-in-Err-clause-built : goal.returns-in-Err-clause-built
returns-in-Err-clause-built c = λ sig h. rw c.as_slice.ensures.value at (c.in-Err.ensures.built sig h)
