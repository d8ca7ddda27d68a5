use Rattle.ath_eval.proofs.ConnectiveLaws.{atom_part}
use Rattle.ath_eval.proofs.connectives.sentence_of.Goals as goal

pub returns-in-Term-clause-built : goal.returns-in-Term-clause-built
returns-in-Term-clause-built c = let a = c.args in let w = a.w.now in atom_part w.sig w.store c.atom.new.store a.part c.in-Term.t c.atom.result c.in-Term.is (c.atom.ensures.built w.sig w.sorted)
