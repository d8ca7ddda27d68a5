use Rattle.std.proofs.Common.{◌∙◌}
use Rattle.ath_construction.proofs.term.add_atom.Goals as goal

pub returns-clause-sorted : goal.returns-clause-sorted
returns-clause-sorted c = λ sig h ok e. c.in_ok-sent.ensures.sorted sig (c.in_ok-term.ensures.sorted sig h ok) (c.in_ok-term.ensures.tree.1 ∙ e)
