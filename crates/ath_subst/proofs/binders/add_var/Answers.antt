use Rattle.ath_subst.proofs.BinderLaws.{copy-has}
use Rattle.ath_subst.proofs.binders.add_var.Goals as goal

pub returns-clause-sorted : goal.returns-clause-sorted
returns-clause-sorted c = λ sig h valid. c.in_ok-term.ensures.sorted sig h (copy-has sig c.in_ok-copy.copy c.args.v.now c.in_ok-sort.sort c.in_ok-copy.ensures c.in_ok-sort.ensures valid)
