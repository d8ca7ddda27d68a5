use Rattle.std.proofs.Common.{◌+◌, max}
use Rattle.ath_sorts.specs.Sorts.{image}
use Rattle.ath_construction.proofs.EquationLaws.{equation-measured}
use Rattle.ath_construction.proofs.ConstructionLaws.{sent-few}
use Rattle.ath_construction.proofs.equations.check_equation.Goals as goal

pub returns-clause-measured : goal.returns-clause-measured
returns-clause-measured c = λ sig h. equation-measured sig c.args.store.now
    (image c.args.subst.now) c.args.s.0 c.args.t.0 c.are_both_within-small.result c.size.result c.size-2.result c.depth.result c.depth-2.result _
    (c.are_both_within-small.ensures sig h) c.size.ensures.same c.size-2.ensures.same c.depth.ensures.same c.depth-2.ensures.same (rw (← c.max-levels.ensures) c.check_limits.ensures)

pub returns-clause-few : goal.returns-clause-few
returns-clause-few c = sent-few c.are_both_within-small.result _ _ _ _ (rw (← c.max-levels.ensures) c.check_limits.ensures) (λ i. 1 + c.size.ensures.same i + c.size-2.ensures.same i) (λ i. 1 + max (c.depth.ensures.same i) (c.depth-2.ensures.same i))
