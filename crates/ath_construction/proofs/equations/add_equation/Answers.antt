use Rattle.std.proofs.Common.{◌+◌, ◌∙◌, max, ap}
use Rattle.ath_sorts.specs.Sorts.{image}
use Rattle.ath_terms.specs.Trees.{term_at}
use Rattle.ath_construction.proofs.EquationLaws.{sides-under}
use Rattle.ath_construction.proofs.MeasureLaws.{equal-kept}
use Rattle.ath_construction.proofs.equations.add_equation.Goals as goal

pub add_sent-requires-clause-kept : goal.add_sent-requires-clause-kept
add_sent-requires-clause-kept c = equal-kept (image c.args.subst.now) (term_at c.args.store.now.terms c.args.s.0) (term_at c.args.store.now.terms c.args.t.0) _ _ _
    (sides-under (image c.args.subst.now) c.args.store.now c.term_under.new.store c.term_under-2.new.store c.args.s.0 c.args.t.0 c.in_ok-left.left.0 c.in_ok-right.right.0
    c.requires.right c.in_ok-left.ensures.grows c.in_ok-right.ensures.grows c.in_ok-left.ensures.tree.0 c.in_ok-right.ensures.tree.0)
    (λ i. 1 + c.size.ensures.same i + c.size-2.ensures.same i)
    (ap (λ k. 1 + k) (c.max-levels.ensures ∙ (λ i. max (c.depth.ensures.same i) (c.depth-2.ensures.same i)))) c.requires.small
