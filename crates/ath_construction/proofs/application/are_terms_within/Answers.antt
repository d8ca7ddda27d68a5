use Rattle.std.proofs.Common.{sym, ◌∙◌, arith}
use Rattle.std.proofs.lemmas.List.Folds.{list_all_at}
use Rattle.ath_sorts.specs.Sorts.{image}
use Rattle.ath_terms.specs.Trees.{term_at}
use Rattle.ath_trees.specs.SortsIn.{has_small_sorts}
use Rattle.ath_trees.specs.Under.{term_under}
use Rattle.ath_subst.proofs.WithinLaws.{within-next, within-all}
use Rattle.ath_construction.proofs.ArgumentLaws.{list_within}
use Rattle.ath_construction.proofs.application.are_terms_within.Goals as goal

pub loop-i-preserved : goal.loop-i-preserved
loop-i-preserved c = λ sig h. within-next (λ j. has_small_sorts sig (term_under (image c.args.subst.now) (term_at c.args.store.now.terms j.0))) c.args.args.now c.loop-i.i (record { 0 = 0 })
    (omega arith) (c.loop-i.invariant sig h) (sym (c.is_term_within.ensures sig h) ∙ c.if-not-is_term_within.false)

pub returns-then-not-is_term_within : goal.returns-then-not-is_term_within
returns-then-not-is_term_within c = λ sig h. list_within sig (image c.args.subst.now) c.args.store.now.terms c.args.args.now _
    (list_all_at (λ j. has_small_sorts sig (term_under (image c.args.subst.now) (term_at c.args.store.now.terms j.0))) c.args.args.now c.loop-i.i (record { 0 = 0 }) (omega arith) (sym (c.is_term_within.ensures sig h) ∙ c.if-not-is_term_within.true))

pub returns : goal.returns
returns c = λ sig h. list_within sig (image c.args.subst.now) c.args.store.now.terms c.args.args.now _ (within-all (λ j. has_small_sorts sig (term_under (image c.args.subst.now) (term_at c.args.store.now.terms j.0))) c.args.args.now c.loop-i.i (omega arith) (c.loop-i.invariant sig h))
