use Rattle.std.proofs.Common.{◌+◌, map, ap}
use Rattle.ath_trees.specs.Tree.{app, listed}
use Rattle.ath_terms.specs.Trees.{term_at}
use Rattle.ath_terms.proofs.KeptLaws.{plain-kept, app-has}
use Rattle.ath_terms.proofs.plain.add_plain.Goals as goal

pub add_term-requires-clause-kept : goal.add_term-requires-clause-kept
add_term-requires-clause-kept c = plain-kept _ c.args.f c.args.sorts.now (listed (map (λ j. term_at c.args.store.now.terms j.0) c.args.args.now)) _ _
    (λ i. app c.args.f (c.in_ok-copies.ensures i) (listed (map (λ j. term_at c.args.store.now.terms j.0) (c.in_ok-ids.ensures i))))
    (ap (λ k. 1 + k) c.list_size-nodes.ensures.same) (ap (λ k. 1 + k) c.list_depth-levels.ensures.same) c.requires.small

pub returns-clause-sorted : goal.returns-clause-sorted
returns-clause-sorted c = λ sig h has. c.in_ok-term.ensures.sorted sig h
    (app-has sig _ _ _ _ (λ i. app c.args.f (c.in_ok-copies.ensures i) (listed (map (λ j. term_at c.args.store.now.terms j.0) (c.in_ok-ids.ensures i)))) c.in_ok-whole.ensures has)
