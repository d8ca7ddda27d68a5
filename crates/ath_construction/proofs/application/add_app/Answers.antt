use Rattle.std.proofs.Common.{◌∙◌, ◌+◌, map, ap}
use Rattle.ath_sorts.specs.Sorts.{image}
use Rattle.ath_trees.specs.Tree.{listed}
use Rattle.ath_terms.specs.Trees.{term_at}
use Rattle.ath_construction.proofs.MeasureLaws.{app-kept}
use Rattle.ath_subst.proofs.StepLaws.{terms-below}
use Rattle.ath_construction.proofs.ApplicationLaws.{app-tree}
use Rattle.ath_terms.proofs.KeptLaws.{app-has}
use Rattle.ath_construction.proofs.application.add_app.Goals as goal

pub add_term-requires-clause-below : goal.add_term-requires-clause-below
add_term-requires-clause-below c = terms-below c.terms_under.new.store c.in_ok-parts.parts _ c.in_ok-parts.ensures.trees

pub add_term-requires-clause-kept : goal.add_term-requires-clause-kept
add_term-requires-clause-kept c = app-kept (image c.args.subst.now) c.args.name c.args.made.now (listed (map (λ i. term_at c.args.store.now.terms i.0) c.args.args.now)) _ _ _
    (app-tree c.args.store.now c.terms_under.new.store (image c.args.subst.now) c.args.name c.args.made.now c.in_ok-images.images c.args.args.now c.in_ok-parts.parts c.in_ok-images.ensures c.in_ok-parts.ensures.trees)
    (ap (λ k. 1 + k) c.list_size-nodes.ensures.same) (ap (λ k. 1 + k) c.list_depth-levels.ensures.same) c.requires.small

pub returns-clause-tree : goal.returns-clause-tree
returns-clause-tree c =
    let r = c.in_ok-term.ensures.tree in
    ((r.0, r.1 ∙ app-tree c.args.store.now c.terms_under.new.store (image c.args.subst.now) c.args.name c.args.made.now c.in_ok-images.images c.args.args.now c.in_ok-parts.parts c.in_ok-images.ensures c.in_ok-parts.ensures.trees), c.in_ok-term.ensures.sort ∙ c.in_ok-whole.ensures)

pub returns-clause-sorted : goal.returns-clause-sorted
returns-clause-sorted c = λ sig h ok has. c.in_ok-term.ensures.sorted sig (c.in_ok-parts.ensures.sorted sig h ok)
    (app-has sig _ _ _ _ (app-tree c.args.store.now c.terms_under.new.store (image c.args.subst.now) c.args.name c.args.made.now c.in_ok-images.images c.args.args.now c.in_ok-parts.parts c.in_ok-images.ensures c.in_ok-parts.ensures.trees) c.in_ok-whole.ensures has)
