use Rattle.std.proofs.Common.{refl, sym, ◌∙◌, subst}
use Rattle.ath_terms.specs.Trees.{term_at, sort_at}
use Rattle.ath_trees.specs.Substitution.{subst_term}
use Rattle.ath_trees.specs.Tree.{Term}
use Rattle.ath_trees.specs.WellSorted.{HasSort}
use Rattle.ath_trees.proofs.Renaming.{term-absent}
use Rattle.ath_subst.proofs.GivenLaws.{given-at, one-sort}
use Rattle.ath_subst.proofs.PuttingLaws.{put-has}
use Rattle.ath_subst.proofs.substitution.subst_term.Goals as goal

pub returns-then-not-found-clause-built : goal.returns-then-not-found-clause-built
returns-then-not-found-clause-built c = (subst_term c.args.x.now (term_at c.args.store.now.terms c.args.by.0) (term_at c.args.store.now.terms c.args.t.0), (given-at (subst_term c.args.x.now (term_at c.args.store.now.terms c.args.by.0) (term_at c.args.store.now.terms c.args.t.0)) c.term_counts-counts.result _ _ c.term_counts-counts.ensures.nodes c.term_counts-counts.ensures.levels c.in_ok-check_counts.ensures.0 c.in_ok-check_counts.ensures.1, (c.requires.inside, sym (term-absent c.args.x.now (term_at c.args.store.now.terms c.args.by.0) (term_at c.args.store.now.terms c.args.t.0) (sym c.in_ok-found.ensures ∙ c.if-not-found.true)))))

pub returns-clause-sort : goal.returns-clause-sort
returns-clause-sort c = λ sig h.
    let w = c.in_ok-term.ensures.tree in
    let n = c.in_ok-term.ensures.sorted sig h c.requires.fits in
    one-sort sig (subst_term c.args.x.now (term_at c.args.store.now.terms c.args.by.0) (term_at c.args.store.now.terms c.args.t.0)) (sort_at c.put_term.new.store.sorts c.in_ok-term.term.0) (sort_at c.args.store.now.sorts c.args.t.0)
    (subst (λ (u : Term). HasSort sig u (sort_at c.put_term.new.store.sorts c.in_ok-term.term.0)) w.1 (n.terms c.in_ok-term.term.0 w.0))
    (put-has sig c.args.store.now c.args.x.now c.args.by.0 c.args.t.0 (subst_term c.args.x.now (term_at c.args.store.now.terms c.args.by.0) (term_at c.args.store.now.terms c.args.t.0)) (sort_at c.args.store.now.sorts c.args.t.0) h c.requires.there c.requires.inside c.requires.fits refl refl)
