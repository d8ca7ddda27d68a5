use Rattle.std.proofs.Common.{sym, ◌∙◌}
use Rattle.ath_terms.specs.Trees.{term_at, sent_at}
use Rattle.ath_trees.specs.Substitution.{subst_sent}
use Rattle.ath_trees.proofs.SubstForms.{subst-absent}
use Rattle.ath_subst.proofs.GivenLaws.{given-at}
use Rattle.ath_subst.proofs.substitution.subst_sent.Goals as goal

pub returns-then-not-found-clause-built : goal.returns-then-not-found-clause-built
returns-then-not-found-clause-built c = (subst_sent c.args.x.now (term_at c.args.store.now.terms c.args.by.0) (sent_at c.args.store.now.sents c.args.p.0), (given-at (subst_sent c.args.x.now (term_at c.args.store.now.terms c.args.by.0) (sent_at c.args.store.now.sents c.args.p.0)) c.sent_counts-counts.result _ _ c.sent_counts-counts.ensures.nodes c.sent_counts-counts.ensures.levels c.in_ok-check_counts.ensures.0 c.in_ok-check_counts.ensures.1, (c.requires.inside, sym (subst-absent c.args.x.now (term_at c.args.store.now.terms c.args.by.0) (sent_at c.args.store.now.sents c.args.p.0) (sym c.in_ok-found.ensures ∙ c.if-not-found.true)))))
