use Rattle.std.proofs.Common.{◌∙◌, sym}
use Rattle.ath_terms.proofs.Grow.{new-term}
use Rattle.ath_terms.proofs.SortedLaws.{sorted_term}
use Rattle.ath_terms.proofs.StoreLaws.{whole-then-term, then-add_term, terms-count, sorts-count}
use Rattle.ath_terms.proofs.StoreMarks.{marks-with-term}
use Rattle.ath_terms.proofs.store.Store.add_term.Goals as goal

pub invariant_of-self-2 : goal.invariant_of-self-2
invariant_of-self-2 c = (
  whole-then-term c.self.inside.terms.items c.self.inside.sents.items c.args.self.now c.self.view_is c.self.invariant.0 c.args.node c.args.sort c.args.nodes c.args.levels c.node_marks-marks.result _ c.in_ok-push.ensures.items c.requires.below c.requires.kept,
  marks-with-term c.self.inside.terms.items c.self.inside.sents.items c.args.self.now c.self.view_is c.self.invariant.0 c.self.invariant.1 c.args.node c.args.sort c.args.nodes c.args.levels c.node_marks-marks.result _ c.in_ok-push.ensures.items c.node_marks-marks.ensures,
)

pub returns-clause-grows : goal.returns-clause-grows
returns-clause-grows c = (new-term c.args.self.now _ c.len.result _ c.args.sort
    (c.len.ensures ∙ c.self.inside.terms.ok.0 ∙ sym (terms-count c.self.inside.terms.items c.self.inside.sents.items c.args.self.now c.self.view_is c.self.invariant.0))
    (sorts-count c.self.inside.terms.items c.self.inside.sents.items c.args.self.now c.self.view_is c.self.invariant.0)
    (then-add_term c.self.inside.terms.items c.self.inside.sents.items c.args.self.now c.self.view_is c.self.invariant.0 c.args.node c.args.sort c.args.nodes c.args.levels c.node_marks-marks.result c.push.new.self.items c.in_ok-push.ensures.items)).0

pub returns-clause-tree : goal.returns-clause-tree
returns-clause-tree c = (new-term c.args.self.now _ c.len.result _ c.args.sort
    (c.len.ensures ∙ c.self.inside.terms.ok.0 ∙ sym (terms-count c.self.inside.terms.items c.self.inside.sents.items c.args.self.now c.self.view_is c.self.invariant.0))
    (sorts-count c.self.inside.terms.items c.self.inside.sents.items c.args.self.now c.self.view_is c.self.invariant.0)
    (then-add_term c.self.inside.terms.items c.self.inside.sents.items c.args.self.now c.self.view_is c.self.invariant.0 c.args.node c.args.sort c.args.nodes c.args.levels c.node_marks-marks.result c.push.new.self.items c.in_ok-push.ensures.items)).1.0

pub returns-clause-sort : goal.returns-clause-sort
returns-clause-sort c = (new-term c.args.self.now _ c.len.result _ c.args.sort
    (c.len.ensures ∙ c.self.inside.terms.ok.0 ∙ sym (terms-count c.self.inside.terms.items c.self.inside.sents.items c.args.self.now c.self.view_is c.self.invariant.0))
    (sorts-count c.self.inside.terms.items c.self.inside.sents.items c.args.self.now c.self.view_is c.self.invariant.0)
    (then-add_term c.self.inside.terms.items c.self.inside.sents.items c.args.self.now c.self.view_is c.self.invariant.0 c.args.node c.args.sort c.args.nodes c.args.levels c.node_marks-marks.result c.push.new.self.items c.in_ok-push.ensures.items)).1.1

pub returns-clause-sorted : goal.returns-clause-sorted
returns-clause-sorted c = λ sig h has. sorted_term sig c.args.self.now _ _ c.args.sort
    (sorts-count c.self.inside.terms.items c.self.inside.sents.items c.args.self.now c.self.view_is c.self.invariant.0)
    (then-add_term c.self.inside.terms.items c.self.inside.sents.items c.args.self.now c.self.view_is c.self.invariant.0 c.args.node c.args.sort c.args.nodes c.args.levels c.node_marks-marks.result c.push.new.self.items c.in_ok-push.ensures.items) h has
