use Rattle.std.proofs.Common.{◌∙◌, sym}
use Rattle.ath_terms.proofs.Grow.{new-sent}
use Rattle.ath_terms.proofs.SortedLaws.{sorted_sent}
use Rattle.ath_terms.proofs.StoreLaws.{whole-then-sent, then-add_sent, sents-count}
use Rattle.ath_terms.proofs.StoreMarks.{marks-with-sent}
use Rattle.ath_terms.proofs.store.Store.add_sent.Goals as goal

pub invariant_of-self-2 : goal.invariant_of-self-2
invariant_of-self-2 c = (
  whole-then-sent c.self.inside.terms.items c.self.inside.sents.items c.args.self.now c.self.view_is c.self.invariant.0 c.args.node c.args.nodes c.args.levels c.sent_node_marks-marks.result _ c.in_ok-push.ensures.items c.requires.below c.requires.kept,
  marks-with-sent c.self.inside.terms.items c.self.inside.sents.items c.args.self.now c.self.view_is c.self.invariant.0 c.self.invariant.1 c.args.node c.args.nodes c.args.levels c.sent_node_marks-marks.result _ c.in_ok-push.ensures.items c.sent_node_marks-marks.ensures,
)

pub returns-clause-grows : goal.returns-clause-grows
returns-clause-grows c = (new-sent c.args.self.now _ c.len.result _
    (c.len.ensures ∙ c.self.inside.sents.ok.0 ∙ sym (sents-count c.self.inside.terms.items c.self.inside.sents.items c.args.self.now c.self.view_is c.self.invariant.0))
    (then-add_sent c.self.inside.terms.items c.self.inside.sents.items c.args.self.now c.self.view_is c.self.invariant.0 c.args.node c.args.nodes c.args.levels c.sent_node_marks-marks.result c.push.new.self.items c.in_ok-push.ensures.items)).0

pub returns-clause-tree : goal.returns-clause-tree
returns-clause-tree c = (new-sent c.args.self.now _ c.len.result _
    (c.len.ensures ∙ c.self.inside.sents.ok.0 ∙ sym (sents-count c.self.inside.terms.items c.self.inside.sents.items c.args.self.now c.self.view_is c.self.invariant.0))
    (then-add_sent c.self.inside.terms.items c.self.inside.sents.items c.args.self.now c.self.view_is c.self.invariant.0 c.args.node c.args.nodes c.args.levels c.sent_node_marks-marks.result c.push.new.self.items c.in_ok-push.ensures.items)).1

pub returns-clause-sorted : goal.returns-clause-sorted
returns-clause-sorted c = λ sig h has. sorted_sent sig c.args.self.now _ _
    (then-add_sent c.self.inside.terms.items c.self.inside.sents.items c.args.self.now c.self.view_is c.self.invariant.0 c.args.node c.args.nodes c.args.levels c.sent_node_marks-marks.result c.push.new.self.items c.in_ok-push.ensures.items) h has
