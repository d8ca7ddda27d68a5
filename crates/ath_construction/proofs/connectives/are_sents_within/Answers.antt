use Rattle.std.proofs.Common.{sym, ◌∙◌, arith}
use Rattle.std.proofs.lemmas.List.Folds.{list_all_at}
use Rattle.ath_sorts.specs.Sorts.{image}
use Rattle.ath_subst.proofs.WithinLaws.{within-next}
use Rattle.ath_construction.proofs.ConnectiveLaws.{is_within, within-whole}
use Rattle.ath_construction.proofs.connectives.are_sents_within.Goals as goal

pub loop-i-preserved : goal.loop-i-preserved
loop-i-preserved c = λ sig h. within-next (is_within sig (image c.args.subst.now) c.args.store.now.sents) c.args.parts.now c.loop-i.i (record { 0 = 0 }) (omega arith)
    (c.loop-i.invariant sig h) (sym (c.is_sent_within.ensures sig h) ∙ c.if-not-is_sent_within.false)

pub returns-then-not-is_sent_within : goal.returns-then-not-is_sent_within
returns-then-not-is_sent_within c = λ sig h. sym (list_all_at (is_within sig (image c.args.subst.now) c.args.store.now.sents) c.args.parts.now c.loop-i.i (record { 0 = 0 }) (omega arith)
    (sym (c.is_sent_within.ensures sig h) ∙ c.if-not-is_sent_within.true))

pub returns : goal.returns
returns c = λ sig h. sym (within-whole (is_within sig (image c.args.subst.now) c.args.store.now.sents) c.args.parts.now c.loop-i.i (omega arith) (c.loop-i.invariant sig h))
