use Rattle.std.proofs.Common.{◌≡◌, drop, map}
use Rattle.ath_trees.specs.declared.node.SentId.{SentId}
use Rattle.ath_terms.specs.Trees.{sent_at}
use Rattle.ath_print.specs.Printers.{spaced, line_in, after}
use Rattle.ath_print.specs.Prefix.{sent_printed}
use Rattle.ath_print.proofs.sents.+put_sent.Given as goal

abbrev pub decreases-put_sent : goal.decreases-put_sent
decreases-put_sent l = l.p.0

abbrev pub invariant-loop-part : goal.invariant-loop-part
invariant-loop-part l = (map (λ b. b.now) l.binders.items ≡ map (λ b. b.now) l.initial.binders.items) × (after (spaced (map (λ (q : SentId). sent_printed l.names l.sig (map (λ b. b.now) l.initial.binders.items) (sent_at l.store.sents q.0)) (drop l.part-index l.part-items))) (line_in l.draft) ≡ after (spaced (map (λ (q : SentId). sent_printed l.names l.sig (map (λ b. b.now) l.initial.binders.items) (sent_at l.store.sents q.0)) l.part-items)) (line_in l.initial.draft))
