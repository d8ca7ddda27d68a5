use Rattle.std.proofs.Common.{◌≡◌, ◌+◌, ◌*◌, drop, map}
use Rattle.ath_trees.specs.declared.node.TermId.{TermId}
use Rattle.ath_terms.specs.Trees.{term_at}
use Rattle.ath_print.specs.Printers.{spaced, line_in, after}
use Rattle.ath_print.specs.Prefix.{term_printed}
use Rattle.ath_print.proofs.terms.+terms.Given as goal

abbrev pub decreases-put_plain : goal.decreases-put_plain
decreases-put_plain l = 2 * l.t.0

abbrev pub decreases-put_term : goal.decreases-put_term
decreases-put_term l = 2 * l.t.0 + 1

abbrev pub invariant-put_plain-loop-part : goal.invariant-put_plain-loop-part
invariant-put_plain-loop-part l = after (spaced (map (λ (i : TermId). term_printed l.names l.sig (map (λ b. b.now) l.binders) (term_at l.store.terms i.0)) (drop l.part-index l.parts))) (line_in l.draft) ≡ after (spaced (map (λ (i : TermId). term_printed l.names l.sig (map (λ b. b.now) l.binders) (term_at l.store.terms i.0)) l.parts)) (line_in l.initial.draft)
