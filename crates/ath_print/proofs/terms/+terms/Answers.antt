use Rattle.std.proofs.Common.{map, ◌∙◌}
use Rattle.ath_trees.specs.declared.node.TermId.{TermId}
use Rattle.ath_terms.specs.Trees.{term_at}
use Rattle.ath_print.specs.Prefix.{term_printed}
use Rattle.ath_print.specs.Printers.{line_in}
use Rattle.ath_print.proofs.PieceLaws.{spaced_next, spaced_done}
use Rattle.ath_print.proofs.PrefixLaws.{app_done, ascribed_done, kept_sort}
use Rattle.ath_print.proofs.terms.+terms.Goals as goal

pub put_plain-returns-in_ok-put-in-App-4 : goal.put_plain-returns-in_ok-put-in-App-4
put_plain-returns-in_ok-put-in-App-4 t c =
    let binders = map (λ b. b.now) c.args.binders.now in
    let looped = spaced_done (λ (i : TermId). term_printed c.args.names.now c.args.sig.now binders (term_at c.args.store.now.terms i.0)) c.as_slice-parts.result.now c.loop-part.part-index (line_in c.put-in-App-2.new.draft) (line_in c.loop-part.draft) c.loop-part.invariant c.loop-part-test.false in
    app_done c.args.names.now c.args.sig.now binders c.args.store.now.terms (term_at c.args.store.now.terms c.args.t.0) c.term.result.now c.in-App.f c.in-App.field-1 c.in-App.args c.as_slice-parts.result.now c.text_of-in-App.result.now c.is_empty.result _ _ _ _ _ c.term.ensures.tree c.in-App.is c.as_slice-parts.ensures c.text_of-in-App.ensures c.is_empty.ensures c.if-is_empty.false c.in_ok-put-in-App.ensures c.in_ok-put-in-App-2.ensures looped c.in_ok-put-in-App-4.ensures

pub put_term-returns : goal.put_term-returns
put_term-returns t c =
    ascribed_done c.args.names.now c.args.sig.now (map (λ b. b.now) c.args.binders.now) (term_at c.args.store.now.terms c.args.t.0) c.sort_of.result.now c.is_ascribed.result _ _ _ _ _ _ c.is_ascribed.ensures c.if-not-is_ascribed.false (c.sort_of.ensures ∙ kept_sort c.args.sig.now c.args.store.now c.args.t.0 c.requires.sorted c.requires.inside) c.in_ok-put.ensures c.in_ok-put_plain.ensures c.in_ok-put-2.ensures c.in_ok-put_sort.ensures c.in_ok-put-3.ensures

pub put_plain-loop-part-preserved : goal.put_plain-loop-part-preserved
put_plain-loop-part-preserved t c =
    let binders = map (λ b. b.now) c.args.binders.now in
    spaced_next (λ (i : TermId). term_printed c.args.names.now c.args.sig.now binders (term_at c.args.store.now.terms i.0)) c.as_slice-parts.result.now c.loop-part.part-index (line_in c.put-in-App-2.new.draft) (line_in c.loop-part.draft) c.loop-part.invariant (record { 0 = 0 }) _ _ c.loop-part-test.true c.in_ok-put-in-App-3.ensures c.in_ok-put_term-in-App.ensures
