use Rattle.std.proofs.Common.{sym, ◌∙◌, refl, arith}
use Rattle.std.proofs.lemmas.List.Folds.{list_all_at}
use Rattle.ath_sorts.specs.Sorts.{image}
use Rattle.ath_terms.specs.Trees.{term_at}
use Rattle.ath_trees.specs.SortsIn.{has_small_sorts}
use Rattle.ath_trees.specs.Under.{term_under}
use Rattle.ath_subst.proofs.WithinLaws.{within-none, within-var, within-sorts, within-parts, within-next, within-all}
use Rattle.ath_subst.proofs.terms.+is_term_within.Goals as goal

pub returns-then-not-is_within_limits : goal.returns-then-not-is_within_limits
returns-then-not-is_within_limits t c = λ sig h. within-none sig c.args.store.now (image c.args.subst.now) h c.args.t.0 c.requires c.is_within_limits.result c.sort_of.result.now c.is_within_limits.ensures c.sort_of.ensures c.if-not-is_within_limits.true

pub returns-in-Var : goal.returns-in-Var
returns-in-Var t c = λ sig h. within-var sig c.args.store.now (image c.args.subst.now) h c.args.t.0 c.requires c.term.result.now c.term.ensures.tree c.is_within_limits.result c.sort_of.result.now c.is_within_limits.ensures c.sort_of.ensures c.if-not-is_within_limits.false c.in-Var.field-0 c.in-Var.is

pub returns-then-not-are_sorts_within : goal.returns-then-not-are_sorts_within
returns-then-not-are_sorts_within t c = λ sig h. within-sorts sig c.args.store.now (image c.args.subst.now) h c.args.t.0 c.requires c.term.result.now c.term.ensures.tree c.is_within_limits.result c.sort_of.result.now c.is_within_limits.ensures c.sort_of.ensures c.if-not-is_within_limits.false
    c.in-App.field-0 c.in-App.sorts c.in-App.args c.in-App.args c.in-App.is refl c.are_sorts_within.result c.as_slice.result.now c.are_sorts_within.ensures c.as_slice.ensures c.if-not-are_sorts_within.true

pub loop-i-preserved : goal.loop-i-preserved
loop-i-preserved t c = λ sig h. within-next (λ j. has_small_sorts sig (term_under (image c.args.subst.now) (term_at c.args.store.now.terms j.0))) c.as_slice-parts.result.now c.loop-i.i (record { 0 = 0 }) (omega arith) (c.loop-i.invariant sig h) (sym (c.is_term_within.ensures sig h) ∙ c.if-not-is_term_within.false)

pub returns-then-not-is_term_within : goal.returns-then-not-is_term_within
returns-then-not-is_term_within t c = λ sig h.
    let fails = list_all_at (λ j. has_small_sorts sig (term_under (image c.args.subst.now) (term_at c.args.store.now.terms j.0))) c.as_slice-parts.result.now c.loop-i.i (record { 0 = 0 }) (omega arith) (sym (c.is_term_within.ensures sig h) ∙ c.if-not-is_term_within.true) in
    within-parts sig c.args.store.now (image c.args.subst.now) h c.args.t.0 c.requires c.term.result.now c.term.ensures.tree c.is_within_limits.result c.sort_of.result.now c.is_within_limits.ensures c.sort_of.ensures c.if-not-is_within_limits.false
    c.in-App.field-0 c.in-App.sorts c.as_slice-parts.result.now c.in-App.args c.in-App.is c.as_slice-parts.ensures c.are_sorts_within.result c.as_slice.result.now c.are_sorts_within.ensures c.as_slice.ensures _ c.if-not-are_sorts_within.false fails

pub returns-after-loop-i : goal.returns-after-loop-i
returns-after-loop-i t c = λ sig h.
    let all = within-all (λ j. has_small_sorts sig (term_under (image c.args.subst.now) (term_at c.args.store.now.terms j.0))) c.as_slice-parts.result.now c.loop-i.i (omega arith) (c.loop-i.invariant sig h) in
    within-parts sig c.args.store.now (image c.args.subst.now) h c.args.t.0 c.requires c.term.result.now c.term.ensures.tree c.is_within_limits.result c.sort_of.result.now c.is_within_limits.ensures c.sort_of.ensures c.if-not-is_within_limits.false
    c.in-App.field-0 c.in-App.sorts c.as_slice-parts.result.now c.in-App.args c.in-App.is c.as_slice-parts.ensures c.are_sorts_within.result c.as_slice.result.now c.are_sorts_within.ensures c.as_slice.ensures _ c.if-not-are_sorts_within.false all
