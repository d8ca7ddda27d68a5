use Rattle.std.proofs.Common.{◌≡◌, subst, arith}
use Rattle.ath_sorts.specs.Sorts.{image, apply_to}
use Rattle.ath_sorts.specs.declared.sorts.Sort.{Sort}
use Rattle.ath_trees.specs.Under.{term_under}
use Rattle.ath_terms.specs.Trees.{term_at}
use Rattle.ath_subst.proofs.KeepingLaws.{var-left, app-left}
use Rattle.ath_terms.proofs.SortVarLaws.{agree-next}
use Rattle.ath_subst.proofs.keeping.+leaves_term.Goals as goal

pub returns-in-Var : goal.returns-in-Var
returns-in-Var t c = λ is. (
  var-left (image c.args.subst.now) c.args.store.now c.term.result.now c.args.t.0 c.term.ensures.tree c.in-Var.v c.in-Var.is (c.leaves_sort-in-Var.ensures is),
  subst (λ (s : Sort). apply_to (image c.args.subst.now) s ≡ s) c.sort_of.ensures (c.leaves_sort.ensures c.if-not-leaves_sort.false),
)

pub loop-i-preserved : goal.loop-i-preserved
loop-i-preserved t c = agree-next (λ j. term_under (image c.args.subst.now) (term_at c.args.store.now.terms j.0)) (λ j. term_at c.args.store.now.terms j.0) c.as_slice-parts.result.now c.loop-i.i (record { 0 = 0 }) (omega arith) c.loop-i.invariant (c.leaves_term.ensures c.if-not-leaves_term.false).0

pub returns-after-loop-i : goal.returns-after-loop-i
returns-after-loop-i t c = λ _. (
  app-left (image c.args.subst.now) c.args.store.now c.term.result.now c.args.t.0 c.term.ensures.tree c.in-App.field-0 c.in-App.sorts c.as_slice.result.now c.in-App.args c.as_slice-parts.result.now c.loop-i.i c.in-App.is c.as_slice.ensures c.as_slice-parts.ensures (c.leaves_sorts.ensures c.if-not-leaves_sorts.false) (omega arith) c.loop-i.invariant,
  subst (λ (s : Sort). apply_to (image c.args.subst.now) s ≡ s) c.sort_of.ensures (c.leaves_sort.ensures c.if-not-leaves_sort.false),
)
