use Rattle.std.proofs.Common.{true, false, sym, subst}
use Rattle.ath_trees.specs.declared.groups.NameGroups.{NameGroups}
use Rattle.ath_trees.specs.Groups.{only}
use Rattle.ath_trees.specs.Tree.{var}
use Rattle.ath_terms.specs.declared.sort_vars.SortVars.{SortVars}
use Rattle.ath_terms.specs.Marks.{IsNodeMarked}
use Rattle.ath_terms.proofs.MarkLaws.{var-marked}
use Rattle.ath_terms.proofs.marks.var_marks.Goals as goal

pub returns : goal.returns
returns c = λ s.
    let v = c.args.v.now in
    let r = c.args.sort.now in
    let h = var-marked s v r c.is_within_limits.result c.sort_vars.result c.sort_vars-2.result c.is_within_limits.ensures c.sort_vars.ensures c.sort_vars-2.ensures in
    subst (λ (g : NameGroups). IsNodeMarked s (var v) r (record { is_closed = false; groups = g; is_apart = true; is_small = c.is_within_limits.result; sorts = c.and.result })) (sym c.only.ensures)
    (subst (λ (u : SortVars). IsNodeMarked s (var v) r (record { is_closed = false; groups = only v; is_apart = true; is_small = c.is_within_limits.result; sorts = u })) (sym c.and.ensures) h)
