use Rattle.std.proofs.Common.{◌∙◌, ◌&&◌, List, ap, sym}
use Rattle.std.specs.List.{list_all}
use Rattle.ath_sorts.specs.declared.sorts.Sort.{Sort}
use Rattle.ath_sorts.specs.Sorts.{is_small}
use Rattle.ath_terms.proofs.StoreMarks.{var-node, app-node}
use Rattle.ath_terms.proofs.store.Store.node_marks.Goals as goal

pub returns-in-Var : goal.returns-in-Var
returns-in-Var c = var-node c.args.self.now c.args.node.now c.in-Var.v c.args.sort.now c.var_marks.result c.in-Var.is c.var_marks.ensures

pub returns-in-App : goal.returns-in-App
returns-in-App c =
    let small = c.are_all_small-small.ensures ∙ ap (λ (l : List Sort). is_small c.args.sort.now && list_all is_small l) (c.as_slice-in-App-2.ensures ∙ sym c.as_slice-in-App.ensures) in
    app-node c.args.self.now c.args.node.now c.in-App.field-0 c.in-App.sorts c.as_slice-in-App.result.now c.in-App.args c.as_slice.result.now c.args.sort.now c.list_marks-parts.result c.over.result c.are_all_small-small.result c.and-own.result c.sort_vars.result c.list_sort_vars.result
    c.in-App.is c.as_slice-in-App.ensures c.as_slice.ensures c.list_marks-parts.ensures small c.sort_vars.ensures c.list_sort_vars.ensures c.and-own.ensures c.over.ensures
