use Rattle.std.proofs.Common.{◌≡◌, true, false, sym, ◌∙◌, ap}
use Rattle.std.specs.List.{list_any}
use Rattle.ath_sorts.specs.Sorts.{image}
use Rattle.ath_terms.specs.Trees.{sent_at}
use Rattle.ath_trees.specs.Variables.{free_vars}
use Rattle.ath_subst.specs.Meeting.{meets_past}
use Rattle.ath_subst.proofs.binders.free_binder.Goals as goal

pub returns-clause-same : goal.returns-clause-same
returns-clause-same c = λ unmet.
    let e = sym c.if-not-met.false ∙ c.in_ok-met.ensures ∙ ap (λ us. list_any (meets_past (image c.args.subst.now) c.args.v us) (free_vars (sent_at c.args.store.now.sents c.args.body.0))) (c.as_slice.ensures.value ∙ c.new-none.ensures.items) in
    let d : true ≡ false = e ∙ unmet in
    absurd (cc)
