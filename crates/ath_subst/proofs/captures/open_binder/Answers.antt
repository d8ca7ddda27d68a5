use Rattle.std.proofs.Common.{◌≡◌, true, false, sym, ◌∙◌, ap}
use Rattle.ath_trees.specs.Occurrences.{is_named}
use Rattle.ath_subst.proofs.captures.open_binder.Goals as goal

pub returns-clause-same : goal.returns-clause-same
returns-clause-same c = λ unnamed.
    let e = sym c.if-not-is_index_used.false ∙ c.is_index_used.ensures ∙ ap (is_named c.args.v) c.requires.named in
    let d : true ≡ false = e ∙ unnamed in
    absurd (cc)
