use Rattle.std.proofs.Common.{◌≡◌, true, sym, ◌∙◌}
use Rattle.ath_trees.specs.Variables.{is_namesake}
use Rattle.ath_terms.proofs.VariableLaws.{tells_same}
use Rattle.ath_terms.proofs.found.is_same_var.Goals as goal

pub returns-then-is_namesake : goal.returns-then-is_namesake
returns-then-is_namesake c =
    let n : is_namesake c.args.v.now c.args.w.now ≡ true = sym c.is_namesake.ensures ∙ c.if-is_namesake.true in
    rw n (tells_same c.is_same.result c.args.v.now.sort c.args.w.now.sort c.is_same.ensures)
