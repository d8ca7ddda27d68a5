use Rattle.std.proofs.Common.{◌≡◌, sym, ◌∙◌, ap}
use Rattle.ath_terms.specs.declared.node.TermNode.TheVariants.{Var}
use Rattle.ath_terms.proofs.VariableLaws.{var_told}
use Rattle.ath_subst.proofs.nodes.is_same_term_node.Goals as goal

pub returns-in-Var-other : goal.returns-in-Var-other
returns-in-Var-other c =
    let h = var_told c.is_same_var.result c.in-Var.v c.in-Var-other.w c.is_same_var.ensures in
    (λ e. c.in-Var.is ∙ ap Var (h.0 e) ∙ sym c.in-Var-other.is, λ e. h.1 (let r : Var c.in-Var.v ≡ Var c.in-Var-other.w = sym c.in-Var.is ∙ e ∙ c.in-Var-other.is in cc))
