use Rattle.std.proofs.Common.{rules, ◌≡◌, sym, ◌∙◌, ap}
use Rattle.ath_terms.specs.declared.node.SentNode.TheVariants as node
use Rattle.ath_terms.proofs.VariableLaws.{var_told}
use Rattle.ath_subst.proofs.nodes.is_same_sent_node.Goals as goal

pub returns-else-body-inner : goal.returns-else-body-inner
returns-else-body-inner c =
    let h = var_told c.is_same_var.result c.in-Quant.v c.in-Quant-other-4.w c.is_same_var.ensures in
    let k : c.in-Quant.k ≡ c.in-Quant-other-4.l = search rules in
    let b : c.in-Quant.body ≡ c.in-Quant-other-4.inner = ap (λ n. record { 0 = n }) c.if-body-inner.false in (
      λ e. let v = h.0 e in c.in-Quant.is ∙ (λ i. node.Quant (k i) (v i) (b i)) ∙ sym c.in-Quant-other-4.is,
      λ e. h.1 (let r : node.Quant c.in-Quant.k c.in-Quant.v c.in-Quant.body ≡ node.Quant c.in-Quant-other-4.l c.in-Quant-other-4.w c.in-Quant-other-4.inner = sym c.in-Quant.is ∙ e ∙ c.in-Quant-other-4.is in cc),
    )
