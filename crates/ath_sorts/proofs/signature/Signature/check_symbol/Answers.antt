use Rattle.std.proofs.Common.{◌∙◌, sym, subst, rules}
use Rattle.ath_sorts.specs.Answers.{IsFlaw}
use Rattle.ath_sorts.proofs.SignatureLaws.{fault_in_args, fault_in_result, fault_large, fault_loose}
use Rattle.ath_sorts.proofs.signature.Signature.check_symbol.Goals as goal

pub returns-in_err-check_uses : goal.returns-in_err-check_uses
returns-in_err-check_uses c =
    subst (λ f. IsFlaw f c.from_residual.result)
    (sym (fault_in_args c.args.self.now c.args.name c.args.params.now c.args.args.now c.args.result_sort.now c.in_err-check_uses.field-0.0 (sym c.has_symbol.ensures ∙ c.if-has_symbol.false) c.if-params-gt-MOST_WIDTH.false c.if-args-gt-MOST_WIDTH.false c.in_err-check_uses.ensures))
    (search rules)

pub returns-in_err-check_use : goal.returns-in_err-check_use
returns-in_err-check_use c =
    subst (λ f. IsFlaw f c.from_residual-in_err-check_use.result)
    (sym (fault_in_result c.args.self.now c.args.name c.args.params.now c.args.args.now c.args.result_sort.now c.in_err-check_use.field-0.0 (sym c.has_symbol.ensures ∙ c.if-has_symbol.false) c.if-params-gt-MOST_WIDTH.false c.if-args-gt-MOST_WIDTH.false c.in_ok-check_uses.ensures c.in_err-check_use.ensures))
    (search rules)

pub returns-then-not-are_within_limits : goal.returns-then-not-are_within_limits
returns-then-not-are_within_limits c =
    fault_large c.args.self.now c.args.name c.args.params.now c.args.args.now c.args.result_sort.now (sym c.has_symbol.ensures ∙ c.if-has_symbol.false) c.if-params-gt-MOST_WIDTH.false c.if-args-gt-MOST_WIDTH.false c.in_ok-check_uses.ensures c.in_ok-check_use.ensures (sym c.are_within_limits.ensures ∙ c.if-not-are_within_limits.true)

pub returns : goal.returns
returns c =
    subst (λ f. IsFlaw f c.check_loose.result)
    (sym (fault_loose c.args.self.now c.args.name c.args.params.now c.args.args.now c.args.result_sort.now (sym c.has_symbol.ensures ∙ c.if-has_symbol.false) c.if-params-gt-MOST_WIDTH.false c.if-args-gt-MOST_WIDTH.false c.in_ok-check_uses.ensures c.in_ok-check_use.ensures (sym c.are_within_limits.ensures ∙ c.if-not-are_within_limits.false)))
    c.check_loose.ensures
