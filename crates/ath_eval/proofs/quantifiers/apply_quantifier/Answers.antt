use Rattle.std.proofs.Common.{sym, ◌∙◌, subst}
use Rattle.ath_syntax.specs.declared.place.Pos.{Pos}
use Rattle.ath_eval.specs.Outcomes.{Left, Outcome}
use Rattle.ath_eval.specs.World.{IsSteady}
use Rattle.ath_eval.proofs.QuantifierLaws.{applied_to}
use Rattle.ath_eval.proofs.quantifiers.apply_quantifier.Goals as goal

pub returns-clause-outcome : goal.returns-clause-outcome
returns-clause-outcome c = let a = c.args in let w = a.w.now in let k = c.in-Some in let o = c.in_ok-outcome-3 in
    rw k.ensures.cases.0 (subst (λ (f : Pos → Left → Outcome). IsSteady c.quantify_values.new.w.store o.outcome (f a.at)) (sym (applied_to w.sig a.q w.store k.front.now k.last.now (sym c.is_empty.ensures ∙ c.if-is_empty.false))) o.ensures.outcome)
