use Rattle.std.proofs.Common.{◌∙◌, ap, sym}
use Rattle.std.specs.Prelude.{find}
use Rattle.ath_terms.specs.Found.{var_key, same_var_key}
use Rattle.ath_terms.specs.declared.key.VarKey.{VarKey}
use Rattle.ath_terms.proofs.KeyLaws.{no-key-no-var, key-is-var}
use Rattle.ath_terms.proofs.found.FoundVars.has.Goals as goal

pub returns-in_default : goal.returns-in_default
returns-in_default c = sym (no-key-no-var c.args.v.now c.args.self.now (ap (λ (k : VarKey). find (λ w. same_var_key k (var_key w)) c.args.self.now) (sym c.var_key.ensures) ∙ sym c.in_default.ensures))

pub returns-then-is_same_var : goal.returns-then-is_same_var
returns-then-is_same_var c = sym (key-is-var c.args.v.now c.in-Some.w.now c.args.self.now (ap (λ (k : VarKey). find (λ w. same_var_key k (var_key w)) c.args.self.now) (sym c.var_key.ensures) ∙ sym c.in-Some.ensures) (sym c.is_same_var.ensures ∙ c.if-is_same_var.true))
