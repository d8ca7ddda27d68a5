use Rattle.std.proofs.Common.{subst, sym}
use Rattle.ath_values.specs.Nodes.{Stores, KeepsValues}
use Rattle.ath_values.proofs.Growth.{values-value}
use Rattle.ath_values.proofs.envs.Envs.made.Goals as goal

pub returns-clause-kept : goal.returns-clause-kept
returns-clause-kept c = subst (λ (e : Stores). KeepsValues c.args.self.now e) (sym c.in_ok-v.ensures.added) (values-value c.args.self.now _)
