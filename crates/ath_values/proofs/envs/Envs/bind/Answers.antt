use Rattle.std.proofs.Common.{subst, sym}
use Rattle.ath_values.specs.Nodes.{Stores, KeepsValues}
use Rattle.ath_values.proofs.Growth.{values-env}
use Rattle.ath_values.proofs.Made.{bind_new}
use Rattle.ath_values.proofs.envs.Envs.bind.Goals as goal

pub returns-clause-stands : goal.returns-clause-stands
returns-clause-stands c = λ p s t u h g. bind_new p s c.args.self.now c.add_env.new.self c.args.name c.args.v c.args.env c.in_ok-e.e t u c.in_ok-e.ensures.added c.in_ok-e.ensures.number h g

pub returns-clause-kept : goal.returns-clause-kept
returns-clause-kept c = subst (λ (e : Stores). KeepsValues c.args.self.now e) (sym c.in_ok-e.ensures.added) (values-env c.args.self.now _)
