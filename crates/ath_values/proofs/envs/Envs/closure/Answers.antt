use Rattle.std.proofs.Common.{subst, sym}
use Rattle.ath_values.specs.Nodes.{Stores, KeepsValues}
use Rattle.ath_values.proofs.Growth.{values-value}
use Rattle.ath_values.proofs.Made.{closure_new}
use Rattle.ath_values.proofs.envs.Envs.closure.Goals as goal

pub returns-clause-stands : goal.returns-clause-stands
returns-clause-stands c = λ p s b e h g. closure_new p s c.args.self.now c.add.new.self c.args.kind c.args.params c.args.body c.args.env c.in_ok-v.v b e c.in_ok-v.ensures.added c.in_ok-v.ensures.number h g

pub returns-clause-kept : goal.returns-clause-kept
returns-clause-kept c = subst (λ (e : Stores). KeepsValues c.args.self.now e) (sym c.in_ok-v.ensures.added) (values-value c.args.self.now _)
