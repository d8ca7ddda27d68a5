use Rattle.std.proofs.Common.{subst, sym}
use Rattle.ath_values.specs.Nodes.{Stores, KeepsValues}
use Rattle.ath_values.proofs.Growth.{values-value}
use Rattle.ath_values.proofs.Made.{term_new}
use Rattle.ath_values.proofs.envs.Envs.term.Goals as goal

pub returns-clause-stands : goal.returns-clause-stands
returns-clause-stands c = λ p. term_new p c.args.store.now c.args.self.now c.add.new.self c.args.t _ _ c.in_ok-v.v c.requires c.in_ok-v.ensures.added c.in_ok-v.ensures.number c.size.ensures.same c.depth.ensures.same

pub returns-clause-kept : goal.returns-clause-kept
returns-clause-kept c = subst (λ (e : Stores). KeepsValues c.args.self.now e) (sym c.in_ok-v.ensures.added) (values-value c.args.self.now _)
