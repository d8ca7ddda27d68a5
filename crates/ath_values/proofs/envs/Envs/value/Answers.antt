use Rattle.ath_values.specs.Nodes.{IsValueIn}
use Rattle.ath_values.proofs.Made.{made_new, measured_by, inside_with}
use Rattle.ath_values.proofs.envs.Envs.value.Goals as goal

pub returns-clause-made : goal.returns-clause-made
returns-clause-made c = λ p t h. made_new p c.args.store.now c.args.self.now c.made.new.self c.args.value _ _ t c.made.result c.measured_nodes-nodes.ensures c.measured_levels-levels.ensures h c.made.ensures.made

pub returns-clause-limits : goal.returns-clause-limits
returns-clause-limits c = measured_by _ (IsValueIn c.made.new.self) (λ i g. inside_with c.args.self.now c.made.new.self _ i g) c.made.result _ _ _ _ c.measured_nodes-nodes.ensures c.measured_levels-levels.ensures c.made.ensures.made
