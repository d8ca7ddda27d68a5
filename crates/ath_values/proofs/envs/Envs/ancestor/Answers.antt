use Rattle.std.proofs.Common.{subst}
use Rattle.ath_values.specs.Stands.{IsEnv}
use Rattle.ath_values.specs.Values.{EnvTree, above}
use Rattle.ath_values.proofs.Made.{above_next}
use Rattle.ath_values.proofs.envs.Envs.ancestor.Goals as goal

pub loop-hop-init : goal.loop-hop-init
loop-hop-init c = record { inside = c.requires; stands = λ p s t h. h }

pub loop-hop-preserved : goal.loop-hop-preserved
loop-hop-preserved c = record {
  inside = c.parent-at.ensures.inside;
  stands = λ p s t h. subst (λ (u : EnvTree). IsEnv p s c.args.self.now c.parent-at.result u) (above_next c.loop-hop._hop t) (c.parent-at.ensures.stands p s (above c.loop-hop._hop t) (c.loop-hop.invariant.stands p s t h));
}
