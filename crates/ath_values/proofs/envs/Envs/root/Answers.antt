use Rattle.std.proofs.Common.{subst}
use Rattle.std.proofs.lemmas.Option.{slice_get_within}
use Rattle.ath_values.specs.Nodes.{Stores, IsEnvIn}
use Rattle.ath_values.specs.Stands.{IsEnv}
use Rattle.ath_values.specs.Values.{no_entries}
use Rattle.ath_values.proofs.Made.{root_stands}
use Rattle.ath_values.proofs.envs.Envs.root.Goals as goal

pub returns-clause-inside : goal.returns-clause-inside
returns-clause-inside c = subst (λ (e : Stores). IsEnvIn e (record { 0 = 0 })) c.self.view_is (slice_get_within _ 0 _ c.self.invariant.root)

pub returns-clause-stands : goal.returns-clause-stands
returns-clause-stands c = λ p s. subst (λ (e : Stores). IsEnv p s e (record { 0 = 0 }) no_entries) c.self.view_is (root_stands p s _ c.self.invariant)
