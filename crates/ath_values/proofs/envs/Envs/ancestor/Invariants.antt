use Rattle.ath_syntax.specs.Nodes.{Nodes}
use Rattle.ath_terms.specs.Trees.{Trees}
use Rattle.ath_values.specs.Nodes.{IsEnvIn}
use Rattle.ath_values.specs.Stands.{IsEnv}
use Rattle.ath_values.specs.Values.{EnvTree, above}
use Rattle.ath_values.proofs.envs.Envs.ancestor.Given as goal

abbrev pub invariant-loop-hop : goal.invariant-loop-hop
invariant-loop-hop l = record {
  inside : IsEnvIn l.self l.at;
  stands : (p : Nodes) (s : Trees) (t : EnvTree) → IsEnv p s l.self l.fn.env t → IsEnv p s l.self l.at (above l._hop t);
}
