-- The universal closure of a sentence: over its free variables, the one that occurs first outermost. The last is closed over
-- first, and the first result that is above a limit is the refusal.
use Rattle.std.specs.Prelude.{true, List, [], ◌∷◌}
use Rattle.ath_trees.specs.declared.node.Var.{Var}
use Rattle.ath_trees.specs.declared.node.Quant.TheVariants.{Forall}
use Rattle.ath_trees.specs.Tree.{Sent}
use Rattle.ath_trees.specs.Measure.{sent_size, sent_depth}
use Rattle.ath_trees.specs.Variables.{free_vars}
use Rattle.ath_trees.specs.Closing.{closed_over}
use Rattle.ath_construction.specs.Construction.{Built, builds, refuses, within}

-- closing changes no sort
abbrev pub closed_one : Var → Built Sent → Built Sent
closed_one v (refuses why) = refuses why
closed_one v (builds p) = within (closed_over Forall v p) (record {
  small = true;
  nodes = sent_size (closed_over Forall v p);
  levels = sent_depth (closed_over Forall v p);
})

-- over each of the variables, the last first
abbrev pub closed_in_turn : List Var → Sent → Built Sent
closed_in_turn [] p = builds p
closed_in_turn (v ∷ vs) p = closed_one v (closed_in_turn vs p)

abbrev pub universal_closure : Sent → Built Sent
universal_closure p = closed_in_turn (free_vars p) p
