-- Nodes under a sort substitution.
use Rattle.std.specs.Prelude.{map}
use Rattle.ath_sorts.specs.declared.sorts.SVar.{SVar}
use Rattle.ath_sorts.specs.declared.sorts.Sort.{Sort}
use Rattle.ath_sorts.specs.Sorts.{apply_to}
use Rattle.ath_terms.specs.declared.node.TermNode.{TermNode}
use Rattle.ath_terms.specs.declared.node.TermNode.TheVariants.{Var, App}
use Rattle.ath_trees.specs.Under.{var_under}

-- the sorts of a node alone: its parts are numbers
abbrev pub node_under : (SVar → Sort) → TermNode → TermNode
node_under f (Var v) = Var (var_under f v)
node_under f (App s sorts ids) = App s (map (apply_to f) sorts) ids
