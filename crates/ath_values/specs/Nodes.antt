-- Values and environments as numbered nodes.
use Rattle.std.specs.Prelude.{◌≡◌, ℕ, ◌+◌, ◌<◌, ◌≤◌, ◌++◌, List, [], ◌∷◌, Option, Some, None, length, max, slice_get}
use Rattle.ath_trees.specs.declared.limits.TheConstants.{MOST_TERM_NODES, MOST_TERM_LEVELS}
use Rattle.ath_values.specs.declared.value.ValueId.{ValueId}
use Rattle.ath_values.specs.declared.value.EnvId.{EnvId}
use Rattle.ath_values.specs.declared.value.EnvNode.{EnvNode}
use Rattle.ath_values.specs.declared.value.EnvNode.TheVariants as node
use Rattle.ath_values.specs.declared.value.KeptValue.{KeptValue}
use Rattle.ath_values.specs.declared.value.KeptEnv.{KeptEnv}

-- a number is a place in its list
pub record Stores : Type 0 where
  pub values : List KeptValue
  pub envs : List KeptEnv

-- every number keeps its node
pub record KeepsValues (old new : Stores) : Type 0 where
  pub value : (i : ℕ) (k : KeptValue) → slice_get old.values i ≡ Some k → slice_get new.values i ≡ Some k
  pub env : (i : ℕ) (k : KeptEnv) → slice_get old.envs i ≡ Some k → slice_get new.envs i ≡ Some k

abbrev pub with_value : Stores → KeptValue → Stores
with_value s k = record { values = s.values ++ k ∷ []; envs = s.envs }

abbrev pub with_env : Stores → KeptEnv → Stores
with_env s k = record { values = s.values; envs = s.envs ++ k ∷ [] }

abbrev pub kept_nodes : Option KeptValue → ℕ
kept_nodes None = 0
kept_nodes (Some k) = k.nodes

abbrev pub kept_levels : Option KeptValue → ℕ
kept_levels None = 0
kept_levels (Some k) = k.levels

abbrev pub nodes_at : Stores → ValueId → ℕ
nodes_at s v = kept_nodes (slice_get s.values v.0)

abbrev pub levels_at : Stores → ValueId → ℕ
levels_at s v = kept_levels (slice_get s.values v.0)

-- those of some values together
abbrev pub listed_nodes : Stores → List ValueId → ℕ
listed_nodes s [] = 0
listed_nodes s (v ∷ vs) = nodes_at s v + listed_nodes s vs

-- the most levels of some values
abbrev pub listed_levels : Stores → List ValueId → ℕ
listed_levels s [] = 0
listed_levels s (v ∷ vs) = max (levels_at s v) (listed_levels s vs)

abbrev pub kept_depth : Option KeptEnv → ℕ
kept_depth None = 0
kept_depth (Some k) = k.depth

abbrev pub depth_at : Stores → EnvId → ℕ
depth_at s e = kept_depth (slice_get s.envs e.0)

-- how many members the newest entry of an environment has
abbrev pub node_members : EnvNode → ℕ
node_members node.Root = 0
node_members (node.Bind x v e) = 1
node_members (node.Group ms e) = length ms

abbrev pub kept_members : Option KeptEnv → ℕ
kept_members None = 0
kept_members (Some k) = node_members k.node

abbrev pub members_at : Stores → EnvId → ℕ
members_at s e = kept_members (slice_get s.envs e.0)

-- the parent of an environment has a smaller number, and the value of a name is one of so many
abbrev pub IsBelow : ℕ → ℕ → EnvNode → Type 0
IsBelow n i node.Root = Unit {0}
IsBelow n i (node.Bind x v e) = (e.0 < i) × (v.0 < n)
IsBelow n i (node.Group ms e) = e.0 < i

-- every value is within the limits, the first environment has no entries, and parents have smaller numbers
pub record AreKept (s : Stores) : Type 0 where
  pub values : (i : ℕ) (k : KeptValue) → slice_get s.values i ≡ Some k → (k.nodes ≤ MOST_TERM_NODES) × (k.levels ≤ MOST_TERM_LEVELS)
  pub root : slice_get s.envs 0 ≡ Some (record { node = node.Root; depth = 0 })
  pub envs : (i : ℕ) (k : KeptEnv) → slice_get s.envs i ≡ Some k → IsBelow (length s.values) i k.node × (k.depth ≤ i)

abbrev pub IsValueIn : Stores → ValueId → Type 0
IsValueIn s v = v.0 < length s.values

abbrev pub IsEnvIn : Stores → EnvId → Type 0
IsEnvIn s e = e.0 < length s.envs
