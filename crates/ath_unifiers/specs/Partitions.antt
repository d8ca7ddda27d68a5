-- Classes of nodes, where each node is filed under a block, and each block has the name and the members of its class.
use Rattle.std.specs.Prelude.{◌≡◌, ℕ, ◌<◌, Bool, ◌==◌, IsTrue, List, [], map, length, slice_get, Option, Some, None, unwrap_or, if◌then◌else◌}
use Rattle.std.specs.List.{list_any}
use Rattle.ath_unifiers.specs.declared.partition.Block.{Block}

-- the name of a node's class; a node that isn't there is its own
abbrev pub class_at : List ℕ → ℕ → ℕ
class_at class i = unwrap_or (slice_get class i) i

abbrev pub rename : ℕ → ℕ → ℕ → ℕ
rename old new c = if c == old then new else c

abbrev pub name_of : Option Block → ℕ → ℕ
name_of None b = b
name_of (Some k) b = k.name

abbrev pub name_at : List Block → ℕ → ℕ
name_at blocks b = name_of (slice_get blocks b) b

abbrev pub members_of : Option Block → List ℕ
members_of None = []
members_of (Some k) = k.members

abbrev pub is_member : List ℕ → ℕ → Bool
is_member members i = list_any (λ m. m == i) members

-- the name of each node's class
abbrev pub class_names : List ℕ → List Block → List ℕ
class_names block blocks = map (name_at blocks) block

pub record IsPartition (block : List ℕ) (blocks : List Block) : Type 0 where
  pub there : (i b : ℕ) → slice_get block i ≡ Some b → b < length blocks
  pub named : (i b : ℕ) → slice_get block i ≡ Some b → name_at blocks b < length block
  pub members : (i b : ℕ) → slice_get block i ≡ Some b → IsTrue (is_member (members_of (slice_get blocks b)) i)
  -- blocks of one name are one
  pub apart : (i j b c : ℕ) → slice_get block i ≡ Some b → slice_get block j ≡ Some c → name_at blocks b ≡ name_at blocks c → b ≡ c
