-- Names with their indices fall into 64 groups. The groups of a tree's free variables are bits of one number: where that of a
-- name isn't set, no free variable has it.
use Rattle.std.specs.Prelude.{ℕ, ◌+◌, ◌^◌, ◌%◌, ◌==◌, Bool}
use Rattle.std.specs.Int.{bit_at}
use Rattle.std.specs.Int.Bits.{bit_or}
use Rattle.ath_trees.specs.declared.groups.NameGroups.{NameGroups}
use Rattle.ath_trees.specs.declared.node.Var.{Var}

abbrev pub group_of : Var → ℕ
group_of v = (v.name.0 + v.index) % 64

abbrev pub no_groups : NameGroups
no_groups = record { bits = 0 }

abbrev pub only : Var → NameGroups
only v = record { bits = 2 ^ group_of v }

abbrev pub both : NameGroups → NameGroups → NameGroups
both g h = record { bits = bit_or g.bits h.bits }

abbrev pub may_have : NameGroups → Var → Bool
may_have g v = bit_at g.bits (group_of v) == 1
