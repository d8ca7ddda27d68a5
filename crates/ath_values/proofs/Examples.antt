-- Worked examples of values and environments.
use Rattle.std.proofs.Common.{◌≡◌, [], ◌∷◌, Some, None, refl}
use Rattle.ath_sorts.specs.declared.sorts.Sym.{Sym}
use Rattle.ath_syntax.specs.Tree.{Phrase}
use Rattle.ath_values.specs.declared.value.Kind.TheVariants.{Procedure, Method}
use Rattle.ath_values.specs.Values.{member_tree, ValueTree, list_value, back_value, closure_value, no_values, more_values, EnvTree, no_entries, bound_entry, group_entry, value_size, value_depth, env_depth, value_at}

-- a list counts one node more than its members, and one level
abbrev nested : ValueTree
nested = list_value (more_values (list_value (more_values back_value no_values)) (more_values back_value no_values))

size_of_nested : value_size nested ≡ 4
size_of_nested = refl

depth_of_nested : value_depth nested ≡ 3
depth_of_nested = refl

module _ (x y : Sym) (b c : Phrase) where
  -- a name that is bound within a group of two members
  abbrev group : EnvTree
  group = group_entry (member_tree x Procedure (y ∷ []) b ∷ member_tree y Method [] c ∷ []) no_entries

  abbrev inner : EnvTree
  inner = bound_entry x back_value group

  entries : env_depth inner ≡ 2
  entries = refl

  newest : value_at inner 0 0 ≡ Some back_value
  newest = refl

  -- each member sees the group with its two members
  second_member : value_at inner 1 1 ≡ Some (closure_value Method [] c group)
  second_member = refl

  no_third_member : value_at inner 1 2 ≡ None
  no_third_member = refl

  nothing_above : value_at inner 2 0 ≡ None
  nothing_above = refl
