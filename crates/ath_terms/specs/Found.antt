-- What a table files variables by.
use Rattle.std.specs.Prelude.{Bool, ◌==◌, ◌&&◌}
use Rattle.ath_trees.specs.declared.node.Var.{Var}
use Rattle.ath_terms.specs.declared.key.VarKey.{VarKey}
use Rattle.ath_terms.specs.declared.key.NameKey.{NameKey}
use Rattle.ath_terms.specs.Digest.{digest}

abbrev pub name_key : Var → NameKey
name_key v = record { name = v.name; index = v.index }

abbrev pub same_name_key : NameKey → NameKey → Bool
same_name_key k l = k.name.0 == l.name.0 && k.index == l.index

abbrev pub var_key : Var → VarKey
var_key v = record { namesakes = name_key v; digest = digest v.sort }

abbrev pub same_var_key : VarKey → VarKey → Bool
same_var_key k l = same_name_key k.namesakes l.namesakes && k.digest == l.digest
