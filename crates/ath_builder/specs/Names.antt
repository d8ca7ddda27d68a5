-- Lists of names.
use Rattle.std.specs.Prelude.{List, [], ◌∷◌, ◌++◌, Bool, if◌then◌else◌}
use Rattle.std.specs.List.{list_any}
use Rattle.ath_syntax.specs.Tree.{same_name}
use Rattle.ath_sorts.specs.declared.sorts.Sym.{Sym}

abbrev pub is_listed : Sym → List Sym → Bool
is_listed n ms = list_any (same_name n) ms

-- the names that are there, and then each of the others that isn't there yet
abbrev pub noted : List Sym → List Sym → List Sym
noted ks [] = ks
noted ks (n ∷ ns) = noted (if is_listed n ks then ks else ks ++ n ∷ []) ns
