-- What a signature keeps true of its tables.
use Rattle.std.specs.Prelude.{◌≡◌, List, [], ◌∷◌}
use Rattle.ath_sorts.specs.declared.sorts.Sym.{Sym}
use Rattle.ath_sorts.specs.declared.signature.Symbol.{Symbol}

-- each symbol is filed under its own name
abbrev pub AreNamed : List (Sym × Symbol) → Type 0
AreNamed [] = Unit {0}
AreNamed (e ∷ es) = (e.1.name ≡ e.0) × AreNamed es
