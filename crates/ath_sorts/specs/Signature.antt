-- Signatures: the sort constructors with their arities, and the symbols, each a list that is searched by name.
use Rattle.std.specs.Prelude.{ℕ, ◌==◌, List, [], ◌∷◌, Option, Some, None, if◌then◌else◌, map}
use Rattle.std.specs.List.{zip}
use Rattle.ath_sorts.specs.declared.sorts.Sym.{Sym}
use Rattle.ath_sorts.specs.declared.sorts.SVar.TheVariants.{Written}
use Rattle.ath_sorts.specs.declared.sorts.Sort.{Sort, Con}
use Rattle.ath_sorts.specs.declared.signature.Symbol.{Symbol}
use Rattle.ath_sorts.specs.Sorts.{image, apply_to}

pub record Signature : Type 0 where
  pub sorts : List (Sym × ℕ)
  pub symbols : List Symbol

abbrev pub boolean : Sort
boolean = Con (record { 0 = 0 }) []

abbrev pub arity_among : List (Sym × ℕ) → Sym → Option ℕ
arity_among [] n = None
arity_among (e ∷ es) n = if e.0.0 == n.0 then Some e.1 else arity_among es n

abbrev pub symbol_among : List Symbol → Sym → Option Symbol
symbol_among [] n = None
symbol_among (s ∷ ss) n = if s.name.0 == n.0 then Some s else symbol_among ss n

-- the number of arguments of the sort constructor of this name
abbrev pub arity_of : Signature → Sym → Option ℕ
arity_of sig n = arity_among sig.sorts n

abbrev pub symbol_of : Signature → Sym → Option Symbol
symbol_of sig n = symbol_among sig.symbols n

-- a declared sort with these sorts for the parameters
abbrev pub at_sorts : List Sym → List Sort → Sort → Sort
at_sorts params sorts = apply_to (image (zip (map (λ p. Written p) params) sorts))

-- a constant of sort Boolean
abbrev pub truth_value : Sym → Symbol
truth_value n = record { name = n; params = []; args = []; result = boolean }

-- the signature that is there at first: the sort Boolean, and its constants `true` and `false`
abbrev pub initial : Signature
initial = record { sorts = (record { 0 = 0 }, 0) ∷ []; symbols = truth_value (record { 0 = 1 }) ∷ truth_value (record { 0 = 2 }) ∷ [] }
