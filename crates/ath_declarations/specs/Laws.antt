-- Laws of declarations.
use Rattle.std.specs.Prelude.{◌≡◌, ℕ, true, false, List, [], ◌∷◌, ◌++◌, length, map, Option, Some, None, Ok, IfSome, ◌≤◌}
use Rattle.std.specs.List.{AllByRecursion}
use Rattle.ath_sorts.specs.declared.signature.Symbol.{Symbol}
use Rattle.ath_sorts.specs.declared.sorts.Sort.{Sort}
use Rattle.ath_sorts.specs.declared.sorts.Sym.{Sym}
use Rattle.ath_sorts.specs.declared.limits.TheConstants.{MOST_WIDTH}
use Rattle.ath_sorts.specs.Declaring.{use_fault}
use Rattle.ath_sorts.specs.Sorts.{is_small}
use Rattle.ath_sorts.specs.Signature.{Signature, arity_of, symbol_of}
use Rattle.ath_sorts.specs.Validity.{AreDistinct, has_made, IsValid}
use Rattle.ath_syntax.specs.declared.node.SortText.{SortText}
use Rattle.ath_declarations.specs.Declarations.{domain_declared, params_of, declared}
use Rattle.ath_declarations.specs.Texts.{sort_of, written_in, meaning}

-- what the one signature has, the other has too, with the same answer
pub record Keeps (old new : Signature) : Type 0 where
  pub sorts : (c : Sym) (n : ℕ) → arity_of old c ≡ Some n → arity_of new c ≡ Some n
  pub symbols : (f : Sym) (s : Symbol) → symbol_of old f ≡ Some s → symbol_of new f ≡ Some s

-- a sort that a text means has its constructors at their arities and is within the limits, and none of its variables was made
pub record IsMeant (sig : Signature) (s : Sort) : Type 0 where
  pub there : use_fault sig (written_in s) s ≡ None
  pub small : is_small s ≡ true
  pub none_made : has_made s ≡ false

abbrev pub TextsMeanSorts : Type 0
TextsMeanSorts = (sig : Signature) (text : SortText) (s : Sort) → meaning sig text ≡ Ok s → IsMeant sig s

-- a domain that isn't refused is there, with an argument for each variable of its header
abbrev pub DomainsAreThere : Type 0
DomainsAreThere = (old new : Signature) (name : Sym) (vars : List Sym) → domain_declared old name vars ≡ Ok new → arity_of new name ≡ Some (length vars)

-- so is each symbol, with its parameters and the sorts that its texts spell
abbrev pub IsThere : Signature → Option (List Sym) → List SortText → SortText → Sym → Type 0
IsThere sig list args result n =
    let sorts = map sort_of args in
    let sort = sort_of result in
    symbol_of sig n ≡ Some (record { name = n; params = params_of list (sorts ++ sort ∷ []); args = sorts; result = sort })

abbrev pub SymbolsAreThere : Type 0
SymbolsAreThere = (old new : Signature) (names : List Sym) (list : Option (List Sym)) (args : List SortText) (result : SortText) → declared old names list args result ≡ Ok new → AllByRecursion (IsThere new list args result) names

-- a domain keeps what was there
abbrev pub DomainsKeep : Type 0
DomainsKeep = (old new : Signature) (name : Sym) (vars : List Sym) → domain_declared old name vars ≡ Ok new → Keeps old new

-- so do declared symbols
abbrev pub SymbolsKeep : Type 0
SymbolsKeep = (old new : Signature) (names : List Sym) (list : Option (List Sym)) (args : List SortText) (result : SortText) → declared old names list args result ≡ Ok new → Keeps old new

-- a domain keeps a signature valid
abbrev pub DomainsKeepValidity : Type 0
DomainsKeepValidity = (old new : Signature) (name : Sym) (vars : List Sym) → IsValid old → domain_declared old name vars ≡ Ok new → IsValid new

-- so do declared symbols, where the parameters that are listed differ
abbrev pub SymbolsKeepValidity : Type 0
SymbolsKeepValidity = (old new : Signature) (names : List Sym) (list : Option (List Sym)) (args : List SortText) (result : SortText) → IsValid old → IfSome list AreDistinct → declared old names list args result ≡ Ok new → IsValid new

-- no symbol has too many parameters
abbrev pub AreNarrow : Signature → Type 0
AreNarrow sig = (f : Sym) (s : Symbol) → symbol_of sig f ≡ Some s → length s.params ≤ MOST_WIDTH

-- a domain adds no symbol that is wider
abbrev pub DomainsKeepNarrow : Type 0
DomainsKeepNarrow = (old new : Signature) (name : Sym) (vars : List Sym) → AreNarrow old → domain_declared old name vars ≡ Ok new → AreNarrow new

-- nor do declared symbols
abbrev pub SymbolsKeepNarrow : Type 0
SymbolsKeepNarrow = (old new : Signature) (names : List Sym) (list : Option (List Sym)) (args : List SortText) (result : SortText) → AreNarrow old → declared old names list args result ≡ Ok new → AreNarrow new
