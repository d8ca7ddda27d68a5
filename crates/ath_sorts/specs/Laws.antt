-- Laws of signatures, substitutions and instances.
use Rattle.std.specs.Prelude.{◌≡◌, ℕ, false, List, [], ◌∷◌, ◌++◌, None}
use Rattle.std.specs.List.{list_any}
use Rattle.ath_sorts.specs.declared.signature.Symbol.{Symbol}
use Rattle.ath_sorts.specs.declared.sorts.Sym.{Sym}
use Rattle.ath_sorts.specs.Declaring.{domain_fault, symbol_fault, with_sort, with_symbol}
use Rattle.ath_sorts.specs.Signature.{Signature, initial}
use Rattle.ath_sorts.specs.Validity.{AreDistinct, has_made, IsValid}
use Rattle.ath_sorts.specs.declared.sorts.SVar.{SVar}
use Rattle.ath_sorts.specs.declared.sorts.Sort.{Sort}
use Rattle.ath_sorts.specs.Sorts.{image, apply_to, after}
use Rattle.ath_sorts.specs.Instances.{IsInstance}

-- to apply two substitutions in turn is to apply one
abbrev pub ApplyingIsComposition : Type 0
ApplyingIsComposition = (s t : List (SVar × Sort)) (sort : Sort) → apply_to (image s) (apply_to (image t) sort) ≡ apply_to (image (after s t)) sort

-- two instances of one list are equal
abbrev pub InstancesAgree : Type 0
InstancesAgree = (s t : List (SVar × Sort)) (general special : List Sort) (rigid : List SVar) → IsInstance s general special rigid → IsInstance t general special rigid → (v : SVar) → image s v ≡ image t v

-- the first signature is valid
abbrev pub FirstSignatureIsValid : Type 0
FirstSignatureIsValid = IsValid initial

-- a sort constructor that isn't refused keeps a signature valid
abbrev pub SortsKeepValidity : Type 0
SortsKeepValidity = (sig : Signature) (name : Sym) (arity : ℕ) → IsValid sig → domain_fault sig name arity ≡ None → IsValid (with_sort sig name arity)

-- so does a symbol that isn't refused, where its parameters differ and no variable in its sorts was made
abbrev pub SymbolsKeepValidity : Type 0
SymbolsKeepValidity = (sig : Signature) (s : Symbol) → IsValid sig → AreDistinct s.params → list_any has_made (s.args ++ s.result ∷ []) ≡ false → symbol_fault sig s.name s.params s.args s.result ≡ None → IsValid (with_symbol sig s)
