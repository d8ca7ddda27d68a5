-- What domains and declared symbols make of a signature.
use Rattle.std.specs.Prelude.{List, [], ◌∷◌, ◌++◌, length, map, Option, Some, None, Result, Ok}
use Rattle.std.specs.List.{flat_map}
use Rattle.ath_sorts.specs.declared.signature.Flaw.{Flaw}
use Rattle.ath_sorts.specs.declared.sorts.Sort.{Sort}
use Rattle.ath_sorts.specs.declared.sorts.Sym.{Sym}
use Rattle.ath_sorts.specs.Declaring.{domain_fault, symbol_fault, with_sort, with_symbol}
use Rattle.ath_sorts.specs.Signature.{Signature}
use Rattle.ath_syntax.specs.declared.node.SortText.{SortText}
use Rattle.ath_declarations.specs.Texts.{sort_of, written_in, firsts, unless}

-- the signature after a domain with these sort variables in its header, or why it is refused
abbrev pub domain_declared : Signature → Sym → List Sym → Result Signature Flaw
domain_declared sig name vars = unless (domain_fault sig name (length vars)) (Ok (with_sort sig name (length vars)))

-- the parameters of a declaration: those of its list, or without a list the written variables of its sorts, in order of first occurrence
abbrev pub params_of : Option (List Sym) → List Sort → List Sym
params_of (Some params) sorts = params
params_of None sorts = firsts (flat_map written_in sorts)

-- the names become symbols one after the other, each with all its tests; the first refusal refuses them all
abbrev pub with_symbols : Signature → List Sym → List Sym → List Sort → Sort → Result Signature Flaw
with_symbols sig [] params args result = Ok sig
with_symbols sig (n ∷ names) params args result = unless (symbol_fault sig n params args result) (with_symbols (with_symbol sig (record { name = n; params = params; args = args; result = result })) names params args result)

-- the signature after a declaration of these names, with the list of parameters where it has one, or why it is refused
abbrev pub declared : Signature → List Sym → Option (List Sym) → List SortText → SortText → Result Signature Flaw
declared sig names list args result =
    let sorts = map sort_of args in
    let sort = sort_of result in
    with_symbols sig names (params_of list (sorts ++ sort ∷ [])) sorts sort
