-- Worked texts and declarations, computed. Sorts are known by their numbers: Boolean has 0.
use Rattle.std.proofs.Common.{◌≡◌, ◌&&◌, true, cond, List, [], ◌∷◌, ◌++◌, Some, None, Ok, Err, refl, ◌∙◌, ap}
use Rattle.std.specs.Prelude.{nat_le}
use Rattle.ath_sorts.specs.declared.signature.Flaw.TheVariants.{Redeclared, UnknownSort, Arity, SortTooLarge}
use Rattle.ath_sorts.specs.declared.sorts.Sym.{Sym}
use Rattle.ath_sorts.specs.declared.sorts.SVar.TheVariants.{Written}
use Rattle.ath_sorts.specs.declared.sorts.Sort.{Sort, Var, Con}
use Rattle.ath_sorts.specs.Declaring.{first_fault, use_fault, symbol_fault, with_sort}
use Rattle.ath_sorts.specs.Sorts.{is_small}
use Rattle.ath_sorts.proofs.SortLaws.{size-con, depth-con}
use Rattle.ath_sorts.specs.Signature.{initial}
use Rattle.ath_syntax.specs.declared.node.SortText as text
use Rattle.ath_declarations.specs.Declarations.{domain_declared, params_of, with_symbols, declared}
use Rattle.ath_declarations.specs.Texts.{sort_of, firsts, unless}
use Rattle.ath_declarations.proofs.Places.{use-con, written_var, written_con}
use Rattle.ath_declarations.proofs.TextLaws.{name_is, variable_is, application_is}

abbrev a : Sym
a = record { 0 = 5 }

abbrev b : Sym
b = record { 0 = 6 }

abbrev c : Sym
c = record { 0 = 7 }

abbrev boolean : Sym
boolean = record { 0 = 0 }

-- ---- texts: `c`, `'a`, `(c 'a b)`
name : sort_of (text.Name c) ≡ Con c []
name = name_is c

variable : sort_of (text.Var a) ≡ Var (Written a)
variable = variable_is a

application : sort_of (text.Con c (text.Var a ∷ text.Name b ∷ [])) ≡ Con c (Var (Written a) ∷ Con b [] ∷ [])
application = application_is c (text.Var a ∷ text.Name b ∷ []) ∙ (λ i. Con c (variable_is a i ∷ name_is b i ∷ []))

-- ---- the first bad place: of `(Boolean c)` the outer one
outer-first : use_fault initial [] (Con boolean (Con c [] ∷ [])) ≡ Some (Arity boolean)
outer-first = use-con initial [] boolean (Con c [] ∷ [])

unknown : use_fault initial [] (Con c (Con boolean [] ∷ [])) ≡ Some (UnknownSort c)
unknown = use-con initial [] c (Con boolean [] ∷ [])

-- ---- parameters
first-occurrences : firsts (b ∷ a ∷ b ∷ c ∷ a ∷ []) ≡ b ∷ a ∷ c ∷ []
first-occurrences = refl

listed : params_of (Some (a ∷ b ∷ [])) (Var (Written b) ∷ []) ≡ a ∷ b ∷ []
listed = refl

-- of `'b` and `'a` and `'b`
unlisted : params_of None (Var (Written b) ∷ Var (Written a) ∷ Var (Written b) ∷ []) ≡ b ∷ a ∷ []
unlisted = λ i. firsts (written_var b i ++ (written_var a i ++ (written_var b i ++ [])))

-- ---- declarations
domain-twice : domain_declared initial boolean [] ≡ Err (Redeclared boolean)
domain-twice = refl

domain : domain_declared initial c (a ∷ b ∷ []) ≡ Ok (with_sort initial c 2)
domain = refl

-- a name that is a symbol's is refused before its sorts are looked at
taken : (args : List Sort) → with_symbols initial (record { 0 = 1 } ∷ a ∷ []) [] args (Con c []) ≡ Err (Redeclared (record { 0 = 1 }))
taken args = refl

-- ---- `declare a, a: Boolean`
boolean-there : use_fault initial [] (Con boolean []) ≡ None
boolean-there = use-con initial [] boolean []

boolean-small : is_small (Con boolean []) ≡ true
boolean-small = λ i. nat_le (size-con boolean [] i) 1000 && nat_le (depth-con boolean [] i) 64

free : symbol_fault initial a [] [] (Con boolean []) ≡ None
free = λ i. first_fault (None ∷ None ∷ first_fault (boolean-there i ∷ []) ∷ cond (boolean-small i && true) None (Some SortTooLarge) ∷ None ∷ [])

twice : with_symbols initial (a ∷ a ∷ []) [] [] (Con boolean []) ≡ Err (Redeclared a)
twice = ap (λ f. unless f (Err (Redeclared a))) free

twice-declared : declared initial (a ∷ a ∷ []) None [] (text.Name boolean) ≡ Err (Redeclared a)
twice-declared = (λ i. with_symbols initial (a ∷ a ∷ []) (params_of None (name_is boolean i ∷ [])) [] (name_is boolean i)) ∙ (λ i. with_symbols initial (a ∷ a ∷ []) (firsts (written_con boolean [] i ++ [])) [] (Con boolean [])) ∙ twice
