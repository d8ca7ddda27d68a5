-- Lines, computed.
use Rattle.std.proofs.Common.{◌≡◌, ℕ, List, [], ◌∷◌, codes, refl}
use Rattle.std.specs.Fmt.{digits}
use Rattle.ath_sorts.specs.declared.sorts.SVar.{SVar}
use Rattle.ath_sorts.specs.declared.sorts.SVar.TheVariants.{Written, Made}
use Rattle.ath_sorts.specs.declared.sorts.Sort.{Sort, Var, Con}
use Rattle.ath_sorts.specs.Sorts.{image}
use Rattle.ath_sorts.specs.Signature.{Signature, initial}
use Rattle.ath_sorts.proofs.SortLaws.{apply-var, apply-con}
use Rattle.ath_sorts.proofs.SameSorts.{same_sort-refl}
use Rattle.ath_trees.specs.declared.node.Var.{Var as Variable}
use Rattle.ath_trees.specs.declared.node.Conn.TheVariants.{If}
use Rattle.ath_trees.specs.declared.node.Binary.TheVariants as binary
use Rattle.ath_trees.specs.declared.node.Quant.TheVariants.{Forall}
use Rattle.ath_trees.specs.Tree.{Term, var, app, none, atom, equal, joined, bound, constant}
use Rattle.ath_env.specs.Values.{a_term, a_sentence, a_connective}
use Rattle.ath_print.specs.declared.fault.FaultKind.TheVariants.{ArgCount, LooseParam, NotInBase, SortClash}
use Rattle.ath_print.specs.Events.{sentence_named, sort_named, variable_named, number_named, shown, refused, exhausted}
use Rattle.ath_print.specs.Lines.{line_of}
use Rattle.ath_print.proofs.PrefixLaws.{sort_var, sort_con}

abbrev names : List (List ℕ)
names = codes "Boolean" ∷ codes "A" ∷ codes "B" ∷ codes "N" ∷ codes "List" ∷ codes "x" ∷ codes "y" ∷ codes "T" ∷ []

abbrev files : List (List ℕ)
files = codes "a \"b\".ath" ∷ codes "x.ath" ∷ []

two_numbers : line_of names initial files (refused (record { file = 1; line = 2; col = 31 }) (record { kind = ArgCount; args = number_named 2 ∷ number_named 3 ∷ [] })) ≡ codes "Error: \"x.ath\":2:31: ArgCount 2 3\n"
unfolding digits
two_numbers = refl

a_conditional : line_of names initial files (refused (record { file = 0; line = 1; col = 1 }) (record { kind = NotInBase; args = sentence_named (joined binary.If (atom (constant (record { 0 = 1 }))) (atom (constant (record { 0 = 2 })))) ∷ [] })) ≡ codes "Error: \"a \\\"b\\\".ath\":1:1: NotInBase (if A B)\n"
unfolding digits
a_conditional = refl

no_fuel : line_of names initial files (exhausted (record { file = 1; line = 10; col = 4 })) ≡ codes "Fuel: \"x.ath\":10:4: out of fuel\n"
unfolding digits
no_fuel = refl

a_symbol : line_of names initial files (shown (a_connective If)) ≡ codes "Symbol: if\n"
a_symbol = refl

-- ---- sorts
abbrev number_sort : Sort
number_sort = Con (record { 0 = 3 }) []

abbrev list_of : SVar → Sort
list_of v = Con (record { 0 = 4 }) (Var v ∷ [])

abbrev first : SVar
first = Made 9

abbrev second : SVar
second = Written (record { 0 = 7 })

-- the numbers go on from one argument to the next
three_sorts : line_of names initial files (refused (record { file = 1; line = 1; col = 1 }) (record { kind = SortClash; args = sort_named (list_of first) ∷ sort_named (Var second) ∷ sort_named (Var first) ∷ sort_named number_sort ∷ [] })) ≡ codes "Error: \"x.ath\":1:1: SortClash (List 'S1) 'S2 'S1 N\n"
unfolding digits
three_sorts = rw (sort_con names (record { 0 = 4 }) (Var first ∷ []), sort_var names first, sort_var names second, sort_con names (record { 0 = 3 }) []) refl

a_parameter : line_of names initial files (refused (record { file = 1; line = 1; col = 1 }) (record { kind = LooseParam; args = variable_named (record { 0 = 7 }) ∷ [] })) ≡ codes "Error: \"x.ath\":1:1: LooseParam 'T\n"
unfolding digits
a_parameter = refl

-- ---- variables
abbrev x_of : Sort → Variable
x_of s = record { name = record { 0 = 5 }; index = 0; sort = s }

abbrev y_of : Sort → Variable
y_of s = record { name = record { 0 = 6 }; index = 2; sort = s }

a_variable : line_of names initial files (shown (a_term (var (y_of (Var second))) (Var second))) ≡ codes "Term: ?y%2:'S1\n"
unfolding digits
a_variable = rw (sort_var names second) refl

a_binder : line_of names initial files (shown (a_sentence (bound Forall (x_of number_sort) (equal (var (x_of number_sort)) (var (y_of number_sort)))))) ≡ codes "Sentence: (forall ?x:N (= ?x ?y%2:N))\n"
unfolding digits
a_binder = rw (same_sort-refl number_sort, sort_con names (record { 0 = 3 }) []) refl

-- ---- an application that has its sort
abbrev lists : Signature
lists = record { sorts = initial.sorts; symbols = record { name = record { 0 = 2 }; params = record { 0 = 7 } ∷ []; args = []; result = list_of second } ∷ [] }

abbrev empty_of : SVar → Term
empty_of v = app (record { 0 = 2 }) (Var v ∷ []) none

an_empty_list : line_of names lists files (shown (a_term (empty_of first) (list_of first))) ≡ codes "Term: (B : (List 'S1))\n"
unfolding digits
an_empty_list = rw (apply-con (image ((second, Var first) ∷ [])) (record { 0 = 4 }) (Var second ∷ []), apply-var (image ((second, Var first) ∷ [])) second, sort_con names (record { 0 = 4 }) (Var first ∷ []), sort_var names first) refl
