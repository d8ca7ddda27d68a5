-- Text trees, computed.
use Rattle.std.proofs.Common.{◌≡◌, ℕ, true, List, [], ◌∷◌, Some, None, codes, refl}
use Rattle.std.specs.Fmt.{digits}
use Rattle.ath_names.specs.Names.{first_names}
use Rattle.ath_sorts.specs.declared.sorts.Sym.{Sym}
use Rattle.ath_sorts.specs.declared.sorts.Sort.{Con}
use Rattle.ath_sorts.specs.Signature.{Signature, initial, truth_value}
use Rattle.ath_sorts.proofs.SameSorts.{same_sort-refl}
use Rattle.ath_syntax.specs.declared.place.Pos.{Pos}
use Rattle.ath_syntax.specs.declared.node.SortText.TheVariants.{Name as sort_name}
use Rattle.ath_syntax.specs.Tree.{name_at, variable_at, apply_at, no_phrases, more_phrases, directive_at, phrase_is}
use Rattle.ath_trees.specs.declared.node.Var.{Var as Variable}
use Rattle.ath_trees.specs.declared.node.Binary.TheVariants as binary
use Rattle.ath_trees.specs.declared.node.Quant.TheVariants.{Forall}
use Rattle.ath_trees.specs.Tree.{Sent, var, atom, equal, joined, bound, constant}
use Rattle.ath_print.proofs.PrefixLaws.{sort_con}
use Rattle.ath_reading_back.specs.Premises.{has_symbol_names, has_sort_names, has_no_equals, has_readable_variables}
use Rattle.ath_reading_back.specs.Laws.{text_tree, IsShallow}
use Rattle.ath_reading_back.proofs.PrintLaws.{shaped_con}

-- ---- a state with two constants and a domain
abbrev names : List (List ℕ)
names = codes "Boolean" ∷ codes "true" ∷ codes "false" ∷ codes "=" ∷ codes "A" ∷ codes "B" ∷ codes "N" ∷ codes "x" ∷ codes "if" ∷ codes "forall" ∷ []

abbrev number : ℕ → Sym
number n = record { 0 = n }

abbrev declared : Signature
declared = record { sorts = (number 6, 0) ∷ initial.sorts; symbols = truth_value (number 4) ∷ truth_value (number 5) ∷ initial.symbols }

abbrev column : ℕ → Pos
column n = record { file = 0; line = 1; col = n }

-- the names that a new state begins with can be declared, and those of this one
first_symbols : has_symbol_names first_names initial ≡ true
first_symbols = refl

first_sorts : has_sort_names first_names initial ≡ true
first_sorts = refl

first_equals : has_no_equals first_names initial ≡ true
first_equals = refl

symbols : has_symbol_names names declared ≡ true
symbols = refl

sorts : has_sort_names names declared ≡ true
sorts = refl

no_equals : has_no_equals names declared ≡ true
no_equals = refl

-- ---- (if A B)
abbrev conditional : Sent
conditional = joined binary.If (atom (constant (number 4))) (atom (constant (number 5)))

conditional_tree : text_tree 0 names declared conditional ≡ directive_at (column 1) (phrase_is (apply_at (column 1) (name_at (column 2) (number 8)) (more_phrases (name_at (column 5) (number 4)) (more_phrases (name_at (column 7) (number 5)) no_phrases))))
unfolding digits
conditional_tree = refl

conditional_shallow : IsShallow names declared conditional
unfolding digits
conditional_shallow = refl

-- ---- (forall ?x:N (= ?x ?x))
abbrev x : Variable
x = record { name = number 7; index = 0; sort = Con (number 6) [] }

abbrev reflexive : Sent
reflexive = bound Forall x (equal (var x) (var x))

reflexive_variables : has_readable_variables names reflexive ≡ true
reflexive_variables = refl

reflexive_tree : text_tree 0 names declared reflexive ≡ directive_at (column 1) (phrase_is (apply_at (column 1) (name_at (column 2) (number 9)) (more_phrases (variable_at (column 9) (number 7) 0 (Some (sort_name (number 6)))) (more_phrases
    (apply_at (column 14) (name_at (column 15) (number 3)) (more_phrases (variable_at (column 17) (number 7) 0 None) (more_phrases (variable_at (column 20) (number 7) 0 None) no_phrases))) no_phrases))))
unfolding digits
reflexive_tree = rw (same_sort-refl (Con (number 6) []), shaped_con names (number 6) [], sort_con names (number 6) []) refl
