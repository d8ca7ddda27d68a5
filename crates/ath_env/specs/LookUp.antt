-- The value that a name finds.
use Rattle.std.specs.Prelude.{ℕ, List, [], ◌∷◌, Option, Some, None, slice_index_or, codes}
use Rattle.std.specs.Map.{lookup}
use Rattle.std.specs.Str.{bytes_eq}
use Rattle.ath_sorts.specs.declared.sorts.Sym.{Sym}
use Rattle.ath_sorts.specs.declared.signature.Symbol.{Symbol}
use Rattle.ath_sorts.specs.Signature.{Signature, symbol_of}
use Rattle.ath_trees.specs.declared.node.Conn.TheVariants.{Not, And, Or, If, Iff}
use Rattle.ath_trees.specs.declared.node.Quant.TheVariants.{Forall, Exists}
use Rattle.ath_env.specs.Values.{Value, a_symbol, a_connective, a_quantifier, a_back, a_method}

abbrev pub equality : Sym
equality = record { 0 = 3 }

-- the names that every script begins with, and the numbers of the primitive methods
abbrev pub first_values : List (List ℕ × Value)
first_values =
    (codes "claim", a_method 0)
    ∷ (codes "mp", a_method 1)
    ∷ (codes "not", a_connective Not)
    ∷ (codes "and", a_connective And)
    ∷ (codes "or", a_connective Or)
    ∷ (codes "if", a_connective If)
    ∷ (codes "iff", a_connective Iff)
    ∷ (codes "forall", a_quantifier Forall)
    ∷ (codes "exists", a_quantifier Exists)
    ∷ (codes "=", a_symbol equality)
    ∷ (codes "<==", a_back)
    ∷ []

-- the text of a name
abbrev pub text_of : List (List ℕ) → Sym → List ℕ
text_of names n = slice_index_or names n.0 []

-- a declared name stands before one that every script begins with
abbrev pub found_value : List (List ℕ) → Sym → Option Symbol → Option Value
found_value names x (Some symbol) = Some (a_symbol x)
found_value names x None = lookup (bytes_eq (text_of names x)) first_values

abbrev pub looked_up : List (List ℕ) → Signature → Sym → Option Value
looked_up names sig x = found_value names x (symbol_of sig x)
