-- The shape of a print: what stands in the line of a sentence, with names as texts.
use Rattle.std.specs.Prelude.{ℕ, ◌+◌, Bool, true, false, List, [], ◌∷◌, ◌++◌, length, position, Option, Some, None, codes, if◌then◌else◌}
use Rattle.std.specs.List.{list_any}
use Rattle.std.specs.Fmt.{decimal}
use Rattle.ath_sorts.specs.declared.sorts.SVar.{SVar}
use Rattle.ath_sorts.specs.declared.sorts.Sort.{Sort}
use Rattle.ath_sorts.specs.declared.sorts.Sort.TheOpen as one
use Rattle.ath_sorts.specs.declared.sorts.Sort.TheFolds.{fold-Sort}
use Rattle.ath_sorts.specs.Sorts.{same_svar}
use Rattle.ath_sorts.specs.Signature.{Signature, symbol_of}
use Rattle.ath_trees.specs.declared.node.Var.{Var}
use Rattle.ath_trees.specs.declared.node.Conn.TheVariants.{Not}
use Rattle.ath_trees.specs.SortsIn.{result_sort}
use Rattle.ath_trees.specs.Tree.{Term, Terms, var, app, none, more, Sent, atom, equal, negated, joined, bound, conn_of}
use Rattle.ath_trees.specs.Variables.{same_var}
use Rattle.ath_env.specs.LookUp.{text_of}
use Rattle.ath_print.specs.Prefix.{conn_text, quant_text, leaves_unsaid}

mutual
  pub data SortShape : Type 0 where
    -- a constructor alone, or in parentheses with its parts after it
    sort_item : List ℕ → SortShapes → SortShape
    -- a sort variable, without its mark
    sort_variable : List ℕ → SortShape

  pub data SortShapes : Type 0 where
    no_sorts : SortShapes
    more_sorts : SortShape → SortShapes → SortShapes

mutual
  pub data Shape : Type 0 where
    -- a variable, and its sort where that is shown
    variable : List ℕ → ℕ → Option SortShape → Shape
    -- a word alone, or in parentheses with its parts after it
    item : List ℕ → Shapes → Shape
    -- an item in parentheses with its sort
    ascribed : List ℕ → Shapes → SortShape → Shape

  pub data Shapes : Type 0 where
    no_shapes : Shapes
    more_shapes : Shape → Shapes → Shapes

-- what is shown where these sort variables have been shown before, and those that have been then
abbrev pub SortShaper : Type 0
SortShaper = List SVar → SortShape × List SVar

abbrev pub Shaper : Type 0
Shaper = List SVar → Shape × List SVar

-- ---- sorts
abbrev pub numbered_shape : List SVar → SVar → Option ℕ → SortShape × List SVar
numbered_shape seen v (Some n) = (sort_variable (codes "S" ++ decimal (n + 1)), seen)
numbered_shape seen v None = (sort_variable (codes "S" ++ decimal (length seen + 1)), seen ++ v ∷ [])

abbrev pub sorts_in_turn : List SortShaper → List SVar → SortShapes × List SVar
sorts_in_turn [] seen = (no_sorts, seen)
sorts_in_turn (f ∷ fs) seen =
    let first = f seen in
    let others = sorts_in_turn fs first.1 in
    (more_sorts first.0 others.0, others.1)

abbrev pub sort_step : List (List ℕ) → one.Sort-F SortShaper → SortShaper
sort_step names (one.Var v) seen = numbered_shape seen v (position (same_svar v) seen)
sort_step names (one.Con c parts) seen = let these = sorts_in_turn parts seen in (sort_item (text_of names c) these.0, these.1)

abbrev pub sort_shape : List (List ℕ) → Sort → SortShaper
sort_shape names = fold-Sort SortShaper (sort_step names)

-- ---- terms
abbrev pub in_turn : List Shaper → List SVar → Shapes × List SVar
in_turn [] seen = (no_shapes, seen)
in_turn (f ∷ fs) seen =
    let first = f seen in
    let others = in_turn fs first.1 in
    (more_shapes first.0 others.0, others.1)

abbrev pub item_shape : List ℕ → List Shaper → Shaper
item_shape head parts seen = let these = in_turn parts seen in (item head these.0, these.1)

abbrev pub sorted_shape : List (List ℕ) → Var → Shaper
sorted_shape names v seen = let s = sort_shape names v.sort seen in (variable (text_of names v.name) v.index (Some s.0), s.1)

abbrev pub bound_shape : List (List ℕ) → Var → Shaper
bound_shape names v seen = (variable (text_of names v.name) v.index None, seen)

abbrev pub occurrence_shape : List (List ℕ) → List Var → Var → Shaper
occurrence_shape names binders v = if list_any (same_var v) binders then bound_shape names v else sorted_shape names v

abbrev pub app_shape : List (List ℕ) → Bool → Sort → List ℕ → List Shaper → Shaper
app_shape names true sort head parts seen =
    let these = in_turn parts seen in
    let s = sort_shape names sort these.1 in
    (ascribed head these.0 s.0, s.1)
app_shape names false sort head parts seen = item_shape head parts seen

abbrev mutual
  pub term_shape : List (List ℕ) → Signature → List Var → Term → Shaper
  term_shape names sig binders (var v) = occurrence_shape names binders v
  term_shape names sig binders (app f sorts args) = app_shape names (leaves_unsaid (symbol_of sig f)) (result_sort (symbol_of sig f) sorts) (text_of names f) (terms_shapes names sig binders args)

  pub terms_shapes : List (List ℕ) → Signature → List Var → Terms → List Shaper
  terms_shapes names sig binders none = []
  terms_shapes names sig binders (more t ts) = term_shape names sig binders t ∷ terms_shapes names sig binders ts

-- ---- sentences
abbrev pub sent_shape : List (List ℕ) → Signature → List Var → Sent → Shaper
sent_shape names sig binders (atom t) = term_shape names sig binders t
sent_shape names sig binders (equal s t) = item_shape (codes "=") (term_shape names sig binders s ∷ term_shape names sig binders t ∷ [])
sent_shape names sig binders (negated p) = item_shape (conn_text Not) (sent_shape names sig binders p ∷ [])
sent_shape names sig binders (joined c p q) = item_shape (conn_text (conn_of c)) (sent_shape names sig binders p ∷ sent_shape names sig binders q ∷ [])
sent_shape names sig binders (bound k v p) = item_shape (quant_text k) (sorted_shape names v ∷ sent_shape names sig (binders ++ v ∷ []) p ∷ [])

-- a sentence alone on its line
abbrev pub shape_of : List (List ℕ) → Signature → Sent → Shape
shape_of names sig p = (sent_shape names sig [] p []).0
