-- The text tree of a print: an Ascribe for each `(t : S)`, an Apply for each other parenthesis outside a sort, a Var for each
-- variable and a Name for each word, each at the place of its first token.
use Rattle.std.specs.Prelude.{ℕ, Bool, true, false, List, [], ◌∷◌, Some, None}
use Rattle.ath_syntax.specs.declared.node.SortText.{SortText}
use Rattle.ath_syntax.specs.declared.node.SortText.TheVariants.{Name as sort_name, Var as sort_var_text, Con as sort_con}
use Rattle.ath_syntax.specs.Tree.{Phrase, name_at, variable_at, ascribe_at, apply_at, Phrases, no_phrases, more_phrases, DirectiveTree, directive_at, phrase_is}
use Rattle.ath_tokens.specs.Spelling.{word, var, sort_var}
use Rattle.ath_reader.specs.Ahead.{number_in}
use Rattle.ath_reading_back.specs.Shapes.{SortShape, sort_item, sort_variable, SortShapes, no_sorts, more_sorts, Shape, variable, item, ascribed, Shapes, no_shapes, more_shapes}
use Rattle.ath_reading_back.specs.Pieces.{opening, closing, colon, past, Page, place_at}

-- ---- sorts, and the byte behind one
abbrev mutual
  pub sort_tree : Page → SortShape → SortText
  sort_tree page (sort_item w no_sorts) = sort_name (number_in page.names w)
  sort_tree page (sort_item w (more_sorts s ss)) = sort_con (number_in page.names w) (sort_tree page s ∷ sorts_trees page ss)
  sort_tree page (sort_variable w) = sort_var_text (number_in page.names w)

  pub sorts_trees : Page → SortShapes → List SortText
  sorts_trees page no_sorts = []
  sorts_trees page (more_sorts s ss) = sort_tree page s ∷ sorts_trees page ss

abbrev mutual
  pub past_sort : Bool → SortShape → ℕ → ℕ
  past_sort gap (sort_item w no_sorts) byte = past gap (word w) byte
  past_sort gap (sort_item w (more_sorts s ss)) byte = past false closing (past_sorts ss (past_sort true s (past false (word w) (past gap opening byte))))
  past_sort gap (sort_variable w) byte = past gap (sort_var w) byte

  pub past_sorts : SortShapes → ℕ → ℕ
  past_sorts no_sorts byte = byte
  past_sorts (more_sorts s ss) byte = past_sorts ss (past_sort true s byte)

-- ---- phrases, and the byte behind one
abbrev mutual
  pub past_shape : Bool → Shape → ℕ → ℕ
  past_shape gap (variable w k None) byte = past gap (var w k) byte
  past_shape gap (variable w k (Some s)) byte = past_sort false s (past false colon (past gap (var w k) byte))
  past_shape gap (item w no_shapes) byte = past gap (word w) byte
  past_shape gap (item w (more_shapes t ts)) byte = past false closing (past_shapes ts (past_shape true t (past false (word w) (past gap opening byte))))
  past_shape gap (ascribed w no_shapes s) byte = past false closing (past_sort true s (past true colon (past false (word w) (past gap opening byte))))
  past_shape gap (ascribed w (more_shapes t ts) s) byte =
      past false closing (past_sort true s (past true colon (past false closing (past_shapes ts (past_shape true t (past false (word w) (past false opening (past gap opening byte))))))))

  pub past_shapes : Shapes → ℕ → ℕ
  past_shapes no_shapes byte = byte
  past_shapes (more_shapes t ts) byte = past_shapes ts (past_shape true t byte)

abbrev mutual
  pub tree_of : Page → Bool → Shape → ℕ → Phrase
  tree_of page gap (variable w k None) byte = variable_at (place_at page gap byte) (number_in page.names w) k None
  tree_of page gap (variable w k (Some s)) byte = variable_at (place_at page gap byte) (number_in page.names w) k (Some (sort_tree page s))
  tree_of page gap (item w no_shapes) byte = name_at (place_at page gap byte) (number_in page.names w)
  tree_of page gap (item w (more_shapes t ts)) byte =
      let within = past gap opening byte in
      let first = past false (word w) within in
      apply_at (place_at page gap byte) (name_at (place_at page false within) (number_in page.names w)) (more_phrases (tree_of page true t first) (trees_of page ts (past_shape true t first)))
  tree_of page gap (ascribed w no_shapes s) byte = ascribe_at (place_at page gap byte) (name_at (place_at page false (past gap opening byte)) (number_in page.names w)) (sort_tree page s)
  tree_of page gap (ascribed w (more_shapes t ts) s) byte =
      let outer = past gap opening byte in
      let within = past false opening outer in
      let first = past false (word w) within in
      let plain = apply_at (place_at page false outer) (name_at (place_at page false within) (number_in page.names w)) (more_phrases (tree_of page true t first) (trees_of page ts (past_shape true t first))) in
      ascribe_at (place_at page gap byte) plain (sort_tree page s)

  pub trees_of : Page → Shapes → ℕ → Phrases
  trees_of page no_shapes byte = no_phrases
  trees_of page (more_shapes t ts) byte = more_phrases (tree_of page true t byte) (trees_of page ts (past_shape true t byte))

-- the directive that it is, at the head of a text
abbrev pub directive_of : Page → Shape → DirectiveTree
directive_of page s = directive_at (place_at page false 0) (phrase_is (tree_of page false s 0))
