-- Each token of a shape is cut where its words, names and indices are tokens.
use Rattle.std.proofs.Common.{◌≡◌, ℕ, ◌^◌, ◌<◌, Bool, true, false, List, [], ◌∷◌, ◌++◌, slice_index, Option, Some, None, refl, sym, ap, ◌∙◌, ◌==◌}
use Rattle.ath_tokens.specs.Spelling.{word}
use Rattle.ath_reading_back.specs.Shapes.{SortShape, sort_item, sort_variable, SortShapes, no_sorts, more_sorts, Shape, variable, item, ascribed, Shapes, no_shapes, more_shapes}
use Rattle.ath_reading_back.specs.Pieces.{Piece, opening, closing, colon, sort_pieces, sorts_pieces, shape_pieces, shapes_pieces, bytes_of}
use Rattle.ath_reading_back.proofs.Cuts.{IsCut, Apart, at_stop, a_space, a_close, a_colon, IsWordText, IsPartText, cut-word, cut-open, cut-close, cut-colon, cut-sort_var, cut-var}

-- ---- shapes whose words, names and indices are tokens
abbrev mutual
  pub LexicalSort : SortShape → Type 0
  LexicalSort (sort_item w ss) = IsWordText w × ((slice_index w 0 == 61) ≡ false) × LexicalSorts ss
  LexicalSort (sort_variable w) = IsPartText w

  pub LexicalSorts : SortShapes → Type 0
  LexicalSorts no_sorts = Unit {0}
  LexicalSorts (more_sorts s ss) = LexicalSort s × LexicalSorts ss

abbrev pub LexicalAscription : Option SortShape → Type 0
LexicalAscription None = Unit {0}
LexicalAscription (Some s) = LexicalSort s

abbrev mutual
  pub LexicalShape : Shape → Type 0
  LexicalShape (variable w k o) = IsPartText w × (k < 10 ^ 18) × LexicalAscription o
  LexicalShape (item w ts) = IsWordText w × LexicalShapes ts
  LexicalShape (ascribed w ts s) = IsWordText w × LexicalShapes ts × LexicalSort s

  pub LexicalShapes : Shapes → Type 0
  LexicalShapes no_shapes = Unit {0}
  LexicalShapes (more_shapes t ts) = LexicalShape t × LexicalShapes ts

-- ---- pieces that are cut so
abbrev pub AllCut : List Piece → Type 0
AllCut [] = Unit {0}
AllCut (p ∷ ps) = IsCut p.1 (bytes_of ps) × AllCut ps

apart_sort : (s : SortShape) (rest : List Piece) → Apart (bytes_of (sort_pieces true s rest))
apart_sort (sort_item w no_sorts) rest = at_stop a_space
apart_sort (sort_item w (more_sorts s ss)) rest = at_stop a_space
apart_sort (sort_variable w) rest = at_stop a_space

apart_sorts : (ss : SortShapes) (rest : List Piece) → Apart (bytes_of rest) → Apart (bytes_of (sorts_pieces ss rest))
apart_sorts no_sorts rest a = a
apart_sorts (more_sorts s ss) rest a = apart_sort s (sorts_pieces ss rest)

apart_shape : (t : Shape) (rest : List Piece) → Apart (bytes_of (shape_pieces true t rest))
apart_shape (variable w k None) rest = at_stop a_space
apart_shape (variable w k (Some s)) rest = at_stop a_space
apart_shape (item w no_shapes) rest = at_stop a_space
apart_shape (item w (more_shapes t ts)) rest = at_stop a_space
apart_shape (ascribed w no_shapes s) rest = at_stop a_space
apart_shape (ascribed w (more_shapes t ts) s) rest = at_stop a_space

apart_shapes : (ts : Shapes) (rest : List Piece) → Apart (bytes_of rest) → Apart (bytes_of (shapes_pieces ts rest))
apart_shapes no_shapes rest a = a
apart_shapes (more_shapes t ts) rest a = apart_shape t (shapes_pieces ts rest)

-- behind a closing bracket
abbrev closed_by : List Piece → List Piece
closed_by rest = (false, closing) ∷ rest

mutual
  sort-cut : (gap : Bool) (s : SortShape) → LexicalSort s → (rest : List Piece) → AllCut rest → Apart (bytes_of rest) → AllCut (sort_pieces gap s rest)
  sort-cut gap (sort_item w no_sorts) h rest c a = (cut-word w (bytes_of rest) h.0 a, c)
  sort-cut gap (sort_item w (more_sorts s ss)) h rest c a =
      let others = sorts_pieces ss (closed_by rest) in (
        cut-open (bytes_of ((false, word w) ∷ sort_pieces true s others)),
        (
          cut-word w (bytes_of (sort_pieces true s others)) h.0 (apart_sort s others),
          sort-cut true s h.2.0 others (sorts-cut ss h.2.1 (closed_by rest) (cut-close (bytes_of rest), c) (at_stop a_close)) (apart_sorts ss (closed_by rest) (at_stop a_close)),
        ),
      )
  sort-cut gap (sort_variable w) h rest c a = (cut-sort_var w (bytes_of rest) h a, c)

  sorts-cut : (ss : SortShapes) → LexicalSorts ss → (rest : List Piece) → AllCut rest → Apart (bytes_of rest) → AllCut (sorts_pieces ss rest)
  sorts-cut no_sorts h rest c a = c
  sorts-cut (more_sorts s ss) h rest c a = sort-cut true s h.0 (sorts_pieces ss rest) (sorts-cut ss h.1 rest c a) (apart_sorts ss rest a)

-- a colon and a sort right behind it
word-front : (w rest : List ℕ) → IsWordText w → (slice_index w 0 == 61) ≡ false → (slice_index (w ++ rest) 0 == 61) ≡ false
word-front w rest h e = ap (λ v. slice_index (v ++ rest) 0 == 61) h.is ∙ ap (λ v. slice_index v 0 == 61) (sym h.is) ∙ e

no_equals : (s : SortShape) → LexicalSort s → (rest : List Piece) → (slice_index (bytes_of (sort_pieces false s rest)) 0 == 61) ≡ false
no_equals (sort_item w no_sorts) h rest = word-front w (bytes_of rest) h.0 h.1
no_equals (sort_item w (more_sorts s ss)) h rest = refl
no_equals (sort_variable w) h rest = refl

space_first : (s : SortShape) (rest : List Piece) → (slice_index (bytes_of (sort_pieces true s rest)) 0 == 61) ≡ false
space_first (sort_item w no_sorts) rest = refl
space_first (sort_item w (more_sorts s ss)) rest = refl
space_first (sort_variable w) rest = refl

-- a colon, a sort and the bracket
ascription-cut : (s : SortShape) → LexicalSort s → (rest : List Piece) → AllCut rest → AllCut ((true, colon) ∷ sort_pieces true s (closed_by rest))
ascription-cut s h rest c = (cut-colon (bytes_of (sort_pieces true s (closed_by rest))) (space_first s (closed_by rest)), sort-cut true s h (closed_by rest) (cut-close (bytes_of rest), c) (at_stop a_close))

mutual
  pub shape-cut : (gap : Bool) (t : Shape) → LexicalShape t → (rest : List Piece) → AllCut rest → Apart (bytes_of rest) → AllCut (shape_pieces gap t rest)
  shape-cut gap (variable w k None) h rest c a = (cut-var w (bytes_of rest) k h.0 h.1 a, c)
  shape-cut gap (variable w k (Some s)) h rest c a =
      (cut-var w (bytes_of ((false, colon) ∷ sort_pieces false s rest)) k h.0 h.1 (at_stop a_colon), (cut-colon (bytes_of (sort_pieces false s rest)) (no_equals s h.2 rest), sort-cut false s h.2 rest c a))
  shape-cut gap (item w no_shapes) h rest c a = (cut-word w (bytes_of rest) h.0 a, c)
  shape-cut gap (item w (more_shapes t ts)) h rest c a =
      let others = shapes_pieces ts (closed_by rest) in (
        cut-open (bytes_of ((false, word w) ∷ shape_pieces true t others)),
        (
          cut-word w (bytes_of (shape_pieces true t others)) h.0 (apart_shape t others),
          shape-cut true t h.1.0 others (shapes-cut ts h.1.1 (closed_by rest) (cut-close (bytes_of rest), c) (at_stop a_close)) (apart_shapes ts (closed_by rest) (at_stop a_close)),
        ),
      )
  shape-cut gap (ascribed w no_shapes s) h rest c a =
      let last : List Piece = (true, colon) ∷ sort_pieces true s (closed_by rest) in
      (cut-open (bytes_of ((false, word w) ∷ last)), (cut-word w (bytes_of last) h.0 (at_stop a_space), ascription-cut s h.2 rest c))
  shape-cut gap (ascribed w (more_shapes t ts) s) h rest c a =
      let last : List Piece = (true, colon) ∷ sort_pieces true s (closed_by rest) in
      let others = shapes_pieces ts (closed_by last) in (
        cut-open (bytes_of ((false, opening) ∷ (false, word w) ∷ shape_pieces true t others)),
        (
          cut-open (bytes_of ((false, word w) ∷ shape_pieces true t others)),
          (
            cut-word w (bytes_of (shape_pieces true t others)) h.0 (apart_shape t others),
            shape-cut true t h.1.0 others (shapes-cut ts h.1.1 (closed_by last) (cut-close (bytes_of last), ascription-cut s h.2 rest c) (at_stop a_close)) (apart_shapes ts (closed_by last) (at_stop a_close)),
          ),
        ),
      )

  shapes-cut : (ts : Shapes) → LexicalShapes ts → (rest : List Piece) → AllCut rest → Apart (bytes_of rest) → AllCut (shapes_pieces ts rest)
  shapes-cut no_shapes h rest c a = c
  shapes-cut (more_shapes t ts) h rest c a = shape-cut true t h.0 (shapes_pieces ts rest) (shapes-cut ts h.1 rest c a) (apart_shapes ts rest a)
