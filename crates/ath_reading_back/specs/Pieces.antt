-- The tokens of a print, with one space before some, and its bytes.
use Rattle.std.specs.Prelude.{ℕ, ◌+◌, ◌-◌, Bool, true, false, ◌&&◌, ◌==◌, nat_le, List, [], ◌∷◌, ◌++◌, length, Some, None, if◌then◌else◌}
use Rattle.ath_syntax.specs.declared.place.Pos.{Pos}
use Rattle.ath_grammar.specs.Tokens.{Placed, at}
use Rattle.ath_tokens.specs.Cut.{place_of, names_with}
use Rattle.ath_tokens.specs.Spelling.{Lexeme, word, var, sort_var, str, punct, becomes}
use Rattle.ath_reader.specs.Ahead.{seen_as}
use Rattle.ath_print.specs.Prefix.{index_text}
use Rattle.ath_reading_back.specs.Shapes.{SortShape, sort_item, sort_variable, SortShapes, no_sorts, more_sorts, Shape, variable, item, ascribed, Shapes, no_shapes, more_shapes}

-- a token, and whether a space stands before it
abbrev pub Piece : Type 0
Piece = Bool × Lexeme

abbrev pub opening : Lexeme
opening = punct 40

abbrev pub closing : Lexeme
closing = punct 41

abbrev pub colon : Lexeme
colon = punct 58

-- ---- the tokens of a shape, behind a space or not, and those after it
abbrev mutual
  pub sort_pieces : Bool → SortShape → List Piece → List Piece
  sort_pieces gap (sort_item w no_sorts) rest = (gap, word w) ∷ rest
  sort_pieces gap (sort_item w (more_sorts s ss)) rest = (gap, opening) ∷ (false, word w) ∷ sort_pieces true s (sorts_pieces ss ((false, closing) ∷ rest))
  sort_pieces gap (sort_variable w) rest = (gap, sort_var w) ∷ rest

  pub sorts_pieces : SortShapes → List Piece → List Piece
  sorts_pieces no_sorts rest = rest
  sorts_pieces (more_sorts s ss) rest = sort_pieces true s (sorts_pieces ss rest)

abbrev mutual
  pub shape_pieces : Bool → Shape → List Piece → List Piece
  shape_pieces gap (variable w k None) rest = (gap, var w k) ∷ rest
  shape_pieces gap (variable w k (Some s)) rest = (gap, var w k) ∷ (false, colon) ∷ sort_pieces false s rest
  shape_pieces gap (item w no_shapes) rest = (gap, word w) ∷ rest
  shape_pieces gap (item w (more_shapes t ts)) rest = (gap, opening) ∷ (false, word w) ∷ shape_pieces true t (shapes_pieces ts ((false, closing) ∷ rest))
  shape_pieces gap (ascribed w no_shapes s) rest = (gap, opening) ∷ (false, word w) ∷ (true, colon) ∷ sort_pieces true s ((false, closing) ∷ rest)
  shape_pieces gap (ascribed w (more_shapes t ts) s) rest =
      (gap, opening) ∷ (false, opening) ∷ (false, word w) ∷ shape_pieces true t (shapes_pieces ts ((false, closing) ∷ (true, colon) ∷ sort_pieces true s ((false, closing) ∷ rest)))

  pub shapes_pieces : Shapes → List Piece → List Piece
  shapes_pieces no_shapes rest = rest
  shapes_pieces (more_shapes t ts) rest = shape_pieces true t (shapes_pieces ts rest)

-- ---- bytes
abbrev pub token_text : Lexeme → List ℕ
token_text (word w) = w
token_text (var w k) = 63 ∷ w ++ index_text k
token_text (sort_var w) = 39 ∷ w
token_text (str bytes) = bytes
token_text (punct b) = b ∷ []
token_text becomes = []

abbrev pub gap_text : Bool → List ℕ
gap_text true = 32 ∷ []
gap_text false = []

abbrev pub bytes_of : List Piece → List ℕ
bytes_of [] = []
bytes_of (p ∷ ps) = gap_text p.0 ++ (token_text p.1 ++ bytes_of ps)

-- ---- places: where a token behind a byte begins and ends, and the tokens of pieces
abbrev pub begins : Bool → ℕ → ℕ
begins true byte = byte + 1
begins false byte = byte

abbrev pub past : Bool → Lexeme → ℕ → ℕ
past gap l byte = begins gap byte + length (token_text l)

-- a text and the number of its file, and the names when all of it is read
pub record Page : Type 0 where
  pub file : ℕ
  pub text : List ℕ
  pub names : List (List ℕ)

abbrev pub place_at : Page → Bool → ℕ → Pos
place_at page gap byte = place_of page.file page.text (begins gap byte)

abbrev pub placed : Page → ℕ → List Piece → List Placed
placed page byte [] = []
placed page byte (p ∷ ps) = at (place_at page p.0 byte) (seen_as page.names p.1) ∷ placed page (past p.0 p.1 byte) ps

-- the names behind tokens
abbrev pub names_behind : List (List ℕ) → List Piece → List (List ℕ)
names_behind names [] = names
names_behind names (p ∷ ps) = names_behind (names_with names p.1) ps

-- the byte behind them
abbrev pub end_of : ℕ → List Piece → ℕ
end_of byte [] = byte
end_of byte (p ∷ ps) = end_of (past p.0 p.1 byte) ps

-- ---- brackets: how many are open behind a token, and whether never more are than so many
abbrev pub open_behind : ℕ → Lexeme → ℕ
open_behind n (punct b) = if b == 40 then n + 1 else if b == 41 then n - 1 else n
open_behind n l = n

abbrev pub has_depth : ℕ → ℕ → List Piece → Bool
has_depth most n [] = true
has_depth most n (p ∷ ps) = nat_le (open_behind n p.1) most && has_depth most (open_behind n p.1) ps
