-- What the law of reading back says: a sentence that is printed is read back as its text tree.
use Rattle.std.specs.Prelude.{◌≡◌, ◌↔◌, ℕ, true, false, List, [], length}
use Rattle.ath_sorts.specs.Signature.{Signature}
use Rattle.ath_syntax.specs.Tree.{DirectiveTree}
use Rattle.ath_trees.specs.Tree.{Sent}
use Rattle.ath_grammar.specs.Tokens.{Placed}
use Rattle.ath_grammar.specs.Directives.{SpellsDirective}
use Rattle.ath_print.specs.Lines.{printed}
use Rattle.ath_reader.specs.declared.limits.TheConstants.{MOST_LEVELS}
use Rattle.ath_reader.specs.Ahead.{the_end, ahead, Reads}
use Rattle.ath_reader.specs.Reading.{reached, Reading}
use Rattle.ath_reader.specs.Next.{Upcoming, whole, IsNext}
use Rattle.ath_reading_back.specs.Shapes.{shape_of}
use Rattle.ath_reading_back.specs.Pieces.{Piece, shape_pieces, Page, placed, names_behind, has_depth}
use Rattle.ath_reading_back.specs.TextTree.{directive_of}
use Rattle.ath_reading_back.specs.Premises.{AreDeclared, IsReadable}

-- the tokens of a printed sentence, with one space before some
abbrev pub print_pieces : List (List ℕ) → Signature → Sent → List Piece
print_pieces names sig p = shape_pieces false (shape_of names sig p) []

-- the print as the text of a file, and the names when it is read
abbrev pub page_of : ℕ → List (List ℕ) → Signature → Sent → Page
page_of file names sig p = record { file = file; text = printed names sig p; names = names_behind names (print_pieces names sig p) }

-- its tokens, each at its place
abbrev pub print_tokens : ℕ → List (List ℕ) → Signature → Sent → List Placed
print_tokens file names sig p = placed (page_of file names sig p) 0 (print_pieces names sig p)

-- the text tree of a sentence, as the directive that says it
abbrev pub text_tree : ℕ → List (List ℕ) → Signature → Sent → DirectiveTree
text_tree file names sig p = directive_of (page_of file names sig p) (shape_of names sig p)

-- no bracket of the print is deeper than levels may be
abbrev pub IsShallow : List (List ℕ) → Signature → Sent → Type 0
IsShallow names sig p = has_depth MOST_LEVELS 0 (print_pieces names sig p) ≡ true

abbrev pub reading_of : ℕ → List (List ℕ) → Signature → Sent → Reading
reading_of file names sig p = record { text = printed names sig p; file = file; progress = reached 0 }

-- The print is read as its tokens and then at its end; they spell one directive alone, the text tree, and nothing is left; and
-- that is next in the text, and nothing else.
pub record IsReadBack (file : ℕ) (names : List (List ℕ)) (sig : Signature) (p : Sent) : Type 0 where
  pub tokens : Reads file (printed names sig p) names 0 (print_tokens file names sig p) (page_of file names sig p).names (length (printed names sig p))
  pub end : ahead file (printed names sig p) (page_of file names sig p).names (length (printed names sig p)) ≡ the_end
  pub spelled : (d : DirectiveTree) (r : List Placed) → SpellsDirective true (print_tokens file names sig p) d r ↔ ((d ≡ text_tree file names sig p) × (r ≡ []))
  pub next : (u : Upcoming) → IsNext (reading_of file names sig p) names 0 u ↔ (u ≡ whole (text_tree file names sig p) (length (printed names sig p)) (page_of file names sig p).names)

abbrev pub PrintsAreReadBack : Type 0
PrintsAreReadBack = (file : ℕ) (names : List (List ℕ)) (sig : Signature) (p : Sent) → AreDeclared names sig → IsReadable names sig p → IsShallow names sig p → IsReadBack file names sig p
