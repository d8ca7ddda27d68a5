-- What is printed of a sentence is read back.
use Rattle.std.proofs.Common.{◌≡◌, ℕ, true, false, List, [], ◌∷◌, length, drop, refl, sym, ap, ◌∙◌, subst, arith, append-nil}
use Rattle.ath_sorts.specs.Signature.{Signature}
use Rattle.ath_syntax.specs.Tree.{DirectiveTree}
use Rattle.ath_trees.specs.Tree.{Sent}
use Rattle.ath_grammar.specs.Tokens.{Placed}
use Rattle.ath_grammar.specs.Directives.{SpellsDirective, Begins}
use Rattle.ath_grammar.proofs.Readings.{no_two}
use Rattle.ath_print.specs.Printers.{Printed}
use Rattle.ath_print.specs.Lines.{printed}
use Rattle.ath_reader.specs.declared.limits.TheConstants.{MOST_LEVELS}
use Rattle.ath_reader.specs.Ahead.{the_end, ahead, Reads, follows_end}
use Rattle.ath_reader.specs.Reading.{IsWhole}
use Rattle.ath_reader.specs.Next.{Upcoming, whole, IsNext, Spelled}
use Rattle.ath_reader.proofs.OneNext.{one_next}
use Rattle.ath_reading_back.specs.Shapes.{shape_of}
use Rattle.ath_reading_back.specs.Pieces.{Piece, bytes_of, Page, end_of}
use Rattle.ath_reading_back.specs.Premises.{AreDeclared, IsReadable}
use Rattle.ath_reading_back.specs.Laws.{print_pieces, page_of, print_tokens, text_tree, IsShallow, reading_of, IsReadBack, PrintsAreReadBack}
use Rattle.ath_reading_back.proofs.PrintLaws.{sent-prints, printed-pieces}
use Rattle.ath_reading_back.proofs.Spelled.{PlainShape, spells-directive}
use Rattle.ath_reading_back.proofs.Cuts.{at_end}
use Rattle.ath_reading_back.proofs.Pieces.{LexicalShape, AllCut, shape-cut}
use Rattle.ath_reading_back.proofs.Scanned.{reads, drop_end, ends, end-is}
use Rattle.ath_reading_back.proofs.Fine.{sent_good}
use Rattle.ath_reading_back.proofs.Depths.{print-levels}

whole_at_end : (ts : List Placed) (d : DirectiveTree) → SpellsDirective true ts d [] → IsWhole ts the_end d
whole_at_end ts d h [] follows_end = subst (λ us. SpellsDirective true us d []) (sym (append-nil ts)) h
whole_at_end ts d h (t ∷ more) f = elim f [ ]

module _ (file : ℕ) (names : List (List ℕ)) (sig : Signature) (p : Sent) (declared : AreDeclared names sig) (readable : IsReadable names sig p) (shallow : IsShallow names sig p) where
  abbrev page : Page
  page = page_of file names sig p

  abbrev pieces : List Piece
  pieces = print_pieces names sig p

  abbrev text : List ℕ
  text = printed names sig p

  fine : PlainShape (shape_of names sig p) × LexicalShape (shape_of names sig p)
  fine =
      let seen = ap (λ (q : Printed). length q.seen) (sent-prints names sig [] p []) in
      (sent_good names sig declared readable.no_equals [] p readable.variables readable.sorted []).1 (omega (arith, readable.few, seen))

  cut : AllCut pieces
  cut = shape-cut false (shape_of names sig p) fine.1 [] tt at_end

  bytes : drop 0 text ≡ bytes_of pieces
  bytes = printed-pieces names sig p

  last : end_of 0 pieces ≡ length text
  last = let e = ap length (printed-pieces names sig p) in end-is pieces 0 ∙ omega (arith, e)

  read : Reads file text names 0 (print_tokens file names sig p) page.names (length text)
  read = subst (λ n. Reads file text names 0 (print_tokens file names sig p) page.names n) last (reads page pieces names 0 bytes cut refl)

  over : ahead file text page.names (length text) ≡ the_end
  over = subst (λ n. ahead file text page.names n ≡ the_end) last (ends page page.names (end_of 0 pieces) (drop_end page pieces 0 bytes))

  spelt : SpellsDirective true (print_tokens file names sig p) (text_tree file names sig p) []
  spelt = spells-directive page (shape_of names sig p) fine.0

  begun : Begins true (print_tokens file names sig p)
  begun = ([], text_tree file names sig p, subst (λ us. SpellsDirective true us (text_tree file names sig p) []) (sym (append-nil (print_tokens file names sig p))) spelt)

  found : Spelled (reading_of file names sig p) names 0 (text_tree file names sig p) (length text) page.names
  found = record {
    front = record {
      tokens = print_tokens file names sig p;
      known = page.names;
      to = length text;
      read = read;
      begins = begun;
      shallow = print-levels page MOST_LEVELS (shape_of names sig p) fine.0 shallow;
      next = the_end;
      comes = over;
    };
    whole = whole_at_end (print_tokens file names sig p) (text_tree file names sig p) spelt;
    end = refl;
    after = refl;
  }

  answer : Upcoming
  answer = whole (text_tree file names sig p) (length text) page.names

  is_next : IsNext (reading_of file names sig p) names 0 answer
  unfolding answer
  is_next = found

  read_back : IsReadBack file names sig p
  unfolding answer
  read_back = record {
    tokens = read;
    end = over;
    spelled = λ d r. (λ h. no_two true (print_tokens file names sig p) d (text_tree file names sig p) r [] h spelt, λ e. subst (λ us. SpellsDirective true (print_tokens file names sig p) d us) (sym e.1) (subst (λ x. SpellsDirective true (print_tokens file names sig p) x []) (sym e.0) spelt));
    next = λ u. (λ h. one_next (reading_of file names sig p) names 0 u answer h is_next, λ e. subst (IsNext (reading_of file names sig p) names 0) (sym e) is_next);
  }

pub prints_are_read_back : PrintsAreReadBack
prints_are_read_back = read_back
