-- The levels that are open behind tokens of a print are its open brackets.
use Rattle.std.proofs.Common.{◌≡◌, ℕ, zero, suc, ◌+◌, ◌-◌, ◌≤◌, Bool, true, false, List, [], ◌∷◌, take, Some, None, refl, sym, subst, arith}
use Rattle.std.proofs.lemmas.Bool.{and_parts}
use Rattle.std.proofs.lemmas.Bool.Decides.{nat_tests}
use Rattle.std.specs.Prelude.{nat_le}
use Rattle.ath_sorts.specs.declared.sorts.Sym.{Sym}
use Rattle.ath_grammar.specs.declared.class.WordClass.{WordClass}
use Rattle.ath_grammar.specs.declared.class.WordClass.TheVariants.{Plain, Logical, Infix}
use Rattle.ath_grammar.specs.declared.class.Opener.TheVariants as O
use Rattle.ath_grammar.specs.declared.class.Mark.TheVariants as M
use Rattle.ath_grammar.specs.declared.class.Class.TheVariants as C
use Rattle.ath_grammar.specs.declared.lexeme.Lexeme.TheVariants as L
use Rattle.ath_grammar.specs.declared.levels.Open.{Open}
use Rattle.ath_grammar.specs.declared.levels.Open.TheVariants.{Bracket, Fresh, Variable}
use Rattle.ath_grammar.specs.Tokens.{class_of_lexeme}
use Rattle.ath_grammar.specs.Levels.{depth_of, take_class, take_all}
use Rattle.ath_lexemes.specs.Lexemes.{word_lexeme}
use Rattle.ath_tokens.specs.Spelling.{Lexeme, word}
use Rattle.ath_reader.specs.Ahead.{number_in, seen_as}
use Rattle.ath_reading_back.specs.Shapes.{SortShape, sort_item, sort_variable, SortShapes, no_sorts, more_sorts, Shape, variable, item, ascribed, Shapes, no_shapes, more_shapes}
use Rattle.ath_reading_back.specs.Pieces.{Piece, opening, closing, colon, sort_pieces, sorts_pieces, shape_pieces, shapes_pieces, past, Page, placed, open_behind, has_depth}
use Rattle.ath_reading_back.proofs.Spelled.{PlainSort, PlainSorts, PlainShape, PlainShapes, Head, plain_head, logical_head, infix_head}

abbrev brackets : ℕ → List Open
brackets zero = []
brackets (suc n) = Bracket ∷ brackets n

-- so many brackets are open: the last may have just been opened, and a variable may stand last
pub data Opened : ℕ → List Open → Type 0 where
  in_brackets : (n : ℕ) → Opened n (brackets n)
  in_fresh : (n : ℕ) → Opened (suc n) (Fresh ∷ brackets n)
  in_variable : (n : ℕ) → Opened n (Variable ∷ brackets n)

brackets-depth : (n : ℕ) → depth_of (brackets n) ≡ n
brackets-depth zero = refl
brackets-depth (suc n) = omega (arith, brackets-depth n)

opened-depth : {n : ℕ} {os : List Open} → Opened n os → depth_of os ≡ n
opened-depth (in_brackets n) = brackets-depth n
opened-depth (in_fresh n) = omega (arith, brackets-depth n)
opened-depth (in_variable n) = omega (arith, brackets-depth n)

open-step : {n : ℕ} {os : List Open} → Opened n os → Opened (suc n) (take_class (C.Opener O.Open) os)
open-step (in_brackets zero) = in_fresh zero
open-step (in_brackets (suc n)) = in_fresh (suc n)
open-step (in_fresh n) = in_fresh (suc n)
open-step (in_variable zero) = in_fresh zero
open-step (in_variable (suc n)) = in_fresh (suc n)

close-step : {n : ℕ} {os : List Open} → Opened n os → Opened (n - 1) (take_class (C.Mark M.Close) os)
close-step (in_brackets zero) = in_brackets zero
close-step (in_brackets (suc zero)) = in_brackets zero
close-step (in_brackets (suc (suc n))) = let e : suc n ≡ suc (suc n) - 1 = omega arith in subst (λ m. Opened m (brackets (suc n))) e (in_brackets (suc n))
close-step (in_fresh zero) = in_brackets zero
close-step (in_fresh (suc n)) = let e : suc n ≡ suc (suc n) - 1 = omega arith in subst (λ m. Opened m (brackets (suc n))) e (in_brackets (suc n))
close-step (in_variable zero) = in_brackets zero
close-step (in_variable (suc zero)) = in_brackets zero
close-step (in_variable (suc (suc n))) = let e : suc n ≡ suc (suc n) - 1 = omega arith in subst (λ m. Opened m (brackets (suc n))) e (in_brackets (suc n))

word-step : (w : WordClass) {n : ℕ} {os : List Open} → Opened n os → Opened n (take_class (C.Word w) os)
word-step w (in_brackets zero) = in_brackets zero
word-step w (in_brackets (suc n)) = in_brackets (suc n)
word-step w (in_fresh n) = in_brackets (suc n)
word-step w (in_variable zero) = in_brackets zero
word-step w (in_variable (suc n)) = in_brackets (suc n)

sort_variable-step : {n : ℕ} {os : List Open} → Opened n os → Opened n (take_class C.SortVariable os)
sort_variable-step (in_brackets zero) = in_brackets zero
sort_variable-step (in_brackets (suc n)) = in_brackets (suc n)
sort_variable-step (in_fresh n) = in_brackets (suc n)
sort_variable-step (in_variable zero) = in_brackets zero
sort_variable-step (in_variable (suc n)) = in_brackets (suc n)

variable-step : {n : ℕ} {os : List Open} → Opened n os → Opened n (take_class C.Variable os)
variable-step (in_brackets zero) = in_variable zero
variable-step (in_brackets (suc n)) = in_variable (suc n)
variable-step (in_fresh n) = in_variable (suc n)
variable-step (in_variable zero) = in_variable zero
variable-step (in_variable (suc n)) = in_variable (suc n)

colon-step : {n : ℕ} {os : List Open} → Opened n os → Opened n (take_class (C.Mark M.Colon) os)
colon-step (in_brackets zero) = in_brackets zero
colon-step (in_brackets (suc n)) = in_brackets (suc n)
colon-step (in_fresh n) = in_brackets (suc n)
colon-step (in_variable n) = in_brackets n

module _ (page : Page) where
  -- a token that opens and closes brackets alone
  abbrev Tame : Lexeme → Type 0
  Tame l = (n : ℕ) (os : List Open) → Opened n os → Opened (open_behind n l) (take_class (class_of_lexeme (seen_as page.names l)) os)

  abbrev AllTame : List Piece → Type 0
  AllTame [] = Unit {0}
  AllTame (p ∷ ps) = Tame p.1 × AllTame ps

  tame-word : (w : List ℕ) (c : WordClass) → ((n : Sym) → word_lexeme w n ≡ L.Word c n) → Tame (word w)
  tame-word w c e n os h = subst (λ l. Opened n (take_class (class_of_lexeme l) os)) (sym (e (number_in page.names w))) (word-step c h)

  tame-head : (w : List ℕ) → Head w → Tame (word w)
  tame-head w (plain_head e) = tame-word w Plain e
  tame-head w (logical_head e) = tame-word w Logical e
  tame-head w (infix_head e) = tame-word w Infix e

  tame-open : Tame opening
  tame-open n os h = let e : suc n ≡ n + 1 = omega arith in subst (λ m. Opened m (take_class (C.Opener O.Open) os)) e (open-step h)

  tame-close : Tame closing
  tame-close n os h = close-step h

  tame-colon : Tame colon
  tame-colon n os h = colon-step h

  mutual
    sort-tame : (gap : Bool) (s : SortShape) → PlainSort s → (rest : List Piece) → AllTame rest → AllTame (sort_pieces gap s rest)
    sort-tame gap (sort_item w no_sorts) h rest a = (tame-word w Plain h.0, a)
    sort-tame gap (sort_item w (more_sorts s ss)) h rest a = (tame-open, (tame-word w Plain h.0, sort-tame true s h.1.0 (sorts_pieces ss ((false, closing) ∷ rest)) (sorts-tame ss h.1.1 ((false, closing) ∷ rest) (tame-close, a))))
    sort-tame gap (sort_variable w) h rest a = (λ n os k. sort_variable-step k, a)

    sorts-tame : (ss : SortShapes) → PlainSorts ss → (rest : List Piece) → AllTame rest → AllTame (sorts_pieces ss rest)
    sorts-tame no_sorts h rest a = a
    sorts-tame (more_sorts s ss) h rest a = sort-tame true s h.0 (sorts_pieces ss rest) (sorts-tame ss h.1 rest a)

  mutual
    shape-tame : (gap : Bool) (t : Shape) → PlainShape t → (rest : List Piece) → AllTame rest → AllTame (shape_pieces gap t rest)
    shape-tame gap (variable w k None) h rest a = (λ n os x. variable-step x, a)
    shape-tame gap (variable w k (Some s)) h rest a = (λ n os x. variable-step x, (tame-colon, sort-tame false s h rest a))
    shape-tame gap (item w no_shapes) h rest a = (tame-word w Plain h, a)
    shape-tame gap (item w (more_shapes t ts)) h rest a =
        (tame-open, (tame-head w h.0, shape-tame true t h.1.0 (shapes_pieces ts ((false, closing) ∷ rest)) (shapes-tame ts h.1.1 ((false, closing) ∷ rest) (tame-close, a))))
    shape-tame gap (ascribed w no_shapes s) h rest a = (tame-open, (tame-word w Plain h.0, (tame-colon, sort-tame true s h.1 ((false, closing) ∷ rest) (tame-close, a))))
    shape-tame gap (ascribed w (more_shapes t ts) s) h rest a =
        let last : List Piece = (true, colon) ∷ sort_pieces true s ((false, closing) ∷ rest) in
        (tame-open, (tame-open, (tame-head w h.0, shape-tame true t h.1.0 (shapes_pieces ts ((false, closing) ∷ last)) (shapes-tame ts h.1.1 ((false, closing) ∷ last) (tame-close, (tame-colon, sort-tame true s h.2 ((false, closing) ∷ rest) (tame-close, a)))))))

    shapes-tame : (ts : Shapes) → PlainShapes ts → (rest : List Piece) → AllTame rest → AllTame (shapes_pieces ts rest)
    shapes-tame no_shapes h rest a = a
    shapes-tame (more_shapes t ts) h rest a = shape-tame true t h.0 (shapes_pieces ts rest) (shapes-tame ts h.1 rest a)

  -- never more levels are open than brackets may be
  levels : (most : ℕ) (ps : List Piece) → AllTame ps → (n byte : ℕ) (os : List Open) → Opened n os → n ≤ most → has_depth most n ps ≡ true → (k : ℕ) → depth_of (take_all os (take k (placed page byte ps))) ≤ most
  levels most ps a n byte os h le e zero = omega (arith, opened-depth h)
  levels most [] a n byte os h le e (suc k) = omega (arith, opened-depth h)
  levels most (p ∷ ps) a n byte os h le e (suc k) =
      let q = and_parts (nat_le (open_behind n p.1) most) (has_depth most (open_behind n p.1) ps) e in
      levels most ps a.1 (open_behind n p.1) (past p.0 p.1 byte) _ (a.0 n os h) (below (open_behind n p.1) q.0) q.1 k
    where
      below : (m : ℕ) → nat_le m most ≡ true → m ≤ most
      below m g = grind (arith, nat_tests, g)

  pub print-levels : (most : ℕ) (t : Shape) → PlainShape t → has_depth most 0 (shape_pieces false t []) ≡ true → (k : ℕ) → depth_of (take_all [] (take k (placed page 0 (shape_pieces false t [])))) ≤ most
  print-levels most t h e k = levels most (shape_pieces false t []) (shape-tame false t h [] tt) 0 0 [] (in_brackets zero) (omega arith) e k
