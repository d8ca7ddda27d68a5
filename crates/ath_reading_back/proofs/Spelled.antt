-- The tokens of a shape spell its text tree.
use Rattle.std.proofs.Common.{◌≡◌, ℕ, Bool, true, false, List, [], ◌∷◌, ◌++◌, Option, Some, None, refl, sym, ap, ◌∙◌, subst, append_assoc, append-nil}
use Rattle.ath_sorts.specs.declared.sorts.Sym.{Sym}
use Rattle.ath_syntax.specs.declared.place.Pos.{Pos}
use Rattle.ath_syntax.specs.declared.node.SortText.{SortText}
use Rattle.ath_syntax.specs.Tree.{Phrase, name_at, variable_at, ascribe_at, apply_at, Phrases, no_phrases, more_phrases}
use Rattle.ath_grammar.specs.declared.class.WordClass.TheVariants.{Plain, Logical, Infix}
use Rattle.ath_grammar.specs.declared.class.Opener.TheVariants as O
use Rattle.ath_grammar.specs.declared.class.Class.TheVariants as C
use Rattle.ath_grammar.specs.declared.lexeme.Lexeme.{Lexeme}
use Rattle.ath_grammar.specs.declared.lexeme.Lexeme.TheVariants as L
use Rattle.ath_grammar.specs.declared.symbol.Symbol.{Symbol}
use Rattle.ath_grammar.specs.declared.symbol.Symbol.TheVariants as S
use Rattle.ath_grammar.specs.declared.action.Action.TheVariants as A
use Rattle.ath_grammar.specs.declared.action.Guard.TheVariants.{Free}
use Rattle.ath_grammar.specs.declared.item.Want.{Want}
use Rattle.ath_grammar.specs.declared.item.Want.TheVariants.{Any, Only}
use Rattle.ath_grammar.specs.declared.item.Rule.TheVariants.{Same, AsTop}
use Rattle.ath_grammar.specs.declared.item.Attr.{Attr}
use Rattle.ath_grammar.specs.declared.item.Attr.TheVariants.{Is, Given}
use Rattle.ath_grammar.specs.declared.item.Item.{Item}
use Rattle.ath_grammar.specs.declared.item.Item.TheVariants as I
use Rattle.ath_grammar.specs.Tokens.{Placed, at}
use Rattle.ath_grammar.specs.Tables.{Start, begin, start, want_of}
use Rattle.ath_grammar.specs.Spells.{Spells, Starts, spelled, a_token, a_symbol, an_act, begun, passed, starts}
use Rattle.ath_grammar.specs.Grammar.{grammar}
use Rattle.ath_grammar.specs.Trees.{Value, a_place, a_variable, a_sort, sorts, a_phrase, phrases, add_phrase, trees, saved}
use Rattle.ath_grammar.specs.Directives.{SpellsDirective}
use Rattle.ath_lexemes.specs.Lexemes.{word_lexeme}
use Rattle.ath_tokens.specs.Spelling.{word, var}
use Rattle.ath_reader.specs.Ahead.{number_in}
use Rattle.ath_reading_back.specs.Shapes.{SortShape, sort_item, sort_variable, SortShapes, no_sorts, more_sorts, Shape, variable, item, ascribed, Shapes, no_shapes, more_shapes}
use Rattle.ath_reading_back.specs.Pieces.{Piece, opening, closing, colon, sort_pieces, sorts_pieces, shape_pieces, shapes_pieces, past, Page, place_at, placed}
use Rattle.ath_reading_back.specs.TextTree.{sort_tree, sorts_trees, past_sort, past_sorts, past_shape, past_shapes, tree_of, trees_of, directive_of}

-- ---- what words are to the grammar
pub IsPlain : List ℕ → Type 0
IsPlain w = (n : Sym) → word_lexeme w n ≡ L.Word Plain n

pub data Head (w : List ℕ) : Type 0 where
  plain_head : ((n : Sym) → word_lexeme w n ≡ L.Word Plain n) → Head w
  logical_head : ((n : Sym) → word_lexeme w n ≡ L.Word Logical n) → Head w
  infix_head : ((n : Sym) → word_lexeme w n ≡ L.Word Infix n) → Head w

abbrev mutual
  pub PlainSort : SortShape → Type 0
  PlainSort (sort_item w ss) = ((n : Sym) → word_lexeme w n ≡ L.Word Plain n) × PlainSorts ss
  PlainSort (sort_variable w) = Unit {0}

  pub PlainSorts : SortShapes → Type 0
  PlainSorts no_sorts = Unit {0}
  PlainSorts (more_sorts s ss) = PlainSort s × PlainSorts ss

abbrev pub PlainAscription : Option SortShape → Type 0
PlainAscription None = Unit {0}
PlainAscription (Some s) = PlainSort s

abbrev mutual
  pub PlainShape : Shape → Type 0
  PlainShape (variable w k o) = PlainAscription o
  PlainShape (item w no_shapes) = (n : Sym) → word_lexeme w n ≡ L.Word Plain n
  PlainShape (item w (more_shapes t ts)) = Head w × (PlainShape t × PlainShapes ts)
  PlainShape (ascribed w no_shapes s) = ((n : Sym) → word_lexeme w n ≡ L.Word Plain n) × PlainSort s
  PlainShape (ascribed w (more_shapes t ts) s) = Head w × (PlainShape t × PlainShapes ts) × PlainSort s

  pub PlainShapes : Shapes → Type 0
  PlainShapes no_shapes = Unit {0}
  PlainShapes (more_shapes t ts) = PlainShape t × PlainShapes ts

-- ---- spelling, where kinds are told apart
abbrev Sp : List Item → List Value → List Placed → List Value → List Placed → Type 0
Sp = Spells trees grammar true

abbrev St : Start → List Item → List Value → List Placed → List Value → List Placed → Type 0
St = Starts trees grammar true

-- a symbol that begins with a token
begun-by : {s : Symbol} {x : Attr} {t : Placed} {ts r : List Placed} {is js : List Item} {vs ws : List Value} → starts trees grammar s x vs (t ∷ ts) ≡ begin true Free js → Sp (js ++ is) (saved t vs) ts ws r → Sp (I.Symbol s x ∷ is) vs (t ∷ ts) ws r
begun-by {t = t} {ts = ts} {r = r} {is = is} {vs = vs} {ws = ws} e k = a_symbol (subst (λ b. St b is vs (t ∷ ts) ws r) (sym e) (begun refl refl k))

-- a token that is another to the grammar
as_token : {l m : Lexeme} → l ≡ m → {p : Pos} {ts r : List Placed} {is : List Item} {vs ws : List Value} → Sp is vs (at p m ∷ ts) ws r → Sp is vs (at p l ∷ ts) ws r
as_token e {p} {ts} {r} {is} {vs} {ws} k = subst (λ l. Sp is vs (at p l ∷ ts) ws r) (sym e) k

with_value : {v w : Value} → v ≡ w → {is : List Item} {vs ws : List Value} {ts r : List Placed} → Sp is (w ∷ vs) ts ws r → Sp is (v ∷ vs) ts ws r
with_value e {is} {vs} {ws} {ts} {r} k = subst (λ v. Sp is (v ∷ vs) ts ws r) (sym e) k

-- ---- sorts: with which items a symbol goes on behind the first token of one
record OpensSort (s : Symbol) (js : List Item) : Type 0 where
  at_word : (k : Bool) → start grammar (C.Word Plain) k Any (grammar s (C.Word Plain)) ≡ begin true Free (I.Act A.NameSort ∷ js)
  at_variable : (k : Bool) → start grammar C.SortVariable k Any (grammar s C.SortVariable) ≡ begin true Free (I.Act A.VariableSort ∷ js)
  at_open : (k : Bool) → start grammar (C.Opener O.Open) k Any (grammar s (C.Opener O.Open)) ≡ begin true Free (I.Symbol S.SortInside (Is Any) ∷ js)

abbrev more_items : List Item
more_items = I.Act A.AddSort ∷ I.Symbol S.Sorts (Is Any) ∷ []

a_sort_opens : OpensSort S.Sort []
a_sort_opens = record { at_word = λ k. refl; at_variable = λ k. refl; at_open = λ k. refl }

sorts_open : OpensSort S.Sorts more_items
sorts_open = record { at_word = λ k. refl; at_variable = λ k. refl; at_open = λ k. refl }

module _ (page : Page) where
  mutual
    sort-under : (s : SortShape) → PlainSort s → {y : Symbol} {js : List Item} → OpensSort y js → (gap : Bool) (byte : ℕ) (rest : List Piece) {is : List Item} {vs ws : List Value} {r : List Placed}
        → Sp (js ++ is) (a_sort (sort_tree page s) ∷ vs) (placed page (past_sort gap s byte) rest) ws r → Sp (I.Symbol y (Is Any) ∷ is) vs (placed page byte (sort_pieces gap s rest)) ws r
    sort-under (sort_item w no_sorts) h o gap byte rest {vs = vs} k = as_token (h.0 (number_in page.names w)) (begun-by (o.at_word (trees.kind vs)) (an_act k))
    sort-under (sort_item w (more_sorts s ss)) h o gap byte rest {vs = vs} k =
        begun-by (o.at_open (trees.kind vs)) (as_token (h.0 (number_in page.names w)) (a_symbol (begun refl refl (an_act (
        sort-under s h.1.0 sorts_open true (past false (word w) (past gap opening byte)) (sorts_pieces ss ((false, closing) ∷ rest)) (an_act (
        sorts-read ss h.1.1 (sort_tree page s ∷ []) (past_sort true s (past false (word w) (past gap opening byte))) rest (an_act k))))))))
    sort-under (sort_variable w) h o gap byte rest {vs = vs} k = begun-by (o.at_variable (trees.kind vs)) (an_act k)

    sorts-read : (ss : SortShapes) → PlainSorts ss → (acc : List SortText) (byte : ℕ) (rest : List Piece) {is : List Item} {vs ws : List Value} {r : List Placed}
        → Sp is (sorts (acc ++ sorts_trees page ss) ∷ vs) (placed page (past false closing (past_sorts ss byte)) rest) ws r → Sp (I.Symbol S.Sorts (Is Any) ∷ is) (sorts acc ∷ vs) (placed page byte (sorts_pieces ss ((false, closing) ∷ rest))) ws r
    sorts-read no_sorts h acc byte rest k = a_symbol (begun refl refl (with_value (ap sorts (sym (append-nil acc))) k))
    sorts-read (more_sorts s ss) h acc byte rest k =
        sort-under s h.0 sorts_open true byte (sorts_pieces ss ((false, closing) ∷ rest)) (an_act (
        sorts-read ss h.1 (acc ++ (sort_tree page s ∷ [])) (past_sort true s byte) rest (with_value (ap sorts (append_assoc acc (sort_tree page s ∷ []) (sorts_trees page ss))) k)))

-- ---- phrases: with which items a symbol goes on behind the first token of an expression
record OpensPhrase (s : Symbol) (x : Attr) (js : List Item) : Type 0 where
  at_word : (k : Bool) → start grammar (C.Word Plain) k (want_of x k) (grammar s (C.Word Plain)) ≡ begin true Free (I.Act A.Name ∷ js)
  at_variable : (k : Bool) → start grammar C.Variable k (want_of x k) (grammar s C.Variable) ≡ begin true Free (I.Symbol S.VariableSort (Is Any) ∷ js)
  at_open : (k : Bool) → start grammar (C.Opener O.Open) k (want_of x k) (grammar s (C.Opener O.Open)) ≡ begin true Free (I.Symbol S.Inside (Given Same (Only false)) ∷ js)

-- further parts, behind the first and behind others
abbrev parts_attr : Bool → Attr
parts_attr true = Is (Only false)
parts_attr false = Given Same (Only false)

abbrev first_items : List Item
first_items = I.Act A.OnePhrase ∷ I.Symbol S.Parts (Is (Only false)) ∷ I.Act A.Apply ∷ []

abbrev next_items : List Item
next_items = I.Act A.AddPhrase ∷ I.Symbol S.Parts (Given Same (Only false)) ∷ []

behind_operator : OpensPhrase S.AfterOperator (Is Any) first_items
behind_operator = record { at_word = λ k. refl; at_variable = λ k. refl; at_open = λ k. refl }

behind_word : OpensPhrase S.AfterWord (Is Any) first_items
behind_word = record { at_word = λ k. refl; at_variable = λ k. refl; at_open = λ k. refl }

parts_open : (b : Bool) → OpensPhrase S.Parts (parts_attr b) next_items
parts_open true = record { at_word = λ k. refl; at_variable = λ k. refl; at_open = λ k. refl }
parts_open false = record { at_word = λ k. refl; at_variable = λ k. refl; at_open = λ k. refl }

-- behind a parenthesis, by its head
record OpensItem (s : Symbol) (x : Attr) (js : List Item) : Type 0 where
  at_plain : (k : Bool) → start grammar (C.Word Plain) k (want_of x k) (grammar s (C.Word Plain)) ≡ begin true Free (I.Act A.Name ∷ I.Symbol S.AfterWord (Is Any) ∷ js)
  at_logical : (k : Bool) → start grammar (C.Word Logical) k (want_of x k) (grammar s (C.Word Logical)) ≡ begin true Free (I.Act A.Name ∷ I.Symbol S.AfterWord (Is Any) ∷ js)
  at_infix : (k : Bool) → start grammar (C.Word Infix) k (want_of x k) (grammar s (C.Word Infix)) ≡ begin true Free (I.Act A.Name ∷ I.Symbol S.AfterOperator (Is Any) ∷ js)

-- behind a parenthesis, by its head or by one more
record OpensInside (s : Symbol) (x : Attr) (js : List Item) : Type 0 where
  by_head : OpensItem s x js
  wanted : Want
  at_open : (k : Bool) → start grammar (C.Opener O.Open) k (want_of x k) (grammar s (C.Opener O.Open)) ≡ begin true Free (I.Symbol S.Inside (Given Same wanted) ∷ I.Symbol S.AfterFirst (Given AsTop wanted) ∷ js)
  within : OpensItem S.Inside (Given Same wanted) []

inside_any : OpensItem S.Inside (Given Same Any) []
inside_any = record { at_plain = λ k. refl; at_logical = λ k. refl; at_infix = λ k. refl }

inside_expression : OpensItem S.Inside (Given Same (Only false)) []
inside_expression = record { at_plain = λ k. refl; at_logical = λ k. refl; at_infix = λ k. refl }

inside : OpensInside S.Inside (Given Same (Only false)) []
inside = record { by_head = inside_expression; wanted = Only false; at_open = λ k. refl; within = inside_expression }

inside_directive : OpensInside S.DirectiveInside (Is Any) (I.Act A.SayAt ∷ [])
inside_directive = record { by_head = record { at_plain = λ k. refl; at_logical = λ k. refl; at_infix = λ k. refl }; wanted = Any; at_open = λ k. refl; within = inside_any }

-- what may stand behind a variable without its sort: no colon
data Next : List Piece → Type 0 where
  next_end : Next []
  next_close : {g : Bool} {ps : List Piece} → Next ((g, closing) ∷ ps)
  next_open : {g : Bool} {ps : List Piece} → Next ((g, opening) ∷ ps)
  next_variable : {g : Bool} {w : List ℕ} {k : ℕ} {ps : List Piece} → Next ((g, var w k) ∷ ps)
  next_word : {g : Bool} {w : List ℕ} {ps : List Piece} → ((n : Sym) → word_lexeme w n ≡ L.Word Plain n) → Next ((g, word w) ∷ ps)

next_shape : (gap : Bool) (s : Shape) → PlainShape s → (rest : List Piece) → Next (shape_pieces gap s rest)
next_shape gap (variable w k None) h rest = next_variable
next_shape gap (variable w k (Some s)) h rest = next_variable
next_shape gap (item w no_shapes) h rest = next_word h
next_shape gap (item w (more_shapes t ts)) h rest = next_open
next_shape gap (ascribed w no_shapes s) h rest = next_open
next_shape gap (ascribed w (more_shapes t ts) s) h rest = next_open

next_shapes : (ts : Shapes) → PlainShapes ts → (rest : List Piece) → Next rest → Next (shapes_pieces ts rest)
next_shapes no_shapes h rest n = n
next_shapes (more_shapes t ts) h rest n = next_shape true t h.0 (shapes_pieces ts rest)

-- phrases with others behind them
abbrev add_all : Phrases → Phrases → Phrases
add_all acc no_phrases = acc
add_all acc (more_phrases x xs) = add_all (add_phrase acc x) xs

add-more : (x : Phrase) (acc xs : Phrases) → add_all (more_phrases x acc) xs ≡ more_phrases x (add_all acc xs)
add-more x acc no_phrases = refl
add-more x acc (more_phrases y ys) = add-more x (add_phrase acc y) ys

add-none : (xs : Phrases) → add_all no_phrases xs ≡ xs
add-none no_phrases = refl
add-none (more_phrases x xs) = add-more x no_phrases xs ∙ ap (more_phrases x) (add-none xs)

add-first : (x : Phrase) (xs : Phrases) → add_all (more_phrases x no_phrases) xs ≡ more_phrases x xs
add-first x xs = add-more x no_phrases xs ∙ ap (more_phrases x) (add-none xs)

module _ (page : Page) where
  -- a variable without its sort
  bare-variable : (rest : List Piece) → Next rest → (byte : ℕ) {is : List Item} {p : Pos} {n : Sym} {k : ℕ} {vs ws : List Value} {r : List Placed}
      → Sp is (a_phrase (variable_at p n k None) ∷ vs) (placed page byte rest) ws r → Sp (I.Symbol S.VariableSort (Is Any) ∷ is) (a_variable p n k ∷ vs) (placed page byte rest) ws r
  bare-variable _ next_end byte k = a_symbol (passed refl k)
  bare-variable _ next_close byte k = a_symbol (passed refl k)
  bare-variable _ next_open byte k = a_symbol (passed refl k)
  bare-variable _ next_variable byte k = a_symbol (passed refl k)
  bare-variable _ (next_word {w = w} h) byte k = as_token (h (number_in page.names w)) (a_symbol (passed refl (as_token (sym (h (number_in page.names w))) k)))

  -- how a part is read, and further parts with the bracket behind them
  abbrev ReadsShape : Shape → Type 0
  ReadsShape t =
      (y : Symbol) (x : Attr) (js : List Item) → OpensPhrase y x js → (gap : Bool) (byte : ℕ) (rest : List Piece) → Next rest → (is : List Item) (vs ws : List Value) (r : List Placed)
      → Sp (js ++ is) (a_phrase (tree_of page gap t byte) ∷ vs) (placed page (past_shape gap t byte) rest) ws r → Sp (I.Symbol y x ∷ is) vs (placed page byte (shape_pieces gap t rest)) ws r

  abbrev ReadsParts : Shapes → Type 0
  ReadsParts ts =
      (b : Bool) (acc : Phrases) (byte : ℕ) (rest : List Piece) (is : List Item) (vs ws : List Value) (r : List Placed)
      → Sp is (phrases (add_all acc (trees_of page ts byte)) ∷ vs) (placed page (past false closing (past_shapes ts byte)) rest) ws r → Sp (I.Symbol S.Parts (parts_attr b) ∷ is) (phrases acc ∷ vs) (placed page byte (shapes_pieces ts ((false, closing) ∷ rest))) ws r

  -- a word and its sort, behind the bracket
  name-ascribed : (w : List ℕ) → ((n : Sym) → word_lexeme w n ≡ L.Word Plain n) → (s : SortShape) → PlainSort s → {y : Symbol} {x : Attr} {js : List Item} → OpensItem y x js → (byte : ℕ) (rest : List Piece) {is : List Item} {p : Pos} {vs ws : List Value} {r : List Placed}
      → Sp (js ++ is) (a_phrase (ascribe_at p (name_at (place_at page false byte) (number_in page.names w)) (sort_tree page s)) ∷ vs) (placed page (past false closing (past_sort true s (past true colon (past false (word w) byte)))) rest) ws r
      → Sp (I.Symbol y x ∷ is) (a_place p ∷ vs) (placed page byte ((false, word w) ∷ (true, colon) ∷ sort_pieces true s ((false, closing) ∷ rest))) ws r
  name-ascribed w e s hs o byte rest {p = p} {vs = vs} c =
      as_token (e (number_in page.names w)) (begun-by (o.at_plain (trees.kind (a_place p ∷ vs))) (an_act (a_symbol (begun refl refl (
      sort-under page s hs a_sort_opens true (past true colon (past false (word w) byte)) ((false, closing) ∷ rest) (a_token refl (an_act c)))))))

  module _ (w : List ℕ) (t : Shape) (ht : ReadsShape t) (ts : Shapes) (hts : ReadsParts ts) (plain : PlainShapes ts) where
    abbrev after_head : ℕ → ℕ
    after_head byte = past false (word w) byte

    abbrev after_parts : ℕ → ℕ
    after_parts byte = past false closing (past_shapes ts (past_shape true t (after_head byte)))

    abbrev parts_of : ℕ → Phrases
    parts_of byte = more_phrases (tree_of page true t (after_head byte)) (trees_of page ts (past_shape true t (after_head byte)))

    abbrev part_pieces : List Piece → List Piece
    part_pieces rest = shape_pieces true t (shapes_pieces ts ((false, closing) ∷ rest))

    -- the parts of a head
    item-parts : {y : Symbol} → OpensPhrase y (Is Any) first_items → (byte : ℕ) (rest : List Piece) {is : List Item} {p q : Pos} {n : Sym} {vs ws : List Value} {r : List Placed}
        → Sp is (a_phrase (apply_at p (name_at q n) (parts_of byte)) ∷ vs) (placed page (after_parts byte) rest) ws r
        → Sp (I.Symbol y (Is Any) ∷ is) (a_phrase (name_at q n) ∷ a_place p ∷ vs) (placed page (after_head byte) (part_pieces rest)) ws r
    item-parts o byte rest {p = p} {q = q} {n = n} c =
        let first = after_head byte in
        let x = tree_of page true t first in
        ht _ _ _ o true first (shapes_pieces ts ((false, closing) ∷ rest)) (next_shapes ts plain ((false, closing) ∷ rest) next_close) _ _ _ _ (an_act (
        hts true (more_phrases x no_phrases) (past_shape true t first) rest _ _ _ _ (an_act (
        with_value (ap (λ (xs : Phrases). a_phrase (apply_at p (name_at q n) xs)) (add-first x (trees_of page ts (past_shape true t first)))) c))))

    -- a head and its parts, behind the bracket
    item-inside : Head w → {y : Symbol} {x : Attr} {js : List Item} → OpensItem y x js → (byte : ℕ) (rest : List Piece) {is : List Item} {p : Pos} {vs ws : List Value} {r : List Placed}
        → Sp (js ++ is) (a_phrase (apply_at p (name_at (place_at page false byte) (number_in page.names w)) (parts_of byte)) ∷ vs) (placed page (after_parts byte) rest) ws r
        → Sp (I.Symbol y x ∷ is) (a_place p ∷ vs) (placed page byte ((false, word w) ∷ part_pieces rest)) ws r
    item-inside (plain_head e) o byte rest {p = p} {vs = vs} c = as_token (e (number_in page.names w)) (begun-by (o.at_plain (trees.kind (a_place p ∷ vs))) (an_act (item-parts behind_word byte rest c)))
    item-inside (logical_head e) o byte rest {p = p} {vs = vs} c = as_token (e (number_in page.names w)) (begun-by (o.at_logical (trees.kind (a_place p ∷ vs))) (an_act (item-parts behind_word byte rest c)))
    item-inside (infix_head e) o byte rest {p = p} {vs = vs} c = as_token (e (number_in page.names w)) (begun-by (o.at_infix (trees.kind (a_place p ∷ vs))) (an_act (item-parts behind_operator byte rest c)))

    -- an item and its sort, behind the bracket
    item-ascribed : Head w → (s : SortShape) → PlainSort s → {y : Symbol} {x : Attr} {js : List Item} → OpensInside y x js → (byte : ℕ) (rest : List Piece) {is : List Item} {p : Pos} {vs ws : List Value} {r : List Placed}
        → Sp (js ++ is) (a_phrase (ascribe_at p (apply_at (place_at page false byte) (name_at (place_at page false (past false opening byte)) (number_in page.names w)) (parts_of (past false opening byte))) (sort_tree page s)) ∷ vs)
        (placed page (past false closing (past_sort true s (past true colon (after_parts (past false opening byte))))) rest) ws r
        → Sp (I.Symbol y x ∷ is) (a_place p ∷ vs) (placed page byte ((false, opening) ∷ (false, word w) ∷ part_pieces ((true, colon) ∷ sort_pieces true s ((false, closing) ∷ rest)))) ws r
    item-ascribed hw s hs o byte rest {p = p} {vs = vs} c =
        begun-by (o.at_open (trees.kind (a_place p ∷ vs))) (
        item-inside hw o.within (past false opening byte) ((true, colon) ∷ sort_pieces true s ((false, closing) ∷ rest)) (a_symbol (begun refl refl (
        sort-under page s hs a_sort_opens true (past true colon (after_parts (past false opening byte))) ((false, closing) ∷ rest) (a_token refl (an_act c))))))

  mutual
    shape-under : (t : Shape) → PlainShape t → ReadsShape t
    shape-under (variable w k None) h y x js o gap byte rest n is vs ws r c = begun-by (o.at_variable (trees.kind vs)) (bare-variable rest n (past gap (var w k) byte) c)
    shape-under (variable w k (Some s)) h y x js o gap byte rest n is vs ws r c =
        begun-by (o.at_variable (trees.kind vs)) (a_symbol (begun refl refl (sort-under page s h a_sort_opens false (past false colon (past gap (var w k) byte)) rest (an_act c))))
    shape-under (item w no_shapes) h y x js o gap byte rest n is vs ws r c = as_token (h (number_in page.names w)) (begun-by (o.at_word (trees.kind vs)) (an_act c))
    shape-under (item w (more_shapes t ts)) h y x js o gap byte rest n is vs ws r c =
        begun-by (o.at_open (trees.kind vs)) (item-inside w t (shape-under t h.1.0) ts (parts-read ts h.1.1) h.1.1 h.0 inside_expression (past gap opening byte) rest c)
    shape-under (ascribed w no_shapes s) h y x js o gap byte rest n is vs ws r c = begun-by (o.at_open (trees.kind vs)) (name-ascribed w h.0 s h.1 inside_expression (past gap opening byte) rest c)
    shape-under (ascribed w (more_shapes t ts) s) h y x js o gap byte rest n is vs ws r c =
        begun-by (o.at_open (trees.kind vs)) (item-ascribed w t (shape-under t h.1.0) ts (parts-read ts h.1.1) h.1.1 h.0 s h.2 inside (past gap opening byte) rest c)

    parts-read : (ts : Shapes) → PlainShapes ts → ReadsParts ts
    parts-read no_shapes h true acc byte rest is vs ws r c = a_symbol (begun refl refl c)
    parts-read no_shapes h false acc byte rest is vs ws r c = a_symbol (begun refl refl c)
    parts-read (more_shapes t ts) h b acc byte rest is vs ws r c =
        shape-under t h.0 _ _ _ (parts_open b) true byte (shapes_pieces ts ((false, closing) ∷ rest)) (next_shapes ts h.1 ((false, closing) ∷ rest) next_close) _ _ _ _ (an_act (
        parts-read ts h.1 false (add_phrase acc (tree_of page true t byte)) (past_shape true t byte) rest is vs ws r c))

  -- ---- directives
  pub spells-directive : (s : Shape) → PlainShape s → SpellsDirective true (placed page 0 (shape_pieces false s [])) (directive_of page s) []
  spells-directive (variable w k None) h = a_symbol (begun refl refl (bare-variable [] next_end (past false (var w k) 0) (an_act spelled)))
  spells-directive (variable w k (Some s)) h =
      a_symbol (begun refl refl (a_symbol (begun refl refl (sort-under page s h a_sort_opens false (past false colon (past false (var w k) 0)) [] (an_act (an_act spelled))))))
  spells-directive (item w no_shapes) h = as_token (h (number_in page.names w)) (a_symbol (begun refl refl (an_act (an_act spelled))))
  spells-directive (item w (more_shapes t ts)) h = a_symbol (begun refl refl (an_act (item-inside w t (shape-under t h.1.0) ts (parts-read ts h.1.1) h.1.1 h.0 inside_directive.by_head (past false opening 0) [] (an_act spelled))))
  spells-directive (ascribed w no_shapes s) h = a_symbol (begun refl refl (an_act (name-ascribed w h.0 s h.1 inside_directive.by_head (past false opening 0) [] (an_act spelled))))
  spells-directive (ascribed w (more_shapes t ts) s) h = a_symbol (begun refl refl (an_act (item-ascribed w t (shape-under t h.1.0) ts (parts-read ts h.1.1) h.1.1 h.0 s h.2 inside_directive (past false opening 0) [] (an_act spelled))))
