-- Tokens of a text: each takes a byte or more, and its name joins the names, which keep the numbers of `_` and of the words
-- `some-..`.
use Rattle.std.proofs.Common.{◌≡◌, ℕ, ◌+◌, ◌-◌, ◌<◌, ◌≤◌, List, [], ◌∷◌, ◌++◌, length, take, drop, Option, Some, None, refl, sym, ap, ◌∙◌, subst, arith, codes, IsUtf8}
use Rattle.std.proofs.lemmas.Option.{get_or_from_slice_get, slice_get_within}
use Rattle.std.proofs.lemmas.Str.{IsUtf8-from_ascii}
use Rattle.std.proofs.lemmas.Str.Ascii.{IsAscii-nil, IsAscii-cons}
use Rattle.std.specs.Str.{IsAscii}
use Rattle.ath_sorts.specs.declared.sorts.Sym.{Sym}
use Rattle.ath_syntax.specs.declared.place.Pos.{Pos}
use Rattle.ath_grammar.specs.declared.lexeme.Lexeme as grammar
use Rattle.ath_grammar.specs.declared.lexeme.Lexeme.TheVariants.{Wild, SomeOf}
use Rattle.ath_grammar.specs.Tokens.{Placed, at}
use Rattle.ath_names.specs.Names.{number_of, interned, KeepsNames, IsTable, first_names}
use Rattle.ath_names.proofs.NamesLaws.{number_of-interned, KeepsNames-interned, IsTable-interned, KeepsNames-refl, KeepsNames-trans, text_of_number}
use Rattle.ath_tokens.specs.declared.tokens.Token.{Token}
use Rattle.ath_tokens.specs.declared.tokens.Token.TheVariants.{Word, Var, SortVar, Str, Punct, Becomes}
use Rattle.ath_tokens.specs.Cut.{Cut, found, ended, fault, next_of, place_of, names_with}
use Rattle.ath_tokens.specs.Laws.{IsLongest}
use Rattle.ath_tokens.specs.Spelling.{Lexeme, word, var, sort_var, str, punct, becomes, number}
use Rattle.ath_tokens.proofs.CutLaws.{found_is_longest, found_within}
use Rattle.ath_tokens.proofs.SpelledNames.{Named, ascii_named}
use Rattle.ath_lexemes.specs.Lexemes.{word_lexeme}
use Rattle.ath_lexemes.specs.Numbered.{text_of, IsNumbered, lexeme_of}
use Rattle.ath_lexemes.proofs.LexemeLaws.{some_words, wild_is_one}
use Rattle.ath_grammar.specs.Known.{IsKnown, Known}
use Rattle.ath_reader.specs.Ahead.{number_in, seen_as, Ahead, a_token, the_end, a_fault, ahead, Reads, reads_none, reads_more, names_past}
use Rattle.ath_reader.proofs.Carried.{reads_snoc}

-- the names with those of a token
module _ (names : List (List ℕ)) where
  names_grow : (l : Lexeme) → KeepsNames names (names_with names l)
  names_grow (word text) = KeepsNames-interned names text
  names_grow (var text index) = KeepsNames-interned names text
  names_grow (sort_var text) = KeepsNames-interned names text
  names_grow (str bytes) = KeepsNames-refl names
  names_grow (punct b) = KeepsNames-refl names
  names_grow becomes = KeepsNames-refl names

  names_table : IsTable names → (l : Lexeme) → Named IsAscii l → IsTable (names_with names l)
  names_table table (word text) h = IsTable-interned names text table (IsUtf8-from_ascii text h)
  names_table table (var text index) h = IsTable-interned names text table (IsUtf8-from_ascii text h)
  names_table table (sort_var text) h = IsTable-interned names text table (IsUtf8-from_ascii text h)
  names_table table (str bytes) h = table
  names_table table (punct b) h = table
  names_table table becomes h = table

pub same_token : (t u : Placed) (known last : List (List ℕ)) (m n : ℕ) → a_token t known m ≡ a_token u last n → (t ≡ u) × (known ≡ last) × (m ≡ n)
same_token t u known last m n e = (cc, cc, cc)

module _ (file : ℕ) (text : List ℕ) where
  module _ (names : List (List ℕ)) (from : ℕ) (t : Placed) (known : List (List ℕ)) (to : ℕ) where
    -- the token of the text that comes next
    record Comes : Type 0 where
      token : Lexeme
      start : ℕ
      found : next_of text from ≡ found token start to
      joined : names_with names token ≡ known
      placed : at (place_of file text start) (seen_as known token) ≡ t

    comes : ahead file text names from ≡ a_token t known to → Comes
    comes = by (next_of text from) refl
      where
        shown : Cut → Ahead
        shown (found l start end) = let last = names_with names l in a_token (at (place_of file text start) (seen_as last l)) last end
        shown ended = the_end
        shown (fault kind byte) = a_fault kind byte

        by : (c : Cut) → next_of text from ≡ c → shown c ≡ a_token t known to → Comes
        by (found l start end) f e =
            let s = same_token (at (place_of file text start) (seen_as (names_with names l) l)) t (names_with names l) known end to e in
            record {
              token = l;
              start = start;
              found = f ∙ ap (found l start) s.2;
              joined = s.1;
              placed = ap (λ last. at (place_of file text start) (seen_as last l)) (sym s.1) ∙ s.0;
            }
        by ended f e = absurd cc
        by (fault kind byte) f e = absurd cc

    module _ (e : ahead file text names from ≡ a_token t known to) where
      c : Comes
      c = comes e

      longest : IsLongest text from c.token c.start to
      longest = found_is_longest text from c.token c.start to (found_within text from c.token c.start to c.found) c.found

      token_bytes : (from < to) × (to ≤ length text)
      token_bytes = (omega (arith, longest.gap.up_to, longest.some), longest.within)

      token_grow : KeepsNames names known
      token_grow = subst (KeepsNames names) c.joined (names_grow names c.token)

      token_table : IsTable names → IsTable known
      token_table table = subst IsTable c.joined (names_table names table c.token (ascii_named c.token (take (to - c.start) (drop c.start text)) longest.spelled))

  -- each token takes a byte or more
  pub reads_few : (names : List (List ℕ)) (from : ℕ) (ts : List Placed) (known : List (List ℕ)) (to : ℕ) → from ≤ length text → Reads file text names from ts known to → (length ts + from ≤ to) × (to ≤ length text)
  reads_few names from [] known to within reads_none = (omega arith, within)
  reads_few names from (t ∷ ts) known to within (reads_more {known = next} {mid = mid} e r) =
      let b = token_bytes names from t next mid e in
      let rest = reads_few next mid ts known to b.1 r in
      (omega (arith, b.0, rest.0), rest.1)

  -- where there are tokens, a byte or more is passed
  pub reads_rise : (names : List (List ℕ)) (from : ℕ) (t : Placed) (ts : List Placed) (known : List (List ℕ)) (to : ℕ) → Reads file text names from (t ∷ ts) known to → (from < to) × (to ≤ length text)
  reads_rise names from t ts known to (reads_more {known = next} {mid = mid} e r) =
      let b = token_bytes names from t next mid e in
      let rest = reads_few next mid ts known to b.1 r in
      (omega (arith, b.0, rest.0), rest.1)

  -- no more tokens than bytes
  pub reads_short : (names : List (List ℕ)) (from : ℕ) (ts : List Placed) (known : List (List ℕ)) (to : ℕ) → Reads file text names from ts known to → length ts ≤ length text
  reads_short names from [] known to r = omega arith
  reads_short names from (t ∷ ts) known to (reads_more {known = next} {mid = mid} e r) =
      let b = token_bytes names from t next mid e in
      let rest = reads_few next mid ts known to b.1 r in
      omega (arith, b.0, rest.0, rest.1)

  -- the names grow
  pub reads_grow : (names : List (List ℕ)) (from : ℕ) (ts : List Placed) (known : List (List ℕ)) (to : ℕ) → Reads file text names from ts known to → KeepsNames names known
  reads_grow names from [] known to reads_none = KeepsNames-refl names
  reads_grow names from (t ∷ ts) known to (reads_more {known = next} {mid = mid} e r) = KeepsNames-trans (token_grow names from t next mid e) (reads_grow next mid ts known to r)

  -- those of what comes next are more still
  pub past_grows : (names : List (List ℕ)) (from : ℕ) (ts : List Placed) (known : List (List ℕ)) (to : ℕ) (next : Ahead) → Reads file text names from ts known to → ahead file text known to ≡ next → KeepsNames names (names_past next known)
  past_grows names from ts known to (a_token t last end) r e = KeepsNames-trans (reads_grow names from ts known to r) (token_grow known to t last end e)
  past_grows names from ts known to the_end r e = reads_grow names from ts known to r
  past_grows names from ts known to (a_fault kind byte) r e = reads_grow names from ts known to r

  -- a table of names stays one
  pub reads_table : (names : List (List ℕ)) (from : ℕ) (ts : List Placed) (known : List (List ℕ)) (to : ℕ) → IsTable names → Reads file text names from ts known to → IsTable known
  reads_table names from [] known to table reads_none = table
  reads_table names from (t ∷ ts) known to table (reads_more {known = next} {mid = mid} e r) = reads_table next mid ts known to (token_table names from t next mid e table) r

-- a name, by its number, has its text
numbered : (names : List (List ℕ)) (text : List ℕ) (n : Sym) → number_of names text ≡ Some n.0 → (n.0 < length names) × (word_lexeme (text_of names n) n ≡ word_lexeme text n)
numbered names text n e =
    let h = text_of_number names text n.0 e in
    (slice_get_within names n.0 text h, ap (λ t. word_lexeme t n) (get_or_from_slice_get names n.0 text [] h))

interned_number : (names : List (List ℕ)) (text : List ℕ) → number_of (interned names text) text ≡ Some (number_in (interned names text) text).0
interned_number names text = by (number_of (interned names text) text) _ (number_of-interned names text)
  where
    by : (o : Option ℕ) (n : ℕ) → o ≡ Some n → o ≡ Some (elim o [ None ↦ 0 | Some k ↦ k ])
    by None n e = absurd cc
    by (Some k) n e = refl

-- a token of the text with the number of its name
token_as : List (List ℕ) → Lexeme → Token
token_as names (word text) = Word (number_in names text)
token_as names (var text index) = Var (number_in names text) index
token_as names (sort_var text) = SortVar (number_in names text)
token_as names (str bytes) = Str bytes
token_as names (punct b) = Punct b
token_as names becomes = Becomes

seen_is : (names : List (List ℕ)) (l : Lexeme) → let known = names_with names l in IsNumbered known (token_as known l) × (lexeme_of known (token_as known l) ≡ seen_as known l)
unfolding token_as
seen_is names (word text) = numbered (interned names text) text (number_in (interned names text) text) (interned_number names text)
seen_is names (var text index) = (tt, refl)
seen_is names (sort_var text) = (tt, refl)
seen_is names (str bytes) = (tt, refl)
seen_is names (punct b) = (tt, refl)
seen_is names becomes = (tt, refl)

underscore : List ℕ
underscore = codes "_"

underscore_utf8 : IsUtf8 underscore
unfolding underscore
underscore_utf8 = IsUtf8-from_ascii (codes "_") (IsAscii-cons 95 [] (omega arith) IsAscii-nil)

underscore_wild : (n : Sym) → word_lexeme underscore n ≡ Wild n
unfolding underscore
underscore_wild n = refl

-- names that have the word `_`, by its number
module _ (last : List (List ℕ)) (table : IsTable last) (wild : Sym) (within : wild.0 < length last) (is_wild : lexeme_of last (Word wild) ≡ Wild wild) where
  -- what is known of tokens while the names before grow to these
  module _ (names : List (List ℕ)) (before : IsTable names) (first : KeepsNames first_names names) (grow : KeepsNames names last) where
    known_lexeme : (p : Pos) (t : Token) → IsNumbered names t → (l : grammar.Lexeme) → lexeme_of names t ≡ l → IsKnown wild (at p l)
    known_lexeme p t n (Wild m) e = wild_is_one names last before table grow t (Word wild) m wild n within e is_wild
    known_lexeme p t n (SomeOf k) e = some_words names before first t k n e
    known_lexeme p t n l e = tt

  module _ (file : ℕ) (text : List ℕ) where
    known_token : (names : List (List ℕ)) (from : ℕ) (t : Placed) (known : List (List ℕ)) (to : ℕ) → IsTable known → KeepsNames first_names known → KeepsNames known last → Comes file text names from t known to → IsKnown wild t
    known_token names from t known to after first grow c =
        let s = seen_is names c.token in
        let p = place_of file text c.start in
        let its = names_with names c.token in
        subst (IsKnown wild) c.placed
        (subst (λ (ks : List (List ℕ)). IsTable ks → KeepsNames first_names ks → KeepsNames ks last → IsKnown wild (at p (seen_as ks c.token))) c.joined
        (λ a f g. known_lexeme its a f g p (token_as its c.token) s.0 (seen_as its c.token) s.1) after first grow)

    all_known : (names : List (List ℕ)) (from : ℕ) (ts : List Placed) (known : List (List ℕ)) (to : ℕ) → IsTable names → KeepsNames first_names names → Reads file text names from ts known to → KeepsNames known last → Known wild ts
    all_known names from [] known to before first reads_none grow = tt
    all_known names from (t ∷ ts) known to before first (reads_more {known = next} {mid = mid} e r) grow =
        let after = token_table file text names from t next mid e before in
        let more = KeepsNames-trans first (token_grow file text names from t next mid e) in (
          known_token names from t next mid after more (KeepsNames-trans (reads_grow file text next mid ts known to r) grow) (comes file text names from t next mid e),
          all_known next mid ts known to after more r grow,
        )

module _ (file : ℕ) (text : List ℕ) (names : List (List ℕ)) (from : ℕ) (ts : List Placed) (known : List (List ℕ)) (to : ℕ) where
  -- tokens that are read: all `_` have one number, and `some-..` the numbers of these words
  pub reads_known : IsTable names → KeepsNames first_names names → Reads file text names from ts known to → (wild : Sym) × Known wild ts
  reads_known table first r =
      let last = interned known underscore in
      let wild = number_in last underscore in
      let w = numbered last underscore wild (interned_number known underscore) in
      let after : IsTable last = IsTable-interned known underscore (reads_table file text names from ts known to table r) underscore_utf8 in
      (wild, all_known last after wild w.0 (w.1 ∙ underscore_wild wild) file text names from ts known to table first r (KeepsNames-interned known underscore))

-- and so with the token that comes next
pub ahead_known : (file : ℕ) (text : List ℕ) (names : List (List ℕ)) (from : ℕ) (ts : List Placed) (known : List (List ℕ)) (to : ℕ) (t : Placed) (last : List (List ℕ)) (end : ℕ) → IsTable names → KeepsNames first_names names → Reads file text names from ts known to → ahead file text known to ≡ a_token t last end → (wild : Sym) × Known wild (ts ++ t ∷ [])
ahead_known file text names from ts known to t last end table first r e = reads_known file text names from (ts ++ t ∷ []) last end table first (reads_snoc file text r e)
