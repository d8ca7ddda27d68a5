-- The text of a print is read as its tokens, and then at its end.
use Rattle.std.proofs.Common.{◌≡◌, ℕ, ◌+◌, Bool, true, false, cond, List, [], ◌∷◌, ◌++◌, length, take, drop, Option, Some, None, refl, sym, ap, ◌∙◌, subst, arith, append_assoc, length-append}
use Rattle.std.proofs.Math.Seq.{drop-append_seam}
use Rattle.std.proofs.lemmas.Bool.{cond-true}
use Rattle.std.proofs.lemmas.Str.{IsUtf8-nil, IsUtf8-from_ascii, is_utf8-from_IsUtf8}
use Rattle.std.proofs.lemmas.Str.Ascii.{IsAscii-nil, IsAscii-cons}
use Rattle.std.specs.Str.{is_utf8}
use Rattle.std.specs.Str.Lossy.{utf8_valid_len}
use Rattle.std.specs.List.{position_or_len}
use Rattle.std.specs.Str.{bytes_eq}
use Rattle.ath_grammar.specs.Tokens.{at}
use Rattle.ath_grammar.specs.declared.lexeme.Lexeme.TheVariants.{Variable, SortVariable}
use Rattle.ath_names.specs.Names.{interned, KeepsNames}
use Rattle.ath_names.proofs.NamesLaws.{number_of-interned, KeepsNames-interned, KeepsNames-refl, KeepsNames-trans, number_kept}
use Rattle.ath_tokens.specs.declared.tokens.LexKind.TheVariants.{BadUtf8}
use Rattle.ath_tokens.specs.Cut.{gap_len, Cut, found, ended, fault, cut_at, next_of, place_of, names_with}
use Rattle.ath_tokens.specs.Spelling.{Lexeme, word, var, sort_var, str, punct, becomes}
use Rattle.ath_tokens.proofs.CutLaws.{drop-drop}
use Rattle.ath_lexemes.specs.Lexemes.{word_lexeme}
use Rattle.ath_reader.specs.Ahead.{number_in, seen_as, Ahead, a_token, the_end, a_fault, ahead, Reads, reads_none, reads_more}
use Rattle.ath_reading_back.specs.Pieces.{Piece, token_text, gap_text, bytes_of, begins, past, Page, place_at, placed, names_behind, end_of}
use Rattle.ath_reading_back.proofs.Cuts.{IsCut}
use Rattle.ath_reading_back.proofs.Pieces.{AllCut}

-- ---- the next token
next_in : ℕ → List ℕ → Cut
next_in from rest = let gap = gap_len false rest in cond (is_utf8 (take gap rest)) (cut_at (from + gap) (drop gap rest)) (fault BadUtf8 (from + utf8_valid_len (take gap rest)))

gap_in : ℕ → List ℕ → ℕ → Cut
gap_in from rest gap = cond (is_utf8 (take gap rest)) (cut_at (from + gap) (drop gap rest)) (fault BadUtf8 (from + utf8_valid_len (take gap rest)))

next_is : (text : List ℕ) (from : ℕ) → next_of text from ≡ next_in from (drop from text)
unfolding next_in
next_is text from = refl

no_byte : is_utf8 [] ≡ true
no_byte = is_utf8-from_IsUtf8 [] IsUtf8-nil

one_space : is_utf8 (32 ∷ []) ≡ true
one_space = is_utf8-from_IsUtf8 (32 ∷ []) (IsUtf8-from_ascii (32 ∷ []) (IsAscii-cons 32 [] (omega arith) IsAscii-nil))

no_gap : (from : ℕ) (l : Lexeme) (rest : List ℕ) → IsCut l rest → next_in from (token_text l ++ rest) ≡ found l from (from + length (token_text l))
unfolding next_in gap_in
no_gap from l rest c =
    let here : from + 0 ≡ from = omega arith in
    ap (gap_in from (token_text l ++ rest)) c.close ∙ cond-true (is_utf8 []) _ _ no_byte ∙ c.cut (from + 0) ∙ ap (λ n. found l n (n + length (token_text l))) here

one_gap : (from : ℕ) (l : Lexeme) (rest : List ℕ) → IsCut l rest → next_in from (32 ∷ (token_text l ++ rest)) ≡ found l (from + 1) (from + 1 + length (token_text l))
unfolding next_in gap_in
one_gap from l rest c = ap (λ n. gap_in from (32 ∷ (token_text l ++ rest)) (1 + n)) c.close ∙ cond-true (is_utf8 (32 ∷ [])) _ _ one_space ∙ c.cut (from + 1)

next_piece : (gap : Bool) (from : ℕ) (l : Lexeme) (rest : List ℕ) → IsCut l rest → next_in from (gap_text gap ++ (token_text l ++ rest)) ≡ found l (begins gap from) (past gap l from)
next_piece true from l rest c = one_gap from l rest c
next_piece false from l rest c = no_gap from l rest c

-- ---- the bytes behind it
past-is : (gap : Bool) (l : Lexeme) (byte : ℕ) → past gap l byte ≡ byte + length (gap_text gap ++ token_text l)
past-is true l byte = omega arith
past-is false l byte = omega arith

drop_past : (text : List ℕ) (byte : ℕ) (p : Piece) (ps : List Piece) → drop byte text ≡ bytes_of (p ∷ ps) → drop (past p.0 p.1 byte) text ≡ bytes_of ps
drop_past text byte p ps e =
    let front = gap_text p.0 ++ token_text p.1 in
    ap (λ n. drop n text) (past-is p.0 p.1 byte) ∙ sym (drop-drop (length front) byte text)
    ∙ ap (drop (length front)) (e ∙ sym (append_assoc (gap_text p.0) (token_text p.1) (bytes_of ps))) ∙ drop-append_seam front (bytes_of ps)

-- ---- names: a name keeps its number while others join
keeps_token : (names : List (List ℕ)) (l : Lexeme) → KeepsNames names (names_with names l)
keeps_token names (word w) = KeepsNames-interned names w
keeps_token names (var w k) = KeepsNames-interned names w
keeps_token names (sort_var w) = KeepsNames-interned names w
keeps_token names (str bytes) = KeepsNames-refl names
keeps_token names (punct b) = KeepsNames-refl names
keeps_token names becomes = KeepsNames-refl names

pub keeps_pieces : (ps : List Piece) (names : List (List ℕ)) → KeepsNames names (names_behind names ps)
keeps_pieces [] names = KeepsNames-refl names
keeps_pieces (p ∷ ps) names = KeepsNames-trans (keeps_token names p.1) (keeps_pieces ps (names_with names p.1))

module _ (names last : List (List ℕ)) (w : List ℕ) (g : KeepsNames (interned names w) last) where
  number-kept : number_in (interned names w) w ≡ number_in last w
  number-kept =
      let here = number_of-interned names w in
      ap (λ (o : Option ℕ). record { 0 = elim o [ None ↦ 0 | Some n ↦ n ] }) (here ∙ sym (number_kept g w (position_or_len (bytes_eq w) names) here))

seen-kept : (names last : List (List ℕ)) (l : Lexeme) → KeepsNames (names_with names l) last → seen_as (names_with names l) l ≡ seen_as last l
seen-kept names last (word w) g = ap (word_lexeme w) (number-kept names last w g)
seen-kept names last (var w k) g = ap (λ n. Variable n k) (number-kept names last w g)
seen-kept names last (sort_var w) g = ap SortVariable (number-kept names last w g)
seen-kept names last (str bytes) g = refl
seen-kept names last (punct b) g = refl
seen-kept names last becomes g = refl

-- ---- reading
ahead_at : ℕ → List ℕ → List (List ℕ) → Cut → Ahead
ahead_at file text names c = elim c [
  | found l start end ↦ let known = names_with names l in a_token (at (place_of file text start) (seen_as known l)) known end
  | ended ↦ the_end
  | fault kind byte ↦ a_fault kind byte
]

module _ (page : Page) where
  ahead-piece : (names : List (List ℕ)) (byte : ℕ) (p : Piece) (ps : List Piece) → drop byte page.text ≡ bytes_of (p ∷ ps) → IsCut p.1 (bytes_of ps) → KeepsNames (names_with names p.1) page.names
      → ahead page.file page.text names byte ≡ a_token (at (place_at page p.0 byte) (seen_as page.names p.1)) (names_with names p.1) (past p.0 p.1 byte)
  unfolding ahead_at
  ahead-piece names byte p ps e c g =
      ap (ahead_at page.file page.text names) (next_is page.text byte ∙ ap (next_in byte) e ∙ next_piece p.0 byte p.1 (bytes_of ps) c)
      ∙ ap (λ l. a_token (at (place_at page p.0 byte) l) (names_with names p.1) (past p.0 p.1 byte)) (seen-kept names page.names p.1 g)

  pub reads : (ps : List Piece) (names : List (List ℕ)) (byte : ℕ) → drop byte page.text ≡ bytes_of ps → AllCut ps → names_behind names ps ≡ page.names → Reads page.file page.text names byte (placed page byte ps) page.names (end_of byte ps)
  reads [] names byte e c n = subst (λ known. Reads page.file page.text names byte [] known byte) n reads_none
  reads (p ∷ ps) names byte e c n =
      reads_more (ahead-piece names byte p ps e c.0 (subst (KeepsNames (names_with names p.1)) n (keeps_pieces ps (names_with names p.1))))
      (reads ps (names_with names p.1) (past p.0 p.1 byte) (drop_past page.text byte p ps e) c.1 n)

  pub drop_end : (ps : List Piece) (byte : ℕ) → drop byte page.text ≡ bytes_of ps → drop (end_of byte ps) page.text ≡ []
  drop_end [] byte e = e
  drop_end (p ∷ ps) byte e = drop_end ps (past p.0 p.1 byte) (drop_past page.text byte p ps e)

  nothing_in : (byte : ℕ) → next_in byte [] ≡ ended
  unfolding next_in
  nothing_in byte = cond-true (is_utf8 []) _ _ no_byte

  pub ends : (names : List (List ℕ)) (byte : ℕ) → drop byte page.text ≡ [] → ahead page.file page.text names byte ≡ the_end
  unfolding ahead_at
  ends names byte e = ap (ahead_at page.file page.text names) (next_is page.text byte ∙ ap (next_in byte) e ∙ nothing_in byte)

-- the end is behind all bytes
pub end-is : (ps : List Piece) (byte : ℕ) → end_of byte ps ≡ byte + length (bytes_of ps)
end-is [] byte = omega arith
end-is (p ∷ ps) byte =
    let front = gap_text p.0 ++ token_text p.1 in
    end-is ps (past p.0 p.1 byte) ∙ omega (arith, past-is p.0 p.1 byte, length-append (gap_text p.0) (token_text p.1), length-append (gap_text p.0) (token_text p.1 ++ bytes_of ps), length-append (token_text p.1) (bytes_of ps))
