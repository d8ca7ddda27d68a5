-- The next token, as the tokens of a text give it, is what is ahead.
use Rattle.std.proofs.Common.{◌≡◌, ℕ, ◌<◌, ◌≤◌, List, [], length, Option, Some, None, refl, sym, ap, ◌∙◌, subst, arith}
use Rattle.std.proofs.lemmas.Option.{get_or_from_slice_get}
use Rattle.ath_sorts.specs.declared.sorts.Sym.{Sym}
use Rattle.ath_syntax.specs.declared.place.Pos.{Pos}
use Rattle.ath_grammar.specs.declared.lexeme.Lexeme as grammar
use Rattle.ath_grammar.specs.Tokens.{at}
use Rattle.ath_names.specs.Names.{number_of}
use Rattle.ath_names.proofs.NamesLaws.{text_of_number}
use Rattle.ath_tokens.specs.declared.tokens.LexKind.{LexKind}
use Rattle.ath_tokens.specs.declared.tokens.Token.{Token}
use Rattle.ath_tokens.specs.declared.tokens.Token.TheVariants as token
use Rattle.ath_tokens.specs.Cut.{Cut, found, ended, fault, next_of, place_of, names_with}
use Rattle.ath_tokens.specs.Next.{token_of}
use Rattle.ath_tokens.specs.Spelling.{Lexeme, word, var, sort_var, str, punct, becomes}
use Rattle.ath_tokens.proofs.CutLaws.{found_is_longest}
use Rattle.ath_lexemes.specs.Lexemes.{word_lexeme}
use Rattle.ath_lexemes.specs.Numbered.{text_of, lexeme_of}
use Rattle.ath_reader.specs.Ahead.{Ahead, a_token, the_end, a_fault, ahead, number_in, seen_as}

number_known : (names : List (List ℕ)) (text : List ℕ) (n : ℕ) → number_of names text ≡ Some n → number_in names text ≡ record { 0 = n }
number_known names text n e = ap (λ (o : Option ℕ). record { 0 = elim o [ None ↦ 0 | Some m ↦ m ] }) e

word_seen : (names : List (List ℕ)) (text : List ℕ) (n : ℕ) → number_of names text ≡ Some n → word_lexeme (text_of names (record { 0 = n })) (record { 0 = n }) ≡ word_lexeme text (number_in names text)
word_seen names text n e = ap (λ (t : List ℕ). word_lexeme t (record { 0 = n })) (get_or_from_slice_get names n text [] (text_of_number names text n e)) ∙ ap (word_lexeme text) (sym (number_known names text n e))

abbrev Tells : List (List ℕ) → Lexeme → Option Token → Type 0
Tells names l None = Unit {0}
Tells names l (Some t) = lexeme_of names t ≡ seen_as names l

tells : (names : List (List ℕ)) (l : Lexeme) → Tells names l (token_of names l)
tells names (word text) = go (number_of names text) refl
  where
    go : (o : Option ℕ) → number_of names text ≡ o → Tells names (word text) (elim o [ None ↦ None | Some n ↦ Some (token.Word (record { 0 = n })) ])
    go None e = tt
    go (Some n) e = word_seen names text n e
tells names (var text index) = go (number_of names text) refl
  where
    go : (o : Option ℕ) → number_of names text ≡ o → Tells names (var text index) (elim o [ None ↦ None | Some n ↦ Some (token.Var (record { 0 = n }) index) ])
    go None e = tt
    go (Some n) e = ap (λ (m : Sym). grammar.Lexeme.Variable m index) (sym (number_known names text n e))
tells names (sort_var text) = go (number_of names text) refl
  where
    go : (o : Option ℕ) → number_of names text ≡ o → Tells names (sort_var text) (elim o [ None ↦ None | Some n ↦ Some (token.SortVar (record { 0 = n })) ])
    go None e = tt
    go (Some n) e = ap (λ (m : Sym). grammar.Lexeme.SortVariable m) (sym (number_known names text n e))
tells names (str bytes) = refl
tells names (punct b) = refl
tells names becomes = refl

abbrev as_ahead : ℕ → List ℕ → List (List ℕ) → Cut → Ahead
as_ahead file text names c = elim c [
  | found l start end ↦ let known = names_with names l in a_token (at (place_of file text start) (seen_as known l)) known end
  | ended ↦ the_end
  | fault kind byte ↦ a_fault kind byte
]

-- a token is ahead, and takes a byte at least
pub token_ahead : (file : ℕ) (text : List ℕ) (names known : List (List ℕ)) (from start end : ℕ) (l : Lexeme) (t : Token) (p : Pos) (lexeme : grammar.Lexeme)
    → next_of text from ≡ found l start end → known ≡ names_with names l → token_of known l ≡ Some t → p ≡ place_of file text start → lexeme ≡ lexeme_of known t → from ≤ length text
    → (ahead file text names from ≡ a_token (at p lexeme) known end) × (from < end) × (end ≤ length text)
token_ahead file text names known from start end l t p lexeme e k s q x within =
    let long = found_is_longest text from l start end within e in
    let seen = subst (λ (o : Option Token). Tells known l o) s (tells known l) in (
      ap (as_ahead file text names) e ∙ ap (λ (n : List (List ℕ)). a_token (at (place_of file text start) (seen_as n l)) n end) (sym k) ∙ ap (λ (y : grammar.Lexeme). a_token (at (place_of file text start) y) known end) (sym (x ∙ seen)) ∙ ap (λ (o : Pos). a_token (at o lexeme) known end) (sym q),
      omega (arith, long.some, long.gap.up_to),
      long.within,
    )

pub end_ahead : (file : ℕ) (text : List ℕ) (names : List (List ℕ)) (from : ℕ) → next_of text from ≡ ended → ahead file text names from ≡ the_end
end_ahead file text names from e = ap (as_ahead file text names) e

pub fault_ahead : (file : ℕ) (text : List ℕ) (names : List (List ℕ)) (from byte : ℕ) (kind : LexKind) → next_of text from ≡ fault kind byte → ahead file text names from ≡ a_fault kind byte
fault_ahead file text names from byte kind e = ap (as_ahead file text names) e
