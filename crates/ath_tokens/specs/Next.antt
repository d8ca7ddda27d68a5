-- What the cutting of a text has come to, and what the next step of it answers.
use Rattle.std.specs.Prelude.{◌≡◌, ℕ, List, length, Option, Some, None, Result, Ok, Err, ◌⊎◌}
use Rattle.std.specs.Option.{option_map}
use Rattle.ath_syntax.specs.declared.place.Pos.{Pos}
use Rattle.ath_names.specs.Names.{number_of}
use Rattle.ath_tokens.specs.declared.tokens.LexError.{LexError}
use Rattle.ath_tokens.specs.declared.tokens.LexKind.TheVariants.{Memory}
use Rattle.ath_tokens.specs.declared.tokens.Token.{Token}
use Rattle.ath_tokens.specs.declared.tokens.Token.TheVariants.{Word, Var, SortVar, Str, Punct, Becomes}
use Rattle.ath_tokens.specs.Spelling.{Lexeme, word, var, sort_var, str, punct, becomes}
use Rattle.ath_tokens.specs.Cut.{found, ended, fault, next_of, place_of, names_with}
use Rattle.ath_tokens.specs.Cutting.{Cutting}

-- the token, its name by its number among the names
abbrev pub token_of : List (List ℕ) → Lexeme → Option Token
token_of names (word text) = option_map (λ n. Word (record { 0 = n })) (number_of names text)
token_of names (var text index) = option_map (λ n. Var (record { 0 = n }) index) (number_of names text)
token_of names (sort_var text) = option_map (λ n. SortVar (record { 0 = n })) (number_of names text)
token_of names (str bytes) = Some (Str bytes)
token_of names (punct b) = Some (Punct b)
token_of names becomes = Some Becomes

-- an error and its cause: want of memory, or the fault that the text shows next
abbrev pub Refuses : Cutting → LexError → Type 0
Refuses c e =
    (e.kind ≡ Memory)
    ⊎ ((n : ℕ) × (next_of c.text c.at ≡ fault e.kind n) × (e.pos ≡ place_of c.file c.text n))

-- the error that is given again
abbrev pub RefusesAgain : Cutting → Option LexError → LexError → Type 0
RefusesAgain c None e = Refuses c e
RefusesAgain c (Some r) e = e ≡ r

-- a token with its names after it, and the range of its text, as the text has it next
abbrev pub Finds : Cutting → List (List ℕ) → Token → ℕ → ℕ → List (List ℕ) → Type 0
Finds c names token start end names' =
    (l : Lexeme)
    × (next_of c.text c.at ≡ found l start end)
    × (names' ≡ names_with names l)
    × (token_of names' l ≡ Some token)

-- what `next` answers, what the cutting has come to then, and the names after it
abbrev pub Gives
    : Cutting → List (List ℕ) → Result (Option (Token × Pos × ℕ × ℕ)) LexError → Cutting → List (List ℕ) → Type 0
Gives old names (Ok None) new names' =
    (old.refused ≡ None)
    × (next_of old.text old.at ≡ ended)
    × (new ≡ record old { at = length old.text })
    × (names' ≡ names)
Gives old names (Ok (Some t)) new names' =
    (old.refused ≡ None)
    × Finds old names t.0 t.2 t.3 names'
    × (t.1 ≡ place_of old.file old.text t.2)
    × (new ≡ record old { at = t.3 })
Gives old names (Err e) new names' =
    RefusesAgain old old.refused e × (new ≡ record old { refused = Some e }) × (names' ≡ names)
