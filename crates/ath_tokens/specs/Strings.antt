-- What the reading of a string answers, for the contracts of its steps.
use Rattle.std.specs.Prelude.{◌≡◌, ℕ, ◌<◌, ◌≤◌, List, [], ◌∷◌, length, take, drop, ◌+◌, if◌then◌else◌}
use Rattle.std.specs.Str.{is_utf8}
use Rattle.ath_tokens.specs.declared.tokens.LexKind.{LexKind}
use Rattle.ath_tokens.specs.declared.lexeme.Lexed.{Lexed}
use Rattle.ath_tokens.specs.declared.lexeme.Lexed.TheVariants.{Str, Fault}
use Rattle.ath_tokens.specs.declared.quoted.Quoted.{Quoted as Answer}
use Rattle.ath_tokens.specs.declared.quoted.Quoted.TheVariants.{Closed, Wrong, Unclosed}
use Rattle.ath_tokens.specs.declared.quoted.Escape.{Escape}
use Rattle.ath_tokens.specs.declared.quoted.Escape.TheVariants.{Means, Wrong as WrongEscape, Cut}
use Rattle.ath_tokens.specs.Cut.{fault_in}
use Rattle.ath_tokens.specs.Quoted.{Quoted, plain, closed, wrong, unclosed, after, quoted}

abbrev pub as_quoted : Answer → Quoted
as_quoted (Closed n means) = closed n means.items
as_quoted (Wrong back at) = wrong back at
as_quoted Unclosed = unclosed

-- the bytes that an answer names stand in the text
abbrev pub IsWithin : List ℕ → Answer → Type 0
IsWithin body (Closed n means) = n < length body
IsWithin body (Wrong back at) = (back ≤ at) × (at < length body)
IsWithin body Unclosed = Unit {0}

abbrev pub fault_lexed : LexKind × ℕ → Lexed
fault_lexed f = Fault f.0 f.1

-- the token of a string, or its fault
abbrev pub string_lexed : List ℕ → Answer → Lexed
string_lexed body (Closed n means) = if is_utf8 (take n body) then Str means.items (n + 2) else fault_lexed (fault_in body (closed n means.items))
string_lexed body (Wrong back at) = fault_lexed (fault_in body (wrong back at))
string_lexed body Unclosed = fault_lexed (fault_in body unclosed)

-- how far after the opening quote a fault is
abbrev pub fault_at : Lexed → ℕ
fault_at (Fault kind n) = n
fault_at _ = 0

-- how a string goes on from a backslash
abbrev pub Escapes : List ℕ → Escape → Type 0
Escapes rest (Means byte len) = (0 < len) × (len ≤ length rest) × (quoted plain rest ≡ after len (byte ∷ []) (quoted plain (drop len rest)))
Escapes rest (WrongEscape back) = (back < length rest) × (quoted plain rest ≡ wrong back back)
Escapes rest Cut = quoted plain rest ≡ unclosed
