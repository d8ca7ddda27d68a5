-- What a caller that is generic over a shelf or a sink concludes from their clauses.
use Rattle.std.proofs.Common.{◌≡◌, ℕ, ◌+◌, ◌^◌, ◌<◌, suc, List, [], ◌∷◌, ◌++◌, length, take, Option, Some, None, refl, sym, ◌∙◌, ap, append_assoc, add-zero, arith}
use Rattle.std.specs.List.{concat}
use Rattle.std.specs.Option.{option_map}
use Rattle.std.proofs.lemmas.List.{append-nil}
use Rattle.ath_io.specs.Faults.{one_more}
use Rattle.ath_io.specs.Shelf.{Texts, text_named, front_of, with_asked, IsFetched}
use Rattle.ath_io.specs.Sink.{Held, with_put, with_puts}

-- no name asked is no step
pub with_asked-nil : (told : Option Texts) → with_asked told [] ≡ told
with_asked-nil None = refl
with_asked-nil (Some told) = ap (λ (names : List (List ℕ)). Some (record { texts = told.texts; asked = names })) (append-nil told.asked)

-- names asked one after the other are one list of names
pub with_asked-append : (told : Option Texts) (names more : List (List ℕ)) → with_asked (with_asked told names) more ≡ with_asked told (names ++ more)
with_asked-append None names more = refl
with_asked-append (Some told) names more = simp append_assoc

some_front : (text : Option (List ℕ)) (most : ℕ) (bytes : List ℕ) → option_map (take most) text ≡ Some bytes
    → (found : List ℕ) × (text ≡ Some found) × (bytes ≡ take most found)
some_front None most bytes e = cc
some_front (Some text) most bytes e = (text, refl, cc)

-- a front of the text of a name is one of a text that is there
pub front_of-text : (texts : List (List ℕ × List ℕ)) (name : List ℕ) (most : ℕ) (bytes : List ℕ) → front_of texts name most ≡ Some bytes
    → (text : List ℕ) × (text_named texts name ≡ Some text) × (bytes ≡ take most text)
front_of-text texts name most bytes e = some_front (text_named texts name) most bytes e

-- what was fetched where the texts are told
pub IsFetched-front : (told : Option Texts) (texts : Texts) (name : List ℕ) (most : ℕ) (bytes : List ℕ) → told ≡ Some texts → IsFetched told name most bytes
    → front_of texts.texts name most ≡ Some bytes
IsFetched-front told texts name most bytes e fetched = rw e at fetched

-- puts one after the other are one list of pieces
pub with_puts-append : (told : Option Held) (pieces more : List (List ℕ)) → with_puts told (pieces ++ more) ≡ with_puts (with_puts told pieces) more
with_puts-append told [] more = refl
with_puts-append told (bytes ∷ pieces) more = with_puts-append (with_put told bytes) pieces more

-- where they aren't told they stay untold
pub with_puts-none : (pieces : List (List ℕ)) → with_puts None pieces ≡ None
with_puts-none [] = refl
with_puts-none (bytes ∷ pieces) = with_puts-none pieces

-- the bytes are those of all pieces, and some number of puts was made
pub with_puts-bytes : (held : Held) (pieces : List (List ℕ))
    → (puts : ℕ) × (with_puts (Some held) pieces ≡ Some (record { bytes = held.bytes ++ concat pieces; puts = puts }))
with_puts-bytes held [] = (held.puts, ap (λ (bytes : List ℕ). Some (record { bytes = bytes; puts = held.puts })) (sym (append-nil held.bytes)))
with_puts-bytes held (bytes ∷ pieces) =
    let rest = with_puts-bytes (record { bytes = held.bytes ++ bytes; puts = one_more held.puts }) pieces in
    (rest.0, rest.1 ∙ simp append_assoc)

-- below the last value of the count there was one put for each piece
pub with_puts-count : (held : Held) (pieces : List (List ℕ)) → held.puts + length pieces < 2 ^ 64
    → with_puts (Some held) pieces ≡ Some (record { bytes = held.bytes ++ concat pieces; puts = held.puts + length pieces })
with_puts-count held [] below = simp (append-nil, add-zero)
with_puts-count held (bytes ∷ pieces) below =
    let next : one_more held.puts ≡ held.puts + 1 = omega arith in
    let room : one_more held.puts + length pieces < 2 ^ 64 = omega arith in
    let rest = with_puts-count (record { bytes = held.bytes ++ bytes; puts = one_more held.puts }) pieces room in
    let sum : one_more held.puts + length pieces ≡ held.puts + suc (length pieces) = omega arith in
    rest ∙ rw (append_assoc held.bytes bytes (concat pieces), sum) refl
