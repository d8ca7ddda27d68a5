-- Names: a table of texts, in which a text has the number of the place where it stands.
use Rattle.std.specs.Prelude.{◌≡◌, ℕ, zero, suc, ◌+◌, ◌<◌, ◌≤◌, List, [], ◌∷◌, ◌++◌, length, position, is_some, Option, Some, Result, Ok, Err, All, IsUtf8, codes, if◌then◌else◌}
use Rattle.std.specs.Fmt.{decimal}
use Rattle.std.specs.Str.{bytes_eq}
use Rattle.std.specs.List.{IsDistinct}
use Rattle.ath_names.specs.declared.limits.TheConstants.{MOST_NAME_BYTES}
use Rattle.ath_names.specs.declared.NameError.{NameError}
use Rattle.ath_names.specs.declared.NameError.TheVariants.{TooLong, Memory}

-- the number of a text: the place where it stands
abbrev pub number_of : List (List ℕ) → List ℕ → Option ℕ
number_of texts text = position (bytes_eq text) texts

-- the table with the text in it: it goes last where it isn't there yet
abbrev pub interned : List (List ℕ) → List ℕ → List (List ℕ)
interned texts text = if is_some (number_of texts text) then texts else texts ++ text ∷ []

-- the table has at most grown: every number keeps its text, and every text its number
pub record KeepsNames (old new : List (List ℕ)) : Type 0 where
  pub more : List (List ℕ)
  pub longer : new ≡ old ++ more

-- what makes a list a table of names: no text stands twice, and each is UTF-8
pub record IsTable (texts : List (List ℕ)) : Type 0 where
  pub distinct : IsDistinct bytes_eq texts
  pub utf8 : All IsUtf8 texts

-- the table has the text, at this number
abbrev pub Adds : List (List ℕ) → List ℕ → List (List ℕ) → ℕ → Type 0
Adds old text new n = (new ≡ interned old text) × (number_of new text ≡ Some n)

-- what interning answers, and the table after it: a text that is too long is refused, and no refusal changes the table
abbrev pub Interns : List (List ℕ) → List ℕ → List (List ℕ) → Result ℕ NameError → Type 0
Interns old text new (Ok n) = (length text ≤ MOST_NAME_BYTES) × (new ≡ interned old text) × (number_of new text ≡ Some n)
Interns old text new (Err TooLong) = (MOST_NAME_BYTES < length text) × (new ≡ old)
Interns old text new (Err Memory) = (length text ≤ MOST_NAME_BYTES) × (new ≡ old)

-- the names of a stem with the numbers from 1 to n
abbrev pub numbered : List ℕ → ℕ → List (List ℕ)
numbered stem zero = []
numbered stem (suc n) = numbered stem n ++ (stem ++ decimal (n + 1)) ∷ []

-- the words that a new table begins with
abbrev pub fixed_words : List (List ℕ)
fixed_words =
    codes "Boolean" ∷ codes "true" ∷ codes "false" ∷ codes "=" ∷ codes "=/=" ∷ codes "&" ∷ codes "|" ∷ codes "~" ∷ codes "==>" ∷ codes "<==>"
    ∷ codes "not" ∷ codes "and" ∷ codes "or" ∷ codes "if" ∷ codes "iff" ∷ codes "forall" ∷ codes "exists"
    ∷ codes "some-var" ∷ codes "some-term" ∷ codes "some-sent" ∷ codes "some-list" ∷ codes "v" ∷ []

-- the names of a new table: the fixed words, then `x1` to `x64` and `y1` to `y64`
abbrev pub first_names : List (List ℕ)
first_names = fixed_words ++ numbered (codes "x") 64 ++ numbered (codes "y") 64
