-- The words of the command line, and the run that they spell. A run is one file or more, and the
-- option `--fuel N` or `--fuel=N` once at most, anywhere before a `--`. Every word after a `--` is a
-- file. Another word that begins with `-` is refused, but `-` itself is a file.
use Rattle.std.specs.Prelude.{◌==◌, ◌&&◌, ◌||◌, ℕ, Bool, false, not, List, [], ◌∷◌, Option, Some, None, length, take, drop, map, is_some, option_map, option_and_then, codes, if◌then◌else◌, nat_le}
use Rattle.std.specs.Str.{bytes_eq, all_ascii_digits}
use Rattle.std.specs.Str.Parse.{digits_value}
use Rattle.ath_words.specs.declared.Run.{Run}
use Rattle.ath_words.specs.declared.limits.TheConstants.{MOST_FUEL, USUAL_FUEL}

-- ---- numbers

-- decimal digits, without a leading zero
abbrev pub is_number : List ℕ → Bool
is_number [] = false
is_number (d ∷ ds) = not (d == 48) && all_ascii_digits (d ∷ ds)

-- the fuel that the text of `--fuel` writes, where it is there
abbrev pub fuel_of : Option (List ℕ) → Option ℕ
fuel_of None = Some USUAL_FUEL
fuel_of (Some text) = if is_number text && nat_le (digits_value 10 text) MOST_FUEL then Some (digits_value 10 text) else None

-- ---- words

abbrev pub begins_with_dash : List ℕ → Bool
begins_with_dash [] = false
begins_with_dash (b ∷ bs) = b == 45

abbrev pub begins_with : List ℕ → List ℕ → Bool
begins_with start word = bytes_eq (take (length start) word) start

-- a word that names a file: `-`, or one that doesn't begin with `-`
abbrev pub is_file : List ℕ → Bool
is_file word = not (begins_with_dash word) || bytes_eq word (codes "-")

-- what the next word may be: any word, or the number of the `--fuel` before it
pub data Due : Type 0 where
  any : Due
  number : Due

-- the text of `--fuel`, where it is there, and the files
abbrev pub Choices : Type 0
Choices = Option (List ℕ) × List (List ℕ)

abbrev pub with_file : List ℕ → Choices → Choices
with_file file said = (said.0, file ∷ said.1)

-- what the words say, after words that gave `--fuel` the text `given`, or none; it is nothing where
-- one of them is refused, as every option is that follows a `--fuel`. The word after `--fuel` is its
-- text, whatever it is
abbrev pub said_by : Due → Option (List ℕ) → List (List ℕ) → Option Choices
said_by any given [] = Some (given, [])
said_by any given (word ∷ words) =
    if bytes_eq word (codes "--") then Some (given, words)
    else if is_file word then option_map (with_file word) (said_by any given words)
    else if is_some given then None
    else if bytes_eq word (codes "--fuel") then said_by number None words
    else if begins_with (codes "--fuel=") word then said_by any (Some (drop 7 word)) words
    else None
said_by number given [] = None
said_by number given (word ∷ words) = said_by any (Some word) words

-- ---- the run

-- what the words ask for
pub record Asked : Type 0 where
  pub fuel : ℕ
  pub files : List (List ℕ)

abbrev pub asked_by : Choices → Option Asked
asked_by (given, []) = None
asked_by (given, file ∷ files) = option_map (λ n. record { fuel = n; files = file ∷ files }) (fuel_of given)

-- the run that the words spell
abbrev pub run_of : List (List ℕ) → Option Asked
run_of words = option_and_then asked_by (said_by any None words)

-- a run as contracts see it
abbrev pub asked_of : Run → Asked
asked_of r = record { fuel = r.fuel; files = map (λ file. file.now) r.files.items }
