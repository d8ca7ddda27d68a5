-- What the rows of the matches have once an argument is used again.
use Rattle.std.proofs.Common.{◌≡◌, ◌∙◌, ◌∷◌, ◌++◌, ◌||◌, Bool, true, false, cond, List, [], codes, Option, Some, None, refl, ap, unwrap_or, is_some, append-nil, option_map, ◌⊎◌, inl, inr}
use Rattle.std.specs.Prelude.{find, option_and_then, slice_get}
use Rattle.std.specs.Str.{bytes_eq}
use Rattle.std.proofs.lemmas.Bool.{cases_Bool, or_parts}
use Rattle.std.proofs.lemmas.Slice.Eq.{bytes_eq-Decides}
use Rattle.clap.specs.Walk.{Row, Text, all_of, at_row, first_of, has_row, more_values, reading_by, used, with_values}
use Rattle.clap.specs.declared.parser.matches.ValueSource.TheVariants.{CommandLine}
use Rattle.ath_words.proofs.Command.{fuel_rule, file_rule}

-- the rows have this text of `--fuel`, or none, and these files
pub record Has (rows : List Row) (given : Option Text) (named : List Text) : Type 0 where
  pub first : first_of (codes "fuel") rows ≡ given
  pub is_there : has_row (codes "fuel") rows ≡ is_some given
  pub files : unwrap_or (all_of (codes "file") rows) [] ≡ named

abbrev fuel_row : List Row → Option Row
fuel_row = find (λ r. bytes_eq r.id (codes "fuel"))

abbrev file_row : List Row → Option Row
file_row = find (λ r. bytes_eq r.id (codes "file"))

-- a row that isn't there joins the others
joins : (change : Row → List Row) (missing rows : List Row) → has_row (codes "fuel") rows ≡ false → at_row (codes "fuel") change missing rows ≡ rows ++ missing
joins change missing [] none = refl
joins change missing (r ∷ rs) none =
    let parts = or_parts (bytes_eq r.id (codes "fuel")) (has_row (codes "fuel") rs) none in
    rw parts.0 (ap (λ xs. r ∷ xs) (joins change missing rs parts.1))

joined_fuel_row : (new : Row) (rows : List Row) → bytes_eq new.id (codes "fuel") ≡ true → has_row (codes "fuel") rows ≡ false → fuel_row (rows ++ new ∷ []) ≡ Some new
joined_fuel_row new [] is none = rw is refl
joined_fuel_row new (r ∷ rs) is none =
    let parts = or_parts (bytes_eq r.id (codes "fuel")) (has_row (codes "fuel") rs) none in
    rw parts.0 (joined_fuel_row new rs is parts.1)

joined_has_row : (new : Row) (rows : List Row) → bytes_eq new.id (codes "fuel") ≡ true → has_row (codes "fuel") (rows ++ new ∷ []) ≡ true
joined_has_row new [] is = rw is refl
joined_has_row new (r ∷ rs) is = by (bytes_eq r.id (codes "fuel")) (joined_has_row new rs is)
  where
    by : (b : Bool) {c : Bool} → c ≡ true → (b || c) ≡ true
    by true e = refl
    by false e = e

joined_file_row : (new : Row) (rows : List Row) → bytes_eq new.id (codes "file") ≡ false → file_row (rows ++ new ∷ []) ≡ file_row rows
joined_file_row new [] other = rw other refl
joined_file_row new (r ∷ rs) other = ap (λ o. cond (bytes_eq r.id (codes "file")) (Some r) o) (joined_file_row new rs other)

-- ---- `--fuel` is used

abbrev new_fuel : Text → Row
new_fuel text = record { id = codes "fuel"; values = text ∷ []; count = None; source = Some CommandLine; reading = reading_by fuel_rule }

fuel_joins : (text : Text) (rows : List Row) → has_row (codes "fuel") rows ≡ false → used fuel_rule (text ∷ []) rows ≡ rows ++ new_fuel text ∷ []
fuel_joins text rows none =
    ap (with_values (codes "fuel") (reading_by fuel_rule) CommandLine (text ∷ [])) (joins (λ _. []) [] rows none ∙ append-nil rows)
    ∙ joins (more_values CommandLine (text ∷ [])) (new_fuel text ∷ []) rows none

pub has_fuel : (text : Text) (rows : List Row) (files : List Text) → Has rows None files → Has (used fuel_rule (text ∷ []) rows) (Some text) files
has_fuel text rows files h =
    let joined = fuel_joins text rows h.is_there in
    record {
      first = ap (first_of (codes "fuel")) joined ∙ ap (option_and_then (λ (r : Row). slice_get r.values 0)) (joined_fuel_row (new_fuel text) rows refl h.is_there);
      is_there = ap (has_row (codes "fuel")) joined ∙ joined_has_row (new_fuel text) rows refl;
      files = ap (λ rs. unwrap_or (all_of (codes "file") rs) []) joined
          ∙ ap (λ o. unwrap_or (option_map (λ (r : Row). r.values) o) []) (joined_file_row (new_fuel text) rows refl) ∙ h.files;
    }

-- ---- a file is used

file_is_no_fuel : (id : Text) → bytes_eq id (codes "file") ≡ true → bytes_eq id (codes "fuel") ≡ false
file_is_no_fuel id e = ap (λ t. bytes_eq t (codes "fuel")) ((bytes_eq-Decides id (codes "file")).0 e)

module _ (file : Text) where
  same_fuel_row : (rows : List Row) → fuel_row (used file_rule (file ∷ []) rows) ≡ fuel_row rows
  same_fuel_row [] = refl
  same_fuel_row (r ∷ rs) = by (cases_Bool (bytes_eq r.id (codes "file"))) (same_fuel_row rs)
    where
      by : (bytes_eq r.id (codes "file") ≡ true) ⊎ (bytes_eq r.id (codes "file") ≡ false) → fuel_row (used file_rule (file ∷ []) rs) ≡ fuel_row rs
          → fuel_row (used file_rule (file ∷ []) (r ∷ rs)) ≡ fuel_row (r ∷ rs)
      by (inl is) same = rw (is, file_is_no_fuel r.id is) refl
      by (inr other) same = rw other (ap (λ o. cond (bytes_eq r.id (codes "fuel")) (Some r) o) same)

  same_has_fuel : (rows : List Row) → has_row (codes "fuel") (used file_rule (file ∷ []) rows) ≡ has_row (codes "fuel") rows
  same_has_fuel [] = refl
  same_has_fuel (r ∷ rs) = by (cases_Bool (bytes_eq r.id (codes "file"))) (same_has_fuel rs)
    where
      by : (bytes_eq r.id (codes "file") ≡ true) ⊎ (bytes_eq r.id (codes "file") ≡ false)
          → has_row (codes "fuel") (used file_rule (file ∷ []) rs) ≡ has_row (codes "fuel") rs
          → has_row (codes "fuel") (used file_rule (file ∷ []) (r ∷ rs)) ≡ has_row (codes "fuel") (r ∷ rs)
      by (inl is) same = rw (is, file_is_no_fuel r.id is) refl
      by (inr other) same = rw other (ap (λ b. bytes_eq r.id (codes "fuel") || b) same)

  one_more_file : (rows : List Row) → unwrap_or (all_of (codes "file") (used file_rule (file ∷ []) rows)) [] ≡ unwrap_or (all_of (codes "file") rows) [] ++ file ∷ []
  one_more_file [] = refl
  one_more_file (r ∷ rs) = by (cases_Bool (bytes_eq r.id (codes "file"))) (one_more_file rs)
    where
      by : (bytes_eq r.id (codes "file") ≡ true) ⊎ (bytes_eq r.id (codes "file") ≡ false)
          → unwrap_or (all_of (codes "file") (used file_rule (file ∷ []) rs)) [] ≡ unwrap_or (all_of (codes "file") rs) [] ++ file ∷ []
          → unwrap_or (all_of (codes "file") (used file_rule (file ∷ []) (r ∷ rs))) [] ≡ unwrap_or (all_of (codes "file") (r ∷ rs)) [] ++ file ∷ []
      by (inl is) more = rw (is, is) refl
      by (inr other) more = rw (other, other) more

  pub has_file : (rows : List Row) (given : Option Text) (files : List Text) → Has rows given files → Has (used file_rule (file ∷ []) rows) given (files ++ file ∷ [])
  has_file rows given files h = record {
    first = ap (option_and_then (λ (r : Row). slice_get r.values 0)) (same_fuel_row rows) ∙ h.first;
    is_there = same_has_fuel rows ∙ h.is_there;
    files = one_more_file rows ∙ ap (λ fs. fs ++ file ∷ []) h.files;
  }
