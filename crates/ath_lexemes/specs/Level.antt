-- The level of an operator.
use Rattle.std.specs.Prelude.{ℕ, List, Option, Some, None, if◌then◌else◌, nat_lt}
use Rattle.std.specs.Str.{all_ascii_digits}
use Rattle.std.specs.Str.Parse.{digits_value}

abbrev pub level_from : ℕ → Option ℕ
level_from n = if nat_lt n 601 then None else if nat_lt 999 n then None else Some n

-- digits with a value from 601 to 999
abbrev pub level_of : List ℕ → Option ℕ
level_of text = if all_ascii_digits text then level_from (digits_value 10 text) else None
