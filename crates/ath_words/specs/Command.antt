-- The command, as clap's definitions have it.
use Rattle.std.specs.Prelude.{true, codes, Some, [], List, unwrap_or}
use Rattle.clap.specs.Simple.{on_top}
use Rattle.clap.specs.Words.{App, Row, Rule, all_of, first_of, new_app, new_rule, rows_of, with_rule}
use Rattle.clap.specs.declared.parser.matches.Found.{Found}
use Rattle.clap.specs.declared.builder.action.ArgAction.TheVariants.{Append}
use Rattle.ath_words.specs.Words.{Choices}

abbrev pub fuel_arg : Rule
fuel_arg = record (new_rule (codes "fuel")) { long = Some (codes "fuel") }

abbrev pub file_arg : Rule
file_arg = record (new_rule (codes "file")) { action = Some Append }

abbrev pub athena : App
athena = with_rule (with_rule (on_top (λ s. record s { no_binary_name = true; disable_help_flag = true }) (new_app (codes "athena"))) fuel_arg) file_arg

-- the text of `--fuel` and the files, as the rows of the matches have them
abbrev pub said_by_rows : List Row → Choices
said_by_rows rows = (first_of (codes "fuel") rows, unwrap_or (all_of (codes "file") rows) [])

-- and as the matches have them
abbrev pub choices_in : Found → Choices
choices_in found = said_by_rows (rows_of found)
