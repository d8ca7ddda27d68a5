-- What the program says on standard error: one line at most.
use Rattle.std.specs.Prelude.{ℕ, List, [], ◌++◌, Option, Some, None, codes}
use Rattle.ath_print.specs.Lines.{quoted}
use Rattle.ath_session.specs.declared.status.Status.{Status}
use Rattle.ath_session.specs.declared.status.Status.TheVariants.{Clean, Errors, Usage, Fuel, SourceFault, SinkFault, Memory}

abbrev pub no_memory : List ℕ
no_memory = codes "athena: out of memory\n"

abbrev pub no_words : List ℕ
no_words = codes "athena: can't read the words of the command line\n"

-- the name is told as the report tells names of files
abbrev pub unread_text : Option (List ℕ) → List ℕ
unread_text None = codes "athena: can't read a file\n"
unread_text (Some name) = codes "athena: can't read " ++ quoted name ++ codes "\n"

-- why a run ended so, and nothing where the report says it
abbrev pub message_of : Status → Option (List ℕ) → List ℕ
message_of Clean failed = []
message_of Errors failed = []
message_of Fuel failed = []
message_of Usage failed = codes "usage: athena [--fuel N] FILE.. | athena [--fuel N] --generate N\n"
message_of SourceFault failed = unread_text failed
message_of SinkFault failed = codes "athena: can't write to standard output\n"
message_of Memory failed = no_memory
