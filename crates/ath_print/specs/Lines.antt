-- The line of an event.
use Rattle.std.specs.Prelude.{ℕ, ◌+◌, ◌/◌, ◌%◌, ◌||◌, ◌==◌, nat_lt, List, [], ◌∷◌, ◌++◌, length, map, slice_index_or, codes, if◌then◌else◌}
use Rattle.std.specs.List.{flat_map}
use Rattle.std.specs.Fmt.{decimal}
use Rattle.ath_sorts.specs.declared.sorts.Sym.{Sym}
use Rattle.ath_sorts.specs.Signature.{Signature}
use Rattle.ath_syntax.specs.declared.place.Pos.{Pos}
use Rattle.ath_trees.specs.Tree.{Term, Sent}
use Rattle.ath_env.specs.Values.{Value, a_term, a_sentence, a_symbol, a_connective, a_quantifier, a_back, a_method}
use Rattle.ath_env.specs.LookUp.{text_of}
use Rattle.ath_print.specs.declared.fault.FaultKind.{FaultKind}
use Rattle.ath_print.specs.declared.fault.FaultKind.TheVariants.{BadUtf8, BadChar, OpenString, NameTooLong, Unexpected, Unclosed, KindMix, TooDeep, NotBuilt, Redeclared, UnknownSort, Arity, LooseParam, TooWide, SortTooLarge, Unbound, FileTooLong, TooManyLoads, LineTooLong, SortClash, ArgCount, NotBoolean, TooLarge, TooNested, WrongKind, WrongShape, NotInBase, NotApplicable, NotMethod, NotSentence}
use Rattle.ath_print.specs.Events.{Argument, sentence_named, term_named, sort_named, variable_named, name_named, number_named, Refusal, Event, domain_added, symbols_added, asserted, proved, shown, refused, exhausted}
use Rattle.ath_print.specs.Printers.{Printer, word, spaced}
pub use Rattle.ath_print.specs.Prefix.{conn_text, quant_text}
use Rattle.ath_print.specs.Prefix.{sort_printed, term_printed, sent_printed}

-- a term or a sentence alone on its line
abbrev pub term_text : List (List ℕ) → Signature → Term → List ℕ
term_text names sig t = (term_printed names sig [] t []).text

abbrev pub printed : List (List ℕ) → Signature → Sent → List ℕ
printed names sig p = (sent_printed names sig [] p []).text

-- names with a comma and a space between them
abbrev pub listed_after : List (List ℕ) → List Sym → List ℕ
listed_after names [] = []
listed_after names (n ∷ ns) = codes ", " ++ text_of names n ++ listed_after names ns

abbrev pub listed : List (List ℕ) → List Sym → List ℕ
listed names [] = []
listed names (n ∷ ns) = text_of names n ++ listed_after names ns

abbrev pub hex_digit : ℕ → ℕ
hex_digit d = if nat_lt d 10 then 48 + d else 87 + d

-- `"`, `\`, LF and tab have escapes of their own, other control bytes hexadecimal ones
abbrev pub escaped : ℕ → List ℕ
escaped b =
    if b == 34 then codes "\\\""
    else if b == 92 then codes "\\\\"
    else if b == 10 then codes "\\n"
    else if b == 9 then codes "\\t"
    else if nat_lt b 32 || b == 127 then codes "\\x" ++ hex_digit (b / 16) ∷ hex_digit (b % 16) ∷ []
    else b ∷ []

abbrev pub quoted : List ℕ → List ℕ
quoted text = codes "\"" ++ flat_map escaped text ++ codes "\""

-- a primitive method prints as its name
abbrev pub method_text : ℕ → List ℕ
method_text n = if n == 0 then codes "claim" else codes "mp"

-- a value that is shown, after the word for its kind
abbrev pub shown_text : List (List ℕ) → Signature → Value → List ℕ
shown_text names sig (a_term t r) = codes "Term: " ++ term_text names sig t
shown_text names sig (a_sentence p) = codes "Sentence: " ++ printed names sig p
shown_text names sig (a_symbol f) = codes "Symbol: " ++ text_of names f
shown_text names sig (a_connective c) = codes "Symbol: " ++ conn_text c
shown_text names sig (a_quantifier q) = codes "Symbol: " ++ quant_text q
shown_text names sig a_back = codes "Symbol: <=="
shown_text names sig (a_method n) = codes "Method: " ++ method_text n

abbrev pub kind_text : FaultKind → List ℕ
kind_text BadUtf8 = codes "BadUtf8"
kind_text BadChar = codes "BadChar"
kind_text OpenString = codes "OpenString"
kind_text NameTooLong = codes "NameTooLong"
kind_text Unexpected = codes "Unexpected"
kind_text Unclosed = codes "Unclosed"
kind_text KindMix = codes "KindMix"
kind_text TooDeep = codes "TooDeep"
kind_text NotBuilt = codes "NotBuilt"
kind_text Redeclared = codes "Redeclared"
kind_text UnknownSort = codes "UnknownSort"
kind_text Arity = codes "Arity"
kind_text LooseParam = codes "LooseParam"
kind_text TooWide = codes "TooWide"
kind_text SortTooLarge = codes "SortTooLarge"
kind_text Unbound = codes "Unbound"
kind_text FileTooLong = codes "FileTooLong"
kind_text TooManyLoads = codes "TooManyLoads"
kind_text LineTooLong = codes "LineTooLong"
kind_text SortClash = codes "SortClash"
kind_text ArgCount = codes "ArgCount"
kind_text NotBoolean = codes "NotBoolean"
kind_text TooLarge = codes "TooLarge"
kind_text TooNested = codes "TooNested"
kind_text WrongKind = codes "WrongKind"
kind_text WrongShape = codes "WrongShape"
kind_text NotInBase = codes "NotInBase"
kind_text NotApplicable = codes "NotApplicable"
kind_text NotMethod = codes "NotMethod"
kind_text NotSentence = codes "NotSentence"

-- a sort variable that isn't in scope has its name as it is written
abbrev pub argument_printed : List (List ℕ) → Signature → Argument → Printer
argument_printed names sig (sentence_named p) = sent_printed names sig [] p
argument_printed names sig (term_named t) = term_printed names sig [] t
argument_printed names sig (sort_named s) = sort_printed names s
argument_printed names sig (variable_named n) = word (codes "'" ++ text_of names n)
argument_printed names sig (name_named n) = word (text_of names n)
argument_printed names sig (number_named n) = word (decimal n)

-- each argument after one space; the numbers of sort variables go on from one to the next
abbrev pub arguments_text : List (List ℕ) → Signature → List Argument → List ℕ
arguments_text names sig args = (spaced (map (argument_printed names sig) args) []).text

abbrev pub refusal_text : List (List ℕ) → Signature → Refusal → List ℕ
refusal_text names sig why = kind_text why.kind ++ arguments_text names sig why.args

-- how the file of a place is written, by its number: as its name in quotes; or not at all, where a line is only counted
abbrev pub quoted_file : List (List ℕ) → ℕ → List ℕ
quoted_file files number = quoted (slice_index_or files number [])

abbrev pub no_file : ℕ → List ℕ
no_file number = []

abbrev pub place_text : (ℕ → List ℕ) → Pos → List ℕ
place_text file at = file at.file ++ codes ":" ++ decimal at.line ++ codes ":" ++ decimal at.col

abbrev pub text_of_event : List (List ℕ) → Signature → (ℕ → List ℕ) → Event → List ℕ
text_of_event names sig file (domain_added n) = codes "Domain: " ++ text_of names n
text_of_event names sig file (symbols_added ns) = codes "Symbols: " ++ listed names ns
text_of_event names sig file (asserted p) = codes "Assertion: " ++ printed names sig p
text_of_event names sig file (proved p) = codes "Theorem: " ++ printed names sig p
text_of_event names sig file (shown v) = shown_text names sig v
text_of_event names sig file (refused at why) = codes "Error: " ++ place_text file at ++ codes ": " ++ refusal_text names sig why
text_of_event names sig file (exhausted at) = codes "Fuel: " ++ place_text file at ++ codes ": out of fuel"

-- a line ends with one LF
abbrev pub line_of : List (List ℕ) → Signature → List (List ℕ) → Event → List ℕ
line_of names sig files e = text_of_event names sig (quoted_file files) e ++ codes "\n"

-- the line as far as its bytes count: without the name of a file and its quotes
abbrev pub counted_line : List (List ℕ) → Signature → Event → List ℕ
counted_line names sig e = text_of_event names sig no_file e ++ codes "\n"

abbrev pub bytes_of_line : List (List ℕ) → Signature → Event → ℕ
bytes_of_line names sig e = length (counted_line names sig e)
