-- What clap makes of the words is the run that they spell.
use Rattle.std.proofs.Common.{◌≡◌, ◌∙◌, ◌∷◌, ◌++◌, ℕ, Bool, true, false, List, [], codes, Option, Some, None, refl, sym, ap, ap₂, subst, is_some, option_map, append_assoc, append-nil, IsUtf8, cond, map, String, string_bytes, true≢false, inl, inr, ◌⊎◌, ◌==◌}
use Rattle.std.specs.Prelude.{fold, option_and_then}
use Rattle.std.specs.Str.{bytes_eq}
use Rattle.std.proofs.lemmas.Str.{IsUtf8-string_bytes}
use Rattle.std.proofs.Math.Bool.{and-false}
use Rattle.std.proofs.lemmas.Bool.{cases_Bool, eqb-true, or_right}
use Rattle.clap.specs.Walk.{finished, settled, with_default, Held, Walk, Row, Text, Waiting, idle, option, positional, has_row, is_pending, used, walked}
use Rattle.clap.specs.Simple.{App, is_simple, built, entered, matches_of}
use Rattle.clap.specs.Kinds.{HasKind, Kinds, or_else}
use Rattle.clap.specs.Values.{kind_of}
use Rattle.clap.specs.declared.error.Error.{Error}
use Rattle.clap.specs.declared.error.kind.ErrorKind.TheVariants.{OutOfMemory}
use Rattle.clap.specs.Faults.{is_simple_and_free, check_fault, defaults_fault, entered_fault, settle_fault, fault_of, walk_fault, flags_fault, other_fault, turn_fault, use_fault}
use Rattle.ath_words.specs.Command.{athena, said_by_rows}
use Rattle.ath_words.specs.Words.{run_of, fuel_of, is_file, Asked, Choices, any, number, asked_by, said_by, with_file}
use Rattle.ath_words.proofs.Command.{athena_is_simple, Pending, HasFault, answer, answer_from, at, held, fault_with, file_rule, fuel_rule, goes_on, rows_with, rules, stops, top}
use Rattle.ath_words.proofs.Rows.{Has, has_file, has_fuel}
use Rattle.ath_words.proofs.WordKinds.{IsRefused, NamesFile, Unread, WordKind, ends, file, fuel_is, fuel_next, long, refused, short, word_kind}

abbrev fuel_id : Text
fuel_id = codes "fuel"

abbrev file_id : Text
file_id = codes "file"

-- no option waits for a value
abbrev IsFree : Waiting → Type 0
IsFree (option id) = ⊥
IsFree _ = Unit {0}

-- the words are texts
abbrev AreTexts : List Text → Type 0
AreTexts [] = Unit {0}
AreTexts (word ∷ words) = IsUtf8 word × AreTexts words

-- ---- one word

first_fault : (kinds others : Kinds) → HasFault kinds → HasFault (or_else kinds others)
first_fault [] others bad = absurd bad
first_fault (kind ∷ kinds) others bad = tt

module _ (rows : List Row) (p : Pending) where
  end_fault : (w : Waiting) → turn_fault top [] (at rows p w false) (codes "--") ≡ []
  end_fault idle = refl
  end_fault (option id) = refl
  end_fault positional = refl

  end_next : (w : Waiting) → walked rules [] (at rows p w false) (codes "--") ≡ at rows p w true
  unfolding walked
  end_next idle = refl
  end_next (option id) = refl
  end_next positional = refl

  next_fault : (w : Waiting) → turn_fault top [] (at rows p w false) (codes "--fuel") ≡ or_else (fault_with rows p) []
  next_fault idle = refl
  next_fault (option id) = refl
  next_fault positional = refl

  next_next : (w : Waiting) → walked rules [] (at rows p w false) (codes "--fuel") ≡ at (rows_with rows p) (Some (fuel_id, [])) (option fuel_id) false
  unfolding walked
  next_next idle = refl
  next_next (option id) = refl
  next_next positional = refl

  joined_fault : (w : Waiting) (text : Text) → turn_fault top [] (at rows p w false) (codes "--fuel=" ++ text)
      ≡ or_else (or_else (fault_with rows p) (use_fault false fuel_rule (text ∷ []) (rows_with rows p))) []
  joined_fault idle text = refl
  joined_fault (option id) text = refl
  joined_fault positional text = refl

  joined_next : (w : Waiting) (text : Text) → walked rules [] (at rows p w false) (codes "--fuel=" ++ text) ≡ at (used fuel_rule (text ∷ []) (rows_with rows p)) None idle false
  unfolding walked
  joined_next idle text = refl
  joined_next (option id) text = refl
  joined_next positional text = refl

  unread_fault : (word : Text) → bytes_eq word (codes "--") ≡ false → Unread word → HasFault (other_fault top None word (held rows p))
  unfolding flags_fault
  unread_fault word no_end (long name value is_long none) = rw (no_end, is_long, none) tt
  unread_fault word no_end (short b x bs no_long is_short first) = rw (no_end, no_long, is_short, first) tt

  refused_fault : (w : Waiting) (word : Text) → IsRefused word → HasFault (turn_fault top [] (at rows p w false) word)
  refused_fault idle word h = first_fault _ _ (unread_fault word h.end h.unread)
  refused_fault (option id) word h = first_fault _ _ (unread_fault word h.end h.unread)
  refused_fault positional word h = first_fault _ _ (unread_fault word h.end h.unread)

  file_fault : (w : Waiting) (word : Text) → IsFree w → NamesFile word → turn_fault top [] (at rows p w false) word ≡ fault_with rows p
  file_fault idle word free h = rw (h.end, h.long, h.short, and-false (is_pending file_rule p)) refl
  file_fault (option id) word free h = absurd free
  file_fault positional word free h = rw (h.end, h.long, h.short, and-false (is_pending file_rule p)) refl

  file_next : (w : Waiting) (word : Text) → IsFree w → NamesFile word
      → walked rules [] (at rows p w false) word ≡ at (rows_with rows p) (Some (file_id, word ∷ [])) positional false
  unfolding walked
  file_next idle word free h = rw (h.end, h.long, h.short, and-false (is_pending file_rule p)) refl
  file_next (option id) word free h = absurd free
  file_next positional word free h = rw (h.end, h.long, h.short, and-false (is_pending file_rule p)) refl

  trailing_fault : (w : Waiting) (word : Text) → turn_fault top [] (at rows p w true) word ≡ fault_with rows p
  trailing_fault w word = rw (and-false (is_pending file_rule p)) refl

  trailing_next : (w : Waiting) (word : Text) → walked rules [] (at rows p w true) word ≡ at (rows_with rows p) (Some (file_id, word ∷ [])) positional true
  unfolding walked
  trailing_next w word = rw (and-false (is_pending file_rule p)) refl

-- a word that is the number of a `--fuel`
number_fault : (rows : List Row) (word : Text) → NamesFile word → turn_fault top [] (at rows (Some (fuel_id, [])) (option fuel_id) false) word ≡ []
number_fault rows word h = rw (h.end, h.long, h.short) refl

number_next : (rows : List Row) (word : Text) → NamesFile word
    → walked rules [] (at rows (Some (fuel_id, [])) (option fuel_id) false) word ≡ at rows (Some (fuel_id, word ∷ [])) idle false
unfolding walked
number_next rows word h = rw (h.end, h.long, h.short) refl

-- ---- ends

answer_of_fault : (kinds : Kinds) (rows : List Row) → HasFault kinds → answer kinds rows ≡ None
answer_of_fault [] rows bad = absurd bad
answer_of_fault (kind ∷ kinds) rows bad = refl

answer_of_rows : (rows : List Row) (given : Option Text) (files : List Text) → Has rows given files → answer [] rows ≡ asked_by (given, files)
answer_of_rows rows given files h = ap₂ (λ (g : Option Text) (fs : List Text). asked_by (g, fs)) h.first h.files

module _ (rows : List Row) (p : Pending) where
  at_end : (w : Waiting) (trailing : Bool) → answer_from (at rows p w trailing) [] ≡ answer (fault_with rows p) (rows_with rows p)
  unfolding walk_fault
  at_end w trailing = refl

  -- what is pending is at fault
  module _ (bad : HasFault (fault_with rows p)) where
    lost_after_end : (w : Waiting) (words : List Text) → answer_from (at rows p w true) words ≡ None
    lost_after_end w [] = at_end w true ∙ answer_of_fault (fault_with rows p) (rows_with rows p) bad
    lost_after_end w (word ∷ words) = stops _ word words (subst HasFault (sym (trailing_fault rows p w word)) bad)

    lost_by : (w : Waiting) (word : Text) (words : List Text) → (NamesFile word → answer_from (at rows p w false) (word ∷ words) ≡ None) → WordKind word
        → answer_from (at rows p w false) (word ∷ words) ≡ None
    lost_by w word words on_file (ends is) = subst (λ (x : Text). answer_from (at rows p w false) (x ∷ words) ≡ None) (sym is)
        (goes_on _ _ (codes "--") words (end_fault rows p w) (end_next rows p w) ∙ lost_after_end w words)
    lost_by w word words on_file (fuel_next is) = subst (λ (x : Text). answer_from (at rows p w false) (x ∷ words) ≡ None) (sym is)
        (stops _ (codes "--fuel") words (subst HasFault (sym (next_fault rows p w)) (first_fault _ [] bad)))
    lost_by w word words on_file (fuel_is text is) = subst (λ (x : Text). answer_from (at rows p w false) (x ∷ words) ≡ None) (sym is)
        (stops _ (codes "--fuel=" ++ text) words (subst HasFault (sym (joined_fault rows p w text)) (first_fault _ [] (first_fault _ _ bad))))
    lost_by w word words on_file (refused h) = stops _ word words (refused_fault rows p w word h)
    lost_by w word words on_file (file h) = on_file h

    lost : (w : Waiting) (words : List Text) → IsFree w → AreTexts words → answer_from (at rows p w false) words ≡ None
    lost w [] free texts = at_end w false ∙ answer_of_fault (fault_with rows p) (rows_with rows p) bad
    lost w (word ∷ words) free texts =
        lost_by w word words (λ h. stops _ word words (subst HasFault (sym (file_fault rows p w word free h)) bad)) (word_kind word texts.0)

-- ---- `--fuel` twice

used_again : (rows : List Row) (text : Text) → has_row fuel_id rows ≡ true → HasFault (use_fault false fuel_rule (text ∷ []) rows)
used_again rows text there = rw there tt

first_use : (rows : List Row) (text : Text) → has_row fuel_id rows ≡ false → use_fault false fuel_rule (text ∷ []) rows ≡ []
first_use rows text none = rw none refl

fuel_twice : (rows : List Row) (words : List Text) → has_row fuel_id rows ≡ true → AreTexts words
    → answer_from (at rows (Some (fuel_id, [])) (option fuel_id) false) words ≡ None
fuel_twice rows [] there texts = at_end rows (Some (fuel_id, [])) (option fuel_id) false
fuel_twice rows (word ∷ words) there texts = lost_by rows (Some (fuel_id, [])) tt (option fuel_id) word words (λ h.
    goes_on _ _ word words (number_fault rows word h) (number_next rows word h)
    ∙ lost rows (Some (fuel_id, word ∷ [])) (used_again rows word there) idle words tt texts.1) (word_kind word texts.0)

-- ---- what the words say, after others

abbrev before : List Text → Choices → Choices
before files said = (said.0, files ++ said.1)

abbrev run_after : List Text → Option Choices → Option Asked
run_after files said = option_and_then asked_by (option_map (before files) said)

run_with_file : (files : List Text) (name : Text) (said : Option Choices) → run_after (files ++ name ∷ []) said ≡ run_after files (option_map (with_file name) said)
run_with_file files name None = refl
run_with_file files name (Some said) = ap (λ (fs : List Text). asked_by (said.0, fs)) (append_assoc files (name ∷ []) said.1)

-- a number that is none

pub no_run : (given : Option Text) (files : List Text) → fuel_of given ≡ None → asked_by (given, files) ≡ None
no_run given [] none = refl
no_run given (name ∷ files) none = ap (option_map (λ n. record { fuel = n; files = name ∷ files })) none

no_number : (text : Text) (words files : List Text) → fuel_of (Some text) ≡ None → run_after files (said_by any (Some text) words) ≡ None
no_number text [] files none = no_run (Some text) (files ++ []) none
no_number text (word ∷ words) files none = by (cases_Bool (bytes_eq word (codes "--"))) (cases_Bool (is_file word))
    (sym (run_with_file files word (said_by any (Some text) words)) ∙ no_number text words (files ++ word ∷ []) none)
  where
    by : (bytes_eq word (codes "--") ≡ true) ⊎ (bytes_eq word (codes "--") ≡ false) → (is_file word ≡ true) ⊎ (is_file word ≡ false)
        → run_after files (option_map (with_file word) (said_by any (Some text) words)) ≡ None → run_after files (said_by any (Some text) (word ∷ words)) ≡ None
    by (inl end) is_name rest = rw end (no_run (Some text) (files ++ words) none)
    by (inr other) (inl is) rest = rw (other, is) rest
    by (inr other) (inr unnamed) rest = rw (other, unnamed) refl

dash_no_number : (word : Text) → is_file word ≡ false → fuel_of (Some word) ≡ None
dash_no_number [] e = absurd (true≢false e)
dash_no_number (b ∷ bs) e = by (cases_Bool (b == 45))
  where
    by : ((b == 45) ≡ true) ⊎ ((b == 45) ≡ false) → fuel_of (Some (b ∷ bs)) ≡ None
    by (inl is) = subst (λ (x : ℕ). fuel_of (Some (x ∷ bs)) ≡ None) (sym (eqb-true b 45 is)) refl
    by (inr other) = absurd (true≢false (rw other at e))

-- ---- the walk

-- where a walk stands after words that gave this text to `--fuel`, or none, and named these files
pub record Stands (rows : List Row) (p : Pending) (given : Option Text) (named : List Text) : Type 0 where
  pub whole : fault_with rows p ≡ []
  pub has : Has (rows_with rows p) given named

run_at_end : (rows : List Row) (p : Pending) (w : Waiting) (trailing : Bool) (given : Option Text) (files : List Text) → Stands rows p given files
    → answer_from (at rows p w trailing) [] ≡ asked_by (given, files ++ [])
run_at_end rows p w trailing given files h = at_end rows p w trailing ∙ ap (λ kinds. answer kinds (rows_with rows p)) h.whole
    ∙ answer_of_rows (rows_with rows p) given files h.has ∙ ap (λ (fs : List Text). asked_by (given, fs)) (sym (append-nil files))

with_file_standing : (rows : List Row) (p : Pending) (given : Option Text) (files : List Text) (word : Text) → Stands rows p given files
    → Stands (rows_with rows p) (Some (file_id, word ∷ [])) given (files ++ word ∷ [])
with_file_standing rows p given files word h = record { whole = refl; has = has_file word (rows_with rows p) given files h.has }

-- after `--`
run_of_files : (words : List Text) (rows : List Row) (p : Pending) (w : Waiting) (given : Option Text) (files : List Text) → Stands rows p given files
    → answer_from (at rows p w true) words ≡ asked_by (given, files ++ words)
run_of_files [] rows p w given files h = run_at_end rows p w true given files h
run_of_files (word ∷ words) rows p w given files h =
    goes_on _ _ word words (trailing_fault rows p w word ∙ h.whole) (trailing_next rows p w word)
    ∙ run_of_files words (rows_with rows p) (Some (file_id, word ∷ [])) positional given (files ++ word ∷ []) (with_file_standing rows p given files word h)
    ∙ ap (λ (fs : List Text). asked_by (given, fs)) (append_assoc files (word ∷ []) words)

-- before any `--`
abbrev RunsOn : List Text → Type 0
RunsOn words = (rows : List Row) (p : Pending) (w : Waiting) (given : Option Text) (files : List Text) → IsFree w → Stands rows p given files
    → answer_from (at rows p w false) words ≡ run_after files (said_by any given words)

-- after `--fuel`
abbrev RunsOnNumber : List Text → Type 0
RunsOnNumber words = (rows : List Row) (files : List Text) → Has rows None files
    → answer_from (at rows (Some (fuel_id, [])) (option fuel_id) false) words ≡ run_after files (said_by number None words)

module _ (words : List Text) (texts : AreTexts words) (on : RunsOn words) (on_number : RunsOnNumber words) where
  on_file : (word : Text) → NamesFile word → RunsOn (word ∷ words)
  on_file word name rows p w given files free h =
      goes_on _ _ word words (file_fault rows p w word free name ∙ h.whole) (file_next rows p w word free name)
      ∙ on (rows_with rows p) (Some (file_id, word ∷ [])) positional given (files ++ word ∷ []) tt (with_file_standing rows p given files word h)
      ∙ run_with_file files word (said_by any given words)
      ∙ rw (name.end, name.file) refl

  on_end : RunsOn (codes "--" ∷ words)
  on_end rows p w given files free h =
      goes_on _ _ (codes "--") words (end_fault rows p w) (end_next rows p w) ∙ run_of_files words rows p w given files h

  on_fuel : RunsOn (codes "--fuel" ∷ words)
  on_fuel rows p w given files free h =
      goes_on _ _ (codes "--fuel") words (next_fault rows p w ∙ ap (λ kinds. or_else kinds []) h.whole) (next_next rows p w) ∙ by given h.has
    where
      by : (given : Option Text) → Has (rows_with rows p) given files
          → answer_from (at (rows_with rows p) (Some (fuel_id, [])) (option fuel_id) false) words ≡ run_after files (said_by any given (codes "--fuel" ∷ words))
      by None has = on_number (rows_with rows p) files has
      by (Some text) has = fuel_twice (rows_with rows p) words has.is_there texts

  on_joined : (text : Text) → RunsOn ((codes "--fuel=" ++ text) ∷ words)
  on_joined text rows p w None files free h =
      goes_on _ _ (codes "--fuel=" ++ text) words
      (joined_fault rows p w text ∙ ap (λ kinds. or_else (or_else kinds (use_fault false fuel_rule (text ∷ []) (rows_with rows p))) []) h.whole
      ∙ ap (λ kinds. or_else kinds []) (first_use (rows_with rows p) text h.has.is_there)) (joined_next rows p w text)
      ∙ on (used fuel_rule (text ∷ []) (rows_with rows p)) None idle (Some text) files tt (record { whole = refl; has = has_fuel text (rows_with rows p) files h.has })
  on_joined text rows p w (Some given) files free h =
      stops _ (codes "--fuel=" ++ text) words (subst HasFault (sym (joined_fault rows p w text))
      (first_fault _ [] (subst (λ kinds. HasFault (or_else kinds (use_fault false fuel_rule (text ∷ []) (rows_with rows p)))) (sym h.whole)
      (used_again (rows_with rows p) text h.has.is_there))))

  on_refused : (word : Text) → IsRefused word → RunsOn (word ∷ words)
  on_refused word bad rows p w given files free h = stops _ word words (refused_fault rows p w word bad) ∙ sym (by given)
    where
      by : (given : Option Text) → run_after files (said_by any given (word ∷ words)) ≡ None
      by None = rw (bad.end, bad.file, bad.fuel, bad.joined) refl
      by (Some text) = rw (bad.end, bad.file) refl

  on_word : (word : Text) → WordKind word → RunsOn (word ∷ words)
  on_word word (ends is) = subst (λ (x : Text). RunsOn (x ∷ words)) (sym is) on_end
  on_word word (fuel_next is) = subst (λ (x : Text). RunsOn (x ∷ words)) (sym is) on_fuel
  on_word word (fuel_is text is) = subst (λ (x : Text). RunsOn (x ∷ words)) (sym is) (on_joined text)
  on_word word (refused bad) = on_refused word bad
  on_word word (file name) = on_file word name

  on_number_word : (word : Text) → WordKind word → RunsOnNumber (word ∷ words)
  on_number_word word kind rows files has =
      by kind (λ h. goes_on _ _ word words (number_fault rows word h) (number_next rows word h)
      ∙ on rows (Some (fuel_id, word ∷ [])) idle (Some word) files tt (record { whole = first_use rows word has.is_there; has = has_fuel word rows files has }))
    where
      lost_number : (e : is_file word ≡ false) → (NamesFile word → answer_from (at rows (Some (fuel_id, [])) (option fuel_id) false) (word ∷ words) ≡ None)
          → answer_from (at rows (Some (fuel_id, [])) (option fuel_id) false) (word ∷ words) ≡ run_after files (said_by any (Some word) words)
      lost_number e on_name = lost_by rows (Some (fuel_id, [])) tt (option fuel_id) word words on_name kind ∙ sym (no_number word words files (dash_no_number word e))

      unnamed : is_file word ≡ false → NamesFile word → answer_from (at rows (Some (fuel_id, [])) (option fuel_id) false) (word ∷ words) ≡ None
      unnamed e h = absurd (true≢false (sym h.file ∙ e))

      by : WordKind word → (NamesFile word → answer_from (at rows (Some (fuel_id, [])) (option fuel_id) false) (word ∷ words) ≡ run_after files (said_by any (Some word) words))
          → answer_from (at rows (Some (fuel_id, [])) (option fuel_id) false) (word ∷ words) ≡ run_after files (said_by any (Some word) words)
      by (ends is) on_name = let e : is_file word ≡ false = ap is_file is in lost_number e (unnamed e)
      by (fuel_next is) on_name = let e : is_file word ≡ false = ap is_file is in lost_number e (unnamed e)
      by (fuel_is text is) on_name = let e : is_file word ≡ false = ap is_file is in lost_number e (unnamed e)
      by (refused bad) on_name = lost_number bad.file (unnamed bad.file)
      by (file name) on_name = on_name name

runs_on : (words : List Text) → AreTexts words → RunsOn words × RunsOnNumber words
runs_on [] texts = (λ rows p w given files free h. run_at_end rows p w false given files h, λ rows files has. at_end rows (Some (fuel_id, [])) (option fuel_id) false)
runs_on (word ∷ words) texts =
    let later = runs_on words texts.1 in
    let kind = word_kind word texts.0 in
    (on_word words texts.1 later.0 later.1 word kind, on_number_word words texts.1 later.0 later.1 word kind)

-- ---- the run

no_rows : Has [] None []
no_rows = record { first = refl; is_there = refl; files = refl }

run_after_none : (said : Option Choices) → run_after [] said ≡ option_and_then asked_by said
run_after_none None = refl
run_after_none (Some said) = refl

pub answer_is : (words : List Text) → AreTexts words → answer_from (at [] None idle false) words ≡ run_of words
answer_is words texts =
    (runs_on words texts).0 [] None idle None [] tt (record { whole = refl; has = no_rows }) ∙ run_after_none (said_by any None words)

-- ---- the answer, as clap's clauses have it

or_else_none : (kinds : Kinds) → or_else kinds [] ≡ kinds
or_else_none [] = refl
or_else_none (kind ∷ kinds) = refl

kept : (rows : List Row) (b : Bool) → cond b rows rows ≡ rows
kept rows true = refl
kept rows false = refl

-- no argument has a default
finished_is : (h : Held) → finished rules h ≡ (settled rules h).rows
finished_is h = ap (λ rows. with_default rows file_rule) (kept (settled rules h).rows (has_row fuel_id (settled rules h).rows))
    ∙ kept (settled rules h).rows (has_row file_id (settled rules h).rows)

no_default_fault : (rows : List Row) → defaults_fault rows rules ≡ []
unfolding defaults_fault
no_default_fault rows = rw (or_right (has_row fuel_id rows) true refl) (rw (or_right (has_row file_id (with_default rows fuel_rule)) true refl) refl)

-- nothing is checked after the walk
no_check_fault : (rows : List Row) (below : Bool) → check_fault top rows below ≡ []
no_check_fault rows true = refl
no_check_fault rows false = refl

-- there is no subcommand
no_subcommand : (stop : Option (Text × List Text)) → entered_fault (built athena) stop ≡ []
no_subcommand None = refl
no_subcommand (Some stop) = refl

pub answer_at : (words : List Text) → AreTexts words → answer (fault_of athena words) (matches_of athena words) ≡ run_of words
answer_at words texts =
    ap₂ answer (fault_is (walk_fault top [] (at [] None idle false) words) end) (finished_is end.held) ∙ answer_is words texts
  where
    end : Walk
    end = fold (walked rules []) (at [] None idle false) words

    fault_is : (kinds : Kinds) (end : Walk) → or_else kinds (or_else (entered_fault (built athena) end.stopped)
        (or_else (settle_fault rules false end.held) (or_else (defaults_fault (settled rules end.held).rows rules)
        (check_fault top (finished rules end.held) (is_some (entered (built athena) end.stopped))))))
        ≡ or_else kinds (settle_fault rules false end.held)
    fault_is kinds end = rw (
      no_subcommand end.stopped,
      no_default_fault (settled rules end.held).rows,
      no_check_fault (finished rules end.held) (is_some (entered (built athena) end.stopped)),
      or_else_none (settle_fault rules false end.held),
    ) refl

pub run_when_ok : (a : App) (words : List Text) (rows : List Row) → a ≡ athena → AreTexts words → fault_of a words ≡ [] → rows ≡ matches_of a words
    → asked_by (said_by_rows rows) ≡ run_of words
run_when_ok a words rows is texts none same =
    ap₂ answer (sym none) same ∙ ap (λ (b : App). answer (fault_of b words) (matches_of b words)) is ∙ answer_at words texts

pub no_run_when_err : (a : App) (words : List Text) (e : Error) → a ≡ athena → AreTexts words → HasKind (fault_of a words) e → (kind_of e ≡ OutOfMemory → ⊥)
    → None ≡ run_of words
no_run_when_err a words e is texts kinds other =
    sym (answer_of_fault (fault_of a words) (matches_of a words) (by (fault_of a words) kinds))
    ∙ ap (λ (b : App). answer (fault_of b words) (matches_of b words)) is ∙ answer_at words texts
  where
    by : (kinds : Kinds) → HasKind kinds e → HasFault kinds
    by [] (inl memory) = other memory
    by [] (inr among) = among
    by (kind ∷ kinds) h = tt

pub texts_of : {Z : Type 0} (strings : List (String Z)) → AreTexts (map string_bytes strings)
texts_of [] = tt
texts_of (s ∷ ss) = (IsUtf8-string_bytes s, texts_of ss)

pub free_when_athena : (a : App) → a ≡ athena → is_simple_and_free a ≡ true
free_when_athena a is = ap is_simple_and_free is ∙ athena_is_simple

pub simple_when_athena : (a : App) → a ≡ athena → is_simple a ≡ true
simple_when_athena a is = ap is_simple is
