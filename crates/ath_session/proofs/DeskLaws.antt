-- What is done of a move, after some items of it and then the rest.
use Rattle.std.proofs.Common.{◌≡◌, ℕ, Bool, true, false, ◌||◌, List, [], ◌∷◌, ◌++◌, length, map, take, Option, Some, None, Result, Ok, Err, refl, sym, ◌∙◌, ap, subst, arith, append_assoc, nat_lt, if◌then◌else◌}
use Rattle.std.proofs.lemmas.List.{append-nil}
use Rattle.std.proofs.lemmas.List.Folds.{list_any-append}
use Rattle.std.proofs.lemmas.Bool.Decides.{nat_tests}
use Rattle.std.proofs.Math.Bool.{or-false}
use Rattle.ath_io.specs.declared.shelf.FetchError.{FetchError}
use Rattle.ath_io.specs.declared.shelf.FetchError.TheVariants.{Failed}
use Rattle.ath_io.specs.declared.shelf.FetchError.TheVariants.{Memory as NoMemory}
use Rattle.ath_io.specs.Shelf.{Texts, with_asked, front_of, after_fetch, IsFetched}
use Rattle.std.specs.Result.{is_err}
use Rattle.ath_io.specs.Sink.{Held, with_put, with_puts, Puts}
use Rattle.ath_syntax.specs.declared.place.Pos.{Pos}
use Rattle.ath_terms.specs.Trees.{Trees}
use Rattle.ath_print.specs.Events as events
use Rattle.ath_print.specs.Stands.{event_of, refusal_of}
use Rattle.ath_print.specs.declared.event.Event.{Event as Told}
use Rattle.ath_print.specs.declared.fault.Fault.{Fault}
use Rattle.ath_print.specs.declared.fault.FaultKind.{FaultKind}
use Rattle.ath_print.specs.declared.fault.FaultKind.TheVariants.{FileTooLong}
use Rattle.ath_eval.specs.declared.world.World.{World}
use Rattle.ath_eval.specs.Outcomes.{refusal}
use Rattle.ath_print.specs.Lines.{line_of}
use Rattle.ath_session.specs.declared.status.Status.{Status}
use Rattle.ath_session.specs.declared.status.Status.TheVariants.{Clean, Errors, Usage, Fuel, SourceFault, SinkFault, Memory}
use Rattle.ath_session.specs.declared.desk.Flow.{Flow}
use Rattle.ath_session.specs.declared.desk.Flow.TheVariants.{On, End}
use Rattle.ath_reader.specs.declared.limits.TheConstants.{MOST_BYTES}
use Rattle.ath_session.specs.declared.limits.TheConstants.{MOST_ASKED}
use Rattle.ath_session.specs.Said.{line_said}
use Rattle.ath_session.specs.Run.{Item, asks, tells, Configuration, Move, goes, halts, items_of, Halt, out_of_fuel, said, reading_of, fetched, asking}
use Rattle.ath_session.specs.Report.{names_in, lines_in, is_error, has_error}
use Rattle.ath_session.specs.Ends.{Outside, after_items, after_part}
use Rattle.ath_session.specs.Steps.{Ended, Did, IsOpened}

pub asked_none : (t : Option Texts) → with_asked t [] ≡ t
asked_none None = refl
asked_none (Some t) = ap (λ (names : List (List ℕ)). Some (record { texts = t.texts; asked = names })) (append-nil t.asked)

asked_more : (t : Option Texts) (xs ys : List (List ℕ)) → with_asked (with_asked t xs) ys ≡ with_asked t (xs ++ ys)
asked_more None xs ys = refl
asked_more (Some t) xs ys = ap (λ (names : List (List ℕ)). Some (record { texts = t.texts; asked = names })) (append_assoc t.asked xs ys)

puts_more : (h : Option Held) (xs ys : List (List ℕ)) → with_puts (with_puts h xs) ys ≡ with_puts h (xs ++ ys)
puts_more h [] ys = refl
puts_more h (x ∷ xs) ys = puts_more (with_put h x) xs ys

names_more : (xs ys : List Item) → names_in (xs ++ ys) ≡ names_in xs ++ names_in ys
names_more [] ys = refl
names_more (asks name ∷ xs) ys = ap (λ (names : List (List ℕ)). name ∷ names) (names_more xs ys)
names_more (tells s ∷ xs) ys = names_more xs ys

pub lines_more : (xs ys : List Item) → lines_in (xs ++ ys) ≡ lines_in xs ++ lines_in ys
lines_more [] ys = refl
lines_more (asks name ∷ xs) ys = lines_more xs ys
lines_more (tells s ∷ xs) ys = ap (λ (lines : List (List ℕ)). line_said s ∷ lines) (lines_more xs ys)

errors_more : (b : Bool) (xs ys : List Item) → ((b || has_error xs) || has_error ys) ≡ (b || has_error (xs ++ ys))
errors_more true xs ys = refl
errors_more false xs ys = sym (list_any-append is_error xs ys)

-- nothing is done of no items
pub no_items : (o : Outside) → after_items o [] ≡ o
no_items o = ap (λ (t : Option Texts). record { shelf = t; sink = o.sink }) (asked_none o.shelf)

pub items_more : (o : Outside) (xs ys : List Item) → after_items (after_items o xs) ys ≡ after_items o (xs ++ ys)
items_more o xs ys = rw (names_more xs ys, lines_more xs ys) (rw (asked_more o.shelf (names_in xs) (names_in ys), puts_more o.sink (lines_in xs) (lines_in ys)) refl)

pub part_more : (o : Outside) (xs ys : List Item) (front : List ℕ) → after_part (after_items o xs) ys front ≡ after_part o (xs ++ ys) front
part_more o xs ys front = rw (names_more xs ys, lines_more xs ys) (rw (asked_more o.shelf (names_in xs) (names_in ys), puts_more o.sink (lines_in xs) (lines_in ys)) refl)

-- items before a move's own
abbrev pub put_before : List Item → Move → Move
put_before xs (goes items c) = goes (xs ++ items) c
put_before xs (halts items h) = halts (xs ++ items) h

-- of a move that goes on, the first items are done, and then this much of the rest
module _ (xs ys : List Item) (d : Configuration) (before middle after : Bool) (c : Configuration) (o o' o'' : Outside) (said_errors : middle ≡ (before || has_error xs)) (done : o' ≡ after_items o xs) where
  on : Did (goes ys d) On middle after c o' o'' → Did (goes (xs ++ ys) d) On before after c o o''
  on (items, (same, errors, all)) = (
    xs ++ items,
    (
      ap (put_before xs) same,
      errors ∙ ap (λ (b : Bool). b || has_error items) said_errors ∙ errors_more before xs items,
      all ∙ ap (λ (w : Outside). after_items w items) done ∙ items_more o xs items,
    ),
  )

  split : (front more : List Item) → ys ≡ front ++ more → xs ++ ys ≡ (xs ++ front) ++ more
  split front more e = ap (λ (zs : List Item). xs ++ zs) e ∙ sym (append_assoc xs front more)

  ended : (status : Status) → (status ≡ SourceFault → ⊥) → Ended (goes ys d) status middle o' o'' → Ended (goes (xs ++ ys) d) status before o o''
  ended Clean other (same, errors, all) = absurd (cc)
  ended Errors other (same, errors, all) = absurd (cc)
  ended Fuel other (items, (same, all)) = absurd (cc)
  ended SourceFault other h = absurd (other refl)
  ended SinkFault other (front, more, s, count, (same, all)) =
      (xs ++ front, more, s, count, (split front (tells s ∷ more) same, all ∙ ap (λ (w : Outside). after_part w front (take count (line_said s))) done ∙ part_more o xs front (take count (line_said s))))
  ended Memory other (front, more, (same, all)) =
      (xs ++ front, more, (split front more same, all ∙ ap (λ (w : Outside). after_items w front) done ∙ items_more o xs front))
  ended Usage other h = h

  pub behind : (flow : Flow) → (flow ≡ End SourceFault → ⊥) → Did (goes ys d) flow middle after c o' o'' → Did (goes (xs ++ ys) d) flow before after c o o''
  behind On other h = on h
  behind (End status) other h = ended status (λ e. other (ap End e)) h

-- where a run ends within some items, it ends within them and more
module _ (xs ys : List Item) (c d : Configuration) (before after : Bool) (e : Configuration) (o o' : Outside) where
  pub ends_within : (status : Status) → Did (goes xs c) (End status) before after e o o' → Ended (goes (xs ++ ys) d) status before o o'
  ends_within Clean (same, errors, all) = absurd (cc)
  ends_within Errors (same, errors, all) = absurd (cc)
  ends_within Fuel (items, (same, all)) = absurd (cc)
  ends_within SourceFault (name, more, (same, all)) = (name, more ++ ys, (ap (λ (zs : List Item). zs ++ ys) same, all))
  ends_within SinkFault (front, more, s, count, (same, all)) = (front, more ++ ys, s, count, (ap (λ (zs : List Item). zs ++ ys) same ∙ append_assoc front (tells s ∷ more) ys, all))
  ends_within Memory (front, more, (same, all)) = (front, more ++ ys, (ap (λ (zs : List Item). zs ++ ys) same ∙ append_assoc front more ys, all))
  ends_within Usage h = h

-- the same where all of them end a run
module _ (xs : List Item) (c : Configuration) (h : Halt) (before after : Bool) (e : Configuration) (o o' : Outside) where
  pub ends_before_halt : (status : Status) → Did (goes xs c) (End status) before after e o o' → Ended (halts xs h) status before o o'
  ends_before_halt Clean (same, errors, all) = absurd (cc)
  ends_before_halt Errors (same, errors, all) = absurd (cc)
  ends_before_halt Fuel (items, (same, all)) = absurd (cc)
  ends_before_halt SourceFault h = h
  ends_before_halt SinkFault h = h
  ends_before_halt Memory h = h
  ends_before_halt Usage h = h

  pub out_after : Did (goes xs c) On before after e o o' → Ended (halts xs out_of_fuel) Fuel before o o'
  out_after (items, (same, errors, all)) = (xs, (refl, all ∙ ap (λ (m : Move). after_items o (items_of m)) (sym same)))

-- one line is put, or a front of it
module _ (c : Configuration) (e : events.Event) (told : Option Texts) (sink sink' : Option Held) (bytes : List ℕ) (is : bytes ≡ line_of c.state.names c.state.signature c.files e) where
  pub line_failed : (before : Bool) (count : ℕ) → sink' ≡ with_put sink (take count bytes) → Ended (goes (said c e ∷ []) c) SinkFault before (record { shelf = told; sink = sink }) (record { shelf = told; sink = sink' })
  line_failed before count put = (
    [],
    [],
    record { event = e; names = c.state.names; signature = c.state.signature; files = c.files },
    count,
    (refl, ap (λ (k : Option Held). record { shelf = told; sink = k }) (put ∙ ap (λ (bs : List ℕ). with_put sink (take count bs)) is) ∙ ap (λ (t : Option Texts). record { shelf = t; sink = with_put sink (take count (line_of c.state.names c.state.signature c.files e)) }) (sym (asked_none told))),
  )

  pub line_told : (before after : Bool) → after ≡ (before || has_error (said c e ∷ [])) → sink' ≡ with_put sink bytes → Did (goes (said c e ∷ []) c) On before after c (record { shelf = told; sink = sink }) (record { shelf = told; sink = sink' })
  line_told before after errors put = (
    said c e ∷ [],
    (
      refl,
      errors,
      ap (λ (k : Option Held). record { shelf = told; sink = k }) (put ∙ ap (with_put sink) is) ∙ ap (λ (t : Option Texts). record { shelf = t; sink = with_put sink (line_of c.state.names c.state.signature c.files e) }) (sym (asked_none told)),
    ),
  )

  pub error_before : (before after : Bool) → before ≡ true → after ≡ true → after ≡ (before || has_error (said c e ∷ []))
  error_before before after h g = g ∙ sym (ap (λ (b : Bool). b || has_error (said c e ∷ [])) h)

  pub error_now : (before after : Bool) → before ≡ false → after ≡ events.is_refused e → after ≡ (before || has_error (said c e ∷ []))
  error_now before after h g = g ∙ sym (or-false (events.is_refused e)) ∙ sym (ap (λ (b : Bool). b || has_error (said c e ∷ [])) h)

pub put_whole : {E : Type 0} (before after : Option Held) (bytes : List ℕ) (r : Result (Unit {0}) E) → Puts before bytes r after → is_err r ≡ false → after ≡ with_put before bytes
put_whole before after bytes (Ok u) h e = h
put_whole before after bytes (Err x) h e = absurd (cc)

pub put_failed : {E : Type 0} (before after : Option Held) (bytes : List ℕ) (r : Result (Unit {0}) E) → Puts before bytes r after → is_err r ≡ true → (count : ℕ) × (after ≡ with_put before (take count bytes))
put_failed before after bytes (Ok u) h e = absurd (cc)
put_failed before after bytes (Err x) h e = h

-- a line over a world and names that are these
pub line_there : (w v : World) (files files' : List (List ℕ)) (e : Told) (bytes : List ℕ) → v ≡ w → files' ≡ files → bytes ≡ line_of v.names v.sig files' (event_of v.store e) → bytes ≡ line_of w.names w.sig files (event_of w.store e)
line_there w v files files' e bytes same are is = is ∙ ap (λ (u : World). line_of u.names u.sig files' (event_of u.store e)) same ∙ ap (λ (fs : List (List ℕ)). line_of w.names w.sig fs (event_of w.store e)) are

pub plain_is : (s : Trees) (f : Fault) (kind : FaultKind) → f.kind ≡ kind → f.args ≡ [] → refusal_of s f ≡ refusal kind []
plain_is s f kind k none = rw (k, none) refl

-- the events of a reply are the one refusal of such a fault
pub refusal_is : (s u : Trees) (at : Pos) (f : Fault) (kind : FaultKind) (es told : List Told) → es ≡ told → map (event_of u) told ≡ events.refused at (refusal_of s f) ∷ [] → f.kind ≡ kind → f.args ≡ [] → map (event_of u) es ≡ events.refused at (refusal kind []) ∷ []
refusal_is s u at f kind es told same is k none = ap (map (event_of u)) same ∙ is ∙ ap (λ (why : events.Refusal). events.refused at why ∷ []) (plain_is s f kind k none)

-- a text is asked for
module _ (texts : List (List ℕ × List ℕ)) (c : Configuration) (at : Pos) (name : List ℕ) where
  opened_asks : (text : List ℕ) (long : Bool) → (more : List Item) × (items_of (if long then goes (asks name ∷ said (record c { files = c.files ++ name ∷ [] }) (events.refused at (refusal FileTooLong [])) ∷ []) (record c { files = c.files ++ name ∷ [] }) else goes (asks name ∷ []) (record c { files = c.files ++ name ∷ []; stack = reading_of (length c.files) text ∷ c.stack })) ≡ asks name ∷ more)
  opened_asks text true = (said (record c { files = c.files ++ name ∷ [] }) (events.refused at (refusal FileTooLong [])) ∷ [], refl)
  opened_asks text false = ([], refl)

  fetched_asks : (found : Option (List ℕ)) → (more : List Item) × (items_of (fetched c at name found) ≡ asks name ∷ more)
  fetched_asks None = ([], refl)
  fetched_asks (Some text) = opened_asks text (nat_lt MOST_BYTES (length text))

  pub asking_asks : (more : List Item) × (items_of (asking texts c at name) ≡ asks name ∷ more)
  asking_asks = fetched_asks (front_of texts name MOST_ASKED)

  pub source_failed : (before : Bool) (told told' : Option Texts) (sink : Option Held) → told' ≡ with_asked told (name ∷ []) → Ended (asking texts c at name) SourceFault before (record { shelf = told; sink = sink }) (record { shelf = told'; sink = sink })
  source_failed before told told' sink e = (name, asking_asks.0, (asking_asks.1, ap (λ (t : Option Texts). record { shelf = t; sink = sink }) e))

  pub not_opened : (before : Bool) (told told' : Option Texts) (sink : Option Held) → told' ≡ with_asked told (name ∷ []) → Ended (asking texts c at name) Memory before (record { shelf = told; sink = sink }) (record { shelf = told'; sink = sink })
  not_opened before told told' sink e = (asks name ∷ [], asking_asks.0, (asking_asks.1, ap (λ (t : Option Texts). record { shelf = t; sink = sink }) e))

  module _ (text : List ℕ) (found : front_of texts name MOST_ASKED ≡ Some text) (d : Configuration) where
    short : IsOpened c name text true d → asking texts c at name ≡ goes (asks name ∷ []) d
    short (fits, is) =
        let e : nat_lt MOST_BYTES (length text) ≡ false = grind (arith, nat_tests) in
        ap (fetched c at name) found ∙ rw e (rw is refl)

    long : IsOpened c name text false d → asking texts c at name ≡ goes (asks name ∷ said d (events.refused at (refusal FileTooLong [])) ∷ []) d
    long (over, is) =
        let e : nat_lt MOST_BYTES (length text) ≡ true = grind (arith, nat_tests) in
        ap (fetched c at name) found ∙ rw e (rw is refl)

    module _ (before after : Bool) (told told' : Option Texts) (sink sink' : Option Held) (asked : told' ≡ with_asked told (name ∷ [])) where
      pub is_open : IsOpened c name text true d → after ≡ before → Did (asking texts c at name) On before after d (record { shelf = told; sink = sink }) (record { shelf = told'; sink = sink })
      is_open h kept = (asks name ∷ [], (short h, kept ∙ sym (or-false before), ap (λ (t : Option Texts). record { shelf = t; sink = sink }) asked))

      pub is_too_long : IsOpened c name text false d → (flow : Flow) (middle : Bool) (e : Configuration) → middle ≡ before → (flow ≡ End SourceFault → ⊥) → Did (goes (said d (events.refused at (refusal FileTooLong [])) ∷ []) d) flow middle after e (record { shelf = told'; sink = sink }) (record { shelf = told'; sink = sink' }) → Did (asking texts c at name) flow before after e (record { shelf = told; sink = sink }) (record { shelf = told'; sink = sink' })
      is_too_long h flow middle e kept other rest =
          subst (λ (m : Move). Did m flow before after e (record { shelf = told; sink = sink }) (record { shelf = told'; sink = sink' })) (sym (long h))
          (behind (asks name ∷ []) (said d (events.refused at (refusal FileTooLong [])) ∷ []) d before middle after e (record { shelf = told; sink = sink }) (record { shelf = told'; sink = sink }) (record { shelf = told'; sink = sink' }) (kept ∙ sym (or-false before)) (ap (λ (t : Option Texts). record { shelf = t; sink = sink }) asked) flow other rest)

pub nothing_asked : (m : Move) (before : Bool) (told told' : Option Texts) (sink : Option Held) → told' ≡ told → Ended m Memory before (record { shelf = told; sink = sink }) (record { shelf = told'; sink = sink })
nothing_asked m before told told' sink e = ([], items_of m, (refl, ap (λ (t : Option Texts). record { shelf = t; sink = sink }) e ∙ sym (no_items (record { shelf = told; sink = sink }))))

-- what a fetch that failed asked for
module _ (T : Type 0) (told told' : Option Texts) (name : List ℕ) where
  pub asked_failed : (e : FetchError) → told' ≡ after_fetch {T = T} told name (Err e) → e ≡ Failed → told' ≡ with_asked told (name ∷ [])
  asked_failed Failed h e = h
  asked_failed NoMemory h e = absurd (cc)

  pub asked_nothing : (e : FetchError) → told' ≡ after_fetch {T = T} told name (Err e) → e ≡ NoMemory → told' ≡ told
  asked_nothing Failed h e = absurd (cc)
  asked_nothing NoMemory h e = h

pub fetched_is : (told : Option Texts) (t : Texts) (name : List ℕ) (most : ℕ) (bytes : List ℕ) → told ≡ Some t → IsFetched told name most bytes → front_of t.texts name most ≡ Some bytes
fetched_is told t name most bytes e h = subst (λ (o : Option Texts). IsFetched o name most bytes) e h
