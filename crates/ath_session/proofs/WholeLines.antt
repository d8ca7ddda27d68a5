-- What a run tells may be believed: its tables of names grow, and its lines are lines, since no name has an LF.
use Rattle.std.proofs.Common.{◌≡◌, ℕ, Bool, true, false, nat_lt, List, [], ◌∷◌, ◌++◌, length, Option, Some, None, Result, Ok, Err, refl, sym, subst, if◌then◌else◌}
use Rattle.std.specs.List.{AllByRecursion}
use Rattle.ath_io.specs.Shelf.{front_of}
use Rattle.std.specs.Str.{bytes_eq}
use Rattle.std.specs.List.{IsDistinct}
use Rattle.ath_names.specs.Names.{KeepsNames}
use Rattle.ath_names.proofs.NamesLaws.{KeepsNames-refl, KeepsNames-trans}
use Rattle.ath_words.specs.Words.{Asked}
use Rattle.ath_sorts.specs.declared.signature.Flaw.{Flaw}
use Rattle.ath_sorts.specs.Signature.{Signature}
use Rattle.ath_declarations.specs.Declarations as after
use Rattle.ath_syntax.specs.declared.place.Pos.{Pos}
use Rattle.ath_syntax.specs.Tree.{Statement, domain_is, datatype_is, declare_is, define_is, define_fun_is, assert_is, load_is, phrase_is, DirectiveTree, directive_at}
use Rattle.ath_trees.specs.Tree.{Sent}
use Rattle.ath_construction.specs.Construction.{Built, builds, refuses}
use Rattle.ath_env.specs.Values.{sentence_of}
use Rattle.ath_print.specs.declared.fault.FaultKind.TheVariants.{FileTooLong, TooManyLoads}
use Rattle.ath_print.specs.Events as events
use Rattle.ath_reader.specs.Reading.{Reading, reached, Front}
use Rattle.ath_reader.specs.Ahead.{names_past}
use Rattle.ath_reader.specs.Next as reading
use Rattle.ath_eval.specs.Outcomes.{refusal, Outcome, gives, concludes, fails, exhausts}
use Rattle.ath_eval.specs.Evaluation.{outcome_of}
use Rattle.ath_syntax.specs.Places.{place}
use Rattle.ath_session.specs.State.{State, context, environment, left, with_left, with_names}
use Rattle.ath_session.specs.Unbuilt.{unbuilt_in}
use Rattle.ath_session.specs.Directives.{Continuation, goes_on, loads, ends, Effect, declaring, to_assert, asserting, asserting_sentence, asserting_built, showing, done, unless_unbuilt, effect}
use Rattle.ath_reader.specs.declared.limits.TheConstants.{MOST_BYTES}
use Rattle.ath_session.specs.declared.limits.TheConstants.{MOST_ASKED, MOST_LOADS}
use Rattle.ath_session.proofs.LimitLaws.{limited_either}
use Rattle.ath_session.specs.Run.{Item, asks, tells, Configuration, Halt, Move, goes, halts, reading_of, opened, fetched, asking, beginning_of, next_file, tell_all, following, place_of, turned, IsTurn, Runs, at_start, one_more, said}
use Rattle.ath_session.specs.Report.{said_in, start, IsLogOf}
use Rattle.ath_session.specs.Believed.{IsLine, AreNamed}
use Rattle.ath_session.proofs.PlainLines.{line_whole}
use Rattle.ath_session.proofs.PlainNames.{Comes, past_comes, first_comes}

abbrev Texts : Type 0
Texts = List (List ℕ × List ℕ)

-- items told one after the other, from a table of names to another
abbrev Whole : List (List ℕ) → List Item → List (List ℕ) → Type 0
Whole names [] last = KeepsNames names last
Whole names (asks name ∷ items) last = Whole names items last
Whole names (tells s ∷ items) last = KeepsNames names s.names × IsDistinct bytes_eq s.names × IsLine s × Whole s.names items last

whole_behind : (first names : List (List ℕ)) (items : List Item) (last : List (List ℕ)) → KeepsNames first names → Whole names items last → Whole first items last
whole_behind first names [] last g h = KeepsNames-trans g h
whole_behind first names (asks name ∷ items) last g h = whole_behind first names items last g h
whole_behind first names (tells s ∷ items) last g h = (KeepsNames-trans g h.0, h.1, h.2, h.3)

whole_append : (first : List (List ℕ)) (items more : List Item) (names last : List (List ℕ)) → Whole first items names → Whole names more last → Whole first (items ++ more) last
whole_append first [] more names last h k = whole_behind first names more last h k
whole_append first (asks name ∷ items) more names last h k = whole_append first items more names last h k
whole_append first (tells s ∷ items) more names last h k = (h.0, h.1, h.2, whole_append s.names items more names last h.3 k)

whole_named : (names : List (List ℕ)) (items : List Item) (last : List (List ℕ)) → Whole names items last → AreNamed names (said_in items)
whole_named names [] last h = tt
whole_named names (asks name ∷ items) last h = whole_named names items last h
whole_named names (tells s ∷ items) last h = (h.0, h.1, whole_named s.names items last h.3)

whole_lines : (names : List (List ℕ)) (items : List Item) (last : List (List ℕ)) → Whole names items last → AllByRecursion IsLine (said_in items)
whole_lines names [] last h = tt
whole_lines names (asks name ∷ items) last h = whole_lines names items last h
whole_lines names (tells s ∷ items) last h = (h.2, whole_lines s.names items last h.3)

-- ---- a directive keeps the names
abbrev HasNames : List (List ℕ) → Effect → Type 0
HasNames names e = e.state.names ≡ names

declaring_names : (st : State) (at : Pos) (x : events.Event) (o : Result Signature Flaw) → HasNames st.names (declaring st at x o)
declaring_names st at x (Ok sig) = refl
declaring_names st at x (Err e) = refl

built_names : (st : State) (at : Pos) (b : Built Sent) → HasNames st.names (asserting_built st at b)
built_names st at (builds p) = refl
built_names st at (refuses why) = refl

sentence_names : (st : State) (closed : Bool) (at : Pos) (o : Option Sent) → HasNames st.names (asserting_sentence st closed at o)
sentence_names st closed at (Some p) = built_names st at (to_assert closed p)
sentence_names st closed at None = refl

asserting_names : (st : State) (closed : Bool) (at : Pos) (o : Outcome) → HasNames st.names (asserting st closed at o)
asserting_names st closed at (gives v after) = sentence_names (with_left st after) closed at (sentence_of v)
asserting_names st closed at (concludes p after) = sentence_names (with_left st after) closed at (Some p)
asserting_names st closed at (fails inner why after) = refl
asserting_names st closed at (exhausts inner made) = refl

showing_names : (st : State) (o : Outcome) → HasNames st.names (showing st o)
showing_names st (gives v after) = refl
showing_names st (concludes p after) = refl
showing_names st (fails at why after) = refl
showing_names st (exhausts at made) = refl

done_names : (st : State) (at : Pos) (s : Statement) → HasNames st.names (done st at s)
done_names st at (declare_is ns params args result) = declaring_names st at (events.symbols_added ns) (after.declared st.signature ns params args result)
done_names st at (assert_is n closed x) = asserting_names st closed (place x) (outcome_of (context st) (environment st) x (left st))
done_names st at (load_is name) = refl
done_names st at (phrase_is x) = showing_names st (outcome_of (context st) (environment st) x (left st))
done_names st at (domain_is n vs) = declaring_names st at (events.domain_added n) (after.domain_declared st.signature n vs)
done_names st at (datatype_is n vs cs) = refl
done_names st at (define_is n x) = refl
done_names st at (define_fun_is f xs x) = refl

unless_names : (st : State) (at : Pos) (s : Statement) (o : Option Pos) → HasNames st.names (unless_unbuilt st at s o)
unless_names st at s (Some inner) = refl
unless_names st at s None = done_names st at s

effect_names : (st : State) (d : DirectiveTree) → HasNames st.names (effect st d)
effect_names st (directive_at at s) = limited_either (HasNames st.names) st at (unless_unbuilt st at s (unbuilt_in st.names at s)) refl (unless_names st at s (unbuilt_in st.names at s))

-- ---- one move
abbrev GoesWhole : List (List ℕ) → Move → Type 0
GoesWhole first (goes items c) = Whole first items c.state.names × Comes [] c.state.names
GoesWhole first (halts items h) = (last : List (List ℕ)) × Whole first items last

-- items that are told with the names of a configuration
module _ (c : Configuration) (k : Comes [] c.state.names) where
  here : Whole c.state.names [] c.state.names
  here = KeepsNames-refl c.state.names

  said_whole : (e : events.Event) (items : List Item) → Whole c.state.names items c.state.names → Whole c.state.names (said c e ∷ items) c.state.names
  said_whole e items h = (here, k.distinct, line_whole c.state.names c.state.signature c.files k.plain e, h)

  told_whole : (es : List events.Event) → Whole c.state.names (tell_all c es) c.state.names
  told_whole [] = here
  told_whole (e ∷ es) = said_whole e (tell_all c es) (told_whole es)

abbrev with_file : Configuration → List ℕ → Configuration
with_file c name = record c { files = c.files ++ name ∷ [] }

opened_whole : (c : Configuration) → Comes [] c.state.names → (at : Pos) (name text : List ℕ) → GoesWhole c.state.names (opened c at name text)
opened_whole c k at name text = go (nat_lt MOST_BYTES (length text))
  where
    go : (b : Bool) → GoesWhole c.state.names (if b then goes (asks name ∷ said (with_file c name) (events.refused at (refusal FileTooLong [])) ∷ []) (with_file c name) else goes (asks name ∷ []) (record (with_file c name) { stack = reading_of (length c.files) text ∷ c.stack }))
    go true = (said_whole (with_file c name) k (events.refused at (refusal FileTooLong [])) [] (here c k), k)
    go false = (here c k, k)

fetched_whole : (c : Configuration) → Comes [] c.state.names → (at : Pos) (name : List ℕ) (found : Option (List ℕ)) → GoesWhole c.state.names (fetched c at name found)
fetched_whole c k at name None = (c.state.names, here c k)
fetched_whole c k at name (Some text) = opened_whole c k at name text

asking_whole : (texts : Texts) (c : Configuration) → Comes [] c.state.names → (at : Pos) (name : List ℕ) → GoesWhole c.state.names (asking texts c at name)
asking_whole texts c k at name = fetched_whole c k at name (front_of texts name MOST_ASKED)

file_whole : (texts : Texts) (c : Configuration) → Comes [] c.state.names → (names : List (List ℕ)) → GoesWhole c.state.names (next_file texts c names)
file_whole texts c k [] = (c.state.names, here c k)
file_whole texts c k (name ∷ names) = asking_whole texts (record c { waiting = names }) k (beginning_of (length c.files)) name

following_whole : (texts : Texts) (c : Configuration) → Comes [] c.state.names → (outer : ℕ) (at : Pos) (es : List events.Event) (next : Continuation) → GoesWhole c.state.names (following texts c outer at es next)
following_whole texts c k outer at es goes_on = (told_whole c k es, k)
following_whole texts c k outer at es ends = (c.state.names, told_whole c k es)
following_whole texts c k outer at es (loads name) = go (nat_lt outer MOST_LOADS)
  where
    go : (b : Bool) → GoesWhole c.state.names (if b then asking texts c at name else goes (said c (events.refused at (refusal TooManyLoads [])) ∷ []) c)
    go true = asking_whole texts c k at name
    go false = (said_whole c k (events.refused at (refusal TooManyLoads [])) [] (here c k), k)

-- a move from a table that has grown is one from the table before
move_behind : (first names : List (List ℕ)) → KeepsNames first names → (m : Move) → GoesWhole names m → GoesWhole first m
move_behind first names g (goes items c) h = (whole_behind first names items c.state.names g h.0, h.1)
move_behind first names g (halts items halt) h = (h.0, whole_behind first names items h.0 g h.1)

-- the names behind a front of a text, and what was looked at behind it
front_comes : (first names : List (List ℕ)) (r : Reading) (from : ℕ) (f : Front r names from) (after : List (List ℕ)) → Comes first names → after ≡ names_past f.next f.known → Comes first after
front_comes first names r from f after h e = subst (Comes first) (sym e) (past_comes r.file r.text first names from f.tokens f.known f.to f.next h f.read f.comes)

-- from a table to one that has come from it
both_come : (first names : List (List ℕ)) → ((from : List (List ℕ)) → Comes from first → Comes from names) → Comes [] first → KeepsNames first names × Comes [] names
both_come first names on k = ((on first (record { grows = KeepsNames-refl first; distinct = k.distinct; plain = k.plain })).grows, on [] k)

turned_whole : (texts : Texts) (c : Configuration) → Comes [] c.state.names → (r : Reading) (rs : List Reading) (from : ℕ) (n : reading.Upcoming) → reading.IsNext r c.state.names from n → GoesWhole c.state.names (turned texts c r rs n)
turned_whole texts c k r rs from (reading.whole d to known) next =
    let e = effect (with_names known c.state) d in
    let both = both_come c.state.names known (λ first h. front_comes first c.state.names r from next.front known h next.after) k in
    let same = effect_names (with_names known c.state) d in
    let after : Configuration = record c { stack = record r { progress = reached to } ∷ rs; state = e.state } in
    move_behind c.state.names e.state.names (subst (KeepsNames c.state.names) (sym same) both.0) (following texts after (length rs) (place_of d) e.events e.next)
    (following_whole texts after (subst (Comes []) (sym same) both.1) (length rs) (place_of d) e.events e.next)
turned_whole texts c k r rs from reading.ended next = (here c k, k)
turned_whole texts c k r rs from (reading.stopped e known) next =
    let both = both_come c.state.names known (λ first h. front_comes first c.state.names r from next.front known h next.after) k in
    let after : Configuration = record c { stack = rs; state = with_names known c.state } in
    (whole_behind c.state.names known (said after _ ∷ []) known both.0 (said_whole after both.1 _ [] (here after both.1)), both.1)

turn_whole : (texts : Texts) (c : Configuration) → Comes [] c.state.names → (stack : List Reading) (m : Move) → IsTurn texts c stack m → GoesWhole c.state.names m
turn_whole texts c k [] m t = subst (GoesWhole c.state.names) (sym t) (file_whole texts c k c.waiting)
turn_whole texts c k (r ∷ rs) m t = subst (GoesWhole c.state.names) (sym t.2) (turned_whole texts c k r rs (reading.byte_reached r.progress) t.0 t.1)

-- ---- a run
run_whole : (texts : Texts) (run : Asked) {items : List Item} {c : Configuration} → Runs texts (start run) items c → Whole [] items c.state.names × Comes [] c.state.names
run_whole texts run at_start = (first_comes.grows, first_comes)
run_whole texts run (one_more {done} {c} {d} items runs m) =
    let before = run_whole texts run runs in
    let now : GoesWhole c.state.names (goes items d) = turn_whole texts c before.1 c.stack (goes items d) m in
    (whole_append [] done items c.state.names d.state.names before.0 now.0, now.1)

log_whole : (texts : Texts) (run : Asked) (log : List Item) (h : Halt) → IsLogOf texts (start run) log h → (last : List (List ℕ)) × Whole [] log last
log_whole texts run log h l =
    let before = run_whole texts run l.runs in
    let now : GoesWhole l.final.state.names (halts l.last h) = turn_whole texts l.final before.1 l.final.stack (halts l.last h) l.over in
    (now.0, subst (λ (items : List Item). Whole [] items now.0) (sym l.all) (whole_append [] l.done l.last l.final.state.names now.0 before.0 now.1))

pub log_named : (texts : Texts) (run : Asked) (log : List Item) (h : Halt) → IsLogOf texts (start run) log h → AreNamed [] (said_in log)
log_named texts run log h l = let w = log_whole texts run log h l in whole_named [] log w.0 w.1

pub log_lines : (texts : Texts) (run : Asked) (log : List Item) (h : Halt) → IsLogOf texts (start run) log h → AllByRecursion IsLine (said_in log)
log_lines texts run log h l = let w = log_whole texts run log h l in whole_lines [] log w.0 w.1
