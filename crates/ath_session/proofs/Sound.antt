-- What a directive keeps; and each theorem of a run has a derivation.
use Rattle.std.proofs.Common.{◌≡◌, ◌⊎◌, ℕ, ◌≤◌, Bool, true, false, true≢false, ◌||◌, nat_lt, List, [], ◌∷◌, ◌++◌, length, Option, Some, None, Result, Ok, Err, refl, sym, subst, inl, inr, le_refl, zero-le, if◌then◌else◌}
use Rattle.std.specs.List.{list_any}
use Rattle.ath_io.specs.Shelf.{front_of}
use Rattle.ath_words.specs.Words.{Asked, run_of}
use Rattle.ath_sorts.specs.declared.sorts.Sym.{Sym}
use Rattle.std.specs.Prelude.{IfSome}
use Rattle.ath_sorts.specs.declared.signature.Flaw.{Flaw}
use Rattle.ath_sorts.specs.Signature.{Signature}
use Rattle.ath_sorts.proofs.ValidityLaws.{initial_valid}
use Rattle.ath_sorts.specs.Validity.{AreDistinct, IsValid}
use Rattle.ath_syntax.specs.declared.node.SortText.{SortText}
use Rattle.ath_declarations.specs.Declarations as after
use Rattle.ath_declarations.proofs.Keeping.{domain_keeps, symbols_keep, domain_valid, symbols_valid}
use Rattle.ath_terms.specs.declared.fresh.Fresh.{Fresh}
use Rattle.ath_syntax.specs.declared.place.Pos.{Pos}
use Rattle.ath_syntax.specs.Tree.{Phrase, Statement, domain_is, datatype_is, declare_is, define_is, define_fun_is, assert_is, load_is, phrase_is, DirectiveTree, directive_at}
use Rattle.ath_trees.specs.Tree.{Sent}
use Rattle.ath_trees.specs.WellSorted.{IsWellSorted}
use Rattle.ath_calculus.specs.Derives.{Derives, axiom_of, IsAmong}
use Rattle.ath_calculus.specs.Laws.{Extends}
use Rattle.ath_calculus.specs.Theory.{Theory, theory_of}
use Rattle.ath_calculus.proofs.Grown.{well_sorted}
use Rattle.ath_construction.specs.Construction.{Built, builds, refuses}
use Rattle.ath_construction.proofs.SortedLaws.{closure-sorted}
use Rattle.ath_env.specs.Values.{Value, sentence_of}
use Rattle.ath_print.specs.declared.fault.FaultKind.TheVariants.{FileTooLong, TooManyLoads}
use Rattle.ath_print.specs.Events.{Refusal, Event, domain_added, symbols_added, asserted, proved, shown, refused, exhausted, is_refused, is_exhausted}
use Rattle.ath_print.specs.Events as events
use Rattle.ath_reader.specs.Reading.{Reading, reached}
use Rattle.ath_reader.specs.Next as reading
use Rattle.ath_base.specs.declared.entry.Origin.TheVariants.{Asserted, Concluded}
use Rattle.ath_base.specs.Base.{sentences}
use Rattle.ath_eval.specs.Outcomes.{Left, left_of, refusal, Outcome, gives, concludes, fails, exhausts}
use Rattle.ath_eval.specs.Evaluation.{most_nested, outcome_of}
use Rattle.ath_syntax.specs.Places.{place}
use Rattle.ath_eval.specs.Laws.{ConclusionsFollow, IsSortedValue, ValuesAreSorted}
use Rattle.ath_eval.specs.Laws.{Spends, FuelNeverRises as NeverRises}
use Rattle.ath_eval.proofs.Kept.{extends_of}
use Rattle.ath_eval.proofs.Sound.{base_grown, base_joined, sentence-sorted}
use Rattle.ath_grammar.proofs.TypedTable.{StatementDiffers, DirectiveDiffers}
use Rattle.ath_session.proofs.Differ.{whole_differs}
use Rattle.ath_session.specs.State.{State, first_state, context, environment, left, with_left, with_signature, with_names, joining}
use Rattle.ath_session.specs.Unbuilt.{unbuilt_in}
use Rattle.ath_session.specs.Directives.{Continuation, goes_on, loads, ends, Effect, telling, declaring, to_assert, asserting, asserting_sentence, asserting_built, ending, showing, refusing, loading, done, unless_unbuilt, effect}
use Rattle.ath_session.specs.Run.{Item, asks, tells, Configuration, Halt, Move, goes, halts, reading_of, opened, fetched, asking, beginning_of, next_file, tell_all, following, place_of, turned, IsTurn, Runs, at_start, one_more, said}
use Rattle.ath_reader.specs.declared.limits.TheConstants.{MOST_BYTES}
use Rattle.ath_session.specs.declared.limits.TheConstants.{MOST_ASKED, MOST_LOADS}
use Rattle.ath_session.proofs.LimitLaws.{limited_either}
use Rattle.ath_session.specs.Report.{Report, said_in, start, IsLogOf, IsReportOf}
use Rattle.ath_session.specs.Sound.{IsSoundFor}
use Rattle.ath_session.specs.Theorems.{asserted_after, IsJustified, AreJustified}
use Rattle.ath_session.specs.Believed.{AreBelieved}
use Rattle.ath_session.proofs.WholeLines.{log_named, log_lines}
use Rattle.ath_session.specs.Laws.{EachReportIsBelieved, IsSameButLeft, RefusedLeavesState, FuelNeverRises, ExhaustedKeepsState}

abbrev Texts : Type 0
Texts = List (List ℕ × List ℕ)

-- ---- what a directive keeps
record Kept (st : State) (e : Effect) : Type 0 where
  refusal : list_any is_refused e.events ≡ true → IsSameButLeft st e.state × ((x : Event) × (e.events ≡ x ∷ []))
  exhaustion : list_any is_exhausted e.events ≡ true → IsSameButLeft st e.state × (e.state.fuel ≡ 0) × (e.next ≡ ends) × ((at : Pos) × (e.events ≡ exhausted at ∷ []))

not-either : (b : Bool) → b ≡ false → (b || false) ≡ true → ⊥
not-either true e f = true≢false e
not-either false e f = true≢false (sym f)

told-kept : (st new : State) (x : Event) → is_refused x ≡ false → is_exhausted x ≡ false → Kept st (telling new x)
told-kept st new x e f = record {
  refusal = λ g. absurd (not-either (is_refused x) e g);
  exhaustion = λ g. absurd (not-either (is_exhausted x) f g);
}

refusing-kept : (st : State) (after : Left) (at : Pos) (why : Refusal) → Kept st (refusing (with_left st after) at why)
refusing-kept st after at why = record {
  refusal = λ g. (refl, (refused at why, refl));
  exhaustion = λ g. absurd (true≢false (sym g));
}

refused-kept : (st : State) (at : Pos) (why : Refusal) → Kept st (refusing st at why)
refused-kept st at why = refusing-kept st (left st) at why

ending-kept : (st : State) (at : Pos) (made : Fresh) → Kept st (ending st at made)
ending-kept st at made = record {
  refusal = λ g. absurd (true≢false (sym g));
  exhaustion = λ g. (refl, refl, refl, (at, refl));
}

declaring-kept : (st : State) (at : Pos) (x : Event) → is_refused x ≡ false → is_exhausted x ≡ false → (o : Result Signature Flaw) → Kept st (declaring st at x o)
declaring-kept st at x e f (Ok sig) = told-kept st (with_signature st sig) x e f
declaring-kept st at x e f (Err err) = refused-kept st at _

built-kept : (st : State) (after : Left) (at : Pos) (b : Built Sent) → Kept st (asserting_built (with_left st after) at b)
built-kept st after at (builds p) = told-kept st (joining (with_left st after) Asserted p) (asserted p) refl refl
built-kept st after at (refuses why) = refusing-kept st after at _

sentence-kept : (st : State) (after : Left) (closed : Bool) (at : Pos) (o : Option Sent) → Kept st (asserting_sentence (with_left st after) closed at o)
sentence-kept st after closed at (Some p) = built-kept st after at (to_assert closed p)
sentence-kept st after closed at None = refusing-kept st after at _

asserting-kept : (st : State) (closed : Bool) (at : Pos) (o : Outcome) → Kept st (asserting st closed at o)
asserting-kept st closed at (gives v after) = sentence-kept st after closed at (sentence_of v)
asserting-kept st closed at (concludes p after) = sentence-kept st after closed at (Some p)
asserting-kept st closed at (fails inner why after) = refusing-kept st after inner why
asserting-kept st closed at (exhausts inner made) = ending-kept st inner made

showing-kept : (st : State) (o : Outcome) → Kept st (showing st o)
showing-kept st (gives v after) = told-kept st (with_left st after) (shown v) refl refl
showing-kept st (concludes p after) = told-kept st (joining (with_left st after) Concluded p) (proved p) refl refl
showing-kept st (fails at why after) = refusing-kept st after at why
showing-kept st (exhausts at made) = ending-kept st at made

loading-kept : (st : State) (name : List ℕ) → Kept st (loading st name)
loading-kept st name = record { refusal = λ g. absurd (true≢false (sym g)); exhaustion = λ g. absurd (true≢false (sym g)) }

done-kept : (st : State) (at : Pos) (s : Statement) → Kept st (done st at s)
done-kept st at (declare_is ns params args result) = declaring-kept st at (symbols_added ns) refl refl (after.declared st.signature ns params args result)
done-kept st at (assert_is n closed x) = asserting-kept st closed (place x) (outcome_of (context st) (environment st) x (left st))
done-kept st at (load_is name) = loading-kept st name
done-kept st at (phrase_is x) = showing-kept st (outcome_of (context st) (environment st) x (left st))
done-kept st at (domain_is n vs) = declaring-kept st at (domain_added n) refl refl (after.domain_declared st.signature n vs)
done-kept st at (datatype_is n vs cs) = refused-kept st at _
done-kept st at (define_is n x) = refused-kept st at _
done-kept st at (define_fun_is f xs x) = refused-kept st at _

unless-kept : (st : State) (at : Pos) (s : Statement) (o : Option Pos) → Kept st (unless_unbuilt st at s o)
unless-kept st at s (Some inner) = refused-kept st inner _
unless-kept st at s None = done-kept st at s

effect-kept : (st : State) (d : DirectiveTree) → Kept st (effect st d)
effect-kept st (directive_at at s) = limited_either (Kept st) st at (unless_unbuilt st at s (unbuilt_in st.names at s)) (refusing-kept st _ at _) (unless-kept st at s (unbuilt_in st.names at s))

pub refused_leaves_state : RefusedLeavesState
refused_leaves_state = λ st d. (effect-kept st d).refusal

pub exhausted_keeps_state : ExhaustedKeepsState
exhausted_keeps_state = λ st d. (effect-kept st d).exhaustion

-- ---- fuel and counters
abbrev Moved : State → State → Type 0
Moved st new = (new.fuel ≤ st.fuel) × (st.fresh.var ≤ new.fresh.var) × (st.fresh.sort ≤ new.fresh.sort)

not-moved : (st : State) → Moved st st
not-moved st = (le_refl st.fuel, le_refl st.fresh.var, le_refl st.fresh.sort)

declaring-moved : (st : State) (at : Pos) (x : Event) (o : Result Signature Flaw) → Moved st (declaring st at x o).state
declaring-moved st at x (Ok sig) = not-moved st
declaring-moved st at x (Err e) = not-moved st

built-moved : (st new : State) → Moved st new → (at : Pos) (b : Built Sent) → Moved st (asserting_built new at b).state
built-moved st new h at (builds p) = h
built-moved st new h at (refuses why) = h

sentence-moved : (st new : State) → Moved st new → (closed : Bool) (at : Pos) (o : Option Sent) → Moved st (asserting_sentence new closed at o).state
sentence-moved st new h closed at (Some p) = built-moved st new h at (to_assert closed p)
sentence-moved st new h closed at None = h

asserting-moved : (st : State) (closed : Bool) (at : Pos) (o : Outcome) → Spends (left st) o → Moved st (asserting st closed at o).state
asserting-moved st closed at (gives v after) h = sentence-moved st (with_left st after) h closed at (sentence_of v)
asserting-moved st closed at (concludes p after) h = sentence-moved st (with_left st after) h closed at (Some p)
asserting-moved st closed at (fails inner why after) h = h
asserting-moved st closed at (exhausts inner made) h = (zero-le, h.0, h.1)

showing-moved : (st : State) (o : Outcome) → Spends (left st) o → Moved st (showing st o).state
showing-moved st (gives v after) h = h
showing-moved st (concludes p after) h = h
showing-moved st (fails at why after) h = h
showing-moved st (exhausts at made) h = (zero-le, h.0, h.1)

module _ (never : NeverRises) where
  done-moved : (st : State) (at : Pos) (s : Statement) → Moved st (done st at s).state
  done-moved st at (declare_is ns params args result) = declaring-moved st at (symbols_added ns) (after.declared st.signature ns params args result)
  done-moved st at (assert_is n closed x) = asserting-moved st closed (place x) (outcome_of (context st) (environment st) x (left st)) (never (context st) (environment st) most_nested x (left st))
  done-moved st at (load_is name) = not-moved st
  done-moved st at (phrase_is x) = showing-moved st (outcome_of (context st) (environment st) x (left st)) (never (context st) (environment st) most_nested x (left st))
  done-moved st at (domain_is n vs) = declaring-moved st at (domain_added n) (after.domain_declared st.signature n vs)
  done-moved st at (datatype_is n vs cs) = not-moved st
  done-moved st at (define_is n x) = not-moved st
  done-moved st at (define_fun_is f xs x) = not-moved st

  unless-moved : (st : State) (at : Pos) (s : Statement) (o : Option Pos) → Moved st (unless_unbuilt st at s o).state
  unless-moved st at s (Some inner) = not-moved st
  unless-moved st at s None = done-moved st at s

  effect-moved : (st : State) (d : DirectiveTree) → Moved st (effect st d).state
  effect-moved st (directive_at at s) =
      let h = unless-moved st at s (unbuilt_in st.names at s) in
      limited_either (λ e. Moved st e.state) st at (unless_unbuilt st at s (unbuilt_in st.names at s)) h h

  pub fuel_never_rises : FuelNeverRises
  fuel_never_rises = λ st d. effect-moved st d

-- ---- one directive, by what holds between a state and the asserted sentences
-- the events are justified, each by what is declared after them all, and it holds after them
abbrev pub Tells : Signature → List Sent → List Event → State → Type 0
Tells sig ps [] st = IsSoundFor ps st
Tells sig ps (e ∷ es) st = IsJustified sig ps e × Tells sig (asserted_after ps e) es st

-- the name of a file is all that a load gives
abbrev pub Does : List Sent → List Event → State → Continuation → Type 0
Does ps es st goes_on = Tells st.signature ps es st
Does ps es st ends = Tells st.signature ps es st
Does ps es st (loads name) = IsSoundFor ps st

abbrev pub DoesAll : List Sent → Effect → Type 0
DoesAll ps e = Does ps e.events e.state e.next

-- ---- one directive
in-append : (p : Sent) (some others : List Sent) → IsAmong p some → IsAmong p (some ++ others)
in-append p [] others h = absurd h
in-append p (q ∷ some) others h = go h (in-append p some others)
  where
    go : (p ≡ q) ⊎ IsAmong p some → (IsAmong p some → IsAmong p (some ++ others)) → (p ≡ q) ⊎ IsAmong p (some ++ others)
    go (inl e) rec = inl e
    go (inr i) rec = inr (rec i)

is-last : (p : Sent) (some : List Sent) → IsAmong p (some ++ p ∷ [])
is-last p [] = inl refl
is-last p (q ∷ some) = inr (is-last p some)

extends-refl : (th : Theory) → Extends th th
extends-refl th = record { sorts = λ c n e. e; symbols = λ f d e. e; datatypes = λ d i. i }

declare-does : (ps : List Sent) (st : State) → IsSoundFor ps st → (at : Pos) (x : Event) → ((sig : Signature) → IsJustified sig ps x) → asserted_after ps x ≡ ps → (o : Result Signature Flaw) → ((sig : Signature) → o ≡ Ok sig → Extends (theory_of st.signature) (theory_of sig) × IsValid sig) → DoesAll ps (declaring st at x o)
declare-does ps st sound at x just same (Ok sig) grown =
    let g = grown sig refl in
    (just sig, subst (λ (qs : List Sent). IsSoundFor qs (with_signature st sig)) (sym same) (record { valid = g.1; has_boolean = g.0.sorts (record { 0 = 0 }) 0 sound.has_boolean; base = base_grown (theory_of st.signature) (theory_of sig) ps ps [] (sentences st.base) g.0 (λ q i. i) sound.base }))
declare-does ps st sound at x just same (Err e) grown = (tt, sound)

-- what is asserted of a well-sorted sentence is well-sorted
assert-sorted : (sig : Signature) (closed : Bool) (p q : Sent) → IsWellSorted sig p → to_assert closed p ≡ builds q → IsWellSorted sig q
assert-sorted sig false p q h e = let same : p ≡ q = cc in subst (IsWellSorted sig) same h
assert-sorted sig true p q h e = closure-sorted sig p q h e

built-does : (ps : List Sent) (st : State) → IsSoundFor ps st → (at : Pos) (b : Built Sent) → ((p : Sent) → b ≡ builds p → IsWellSorted st.signature p) → DoesAll ps (asserting_built st at b)
built-does ps st sound at (refuses why) sorted = (tt, sound)
built-does ps st sound at (builds p) sorted =
    let all = ps ++ p ∷ [] in
    let base = base_grown (theory_of st.signature) (theory_of st.signature) ps all [] (sentences st.base) (extends-refl (theory_of st.signature)) (λ q i. in-append q ps (p ∷ []) i) sound.base in
    let derives : Derives (theory_of st.signature) all [] p = axiom_of tt (sorted p refl) (is-last p ps) in
    (tt, record { valid = sound.valid; has_boolean = sound.has_boolean; base = base_joined (theory_of st.signature) all [] (sentences st.base) p base derives })

sentence-does : (ps : List Sent) (st : State) → IsSoundFor ps st → (closed : Bool) (at : Pos) (o : Option Sent) → ((p : Sent) → o ≡ Some p → IsWellSorted st.signature p) → DoesAll ps (asserting_sentence st closed at o)
sentence-does ps st sound closed at None sorted = (tt, sound)
sentence-does ps st sound closed at (Some p) sorted = built-does ps st sound at (to_assert closed p) (λ q e. assert-sorted st.signature closed p q (sorted p refl) e)

-- what is known of an outcome
record Follows (sig : Signature) (ps : List Sent) (o : Outcome) : Type 0 where
  sorted : (v : Value) (after : Left) → o ≡ gives v after → IsSortedValue sig v
  derives : (p : Sent) (after : Left) → o ≡ concludes p after → Derives (theory_of sig) ps [] p

left-sound : (ps : List Sent) (st : State) (after : Left) → IsSoundFor ps st → IsSoundFor ps (with_left st after)
left-sound ps st after sound = record { valid = sound.valid; has_boolean = sound.has_boolean; base = sound.base }

assert-does : (ps : List Sent) (st : State) → IsSoundFor ps st → (closed : Bool) (at : Pos) (o : Outcome) → Follows st.signature ps o → DoesAll ps (asserting st closed at o)
assert-does ps st sound closed at (gives v after) f = sentence-does ps (with_left st after) (left-sound ps st after sound) closed at (sentence_of v) (λ p e. sentence-sorted st.signature v p (f.sorted v after refl) e)
assert-does ps st sound closed at (concludes p after) f =
    sentence-does ps (with_left st after) (left-sound ps st after sound) closed at (Some p) (λ q e. let same : p ≡ q = cc in subst (IsWellSorted st.signature) same (well_sorted (f.derives p after refl)))
assert-does ps st sound closed at (fails inner why after) f = (tt, left-sound ps st after sound)
assert-does ps st sound closed at (exhausts inner made) f = (tt, left-sound ps st (left_of 0 made) sound)

show-does : (ps : List Sent) (st : State) → IsSoundFor ps st → (o : Outcome) → Follows st.signature ps o → DoesAll ps (showing st o)
show-does ps st sound (gives v after) f = (tt, left-sound ps st after sound)
show-does ps st sound (concludes p after) f =
    let derives = f.derives p after refl in
    (derives, record { valid = sound.valid; has_boolean = sound.has_boolean; base = base_joined (theory_of st.signature) ps [] (sentences st.base) p sound.base derives })
show-does ps st sound (fails at why after) f = (tt, left-sound ps st after sound)
show-does ps st sound (exhausts at made) f = (tt, left-sound ps st (left_of 0 made) sound)

domain-grown : (old : Signature) (n : Sym) (vs : List Sym) → IsValid old → (sig : Signature) → after.domain_declared old n vs ≡ Ok sig → Extends (theory_of old) (theory_of sig) × IsValid sig
domain-grown old n vs valid sig e = (extends_of old sig (domain_keeps old sig n vs e), domain_valid old sig n vs valid e)

symbols-grown : (old : Signature) (ns : List Sym) (list : Option (List Sym)) (args : List SortText) (result : SortText) → IsValid old → IfSome list AreDistinct → (sig : Signature) → after.declared old ns list args result ≡ Ok sig → Extends (theory_of old) (theory_of sig) × IsValid sig
symbols-grown old ns list args result valid differ sig e = (extends_of old sig (symbols_keep old sig ns list args result e), symbols_valid old sig ns list args result valid differ e)

-- these are laws of evaluation: conclusions are derivable, and values are well-sorted
module _ (follow : ConclusionsFollow) (values : ValuesAreSorted) where
  outcome-follows : (ps : List Sent) (st : State) → IsSoundFor ps st → (x : Phrase) → Follows st.signature ps (outcome_of (context st) (environment st) x (left st))
  outcome-follows ps st sound x = record {
    sorted = λ v after e. values (context st) (environment st) ps [] most_nested x (left st) after v sound.valid sound.has_boolean sound.base e;
    derives = λ p after e. follow (context st) (environment st) ps [] most_nested x (left st) after p sound.base e;
  }

  done-does : (ps : List Sent) (st : State) → IsSoundFor ps st → (at : Pos) (s : Statement) → StatementDiffers s → DoesAll ps (done st at s)
  done-does ps st sound at (declare_is ns params args result) differ = declare-does ps st sound at (symbols_added ns) (λ sig. tt) refl (after.declared st.signature ns params args result) (symbols-grown st.signature ns params args result sound.valid differ)
  done-does ps st sound at (assert_is n closed x) differ = assert-does ps st sound closed (place x) (outcome_of (context st) (environment st) x (left st)) (outcome-follows ps st sound x)
  done-does ps st sound at (load_is name) differ = sound
  done-does ps st sound at (phrase_is x) differ = show-does ps st sound (outcome_of (context st) (environment st) x (left st)) (outcome-follows ps st sound x)
  done-does ps st sound at (domain_is n vs) differ = declare-does ps st sound at (domain_added n) (λ sig. tt) refl (after.domain_declared st.signature n vs) (domain-grown st.signature n vs sound.valid)
  done-does ps st sound at (datatype_is n vs cs) differ = (tt, sound)
  done-does ps st sound at (define_is n x) differ = (tt, sound)
  done-does ps st sound at (define_fun_is f xs x) differ = (tt, sound)

  unless-does : (ps : List Sent) (st : State) → IsSoundFor ps st → (at : Pos) (s : Statement) → StatementDiffers s → (o : Option Pos) → DoesAll ps (unless_unbuilt st at s o)
  unless-does ps st sound at s differ (Some inner) = (tt, sound)
  unless-does ps st sound at s differ None = done-does ps st sound at s differ

  pub effect-does : (ps : List Sent) (st : State) → IsSoundFor ps st → (d : DirectiveTree) → DirectiveDiffers d → DoesAll ps (effect st d)
  effect-does ps st sound (directive_at at s) differ = limited_either (DoesAll ps) st at (unless_unbuilt st at s (unbuilt_in st.names at s)) (tt, left-sound ps st _ sound) (unless-does ps st sound at s differ (unbuilt_in st.names at s))

-- ---- one move
abbrev Goes : List Sent → List Item → State → Type 0
Goes ps [] st = IsSoundFor ps st
Goes ps (asks name ∷ items) st = Goes ps items st
Goes ps (tells s ∷ items) st = IsJustified s.signature ps s.event × Goes (asserted_after ps s.event) items st

abbrev GoesOn : List Sent → Move → Type 0
GoesOn ps (goes items c) = Goes ps items c.state
GoesOn ps (halts items h) = AreJustified ps (said_in items)

goes-justified : (ps : List Sent) (items : List Item) (st : State) → Goes ps items st → AreJustified ps (said_in items)
goes-justified ps [] st g = tt
goes-justified ps (asks name ∷ items) st g = goes-justified ps items st g
goes-justified ps (tells s ∷ items) st g = (g.0, goes-justified (asserted_after ps s.event) items st g.1)

tells-goes : (c : Configuration) (ps : List Sent) (es : List Event) (st : State) → Tells c.state.signature ps es st → Goes ps (tell_all c es) st
tells-goes c ps [] st t = t
tells-goes c ps (e ∷ es) st t = (t.0, tells-goes c (asserted_after ps e) es st t.1)

abbrev named : Configuration → List ℕ → Configuration
named c name = record c { files = c.files ++ name ∷ [] }

opened-goes : (ps : List Sent) (c : Configuration) → IsSoundFor ps c.state → (at : Pos) (name text : List ℕ) → GoesOn ps (opened c at name text)
opened-goes ps c sound at name text = go (nat_lt MOST_BYTES (length text))
  where
    go : (b : Bool) → GoesOn ps (if b then goes (asks name ∷ said (named c name) (events.refused at (refusal FileTooLong [])) ∷ []) (named c name) else goes (asks name ∷ []) (record (named c name) { stack = reading_of (length c.files) text ∷ c.stack }))
    go true = (tt, sound)
    go false = sound

fetched-goes : (ps : List Sent) (c : Configuration) → IsSoundFor ps c.state → (at : Pos) (name : List ℕ) (found : Option (List ℕ)) → GoesOn ps (fetched c at name found)
fetched-goes ps c sound at name None = tt
fetched-goes ps c sound at name (Some text) = opened-goes ps c sound at name text

asking-goes : (texts : Texts) (ps : List Sent) (c : Configuration) → IsSoundFor ps c.state → (at : Pos) (name : List ℕ) → GoesOn ps (asking texts c at name)
asking-goes texts ps c sound at name = fetched-goes ps c sound at name (front_of texts name MOST_ASKED)

next-goes : (texts : Texts) (ps : List Sent) (c : Configuration) → IsSoundFor ps c.state → (names : List (List ℕ)) → GoesOn ps (next_file texts c names)
next-goes texts ps c sound [] = tt
next-goes texts ps c sound (name ∷ names) = asking-goes texts ps (record c { waiting = names }) sound (beginning_of (length c.files)) name

following-goes : (texts : Texts) (ps : List Sent) (c : Configuration) (outer : ℕ) (at : Pos) (es : List Event) (next : Continuation) → Does ps es c.state next → GoesOn ps (following texts c outer at es next)
following-goes texts ps c outer at es goes_on d = tells-goes c ps es c.state d
following-goes texts ps c outer at es ends d = goes-justified ps (tell_all c es) c.state (tells-goes c ps es c.state d)
following-goes texts ps c outer at es (loads name) d = go (nat_lt outer MOST_LOADS)
  where
    go : (b : Bool) → GoesOn ps (if b then asking texts c at name else goes (said c (events.refused at (refusal TooManyLoads [])) ∷ []) c)
    go true = asking-goes texts ps c d at name
    go false = (tt, d)

-- what is next, where it is a directive, lists parameters that differ
abbrev NextDiffers : reading.Upcoming → Type 0
NextDiffers (reading.whole d to known) = DirectiveDiffers d
NextDiffers reading.ended = Unit {0}
NextDiffers (reading.stopped e known) = Unit {0}

next-differs : (r : Reading) (names : List (List ℕ)) (from : ℕ) (n : reading.Upcoming) → reading.IsNext r names from n → NextDiffers n
next-differs r names from (reading.whole d to known) h = whole_differs h.front.tokens h.front.next d h.whole
next-differs r names from reading.ended h = tt
next-differs r names from (reading.stopped e known) h = tt

-- ---- a run
goes-append : (ps : List Sent) (items more : List Item) (st last : State) → Goes ps items st → ((all : List Sent) → IsSoundFor all st → Goes all more last) → Goes ps (items ++ more) last
goes-append ps [] more st last g on = on ps g
goes-append ps (asks name ∷ items) more st last g on = goes-append ps items more st last g on
goes-append ps (tells s ∷ items) more st last g on = (g.0, goes-append (asserted_after ps s.event) items more st last g.1 on)

justified-append : (ps : List Sent) (items more : List Item) (st : State) → Goes ps items st → ((all : List Sent) → IsSoundFor all st → AreJustified all (said_in more)) → AreJustified ps (said_in (items ++ more))
justified-append ps [] more st g on = on ps g
justified-append ps (asks name ∷ items) more st g on = justified-append ps items more st g on
justified-append ps (tells s ∷ items) more st g on = (g.0, justified-append (asserted_after ps s.event) items more st g.1 on)

pub none_said : AreBelieved []
none_said = record { justified = tt; named = tt; lines = tt }

first-sound : (fuel : ℕ) → IsSoundFor [] (first_state fuel)
first-sound fuel = record { valid = initial_valid; has_boolean = refl; base = λ p i. absurd i }

module _ (follow : ConclusionsFollow) (values : ValuesAreSorted) where
  turned-goes : (texts : Texts) (ps : List Sent) (c : Configuration) → IsSoundFor ps c.state → (r : Reading) (rs : List Reading) (n : reading.Upcoming) → NextDiffers n → GoesOn ps (turned texts c r rs n)
  turned-goes texts ps c sound r rs (reading.whole d to known) differ =
      let e = effect (with_names known c.state) d in
      following-goes texts ps (record c { stack = record r { progress = reached to } ∷ rs; state = e.state }) (length rs) (place_of d) e.events e.next (effect-does follow values ps (with_names known c.state) (record { valid = sound.valid; has_boolean = sound.has_boolean; base = sound.base }) d differ)
  turned-goes texts ps c sound r rs reading.ended differ = sound
  turned-goes texts ps c sound r rs (reading.stopped e known) differ = (tt, record { valid = sound.valid; has_boolean = sound.has_boolean; base = sound.base })

  turn-goes : (texts : Texts) (ps : List Sent) (c : Configuration) → IsSoundFor ps c.state → (stack : List Reading) (m : Move) → IsTurn texts c stack m → GoesOn ps m
  turn-goes texts ps c sound [] m t = subst (GoesOn ps) (sym t) (next-goes texts ps c sound c.waiting)
  turn-goes texts ps c sound (r ∷ rs) m t = subst (GoesOn ps) (sym t.2) (turned-goes texts ps c sound r rs t.0 (next-differs r c.state.names (reading.byte_reached r.progress) t.0 t.1))

  run-goes : (texts : Texts) (run : Asked) {done : List Item} {c : Configuration} → Runs texts (start run) done c → Goes [] done c.state
  run-goes texts run at_start = first-sound run.fuel
  run-goes texts run (one_more {done} {c} {d} items runs m) =
      goes-append [] done items c.state d.state (run-goes texts run runs) (λ all sound. turn-goes texts all c sound c.stack (goes items d) m)

  pub justified_front : (texts : Texts) (run : Asked) (done : List Item) (c : Configuration) → Runs texts (start run) done c → AreJustified [] (said_in done)
  justified_front texts run done c runs = goes-justified [] done c.state (run-goes texts run runs)

  pub justified_log : (texts : Texts) (run : Asked) (log : List Item) (h : Halt) → IsLogOf texts (start run) log h → AreJustified [] (said_in log)
  justified_log texts run log h l =
      let c = l.final in
      let all = justified-append [] l.done l.last c.state (run-goes texts run l.runs) (λ all sound. turn-goes texts all c sound c.stack (halts l.last h) l.over) in
      subst (λ (items : List Item). AreJustified [] (said_in items)) (sym l.all) all

  pub believed_log : (texts : Texts) (run : Asked) (log : List Item) (h : Halt) → IsLogOf texts (start run) log h → AreBelieved (said_in log)
  believed_log texts run log h l = record { justified = justified_log texts run log h l; named = log_named texts run log h l; lines = log_lines texts run log h l }

  report-believed : (texts : Texts) (asked : Option Asked) (r : Report) → IsReportOf texts asked r → AreBelieved (said_in r.log)
  report-believed texts None r e = subst (λ (s : Report). AreBelieved (said_in s.log)) (sym e) none_said
  report-believed texts (Some run) r i = believed_log texts run r.log i.0 i.1

  pub each_report_is_believed : EachReportIsBelieved
  each_report_is_believed = λ words texts r i. report-believed texts (run_of words) r i
