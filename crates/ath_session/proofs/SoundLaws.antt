-- The theorems of a directive are derivable from the asserted sentences of the state before it, and the state after it is sound.
use Rattle.std.proofs.Common.{◌≡◌, Bool, List, [], Option, Some, None, Result, Ok, Err, refl, sym, subst}
use Rattle.std.specs.Prelude.{map}
use Rattle.ath_sorts.specs.declared.signature.Flaw.{Flaw}
use Rattle.ath_sorts.specs.Signature.{Signature, arity_of, initial}
use Rattle.ath_sorts.specs.Validity.{IsValid}
use Rattle.ath_sorts.proofs.ValidityLaws.{initial_valid}
use Rattle.ath_calculus.specs.Derives.{AreDerivable}
use Rattle.ath_calculus.specs.Theory.{theory_of}
use Rattle.ath_base.specs.Base.{Entry, sentences}
use Rattle.ath_trees.specs.Tree.{Sent}
use Rattle.ath_syntax.specs.declared.place.Pos.{Pos}
use Rattle.ath_syntax.specs.declared.directive.What.{What}
use Rattle.ath_syntax.specs.declared.directive.Directive.{Directive}
use Rattle.ath_syntax.specs.Nodes as syntax
use Rattle.ath_syntax.specs.Stands.{IsStatement, says_domain, says_datatype, says_declare, says_define, says_define_fun, says_assert, says_load, says_phrase, IsDirective, is_directive}
use Rattle.ath_syntax.specs.Tree.{Statement, domain_is, datatype_is, declare_is, define_is, define_fun_is, assert_is, load_is, phrase_is, DirectiveTree, directive_at}
use Rattle.ath_declarations.specs.Declarations as after
use Rattle.ath_construction.specs.Construction.{Built, builds, refuses}
use Rattle.ath_env.specs.Values.{sentence_of}
use Rattle.ath_print.specs.Events.{Event, domain_added, symbols_added}
use Rattle.ath_print.specs.Stands.{event_of}
use Rattle.ath_grammar.proofs.TypedTable.{StatementDiffers, DirectiveDiffers}
use Rattle.ath_eval.specs.declared.world.World.{World}
use Rattle.ath_eval.specs.Outcomes.{Outcome, gives, concludes, fails, exhausts}
use Rattle.ath_syntax.specs.Places.{place}
use Rattle.ath_eval.specs.Evaluation.{outcome_of}
use Rattle.ath_eval.proofs.Sound.{conclusions-follow, values-sorted}
use Rattle.ath_session.specs.State.{State, context, environment, left, with_left, with_signature}
use Rattle.ath_session.specs.Unbuilt.{unbuilt_in}
use Rattle.ath_session.specs.Directives.{Effect, declaring, to_assert, asserting, asserting_sentence, asserting_built, showing, done, unless_unbuilt, effect}
use Rattle.ath_session.specs.declared.session.Reply.{Reply}
use Rattle.ath_session.specs.Session.{state_of, IsReply, ParamsDiffer}
use Rattle.ath_session.specs.Sound.{asserted_in, IsSoundFor, IsSound, AreFollowing}
use Rattle.ath_session.specs.Theorems.{asserted_after, IsJustified}
use Rattle.ath_session.proofs.LimitLaws.{limited_either}
use Rattle.ath_session.proofs.Sound.{DoesAll, effect-does}

abbrev IsSoundStep : State → Effect → Type 0
IsSoundStep st e = AreFollowing st e.events × IsSound e.state

abbrev Steps : State → Effect → Type 0
Steps st e = DoesAll (asserted_in st.base) e → IsSoundStep st e

declared : (st : State) (at : Pos) (x : Event) → IsJustified st.signature (asserted_in st.base) x → asserted_after (asserted_in st.base) x ≡ asserted_in st.base → (o : Result Signature Flaw) → Steps st (declaring st at x o)
declared st at x just same (Ok sig) d = ((just, tt), subst (λ (qs : List Sent). IsSoundFor qs (with_signature st sig)) same d.1)
declared st at x just same (Err e) d = ((d.0, tt), d.1)

built : (st : State) (at : Pos) (b : Built Sent) → Steps st (asserting_built st at b)
built st at (builds p) d = ((d.0, tt), d.1)
built st at (refuses why) d = ((d.0, tt), d.1)

sentence : (st : State) (closed : Bool) (at : Pos) (o : Option Sent) → Steps st (asserting_sentence st closed at o)
sentence st closed at (Some p) d = built st at (to_assert closed p) d
sentence st closed at None d = ((d.0, tt), d.1)

assertion : (st : State) (closed : Bool) (at : Pos) (o : Outcome) → Steps st (asserting st closed at o)
assertion st closed at (gives v after) d = sentence (with_left st after) closed at (sentence_of v) d
assertion st closed at (concludes p after) d = sentence (with_left st after) closed at (Some p) d
assertion st closed at (fails inner why after) d = ((d.0, tt), d.1)
assertion st closed at (exhausts inner made) d = ((d.0, tt), d.1)

phrase : (st : State) (o : Outcome) → Steps st (showing st o)
phrase st (gives v after) d = ((d.0, tt), d.1)
phrase st (concludes p after) d = ((d.0, tt), d.1)
phrase st (fails at why after) d = ((d.0, tt), d.1)
phrase st (exhausts at made) d = ((d.0, tt), d.1)

statement : (st : State) (at : Pos) (s : Statement) → Steps st (done st at s)
statement st at (declare_is ns params args result) d = declared st at (symbols_added ns) tt refl (after.declared st.signature ns params args result) d
statement st at (assert_is n closed x) d = assertion st closed (place x) (outcome_of (context st) (environment st) x (left st)) d
statement st at (load_is name) d = (tt, d)
statement st at (phrase_is x) d = phrase st (outcome_of (context st) (environment st) x (left st)) d
statement st at (domain_is n vs) d = declared st at (domain_added n) tt refl (after.domain_declared st.signature n vs) d
statement st at (datatype_is n vs cs) d = ((d.0, tt), d.1)
statement st at (define_is n x) d = ((d.0, tt), d.1)
statement st at (define_fun_is f xs x) d = ((d.0, tt), d.1)

unless : (st : State) (at : Pos) (s : Statement) (o : Option Pos) → Steps st (unless_unbuilt st at s o)
unless st at s (Some inner) d = ((d.0, tt), d.1)
unless st at s None d = statement st at s d

directive : (st : State) (d : DirectiveTree) → Steps st (effect st d)
directive st (directive_at at s) = limited_either (Steps st) st at (unless_unbuilt st at s (unbuilt_in st.names at s)) (λ d. ((d.0, tt), d.1)) (unless st at s (unbuilt_in st.names at s))

-- ---- parameters differ in the tree as they do in the node
statement_differs : {s : syntax.Nodes} {w : What} {x : Statement} → IsStatement s w x → ParamsDiffer w → StatementDiffers x
statement_differs says_domain h = tt
statement_differs says_datatype h = tt
statement_differs says_declare h = h
statement_differs (says_define k) h = tt
statement_differs (says_define_fun k) h = tt
statement_differs (says_assert k) h = tt
statement_differs says_load h = tt
statement_differs (says_phrase k) h = tt

directive_differs : {s : syntax.Nodes} {d : Directive} {t : DirectiveTree} → IsDirective s d t → ParamsDiffer d.what → DirectiveDiffers t
directive_differs (is_directive k) h = statement_differs k h

-- ---- the reply of the code
module _ (old new : World) (d : Directive) (known : (t : DirectiveTree) × IsDirective old.phrases d t) (differ : ParamsDiffer d.what) where
  abbrev Replies : Reply → Type 0
  Replies r = (t : DirectiveTree) → IsDirective old.phrases d t → IsReply new r (effect (state_of old) t)

  abbrev AreTold : Reply → Type 0
  AreTold r = AreFollowing (state_of old) (map (event_of new.store) r.events.items) × IsSound (state_of new)

  told : (e : Effect) (r : Reply) → IsReply new r e → IsSoundStep (state_of old) e → AreTold r
  told e r is step =
      (subst (AreFollowing (state_of old)) (sym is.events.1) step.0, subst IsSound (sym is.state) step.1)

  pub theorems_follow : (r : Reply) → Replies r → IsSound (state_of old) → AreTold r
  theorems_follow r h sound =
      let t = known.0 in
      let does = effect-does conclusions-follow values-sorted (asserted_in (state_of old).base) (state_of old) sound t (directive_differs known.1 differ) in
      told (effect (state_of old) t) r (h t known.1) (directive (state_of old) t does)

-- where nothing is asserted yet
pub new_sound : (st : State) → st.signature ≡ initial → st.base ≡ [] → IsSound st
new_sound st e f = record {
  valid = subst IsValid (sym e) initial_valid;
  has_boolean = subst (λ (sig : Signature). arity_of sig (record { 0 = 0 }) ≡ Some 0) (sym e) refl;
  base = subst (λ (es : List Entry). AreDerivable (theory_of st.signature) (asserted_in es) [] (sentences es)) (sym f) (λ p i. absurd i);
}
