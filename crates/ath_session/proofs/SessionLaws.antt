-- What a directive's reply stands for.
use Rattle.std.proofs.Common.{◌≡◌, ℕ, ◌≤◌, Bool, List, [], ◌∷◌, ◌++◌, length, map, take, drop, Option, Some, None, Result, Ok, Err, refl, sym, ◌∙◌, ap, subst, arith}
use Rattle.std.proofs.lemmas.List.{length-take, take-append-le, take-append-drop}
use Rattle.std.proofs.lemmas.List.Elements.{All-nil, All-cons, All-same}
use Rattle.ath_names.specs.Names.{KeepsNames}
use Rattle.ath_syntax.specs.declared.place.Pos.{Pos}
use Rattle.ath_terms.specs.Trees as trees
use Rattle.ath_terms.specs.declared.measure.BuildError.{BuildError}
use Rattle.ath_terms.specs.declared.measure.BuildError.TheVariants.{Memory}
use Rattle.ath_trees.specs.declared.node.SentId.{SentId}
use Rattle.ath_trees.specs.Tree.{Sent}
use Rattle.ath_construction.specs.Construction.{Unbuilt, Built, refuses}
use Rattle.ath_construction.specs.Answers.{IsSentBuilt}
use Rattle.ath_env.specs.Values.{sentence_of}
use Rattle.ath_env.specs.Stands.{value_at, IsSentenceOf}
use Rattle.ath_env.proofs.ValueLaws.{sentence-some, sentence-none}
use Rattle.ath_env.specs.declared.value.Value as coded
use Rattle.ath_print.specs.declared.fault.Fault.{Fault}
use Rattle.ath_print.specs.declared.fault.FaultKind.{FaultKind}
use Rattle.ath_print.specs.declared.fault.FaultKind.TheVariants.{NotSentence}
use Rattle.ath_print.specs.declared.event.Event as told
use Rattle.ath_print.specs.Events.{Event}
use Rattle.ath_print.specs.Stands.{argument_of, refusal_of, IsFaultIn, IsRefusal, event_of, IsEventIn}
use Rattle.ath_eval.specs.declared.world.World.{World}
use Rattle.ath_eval.specs.declared.world.Outcome.TheVariants as out
use Rattle.ath_base.specs.declared.entry.Origin.TheVariants.{Asserted, Concluded}
use Rattle.ath_base.specs.declared.entry.Entry as entry
use Rattle.ath_base.specs.declared.entry.Origin.{Origin}
use Rattle.ath_base.specs.Base.{Entry}
use Rattle.ath_base.proofs.Scopes.{entries_grow, keeps-none}
use Rattle.ath_base.specs.Stands.{entries_in, entries_of}
use Rattle.ath_eval.specs.Building as building
use Rattle.ath_eval.specs.Stands.{IsWhy}
use Rattle.ath_eval.specs.World.{Evaluates, IsOutcome}
use Rattle.ath_eval.specs.Outcomes.{left_of, Outcome, gives, concludes, fails, exhausts, refusal}
use Rattle.ath_eval.proofs.Answering.{refused_why}
use Rattle.ath_eval.proofs.Worlds.{base_same}
use Rattle.ath_terms.specs.declared.fresh.Fresh.{Fresh}
use Rattle.ath_session.specs.State.{State, with_left, joining}
use Rattle.ath_session.specs.Directives.{loads, Effect, to_assert, asserting_built, asserting_sentence, asserting, showing, refusing, ending, loading, limited}
use Rattle.ath_session.specs.declared.session.Next.TheVariants as next
use Rattle.ath_session.specs.declared.session.Reply.{Reply}
use Rattle.ath_session.specs.Session.{state_of, AreEvents, next_of, IsReply}

-- ---- a table that begins with the first names
pub begins : (first names : List (List ℕ)) → take (length first) names ≡ first → KeepsNames first names
begins first names h = record { more = drop (length first) names; longer = sym (take-append-drop (length first) names) ∙ ap (λ front. front ++ drop (length first) names) h }

pub begins_still : (first names new : List (List ℕ)) → take (length first) names ≡ first → KeepsNames names new → take (length first) new ≡ first
begins_still first names new h g =
    let le : length first ≤ length names = omega (arith, ap length h, length-take (length first) names) in
    ap (take (length first)) g.longer ∙ take-append-le (length first) names g.more le ∙ h

-- ---- a sentence that has joined the base
pub joined_state : (w : World) (es : List entry.Entry) (p : SentId) (how : Origin) → es ≡ record { sentence = p; origin = how } ∷ entries_in w.base.nodes.items w.scope.0 → ◌≡◌ {A = State} (record (state_of w) { base = entries_of w.store es }) (joining (state_of w) how (trees.sent_at w.store.sents p.0))
joined_state w es p how e = ap (λ (es : List entry.Entry). record (state_of w) { base = entries_of w.store es }) e

-- ---- replies
pub reply_as : (w : World) (r : Reply) (e f : Effect) → e ≡ f → IsReply w r e → IsReply w r f
reply_as w r e f h k = subst (IsReply w r) h k

pub one_event : (s : trees.Trees) (es : List told.Event) (e : told.Event) (x : Event) → es ≡ e ∷ [] → IsEventIn s e → event_of s e ≡ x → AreEvents s es (x ∷ [])
one_event s es e x h k m = (All-same (IsEventIn s) es (e ∷ []) h (All-cons (IsEventIn s) e [] k (All-nil (IsEventIn s))), ap (map (event_of s)) h ∙ ap (λ y. y ∷ []) m)

-- the state, where an evaluation has moved it
pub state_moved : (w v : World) → Evaluates w v → v.scope ≡ w.scope → state_of v ≡ with_left (state_of w) (left_of v.fuel v.fresh)
state_moved w v e still =
    let b = base_same w v e still in
    let n = e.names in
    let g = e.signature in
    λ i. record { names = n i; signature = g i; base = b i; fuel = v.fuel; fresh = v.fresh }

pub state_left : (w v : World) (left : ℕ) (made : Fresh) → Evaluates w v → v.scope ≡ w.scope → v.fuel ≡ left → v.fresh ≡ made → state_of v ≡ with_left (state_of w) (left_of left made)
state_left w v left made e still f g = state_moved w v e still ∙ (λ i. with_left (state_of w) (left_of (f i) (g i)))

-- an effect within the limit, after an evaluation
pub limited_as : (w v : World) → Evaluates w v → v.scope ≡ w.scope → (at : Pos) (e f : Effect) → e ≡ f → limited (state_of v) at e ≡ limited (state_of w) at f
limited_as w v moved still at e f h = ap (λ (st : State). limited st at e) (state_moved w v moved still) ∙ ap (limited (state_of w) at) h

-- what is told of an event, where the run goes on or ends
abbrev pub telling_in : State → Event → next.the_data → Effect
telling_in st x n = record { state = st; events = x ∷ []; next = next_of n }

-- ---- what an evaluation gives, asserted
module _ (w v : World) (moved : Evaluates w v) (still : v.scope ≡ w.scope) where
  pub value_asserted : (closed : Bool) (x : coded.Value) (at place : Pos) (o : Outcome) → IsOutcome v.store v.fuel v.fresh (out.Value x) o → place ≡ at → asserting_sentence (state_of v) closed at (sentence_of (value_at v.store x)) ≡ asserting (state_of w) closed place o
  value_asserted closed x at place (gives y after) h e =
      let s = state_left w v after.fuel after.fresh moved still h.1 h.2 in
      let p = sym e in
      let q = ap sentence_of h.0.1 in
      λ i. asserting_sentence (s i) closed (p i) (q i)
  value_asserted closed x at place (concludes y after) h e = absurd h
  value_asserted closed x at place (fails inner why after) h e = absurd h
  value_asserted closed x at place (exhausts inner made) h e = absurd h

  pub theorem_asserted : (closed : Bool) (p : SentId) (at place : Pos) (o : Outcome) → IsOutcome v.store v.fuel v.fresh (out.Theorem p) o → place ≡ at → asserting_sentence (state_of v) closed at (sentence_of (value_at v.store (coded.TheVariants.Sent p))) ≡ asserting (state_of w) closed place o
  theorem_asserted closed p at place (concludes y after) h e =
      let s = state_left w v after.fuel after.fresh moved still h.1 h.2 in
      let f = sym e in
      let q = h.0.1 in
      λ i. asserting_sentence (s i) closed (f i) (Some (q i))
  theorem_asserted closed p at place (gives y after) h e = absurd h
  theorem_asserted closed p at place (fails inner why after) h e = absurd h
  theorem_asserted closed p at place (exhausts inner made) h e = absurd h

  pub error_asserted : (closed : Bool) (at place : Pos) (f : Fault) (o : Outcome) → IsOutcome v.store v.fuel v.fresh (out.Error f at) o → refusing (state_of v) at (refusal_of v.store f) ≡ asserting (state_of w) closed place o
  error_asserted closed at place f (fails inner why after) h =
      let s = state_left w v after.fuel after.fresh moved still h.2 h.3 in
      let p = h.0 in
      let q = h.1.1 in
      λ i. refusing (s i) (p i) (q i)
  error_asserted closed at place f (gives y after) h = absurd h
  error_asserted closed at place f (concludes y after) h = absurd h
  error_asserted closed at place f (exhausts inner made) h = absurd h

  pub error_shown : (at : Pos) (f : Fault) (o : Outcome) → IsOutcome v.store v.fuel v.fresh (out.Error f at) o → refusing (state_of v) at (refusal_of v.store f) ≡ showing (state_of w) o
  error_shown at f (fails inner why after) h =
      let s = state_left w v after.fuel after.fresh moved still h.2 h.3 in
      let p = h.0 in
      let q = h.1.1 in
      λ i. refusing (s i) (p i) (q i)
  error_shown at f (gives y after) h = absurd h
  error_shown at f (concludes y after) h = absurd h
  error_shown at f (exhausts inner made) h = absurd h

  spent_asserted_here : (at inner : Pos) (made : Fresh) → at ≡ inner → v.fuel ≡ 0 → v.fresh ≡ made → telling_in (state_of v) (Event.exhausted at) next.Stop ≡ ending (state_of w) inner made
  spent_asserted_here at inner made p f g =
      let s = state_left w v 0 made moved still f g in
      λ i. telling_in (s i) (Event.exhausted (p i)) next.Stop

  pub spent_asserted : (closed : Bool) (at place : Pos) (o : Outcome) → IsOutcome v.store v.fuel v.fresh (out.Exhausted at) o → telling_in (state_of v) (Event.exhausted at) next.Stop ≡ asserting (state_of w) closed place o
  spent_asserted closed at place (exhausts inner made) h = spent_asserted_here at inner made h.0 h.1 h.2
  spent_asserted closed at place (gives y after) h = absurd h
  spent_asserted closed at place (concludes y after) h = absurd h
  spent_asserted closed at place (fails inner why after) h = absurd h

  pub spent_shown : (at : Pos) (o : Outcome) → IsOutcome v.store v.fuel v.fresh (out.Exhausted at) o → telling_in (state_of v) (Event.exhausted at) next.Stop ≡ showing (state_of w) o
  spent_shown at (exhausts inner made) h = spent_asserted_here at inner made h.0 h.1 h.2
  spent_shown at (gives y after) h = absurd h
  spent_shown at (concludes y after) h = absurd h
  spent_shown at (fails inner why after) h = absurd h

  pub value_shown : (x : coded.Value) (o : Outcome) → IsOutcome v.store v.fuel v.fresh (out.Value x) o → telling_in (state_of v) (Event.shown (value_at v.store x)) next.Go ≡ showing (state_of w) o
  value_shown x (gives y after) h =
      let s = state_left w v after.fuel after.fresh moved still h.1 h.2 in
      let q = h.0.1 in
      λ i. telling_in (s i) (Event.shown (q i)) next.Go
  value_shown x (concludes y after) h = absurd h
  value_shown x (fails inner why after) h = absurd h
  value_shown x (exhausts inner made) h = absurd h

  -- the conclusion, when it has joined the base
  pub theorem_shown : (p : SentId) (o : Outcome) → IsOutcome v.store v.fuel v.fresh (out.Theorem p) o → telling_in (joining (state_of v) Concluded (trees.sent_at v.store.sents p.0)) (Event.proved (trees.sent_at v.store.sents p.0)) next.Go ≡ showing (state_of w) o
  theorem_shown p (concludes y after) h =
      let s = state_left w v after.fuel after.fresh moved still h.1 h.2 in
      let q = h.0.1 in
      λ i. telling_in (joining (s i) Concluded (q i)) (Event.proved (q i)) next.Go
  theorem_shown p (gives y after) h = absurd h
  theorem_shown p (fails inner why after) h = absurd h
  theorem_shown p (exhausts inner made) h = absurd h

-- ---- what is refused
pub plain_refusal : (s : trees.Trees) (f : Fault) (k : FaultKind) → f.kind ≡ k → f.args ≡ [] → refusal_of s f ≡ refusal k []
plain_refusal s f k e g = λ i. record { kind = e i; args = map (argument_of s) (g i) }

pub refused_plainly : (w : World) (r : Reply) (place at : Pos) (f : Fault) (k : FaultKind) (e : Effect) → f.kind ≡ k → f.args ≡ [] → refusing (state_of w) at (refusal k []) ≡ e → IsReply w r (limited (state_of w) place (refusing (state_of w) at (refusal_of w.store f))) → IsReply w r (limited (state_of w) place e)
refused_plainly w r place at f k e p q g h = reply_as w r _ _ (ap (limited (state_of w) place) (ap (refusing (state_of w) at) (plain_refusal w.store f k p q) ∙ g)) h

-- ---- what is asserted, in a store that has grown
module _ (w : World) (t : trees.Trees) (grown : trees.Grows w.store t) where
  abbrev grown_state : State
  grown_state = record { names = w.names; signature = w.sig; base = entries_of t (entries_in w.base.nodes.items w.scope.0); fuel = w.fuel; fresh = w.fresh }

  same_state : grown_state ≡ state_of w
  same_state = ap (λ (es : List Entry). record { names = w.names; signature = w.sig; base = es; fuel = w.fuel; fresh = w.fresh }) (entries_grow w.store t grown w.base.nodes.items w.base.nodes.items w.scope.0 w.in_store w.inside (keeps-none w.base.nodes.items))

  -- ---- the sentence that a value is
  module _ (x : coded.Value) (closed : Bool) (found : Option SentId) (h : IsSentenceOf t found (sentence_of (value_at w.store x))) where
    pub no_sentence : (u : World) (r : Reply) (place at : Pos) (f : Fault) → found ≡ None → f.kind ≡ NotSentence → f.args ≡ [] → IsReply u r (limited grown_state place (refusing grown_state at (refusal_of t f))) → IsReply u r (limited (state_of w) place (asserting_sentence (state_of w) closed at (sentence_of (value_at w.store x))))
    no_sentence u r place at f e k a p =
        let n = sentence-none t found (sentence_of (value_at w.store x)) h e in
        let q = plain_refusal t f NotSentence k a in
        let s = same_state in
        reply_as u r _ _ ((λ i. limited (s i) place (refusing (s i) at (q i))) ∙ ap (limited (state_of w) place) (ap (asserting_sentence (state_of w) closed at) (sym n))) p

    pub sentence_asserted : (u : World) (r : Reply) (place at : Pos) (p : SentId) → found ≡ Some p → IsReply u r (limited grown_state place (asserting_built grown_state at (to_assert closed (trees.sent_at t.sents p.0)))) → IsReply u r (limited (state_of w) place (asserting_sentence (state_of w) closed at (sentence_of (value_at w.store x))))
    sentence_asserted u r place at p e k =
        let y = sentence-some t found (sentence_of (value_at w.store x)) p h e in
        let q = y.2.1 in
        let s = same_state in
        reply_as u r _ _ ((λ i. limited (s i) place (asserting_built (s i) at (to_assert closed (q i)))) ∙ ap (limited (state_of w) place) (ap (asserting_sentence (state_of w) closed at) (sym y.1))) k

  -- ---- what is built of it
  module _ (b : Built Sent) (made : Result SentId BuildError) (h : IsSentBuilt t b made) where
    pub built_joined : (v : World) (r : Reply) (place at : Pos) (p : SentId) → made ≡ Ok p → IsReply v r (limited grown_state place (telling_in (joining grown_state Asserted (trees.sent_at t.sents p.0)) (Event.asserted (trees.sent_at t.sents p.0)) next.Go)) → IsReply v r (limited (state_of w) place (asserting_built (state_of w) at b))
    built_joined v r place at p e k =
        let y : IsSentBuilt t b (Ok p) = subst (IsSentBuilt t b) e h in
        let q = y.2.1 in
        let s = same_state in
        reply_as v r _ _ ((λ i. limited (s i) place (telling_in (joining (s i) Asserted (q i)) (Event.asserted (q i)) next.Go)) ∙ ap (limited (state_of w) place) (ap (asserting_built (state_of w) at) (sym y.1))) k

    module _ (error : BuildError) (f : Fault) (e : made ≡ Err error) (some : error ≡ Memory → ⊥) (told : (why : Unbuilt) → IsWhy t error why → IsRefusal t f (building.told why)) where
      reason : (why : Unbuilt) × (b ≡ refuses why) × IsWhy t error why
      reason = refused_why t b error some (subst (IsSentBuilt t b) e h)

      pub fault_in : IsFaultIn t f
      fault_in = (told reason.0 reason.2).0

      pub built_refused : (u : World) (r : Reply) (place at : Pos) → IsReply u r (limited grown_state place (refusing grown_state at (refusal_of t f))) → IsReply u r (limited (state_of w) place (asserting_built (state_of w) at b))
      built_refused u r place at k =
          let q = (told reason.0 reason.2).1 in
          let s = same_state in
          reply_as u r _ _ ((λ i. limited (s i) place (refusing (s i) at (q i))) ∙ ap (limited (state_of w) place) (ap (asserting_built (state_of w) at) (sym reason.1))) k

-- ---- a file that is loaded
pub load_told : (w : World) (r : Reply) (name : List ℕ) → r.events.items ≡ [] → next_of r.next ≡ loads name → IsReply w r (loading (state_of w) name)
load_told w r name e n = record { events = (All-same (IsEventIn w.store) r.events.items [] e (All-nil (IsEventIn w.store)), ap (map (event_of w.store)) e); next = n; state = refl }
