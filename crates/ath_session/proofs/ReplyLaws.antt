-- The replies to a phrase's outcome, to a statement and to a directive.
use Rattle.std.proofs.Common.{◌≡◌, ℕ, Bool, List, [], Option, Some, None, Result, Ok, Err, IfOk, sym, ◌∙◌, ap, subst}
use Rattle.std.specs.Prelude.{slice_get}
use Rattle.ath_sorts.specs.declared.sorts.Sym.{Sym}
use Rattle.ath_syntax.specs.declared.place.Pos.{Pos}
use Rattle.ath_syntax.specs.declared.node.PhraseId.{PhraseId}
use Rattle.ath_syntax.specs.declared.node.Node.{Node}
use Rattle.ath_syntax.specs.declared.node.SortText.{SortText}
use Rattle.ath_syntax.specs.declared.directive.What.{What}
use Rattle.ath_syntax.specs.declared.directive.What.TheVariants.{Domain, Declare, Assert, Load, Phrase as Plain}
use Rattle.ath_syntax.specs.declared.directive.Directive.{Directive}
use Rattle.ath_syntax.specs.Tree.{Phrase, Statement, domain_is, declare_is, assert_is, load_is, phrase_is, DirectiveTree}
use Rattle.ath_syntax.specs.Stands.{IsPhrase, IsStatement, IsDirective}
use Rattle.ath_trees.specs.declared.node.SentId.{SentId}
use Rattle.ath_terms.specs.Trees.{sent_at}
use Rattle.ath_env.specs.Values.{sentence_of}
use Rattle.ath_env.specs.Stands.{value_at}
use Rattle.ath_env.specs.declared.value.Value as coded
use Rattle.ath_print.specs.declared.fault.Fault.{Fault}
use Rattle.ath_print.specs.declared.fault.FaultKind.TheVariants.{NotBuilt}
use Rattle.ath_print.specs.Stands.{refusal_of}
use Rattle.ath_eval.specs.declared.world.World.{World}
use Rattle.ath_eval.specs.declared.world.Outcome as code
use Rattle.ath_eval.specs.declared.world.Outcome.TheVariants as out
use Rattle.ath_eval.specs.Evaluation.{outcome_of}
use Rattle.ath_syntax.specs.Places.{place}
use Rattle.ath_eval.specs.World.{Evaluates, IsOutcome}
use Rattle.ath_declarations.specs.Declarations as after
use Rattle.ath_print.specs.Events as events
use Rattle.ath_session.specs.State.{context, environment, left, joining}
use Rattle.ath_base.specs.declared.entry.Origin.TheVariants.{Concluded}
use Rattle.ath_session.specs.Unbuilt as built
use Rattle.ath_session.specs.Directives.{Effect, outcome_in, effect, unless_unbuilt, done, declaring, asserting_sentence, asserting, showing, refusing, loading, limited}
use Rattle.ath_session.specs.declared.session.Next.TheVariants as next
use Rattle.ath_session.specs.declared.session.Reply.{Reply}
use Rattle.ath_session.specs.Session.{state_of, IsReply}
use Rattle.ath_session.proofs.UnbuiltLaws.{place_here}
use Rattle.ath_session.proofs.SessionLaws.{reply_as, refused_plainly, limited_as, telling_in, value_asserted, theorem_asserted, error_asserted, spent_asserted, value_shown, theorem_shown, error_shown, spent_shown}
use Rattle.ath_session.proofs.StatementLaws.{domain_here, declare_here, assert_here, load_here, phrase_here, other_here, statement_here}

-- ---- a phrase that was evaluated
module _ (w v : World) (moved : Evaluates w v) (still : v.scope ≡ w.scope) (i : PhraseId) (o : code.Outcome) (directive : Pos) (says : (x : Phrase) → IsPhrase w.phrases i x → IsOutcome v.store v.fuel v.fresh o (outcome_of (context (state_of w)) (environment (state_of w)) x (left (state_of w)))) where
  abbrev Asserts : Bool → World → Reply → Type 0
  Asserts closed u r = (x : Phrase) → IsPhrase w.phrases i x → IsReply u r (limited (state_of w) directive (asserting (state_of w) closed (place x) (outcome_in (state_of w) x)))

  abbrev Shows : World → Reply → Type 0
  Shows u r = (x : Phrase) → IsPhrase w.phrases i x → IsReply u r (limited (state_of w) directive (showing (state_of w) (outcome_in (state_of w) x)))

  -- a reply after the evaluation, by what it told
  as_told : (u : World) (r : Reply) (e f : Effect) → e ≡ f → IsReply u r (limited (state_of v) directive e) → IsReply u r (limited (state_of w) directive f)
  as_told u r e f h k = reply_as u r _ _ (limited_as w v moved still directive e f h) k

  outcome_is : (k : code.Outcome) → o ≡ k → (x : Phrase) → IsPhrase w.phrases i x → IsOutcome v.store v.fuel v.fresh k (outcome_of (context (state_of w)) (environment (state_of w)) x (left (state_of w)))
  outcome_is k e x h = subst (λ (y : code.Outcome). IsOutcome v.store v.fuel v.fresh y (outcome_of (context (state_of w)) (environment (state_of w)) x (left (state_of w)))) e (says x h)

  module _ {E : Type 0} where
    pub value_assertion : (u : World) (a : Result Reply E) (closed : Bool) (n : Node) (x : coded.Value) → slice_get w.phrases.phrases i.0 ≡ Some n → o ≡ out.Value x → IfOk a (λ r. IsReply u r (limited (state_of v) directive (asserting_sentence (state_of v) closed n.pos (sentence_of (value_at v.store x))))) → IfOk a (Asserts closed u)
    value_assertion u (Ok r) closed n x at e h = λ y k. as_told u r _ _ (value_asserted w v moved still closed x n.pos (place y) _ (outcome_is (out.Value x) e y k) (place_here w.phrases i n y at k)) h
    value_assertion u (Err m) closed n x at e h = tt

    pub theorem_assertion : (u : World) (a : Result Reply E) (closed : Bool) (n : Node) (p : SentId) → slice_get w.phrases.phrases i.0 ≡ Some n → o ≡ out.Theorem p → IfOk a (λ r. IsReply u r (limited (state_of v) directive (asserting_sentence (state_of v) closed n.pos (sentence_of (value_at v.store (coded.TheVariants.Sent p)))))) → IfOk a (Asserts closed u)
    theorem_assertion u (Ok r) closed n p at e h = λ y k. as_told u r _ _ (theorem_asserted w v moved still closed p n.pos (place y) _ (outcome_is (out.Theorem p) e y k) (place_here w.phrases i n y at k)) h
    theorem_assertion u (Err m) closed n p at e h = tt

    pub error_assertion : (a : Result Reply E) (closed : Bool) (at : Pos) (f : Fault) → o ≡ out.Error f at → IfOk a (λ r. IsReply v r (limited (state_of v) directive (refusing (state_of v) at (refusal_of v.store f)))) → IfOk a (Asserts closed v)
    error_assertion (Ok r) closed at f e h = λ y k. as_told v r _ _ (error_asserted w v moved still closed at (place y) f _ (outcome_is (out.Error f at) e y k)) h
    error_assertion (Err m) closed at f e h = tt

    pub spent_assertion : (a : Result Reply E) (closed : Bool) (at : Pos) → o ≡ out.Exhausted at → IfOk a (λ r. IsReply v r (limited (state_of v) directive (telling_in (state_of v) (events.exhausted at) next.Stop))) → IfOk a (Asserts closed v)
    spent_assertion (Ok r) closed at e h = λ y k. as_told v r _ _ (spent_asserted w v moved still closed at (place y) _ (outcome_is (out.Exhausted at) e y k)) h
    spent_assertion (Err m) closed at e h = tt

    pub value_showing : (a : Result Reply E) (x : coded.Value) → o ≡ out.Value x → IfOk a (λ r. IsReply v r (limited (state_of v) directive (telling_in (state_of v) (events.shown (value_at v.store x)) next.Go))) → IfOk a (Shows v)
    value_showing (Ok r) x e h = λ y k. as_told v r _ _ (value_shown w v moved still x _ (outcome_is (out.Value x) e y k)) h
    value_showing (Err m) x e h = tt

    pub error_showing : (a : Result Reply E) (at : Pos) (f : Fault) → o ≡ out.Error f at → IfOk a (λ r. IsReply v r (limited (state_of v) directive (refusing (state_of v) at (refusal_of v.store f)))) → IfOk a (Shows v)
    error_showing (Ok r) at f e h = λ y k. as_told v r _ _ (error_shown w v moved still at f _ (outcome_is (out.Error f at) e y k)) h
    error_showing (Err m) at f e h = tt

    pub spent_showing : (a : Result Reply E) (at : Pos) → o ≡ out.Exhausted at → IfOk a (λ r. IsReply v r (limited (state_of v) directive (telling_in (state_of v) (events.exhausted at) next.Stop))) → IfOk a (Shows v)
    spent_showing (Ok r) at e h = λ y k. as_told v r _ _ (spent_shown w v moved still at _ (outcome_is (out.Exhausted at) e y k)) h
    spent_showing (Err m) at e h = tt

  pub theorem_showing : (u : World) (r : Reply) (p : SentId) → o ≡ out.Theorem p → IsReply u r (limited (state_of v) directive (telling_in (joining (state_of v) Concluded (sent_at v.store.sents p.0)) (events.proved (sent_at v.store.sents p.0)) next.Go)) → Shows u r
  theorem_showing u r p e h = λ y k. as_told u r _ _ (theorem_shown w v moved still p _ (outcome_is (out.Theorem p) e y k)) h

-- ---- statements
module _ (w u : World) (what : What) (at : Pos) where
  abbrev Tells : Reply → Type 0
  Tells r = (x : Statement) → IsStatement w.phrases what x → IsReply u r (limited (state_of w) at (done (state_of w) at x))

  done_as : (r : Reply) (x y : Statement) → x ≡ y → IsReply u r (limited (state_of w) at (done (state_of w) at y)) → IsReply u r (limited (state_of w) at (done (state_of w) at x))
  done_as r x y e h = reply_as u r _ _ (ap (limited (state_of w) at) (ap (done (state_of w) at) (sym e))) h

  module _ {E : Type 0} where
    pub domain_tells : (a : Result Reply E) (n : Sym) (ms vs : List Sym) → what ≡ Domain n vs → ms ≡ vs → IfOk a (λ r. IsReply u r (limited (state_of w) at (declaring (state_of w) at (events.domain_added n) (after.domain_declared w.sig n ms)))) → IfOk a Tells
    domain_tells (Ok r) n ms vs e m h = λ x k. done_as r x (domain_is n vs) (domain_here w.phrases what x k n vs e) (subst (λ (ms : List Sym). IsReply u r (limited (state_of w) at (declaring (state_of w) at (events.domain_added n) (after.domain_declared w.sig n ms)))) m h)
    domain_tells (Err k) n ms vs e m h = tt

    pub declare_tells : (a : Result Reply E) (ms ns : List Sym) (ps : Option (List Sym)) (ts os : List SortText) (s : SortText) → what ≡ Declare ns ps os s → ms ≡ ns → ts ≡ os → IfOk a (λ r. IsReply u r (limited (state_of w) at (declaring (state_of w) at (events.symbols_added ms) (after.declared w.sig ms ps ts s)))) → IfOk a Tells
    declare_tells (Ok r) ms ns ps ts os s e m t h = λ x k. done_as r x (declare_is ns ps os s) (declare_here w.phrases what x k ns ps os s e) (reply_as u r _ _ (λ i. limited (state_of w) at (declaring (state_of w) at (events.symbols_added (m i)) (after.declared w.sig (m i) ps (t i) s))) h)
    declare_tells (Err k) ms ns ps ts os s e m t h = tt

    pub assert_tells : (a : Result Reply E) (n : Option Sym) (closed : Bool) (i : PhraseId) → what ≡ Assert n closed i → IfOk a (λ r. (x : Phrase) → IsPhrase w.phrases i x → IsReply u r (limited (state_of w) at (asserting (state_of w) closed (place x) (outcome_in (state_of w) x)))) → IfOk a Tells
    assert_tells (Ok r) n closed i e h = λ x k. let p = assert_here w.phrases what x k n closed i e in done_as r x (assert_is n closed p.0) p.2 (h p.0 p.1)
    assert_tells (Err k) n closed i e h = tt

    pub load_tells : (a : Result Reply E) (b c : List ℕ) → what ≡ Load b → c ≡ b → IfOk a (λ r. IsReply u r (loading (state_of w) c)) → IfOk a Tells
    load_tells (Ok r) b c e m h = λ x k. done_as r x (load_is b) (load_here w.phrases what x k b e) (subst (λ (c : List ℕ). IsReply u r (loading (state_of w) c)) m h)
    load_tells (Err k) b c e m h = tt

    pub phrase_tells : (a : Result Reply E) (i : PhraseId) → what ≡ Plain i → IfOk a (λ r. (x : Phrase) → IsPhrase w.phrases i x → IsReply u r (limited (state_of w) at (showing (state_of w) (outcome_in (state_of w) x)))) → IfOk a Tells
    phrase_tells (Ok r) i e h = λ x k. let p = phrase_here w.phrases what x k i e in done_as r x (phrase_is p.0) p.2 (h p.0 p.1)
    phrase_tells (Err k) i e h = tt

module _ (w : World) (what : What) (at : Pos) where
  pub other_tells : {E : Type 0} (a : Result Reply E) (f : Fault) → ((n : Sym) (vs : List Sym) → what ≡ Domain n vs → ⊥) → ((ns : List Sym) (ps : Option (List Sym)) (os : List SortText) (o : SortText) → what ≡ Declare ns ps os o → ⊥) → ((n : Option Sym) (closed : Bool) (i : PhraseId) → what ≡ Assert n closed i → ⊥) → ((b : List ℕ) → what ≡ Load b → ⊥) → ((i : PhraseId) → what ≡ Plain i → ⊥) → f.kind ≡ NotBuilt → f.args ≡ [] → IfOk a (λ r. IsReply w r (limited (state_of w) at (refusing (state_of w) at (refusal_of w.store f)))) → IfOk a (Tells w w what at)
  other_tells (Ok r) f nm nd na nl np k m h = λ x s. refused_plainly w r at at f NotBuilt (done (state_of w) at x) k m ((other_here w.phrases what x s nm nd na nl np).refused (state_of w) at) h
  other_tells (Err e) f nm nd na nl np k m h = tt

-- ---- directives
module _ (w : World) (d : Directive) where
  abbrev Answers : World → Reply → Type 0
  Answers u r = (t : DirectiveTree) → IsDirective w.phrases d t → IsReply u r (effect (state_of w) t)

  pub unbuilt_answered : (r : Reply) (at : Pos) (f : Fault) → ((x : Statement) → IsStatement w.phrases d.what x → Some at ≡ built.unbuilt_in w.names d.pos x) → f.kind ≡ NotBuilt → f.args ≡ [] → IsReply w r (limited (state_of w) d.pos (refusing (state_of w) at (refusal_of w.store f))) → Answers w r
  unbuilt_answered r at f says k a h = λ t s.
      let x = statement_here w.phrases d t s in
      reply_as w r _ _ (ap (effect (state_of w)) (sym x.2)) (refused_plainly w r d.pos at f NotBuilt (unless_unbuilt (state_of w) d.pos x.0 (built.unbuilt_in w.names d.pos x.0)) k a (ap (unless_unbuilt (state_of w) d.pos x.0) (says x.0 x.1)) h)

  pub built_answered : {E : Type 0} (u : World) (a : Result Reply E) → ((x : Statement) → IsStatement w.phrases d.what x → None ≡ built.unbuilt_in w.names d.pos x) → IfOk a (λ r. (x : Statement) → IsStatement w.phrases d.what x → IsReply u r (limited (state_of w) d.pos (done (state_of w) d.pos x))) → IfOk a (Answers u)
  built_answered u (Ok r) says h = λ t s.
      let x = statement_here w.phrases d t s in
      reply_as u r _ _ (ap (λ e. limited (state_of w) d.pos (unless_unbuilt (state_of w) d.pos x.0 e)) (says x.0 x.1) ∙ ap (effect (state_of w)) (sym x.2)) (h x.0 x.1)
  built_answered u (Err e) says h = tt
