-- The limit on the lines of a directive.
use Rattle.std.proofs.Common.{◌≡◌, nat_lt, Bool, true, false, List, [], ◌∷◌, Result, Ok, Err, IfOk, refl, sym, ◌∙◌, ap, subst, if◌then◌else◌, arith}
use Rattle.ath_sorts.specs.Signature.{Signature}
use Rattle.ath_sorts.specs.declared.signature.Flaw.{Flaw}
use Rattle.ath_syntax.specs.declared.place.Pos.{Pos}
use Rattle.ath_print.specs.declared.fault.FaultKind.TheVariants.{LineTooLong}
use Rattle.ath_print.specs.declared.limits.TheConstants.{MOST_LINE_BYTES}
use Rattle.ath_eval.specs.Outcomes.{refusal}
use Rattle.ath_eval.specs.declared.world.World.{World}
use Rattle.ath_print.specs.Events.{Event}
use Rattle.ath_print.specs.Lines.{bytes_of_line}
use Rattle.ath_session.specs.State.{State, left, with_left}
use Rattle.ath_session.specs.Directives.{Effect, refusing, declaring, declaration_refusal, bytes_of_lines, limited}
use Rattle.ath_session.specs.declared.session.Reply.{Reply}
use Rattle.std.specs.Prelude.{OnOk}
use Rattle.ath_declarations.specs.declared.declaring.DeclareError.{DeclareError}
use Rattle.ath_declarations.specs.declared.declaring.DeclareError.TheVariants.{Flawed, Memory}
use Rattle.ath_declarations.specs.Steps.{MatchTest}
use Rattle.ath_session.specs.declared.session.Next.{Next}
use Rattle.ath_print.specs.declared.event.Event as told
use Rattle.ath_print.specs.Stands.{event_of, IsEventIn}
use Rattle.ath_session.specs.Session.{state_of, next_of, AreEvents, IsReply}
use Rattle.ath_session.proofs.SessionLaws.{reply_as, one_event}

abbrev pub too_long : State → Pos → Effect → Effect
too_long st at e = refusing (with_left st (left e.state)) at (refusal LineTooLong [])

-- what holds of an effect and of its refusal holds of it within the limit
pub limited_either : (P : Effect → Type 0) (st : State) (at : Pos) (e : Effect) → P (too_long st at e) → P e → P (limited st at e)
limited_either P st at e long short = by (nat_lt MOST_LINE_BYTES (bytes_of_lines e.state e.events))
  where
    by : (b : Bool) → P (if b then too_long st at e else e)
    by true = long
    by false = short

bytes_of_one : (st : State) (x : Event) → bytes_of_lines st (x ∷ []) ≡ bytes_of_line st.names st.signature x
bytes_of_one st x = omega arith

-- an effect of one line, which is too long or isn't
module _ (w : World) (r : Reply) (st : State) (at : Pos) (e : Effect) (x : Event) (tells : e.events ≡ x ∷ []) where
  measured : nat_lt MOST_LINE_BYTES (bytes_of_line e.state.names e.state.signature x) ≡ nat_lt MOST_LINE_BYTES (bytes_of_lines e.state e.events)
  measured = ap (nat_lt MOST_LINE_BYTES) (sym (ap (bytes_of_lines e.state) tells ∙ bytes_of_one e.state x))

  pub told_long : true ≡ nat_lt MOST_LINE_BYTES (bytes_of_line e.state.names e.state.signature x) → with_left st (left e.state) ≡ state_of w → IsReply w r (refusing (state_of w) at (refusal LineTooLong [])) → IsReply w r (limited st at e)
  told_long b s h = reply_as w r _ _ (ap (λ (st : State). refusing st at (refusal LineTooLong [])) (sym s) ∙ ap (λ (long : Bool). if long then too_long st at e else e) (b ∙ measured)) h

  pub told_short : false ≡ nat_lt MOST_LINE_BYTES (bytes_of_line e.state.names e.state.signature x) → IsReply w r e → IsReply w r (limited st at e)
  told_short b h = reply_as w r _ _ (ap (λ (long : Bool). if long then too_long st at e else e) (b ∙ measured)) h

-- what was answered, in one of these ways
module _ {E : Type 0} (a : Result Reply E) (st : State) (at : Pos) (e : Effect) where
  pub long_answer : (w : World) (x : Event) → e.events ≡ x ∷ [] → true ≡ nat_lt MOST_LINE_BYTES (bytes_of_line e.state.names e.state.signature x) → with_left st (left e.state) ≡ state_of w → IfOk a (λ r. IsReply w r (refusing (state_of w) at (refusal LineTooLong []))) → IfOk a (λ r. IsReply w r (limited st at e))
  long_answer w x tells b s h = all a h
    where
      all : (a : Result Reply E) → IfOk a (λ r. IsReply w r (refusing (state_of w) at (refusal LineTooLong []))) → IfOk a (λ r. IsReply w r (limited st at e))
      all (Ok r) h = told_long w r st at e x tells b s h
      all (Err m) h = tt

  pub short_answer : (u : World) (x : told.Event) (n : Next) → IsEventIn u.store x → e.events ≡ event_of u.store x ∷ [] → next_of n ≡ e.next → state_of u ≡ e.state → false ≡ nat_lt MOST_LINE_BYTES (bytes_of_line e.state.names e.state.signature (event_of u.store x)) → IfOk a (λ r. (r.events.items ≡ x ∷ []) × (r.next ≡ n)) → IfOk a (λ r. IsReply u r (limited st at e))
  short_answer u x n known tells goes s b h = all a h
    where
      all : (a : Result Reply E) → IfOk a (λ r. (r.events.items ≡ x ∷ []) × (r.next ≡ n)) → IfOk a (λ r. IsReply u r (limited st at e))
      all (Ok r) h = told_short u r st at e (event_of u.store x) tells b (record {
        events = subst (λ (es : List Event). AreEvents u.store r.events.items es) (sym tells) (one_event u.store r.events.items x (event_of u.store x) h.0 known refl);
        next = ap next_of h.1 ∙ goes;
        state = s;
      })
      all (Err m) h = tt

-- a declaration of which the line would be too long, as it was tested
module _ {E : Type 0} (a : Result Reply E) (w : World) (at : Pos) (event : Event) (outcome : Result Signature Flaw) where
  abbrev declared_within : Result Signature Flaw → Effect
  declared_within o = limited (state_of w) at (declaring (state_of w) at event o)

  answered_as : (o : Result Signature Flaw) → outcome ≡ o → IfOk a (λ r. IsReply w r (declared_within o)) → IfOk a (λ r. IsReply w r (declared_within outcome))
  answered_as o is h = subst (λ (o : Result Signature Flaw). IfOk a (λ r. IsReply w r (declared_within o))) (sym is) h

  pub long_declaration : (sig : Signature) → outcome ≡ Ok sig → true ≡ nat_lt MOST_LINE_BYTES (bytes_of_line w.names sig event) → IfOk a (λ r. IsReply w r (refusing (state_of w) at (refusal LineTooLong []))) → IfOk a (λ r. IsReply w r (declared_within outcome))
  long_declaration sig is b h = answered_as (Ok sig) is (long_answer a (state_of w) at (declaring (state_of w) at event (Ok sig)) w event refl b refl h)

  pub flawed_declaration : (error : DeclareError) → MatchTest outcome (Err error) → (error ≡ Memory → OnOk a ⊥) → ((f : Flaw) → error ≡ Flawed f → IfOk a (λ r. IsReply w r (limited (state_of w) at (refusing (state_of w) at (declaration_refusal f))))) → IfOk a (λ r. IsReply w r (declared_within outcome))
  flawed_declaration (Flawed f) is memory h = answered_as (Err f) is (h f refl)
  flawed_declaration Memory is memory h = spent a (memory refl)
    where
      spent : (a : Result Reply E) → OnOk a ⊥ → IfOk a (λ r. IsReply w r (declared_within outcome))
      spent (Ok r) never = absurd never
      spent (Err m) never = tt
