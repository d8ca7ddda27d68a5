-- Faults and events in a store that grows.
use Rattle.std.proofs.Common.{◌≡◌, List, [], ◌∷◌, map, refl, ◌∙◌, ap, arith}
use Rattle.std.specs.List.{All}
use Rattle.std.proofs.lemmas.List.Elements.{All-weaker, All-head, All-tail}
use Rattle.ath_terms.specs.Trees.{Trees, Grows}
use Rattle.ath_env.proofs.ValueLaws.{is_in-kept, value_at-kept}
use Rattle.ath_print.specs.declared.fault.Fault.{Fault}
use Rattle.ath_print.specs.declared.fault.FaultArg.{FaultArg}
use Rattle.ath_print.specs.declared.fault.FaultArg.TheVariants.{Sent, Term, Sort, Name, SortName, Number}
use Rattle.ath_print.specs.declared.event.Event.{Event as Told}
use Rattle.ath_print.specs.declared.event.Event.TheVariants.{Domain, Symbols, Assertion, Theorem, Shown, Error, Fuel}
use Rattle.ath_print.specs.Events.{Refusal, Event, sentence_named, term_named, asserted, proved, shown, refused}
use Rattle.ath_print.specs.Stands.{argument_of, IsArgumentIn, refusal_of, IsFaultIn, IsRefusal, event_of, IsEventIn, IsEvent}

module _ (s u : Trees) (g : Grows s u) where
  argument_in-kept : (a : FaultArg) → IsArgumentIn s a → IsArgumentIn u a
  argument_in-kept (Sent p) h = omega (arith, g.sents, h)
  argument_in-kept (Term t) h = omega (arith, g.terms, h)
  argument_in-kept (Sort r) h = tt
  argument_in-kept (SortName n) h = tt
  argument_in-kept (Name n) h = tt
  argument_in-kept (Number n) h = tt

  argument-kept : (a : FaultArg) → IsArgumentIn s a → argument_of u a ≡ argument_of s a
  argument-kept (Sent p) h = ap sentence_named (g.same_sents p.0 h)
  argument-kept (Term t) h = ap term_named (g.same_terms t.0 h)
  argument-kept (Sort r) h = refl
  argument-kept (SortName n) h = refl
  argument-kept (Name n) h = refl
  argument-kept (Number n) h = refl

  arguments-kept : (args : List FaultArg) → All (IsArgumentIn s) args → map (argument_of u) args ≡ map (argument_of s) args
  arguments-kept [] h = refl
  arguments-kept (a ∷ args) h =
      let p = argument-kept a (All-head (IsArgumentIn s) a args h) in
      let q = arguments-kept args (All-tail (IsArgumentIn s) a args h) in
      λ i. p i ∷ q i

  pub fault_in-kept : (f : Fault) → IsFaultIn s f → IsFaultIn u f
  fault_in-kept f h = All-weaker (IsArgumentIn s) (IsArgumentIn u) argument_in-kept f.args h

  pub refusal-kept : (f : Fault) → IsFaultIn s f → refusal_of u f ≡ refusal_of s f
  refusal-kept f h = ap (λ args. record { kind = f.kind; args = args }) (arguments-kept f.args h)

  pub fault-kept : (f : Fault) (why : Refusal) → IsRefusal s f why → IsRefusal u f why
  fault-kept f why h = (fault_in-kept f h.0, refusal-kept f h.0 ∙ h.1)

  pub event_in-kept : (e : Told) → IsEventIn s e → IsEventIn u e
  event_in-kept (Domain n) h = tt
  event_in-kept (Symbols ns) h = tt
  event_in-kept (Assertion p) h = omega (arith, g.sents, h)
  event_in-kept (Theorem p) h = omega (arith, g.sents, h)
  event_in-kept (Shown v) h = is_in-kept s u v g h
  event_in-kept (Error at why) h = fault_in-kept why h
  event_in-kept (Fuel at) h = tt

  pub event_of-kept : (e : Told) → IsEventIn s e → event_of u e ≡ event_of s e
  event_of-kept (Domain n) h = refl
  event_of-kept (Symbols ns) h = refl
  event_of-kept (Assertion p) h = ap asserted (g.same_sents p.0 h)
  event_of-kept (Theorem p) h = ap proved (g.same_sents p.0 h)
  event_of-kept (Shown v) h = ap shown (value_at-kept s u v g h)
  event_of-kept (Error at why) h = ap (refused at) (refusal-kept why h)
  event_of-kept (Fuel at) h = refl

  pub event-kept : (e : Told) (x : Event) → IsEvent s e x → IsEvent u e x
  event-kept e x h = (event_in-kept e h.0, event_of-kept e h.0 ∙ h.1)
