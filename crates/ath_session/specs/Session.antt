-- What a session stands for, and its replies.
use Rattle.std.specs.Prelude.{◌≡◌, List, map, string_bytes, IfSome}
use Rattle.std.specs.List.{All}
use Rattle.ath_sorts.specs.Validity.{AreDistinct}
use Rattle.ath_syntax.specs.declared.directive.What.{What}
use Rattle.ath_syntax.specs.declared.directive.What.TheVariants.{Declare}
use Rattle.ath_terms.specs.Trees.{Trees, Grows}
use Rattle.ath_print.specs.declared.event.Event as told
use Rattle.ath_print.specs.Events.{Event}
use Rattle.ath_print.specs.Stands.{event_of, IsEventIn}
use Rattle.ath_eval.specs.declared.world.World.{World}
use Rattle.ath_base.specs.Stands.{entries_in, entries_of}
use Rattle.ath_session.specs.declared.session.Next as answer
use Rattle.ath_session.specs.declared.session.Next.TheVariants as code
use Rattle.ath_session.specs.declared.session.Reply.{Reply}
use Rattle.ath_session.specs.State.{State}
use Rattle.ath_session.specs.Directives.{Continuation, goes_on, loads, ends, Effect}

abbrev pub state_of : World → State
state_of w = record { names = w.names; signature = w.sig; base = entries_of w.store (entries_in w.base.nodes.items w.scope.0); fuel = w.fuel; fresh = w.fresh }

-- the parameters that a declaration lists differ
abbrev pub ParamsDiffer : What → Type 0
ParamsDiffer (Declare ns params args result) = IfSome params AreDistinct
ParamsDiffer w = Unit {0}

-- the numbers in the events are numbers of the store, and the events stand for these
abbrev pub AreEvents : Trees → List told.Event → List Event → Type 0
AreEvents s es xs = All (IsEventIn s) es × (map (event_of s) es ≡ xs)

abbrev pub next_of : answer.Next → Continuation
next_of code.Go = goes_on
next_of (code.Load name) = loads (string_bytes name)
next_of code.Stop = ends

-- a reply, and the world after it, are this effect
pub record IsReply (w : World) (r : Reply) (e : Effect) : Type 0 where
  pub events : AreEvents w.store r.events.items e.events
  pub next : next_of r.next ≡ e.next
  pub state : state_of w ≡ e.state

-- what a directive keeps, also where memory is wanted: the names, and what each number of a phrase, a term or a sentence stood for
pub record KeepsNumbers (old new : World) : Type 0 where
  pub names : new.names ≡ old.names
  pub phrases : new.phrases ≡ old.phrases
  pub store : Grows old.store new.store
