-- Events that are told one after the other.
use Rattle.std.proofs.Common.{◌≡◌, ℕ, suc, ◌<◌, ◌≤◌, ◌+◌, ◌||◌, List, [], ◌∷◌, ◌++◌, length, map, take, drop, get_or, Option, None, refl, sym, ◌∙◌, ap, subst, arith, append_assoc, drop-cons}
use Rattle.std.proofs.lemmas.List.{map-append, take_more, take-append-drop}
use Rattle.std.proofs.Math.Seq.{take-length}
use Rattle.ath_io.specs.Shelf.{Texts}
use Rattle.ath_io.specs.Sink.{Held, with_puts}
use Rattle.ath_terms.specs.Trees.{Trees}
use Rattle.ath_print.specs.Events.{Event}
use Rattle.ath_print.specs.Stands.{event_of}
use Rattle.ath_print.specs.declared.event.Event.{Event as Told}
use Rattle.ath_session.specs.declared.status.Status.{Status}
use Rattle.ath_session.specs.declared.status.Status.TheVariants.{SourceFault}
use Rattle.ath_session.specs.declared.desk.Desk.{Desk}
use Rattle.ath_session.specs.declared.desk.Flow.{Flow}
use Rattle.ath_session.specs.declared.desk.Flow.TheVariants.{On, End}
use Rattle.ath_session.specs.Run.{Item, Configuration, goes, items_of, said, tell_all}
use Rattle.ath_session.specs.Report.{names_in, lines_in, has_error}
use Rattle.ath_session.specs.Ends.{Outside, after_items}
use Rattle.ath_session.specs.Steps.{configuration_of, Ended, Did}
use Rattle.ath_session.proofs.DeskLaws.{asked_none, behind, ends_within}

no_names : (c : Configuration) (es : List Event) → names_in (tell_all c es) ≡ []
no_names c [] = refl
no_names c (e ∷ es) = no_names c es

-- these events are told, and nothing else is done
pub record ToldSoFar (old now : Desk) (es : List Event) (sink sink' : Option Held) : Type 0 where
  pub kept : now ≡ record old { errors = now.errors }
  pub errors : now.errors ≡ (old.errors || has_error (tell_all (configuration_of old) es))
  pub lines : sink' ≡ with_puts sink (lines_in (tell_all (configuration_of old) es))

-- one event is told after them
module _ (old mid new : Desk) (es : List Event) (item : Told) (h h' h'' : Option Held) (so : ToldSoFar old mid es h h') where
  same_event : event_of mid.session.world.store item ≡ event_of old.session.world.store item
  same_event = ap (λ (d : Desk). event_of d.session.world.store item) so.kept

  all_done : (told : Option Texts) → record { shelf = told; sink = h' } ≡ after_items (record { shelf = told; sink = h }) (tell_all (configuration_of old) es)
  all_done told = rw (no_names (configuration_of old) es) (rw (asked_none told) (ap (λ (k : Option Held). record { shelf = told; sink = k }) so.lines))

  one : (told : Option Texts) (flow : Flow) → (flow ≡ End SourceFault → ⊥) → Did (goes (said (configuration_of mid) (event_of mid.session.world.store item) ∷ []) (configuration_of mid)) flow mid.errors new.errors (configuration_of new) (record { shelf = told; sink = h' }) (record { shelf = told; sink = h'' })
      → Did (goes (tell_all (configuration_of old) es ++ said (configuration_of old) (event_of old.session.world.store item) ∷ []) (configuration_of old)) flow old.errors new.errors (configuration_of new) (record { shelf = told; sink = h }) (record { shelf = told; sink = h'' })
  one told flow other did =
      behind (tell_all (configuration_of old) es) (said (configuration_of old) (event_of old.session.world.store item) ∷ []) (configuration_of old) old.errors mid.errors new.errors (configuration_of new) (record { shelf = told; sink = h }) (record { shelf = told; sink = h' }) (record { shelf = told; sink = h'' }) so.errors (all_done told) flow other
      (subst (λ (x : Event). Did (goes (said (configuration_of old) x ∷ []) (configuration_of old)) flow mid.errors new.errors (configuration_of new) (record { shelf = told; sink = h' }) (record { shelf = told; sink = h'' })) same_event
      (subst (λ (k : Configuration). Did (goes (said k (event_of mid.session.world.store item) ∷ []) k) flow mid.errors new.errors (configuration_of new) (record { shelf = told; sink = h' }) (record { shelf = told; sink = h'' })) (ap configuration_of so.kept) did))

  told_more : tell_all (configuration_of old) (es ++ event_of old.session.world.store item ∷ []) ≡ tell_all (configuration_of old) es ++ said (configuration_of old) (event_of old.session.world.store item) ∷ []
  told_more = map-append (said (configuration_of old)) es (event_of old.session.world.store item ∷ [])

  told_now : (told : Option Texts) → new ≡ record mid { errors = new.errors } → Did (goes (tell_all (configuration_of old) es ++ said (configuration_of old) (event_of old.session.world.store item) ∷ []) (configuration_of old)) On old.errors new.errors (configuration_of new) (record { shelf = told; sink = h }) (record { shelf = told; sink = h'' }) → ToldSoFar old new (es ++ event_of old.session.world.store item ∷ []) h h''
  told_now told keeps (items, (same, errs, all)) =
      let is : items ≡ tell_all (configuration_of old) (es ++ event_of old.session.world.store item ∷ []) = sym (ap items_of same) ∙ sym told_more in
      record {
        kept = keeps ∙ ap (λ (d : Desk). record d { errors = new.errors }) so.kept;
        errors = errs ∙ ap (λ (xs : List Item). old.errors || has_error xs) is;
        lines = ap (λ (o : Outside). o.sink) all ∙ ap (λ (xs : List Item). with_puts h (lines_in xs)) is;
      }

  -- it is told whole
  pub told_next : new ≡ record mid { errors = new.errors } → ((told : Option Texts) → Did (goes (said (configuration_of mid) (event_of mid.session.world.store item) ∷ []) (configuration_of mid)) On mid.errors new.errors (configuration_of new) (record { shelf = told; sink = h' }) (record { shelf = told; sink = h'' })) → ToldSoFar old new (es ++ event_of old.session.world.store item ∷ []) h h''
  told_next keeps did = told_now None keeps (one None On (λ f. absurd (cc)) (did None))

  all_told : (more all : List Event) → all ≡ es ++ event_of old.session.world.store item ∷ more → tell_all (configuration_of old) all ≡ (tell_all (configuration_of old) es ++ said (configuration_of old) (event_of old.session.world.store item) ∷ []) ++ tell_all (configuration_of old) more
  all_told more all is = ap (tell_all (configuration_of old)) is ∙ map-append (said (configuration_of old)) es (event_of old.session.world.store item ∷ more) ∙ sym (append_assoc (tell_all (configuration_of old) es) (said (configuration_of old) (event_of old.session.world.store item) ∷ []) (tell_all (configuration_of old) more))

  -- the run ends there
  pub told_part : (more all : List Event) → all ≡ es ++ event_of old.session.world.store item ∷ more → (told : Option Texts) (status : Status) → (End status ≡ End SourceFault → ⊥) → Did (goes (said (configuration_of mid) (event_of mid.session.world.store item) ∷ []) (configuration_of mid)) (End status) mid.errors new.errors (configuration_of new) (record { shelf = told; sink = h' }) (record { shelf = told; sink = h'' })
      → Ended (goes (tell_all (configuration_of old) all) (configuration_of old)) status old.errors (record { shelf = told; sink = h }) (record { shelf = told; sink = h'' })
  told_part more all is told status other did =
      subst (λ (xs : List Item). Ended (goes xs (configuration_of old)) status old.errors (record { shelf = told; sink = h }) (record { shelf = told; sink = h'' })) (sym (all_told more all is))
      (ends_within (tell_all (configuration_of old) es ++ said (configuration_of old) (event_of old.session.world.store item) ∷ []) (tell_all (configuration_of old) more) (configuration_of old) (configuration_of old) old.errors new.errors (configuration_of new) (record { shelf = told; sink = h }) (record { shelf = told; sink = h'' }) status (one told (End status) other did))

-- all of them are told
pub told_all : (old new : Desk) (es : List Event) (h h' : Option Held) → ToldSoFar old new es h h' → (told : Option Texts) → Did (goes (tell_all (configuration_of old) es) (configuration_of old)) On old.errors new.errors (configuration_of new) (record { shelf = told; sink = h }) (record { shelf = told; sink = h' })
told_all old new es h h' so told = (
  tell_all (configuration_of old) es,
  (
    ap (λ (d : Desk). goes (tell_all (configuration_of old) es) (configuration_of d)) (sym so.kept),
    so.errors,
    rw (no_names (configuration_of old) es) (rw (asked_none told) (ap (λ (k : Option Held). record { shelf = told; sink = k }) so.lines)),
  ),
)

-- the events before one, that one, and those behind it
module _ (s : Trees) (es : List Told) (i : ℕ) (e : Told) (there : i < length es) where
  begun_more : take (i + 1) es ≡ take i es ++ get_or es i e ∷ []
  begun_more = take_more es i e there

  pub told_events : get_or es i e ≡ e → map (event_of s) (take (i + 1) es) ≡ map (event_of s) (take i es) ++ event_of s e ∷ []
  told_events is = ap (map (event_of s)) (begun_more ∙ ap (λ (x : Told). take i es ++ x ∷ []) is) ∙ map-append (event_of s) (take i es) (e ∷ [])

  pub events_split : get_or es i e ≡ e → map (event_of s) es ≡ map (event_of s) (take i es) ++ event_of s e ∷ map (event_of s) (drop (suc i) es)
  events_split is =
      ap (map (event_of s)) (sym (take-append-drop i es) ∙ ap (λ (rest : List Told). take i es ++ rest) (drop-cons es i e there ∙ ap (λ (x : Told). x ∷ drop (suc i) es) is))
      ∙ map-append (event_of s) (take i es) (e ∷ drop (suc i) es)

pub all_begun : (es : List Told) (i : ℕ) → i ≤ length es → length es ≤ i → take i es ≡ es
all_begun es i h k = let e : i ≡ length es = omega arith in ap (λ (n : ℕ). take n es) e ∙ take-length es
