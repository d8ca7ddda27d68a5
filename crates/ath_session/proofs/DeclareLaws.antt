-- What a declaration does: the signature that grows, and the reply.
use Rattle.std.proofs.Common.{◌≡◌, nat_lt, false, List, [], ◌∷◌, Option, Result, Ok, Err, IfOk, refl, sym, ◌∙◌, ap, subst, take}
use Rattle.std.specs.Prelude.{IfSome, OnErr, OnOk}
use Rattle.ath_sorts.specs.declared.sorts.Sym.{Sym}
use Rattle.ath_sorts.specs.declared.signature.Flaw.{Flaw}
use Rattle.ath_sorts.specs.Signature.{Signature}
use Rattle.ath_sorts.specs.Validity.{AreDistinct, IsValid}
use Rattle.ath_syntax.specs.declared.place.Pos.{Pos}
use Rattle.ath_syntax.specs.declared.node.SortText.{SortText}
use Rattle.ath_declarations.specs.declared.declaring.DeclareError.{DeclareError}
use Rattle.ath_declarations.specs.declared.declaring.DeclareError.TheVariants.{Flawed, Memory}
use Rattle.ath_declarations.specs.Declarations.{domain_declared, declared}
use Rattle.ath_declarations.specs.Laws.{Keeps, AreNarrow}
use Rattle.ath_declarations.specs.Outcomes.{MatchChange, IsBegun}
use Rattle.ath_declarations.proofs.Keeping.{domain_keeps, symbols_keep, domain_valid, symbols_valid}
use Rattle.ath_declarations.proofs.Narrow.{domain_narrow, symbols_narrow}
use Rattle.ath_terms.specs.Trees.{Trees}
use Rattle.ath_terms.specs.SortsIn.{IsSortedIn}
use Rattle.ath_print.specs.declared.event.Event as told
use Rattle.ath_print.specs.Events.{Event}
use Rattle.ath_print.specs.Stands.{event_of, IsEventIn}
use Rattle.ath_eval.specs.declared.world.World.{World}
use Rattle.ath_session.specs.State.{State, with_signature}
use Rattle.ath_print.specs.declared.limits.TheConstants.{MOST_LINE_BYTES}
use Rattle.ath_print.specs.Lines.{bytes_of_line}
use Rattle.ath_session.specs.Directives.{declaring, refusing, declaration_refusal, limited}
use Rattle.ath_session.specs.declared.session.Next.TheVariants as next
use Rattle.ath_session.specs.declared.session.Reply.{Reply}
use Rattle.ath_session.specs.Session.{state_of, next_of, IsReply}
use Rattle.ath_eval.proofs.Kept.{kept_store}
use Rattle.ath_session.proofs.SessionLaws.{reply_as, one_event}
use Rattle.ath_session.proofs.LimitLaws.{told_short}

-- what the one signature has, the other has, and it is as good
pub record GrowsTo (old new : Signature) : Type 0 where
  pub keeps : Keeps old new
  pub valid : IsValid old → IsValid new
  pub narrow : AreNarrow old → AreNarrow new

pub grown_same : (old new : Signature) → new ≡ old → GrowsTo old new
grown_same old new e = subst (GrowsTo old) (sym e) (record { keeps = record { sorts = λ c n h. h; symbols = λ f s h. h }; valid = λ h. h; narrow = λ h. h })

pub grown_sorted : (old new : Signature) (s : Trees) → GrowsTo old new → IsSortedIn old s → IsSortedIn new s
grown_sorted old new s g h = kept_store old new g.keeps (g.valid h.valid) s h

pub domain_grown : (old new : Signature) (n : Sym) (vs : List Sym) (r : Result (Unit {0}) DeclareError) → MatchChange (domain_declared old n vs) old new r → OnErr r (new ≡ old) → GrowsTo old new
domain_grown old new n vs (Ok u) h e = record { keeps = domain_keeps old new n vs h; valid = λ v. domain_valid old new n vs v h; narrow = λ w. domain_narrow old new n vs w h }
domain_grown old new n vs (Err x) h e = grown_same old new e

module _ (list : Option (List Sym)) (args : List SortText) (result : SortText) (differ : IfSome list AreDistinct) where
  some_grown : (old new : Signature) (ns : List Sym) → declared old ns list args result ≡ Ok new → GrowsTo old new
  some_grown old new ns h = record { keeps = symbols_keep old new ns list args result h; valid = λ v. symbols_valid old new ns list args result v differ h; narrow = λ w. symbols_narrow old new ns list args result w h }

  pub symbols_grown : (old new : Signature) (ns : List Sym) (r : Result (Unit {0}) DeclareError) → MatchChange (declared old ns list args result) old new r → OnErr r (IsBegun old new ns list args result) → GrowsTo old new
  symbols_grown old new ns (Ok u) h e = some_grown old new ns h
  symbols_grown old new ns (Err x) h e = some_grown old new (take e.count ns) e.after

-- ---- the reply
pub same_flaw : (f g : Flaw) → ◌≡◌ {A = DeclareError} (Flawed f) (Flawed g) → f ≡ g
same_flaw f g e = cc

module _ (w u : World) (same : state_of u ≡ with_signature (state_of w) u.sig) (at : Pos) (event : Event) (outcome : Result Signature Flaw) (r : Result (Unit {0}) DeclareError) (change : MatchChange outcome w.sig u.sig r) where
  abbrev Declares : Reply → Type 0
  Declares reply = IsReply u reply (limited (state_of w) at (declaring (state_of w) at event outcome))

  pub declared_reply : (reply : Reply) (x : told.Event) → r ≡ Ok tt → reply.events.items ≡ x ∷ [] → reply.next ≡ next.Go → IsEventIn u.store x → event_of u.store x ≡ event → false ≡ nat_lt MOST_LINE_BYTES (bytes_of_line w.names u.sig event) → Declares reply
  declared_reply reply x ok e n k is short =
      let h : outcome ≡ Ok u.sig = subst (MatchChange outcome w.sig u.sig) ok change in
      let st = state_of w in
      reply_as u reply _ _ (ap (λ (o : Result Signature Flaw). limited st at (declaring st at event o)) (sym h))
      (told_short u reply st at (declaring st at event (Ok u.sig)) event refl short (record { events = one_event u.store reply.events.items x event e k is; next = ap next_of n; state = same }))

  refused_as : (reply : Reply) (f : Flaw) → outcome ≡ Err f → u.sig ≡ w.sig → IsReply u reply (limited (state_of u) at (refusing (state_of u) at (declaration_refusal f))) → Declares reply
  refused_as reply f h sig k =
      let s : state_of u ≡ state_of w = same ∙ ap (with_signature (state_of w)) sig in
      reply_as u reply _ _ (ap (λ (st : State). limited st at (refusing st at (declaration_refusal f))) s ∙ ap (λ (o : Result Signature Flaw). limited (state_of w) at (declaring (state_of w) at event o)) (sym h)) k

  pub refused_reply : {E : Type 0} (a : Result Reply E) (e : DeclareError) → r ≡ Err e → (e ≡ Memory → OnOk a ⊥) → ((f : Flaw) → e ≡ Flawed f → IfOk a (λ reply. IsReply u reply (limited (state_of u) at (refusing (state_of u) at (declaration_refusal f))))) → IfOk a Declares
  refused_reply (Err m) e is wanted h = tt
  refused_reply (Ok reply) e is wanted h = by e (subst (MatchChange outcome w.sig u.sig) is change) wanted h
    where
      by : (e : DeclareError) → MatchChange outcome w.sig u.sig (Err e) → (e ≡ Memory → ⊥) → ((f : Flaw) → e ≡ Flawed f → IsReply u reply (limited (state_of u) at (refusing (state_of u) at (declaration_refusal f)))) → Declares reply
      by (Flawed f) c m k = refused_as reply f c.0 c.1 (k f refl)
      by Memory c m k = absurd (m refl)
