-- What a text that is read on does.
use Rattle.std.proofs.Common.{◌≡◌, ◌⊎◌, inl, inr, ℕ, ◌-◌, Bool, false, List, [], ◌∷◌, ◌++◌, length, reverse, Option, Result, Ok, Err, refl, sym, ◌∙◌, ap, subst, arith, if◌then◌else◌}
use Rattle.std.specs.Result.{is_ok, is_err}
use Rattle.std.proofs.lemmas.List.{length-reverse, length-append, reverse-append}
use Rattle.std.proofs.Math.Bool.{or-false}
use Rattle.ath_io.specs.Shelf.{Texts}
use Rattle.ath_io.specs.Sink.{Held}
use Rattle.ath_syntax.specs.declared.place.Pos.{Pos}
use Rattle.ath_syntax.specs.declared.directive.Directive.{Directive}
use Rattle.ath_syntax.specs.Nodes.{Nodes}
use Rattle.ath_syntax.specs.Stands.{IsDirective, is_directive}
use Rattle.ath_syntax.specs.Tree.{DirectiveTree}
use Rattle.ath_reader.specs.declared.reader.SyntaxError.{SyntaxError}
use Rattle.ath_reader.specs.declared.reader.SyntaxKind.{SyntaxKind}
use Rattle.ath_reader.specs.declared.reader.SyntaxKind.TheVariants.{Memory as NoMemory}
use Rattle.ath_reader.specs.Ahead.{Ahead, a_token, the_end, a_fault}
use Rattle.ath_reader.specs.Reading.{Reading, Progress, reached, Fails}
use Rattle.ath_reader.specs.Answering.{Wants, Answers}
use Rattle.ath_reader.specs.Next.{Upcoming, whole, ended, stopped, IsNext, byte_reached}
use Rattle.ath_reader.specs.Laws.{OneNext}
use Rattle.ath_grammar.specs.Tokens.{Placed}
use Rattle.ath_print.specs.Events.{refused}
use Rattle.ath_eval.specs.Outcomes.{refusal}
use Rattle.ath_session.specs.declared.status.Status.TheVariants.{Memory}
use Rattle.ath_session.specs.declared.desk.Flow.{Flow}
use Rattle.ath_session.specs.declared.desk.Flow.TheVariants.{On, End}
use Rattle.ath_session.specs.State.{State, with_names}
use Rattle.ath_session.specs.Directives.{effect}
use Rattle.ath_session.specs.Run.{Configuration, Move, goes, items_of, said, following, fault_kind, place_of, turned, IsMove}
use Rattle.ath_session.specs.Ends.{Outside}
use Rattle.ath_session.specs.Steps.{Did}
use Rattle.ath_session.proofs.DeskLaws.{no_items}

-- want of memory is no cause of a refusal
no_fault : (r : Reading) (ts : List Placed) (next : Ahead) (pos : Pos) → Fails r ts next NoMemory pos → ⊥
no_fault r ts (a_token t known to) pos h = h
no_fault r ts the_end pos h = h
no_fault r ts (a_fault found byte) pos h = h

pub not_memory : (r : Reading) (names : List (List ℕ)) (from : ℕ) (e : SyntaxError) (names' : List (List ℕ)) → IsNext r names from (stopped e names') → e.kind ≡ NoMemory → ⊥
not_memory r names from e names' h is = no_fault r h.front.tokens h.front.next e.pos (subst (λ (k : SyntaxKind). Fails r h.front.tokens h.front.next k e.pos) is h.cause)

place_is : (s : Nodes) (d : Directive) (t : DirectiveTree) → IsDirective s d t → place_of t ≡ d.pos
place_is s d t (is_directive h) = refl

-- the last reader is the innermost text
pub innermost : (rs : List Reading) (r : Reading) → reverse (rs ++ r ∷ []) ≡ r ∷ reverse rs
innermost rs r = reverse-append rs (r ∷ [])

pub around : (rs : List Reading) (r : Reading) → length (rs ++ r ∷ []) - 1 ≡ length (reverse rs)
around rs r = let e = length-append rs (r ∷ []) in let f = length-reverse rs in omega arith

module _ (texts : List (List ℕ × List ℕ)) (c : Configuration) (r : Reading) (from : ℕ) (at : r.progress ≡ reached from) where
  module _ (one : OneNext) (m : Move) (moves : IsMove texts (record c { stack = r ∷ c.stack }) m) where
    move_is : (n : Upcoming) → IsNext r c.state.names from n → m ≡ turned texts (record c { stack = r ∷ c.stack }) r c.stack n
    move_is n h = moves.2 ∙ ap (turned texts (record c { stack = r ∷ c.stack }) r c.stack) (one r c.state.names from moves.0 n (subst (λ (b : ℕ). IsNext r c.state.names b moves.0) (ap byte_reached at) moves.1) h)

    -- at the end of a text
    pub ended_did : IsNext r c.state.names from ended → (d : Configuration) → d ≡ c → (errors : Bool) (o : Outside) → Did m On errors errors d o o
    ended_did h d same errors o = ([], (move_is ended h ∙ ap (λ (k : Configuration). goes [] k) (sym same), sym (or-false errors), sym (no_items o)))

    -- at a refusal
    pub stopped_did : (e : SyntaxError) (names' : List (List ℕ)) → IsNext r c.state.names from (stopped e names') → (d : Configuration) → d ≡ record c { state = with_names names' c.state } → (flow : Flow) (before after : Bool) (k : Configuration) (o o' : Outside)
        → Did (goes (said d (refused e.pos (refusal (fault_kind e.kind) [])) ∷ []) d) flow before after k o o' → Did m flow before after k o o'
    stopped_did e names' h d is flow before after k o o' did =
        subst (λ (x : Move). Did x flow before after k o o') (ap (λ (w : Configuration). goes (said w (refused e.pos (refusal (fault_kind e.kind) [])) ∷ []) w) is ∙ sym (move_is (stopped e names') h)) did

    -- at a directive
    pub whole_did : (s : Nodes) (d : Directive) (t : DirectiveTree) (to : ℕ) (names' : List (List ℕ)) → IsDirective s d t → IsNext r c.state.names from (whole t to names') → (w : Configuration) → w ≡ record c { stack = record r { progress = reached to } ∷ c.stack; state = with_names names' c.state } → (outer : ℕ) → outer ≡ length c.stack
        → (flow : Flow) (before after : Bool) (k : Configuration) (o o' : Outside)
        → Did (following texts (record w { state = (effect w.state t).state }) outer d.pos (effect w.state t).events (effect w.state t).next) flow before after k o o' → Did m flow before after k o o'
    whole_did s d t to names' stands h w is outer depth flow before after k o o' did =
        subst (λ (x : Move). Did x flow before after k o o')
        (ap (λ (v : Configuration). following texts (record v { state = (effect v.state t).state }) outer d.pos (effect v.state t).events (effect v.state t).next) is
        ∙ ap (λ (n : ℕ). following texts (record c { stack = record r { progress = reached to } ∷ c.stack; state = (effect (with_names names' c.state) t).state }) n d.pos (effect (with_names names' c.state) t).events (effect (with_names names' c.state) t).next) depth
        ∙ ap (λ (p : Pos). following texts (record c { stack = record r { progress = reached to } ∷ c.stack; state = (effect (with_names names' c.state) t).state }) (length c.stack) p (effect (with_names names' c.state) t).events (effect (with_names names' c.state) t).next) (sym (place_is s d t stands))
        ∙ sym (move_is (whole t to names') h))
        did

pub reads : (r : Reading) (from : ℕ) (names : List (List ℕ)) (s : Nodes) (result : Result (Option Directive) SyntaxError) (new : Reading) (names' : List (List ℕ)) (s' : Nodes) → r.progress ≡ reached from → Answers r r.progress names s result new names' s' → Answers r (reached from) names s result new names' s'
reads r from names s result new names' s' at h = subst (λ (p : Progress). Answers r p names s result new names' s') at h

pub same_state : (st st' : State) (names : List (List ℕ)) → st' ≡ with_names names st → names ≡ st.names → st' ≡ st
same_state st st' names is same = is ∙ ap (λ (known : List (List ℕ)). with_names known st) same

pub pushed : {T E : Type 0} (r : Result T E) (xs ys : List Reading) (x : Reading) → ys ≡ (if is_ok r then xs ++ x ∷ [] else xs) → is_err r ≡ false → ys ≡ xs ++ x ∷ []
pushed (Ok u) xs ys x h e = h
pushed (Err u) xs ys x h e = absurd (cc)

pub read_to : (c : Configuration) (stack stack' : List Reading) (st st' : State) → stack ≡ stack' → st ≡ st' → record c { stack = stack; state = st } ≡ record c { stack = stack'; state = st' }
read_to c stack stack' st st' e f = ap (λ (rs : List Reading). record c { stack = rs; state = st }) e ∙ ap (λ (s : State). record c { stack = stack'; state = s }) f

-- a refusal, or want of memory
module _ (r : Reading) (names : List (List ℕ)) (from : ℕ) (e : SyntaxError) (names' : List (List ℕ)) (s s' : Nodes) where
  pub refusal_next : (Wants e names names' s s' ⊎ (IsNext r names from (stopped e names') × (s' ≡ s))) → (e.kind ≡ NoMemory → ⊥) → IsNext r names from (stopped e names')
  refusal_next (inl w) other = absurd (other w.kind)
  refusal_next (inr h) other = h.0

  -- what is done then
  module _ (m : Move) (flow : Flow) (before after : Bool) (k : Configuration) (told : Option Texts) (sink sink' : Option Held) where
    no_memory_did : flow ≡ End Memory → sink' ≡ sink → Did m flow before after k (record { shelf = told; sink = sink }) (record { shelf = told; sink = sink' })
    no_memory_did is same =
        subst (λ (f : Flow). Did m f before after k (record { shelf = told; sink = sink }) (record { shelf = told; sink = sink' })) (sym is)
        ([], items_of m, (refl, ap (λ (h : Option Held). record { shelf = told; sink = h }) same ∙ sym (no_items (record { shelf = told; sink = sink }))))

    pub refused_did : (Wants e names names' s s' ⊎ (IsNext r names from (stopped e names') × (s' ≡ s))) → (e.kind ≡ NoMemory → (flow ≡ End Memory) × (sink' ≡ sink)) → (IsNext r names from (stopped e names') → Did m flow before after k (record { shelf = told; sink = sink }) (record { shelf = told; sink = sink' })) → Did m flow before after k (record { shelf = told; sink = sink }) (record { shelf = told; sink = sink' })
    refused_did (inl w) wanted rest = no_memory_did (wanted w.kind).0 (wanted w.kind).1
    refused_did (inr h) wanted rest = rest h.0
