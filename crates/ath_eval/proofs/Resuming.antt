-- Frames get their outcomes.
use Rattle.std.proofs.Common.{◌≡◌, ℕ, ◌+◌, ◌*◌, ◌<◌, ◌≤◌, List, [], ◌∷◌, ◌++◌, length, length-append, refl, sym, ap, ◌∙◌, subst, arith}
use Rattle.std.proofs.lemmas.List.Elements.{All-nil}
use Rattle.ath_syntax.specs.declared.place.Pos.{Pos}
use Rattle.ath_syntax.specs.declared.node.PhraseId.{PhraseId}
use Rattle.ath_syntax.specs.Nodes.{Nodes}
use Rattle.ath_syntax.specs.declared.node.SortText.{SortText}
use Rattle.ath_syntax.specs.Stands.{IsPhrase}
use Rattle.ath_syntax.specs.Tree.{Phrase, ascribe_at}
use Rattle.ath_trees.specs.declared.node.SentId.{SentId}
use Rattle.ath_terms.specs.declared.fresh.Fresh.{Fresh}
use Rattle.ath_terms.proofs.Grow.{grows-none}
use Rattle.ath_base.specs.declared.base.Node.{Node as BaseNode}
use Rattle.ath_base.specs.declared.base.ScopeId.{ScopeId}
use Rattle.ath_base.specs.declared.entry.Origin.TheVariants.{Concluded}
use Rattle.ath_base.specs.Stands.{entries_in, KeepsScopes}
use Rattle.ath_base.proofs.Scopes.{scope_added}
use Rattle.ath_terms.specs.Trees.{Trees, sent_at}
use Rattle.ath_env.specs.declared.value.Value as value
use Rattle.ath_env.specs.Values.{Value, value_of}
use Rattle.ath_env.specs.Stands.{IsIn, value_at, IsValue}
use Rattle.ath_print.specs.declared.fault.Fault.{Fault}
use Rattle.ath_eval.specs.declared.frame.Frame.{Frame}
use Rattle.ath_eval.specs.declared.frame.Frame.TheVariants.{Head, Argument, Ascription}
use Rattle.ath_eval.specs.declared.frame.State.{State}
use Rattle.ath_eval.specs.declared.frame.Use.{Use}
use Rattle.ath_eval.specs.declared.frame.State.TheVariants.{Done}
use Rattle.ath_eval.specs.declared.world.Outcome as code
use Rattle.ath_eval.specs.declared.world.Outcome.TheVariants as ends
use Rattle.ath_eval.specs.Evaluation.{ascribed, evaluated}
use Rattle.ath_eval.specs.Stretches.{IsWithin, Concludes}
use Rattle.ath_eval.specs.Machine.{Reading, acts, Fills, Resumes, Means, ArgumentsMean, FrameMeans, rank, weight}
use Rattle.ath_eval.specs.Outcomes.{Context, Environment, Left, left_of, Outcome, gives, concludes, fails, exhausts, and_then, then_in, each}
use Rattle.ath_eval.specs.Room.{charged, IsBelow, IsRoomy}
use Rattle.ath_eval.specs.World.{with_base, IsOutcome}
use Rattle.ath_eval.proofs.Arguments.{values_push}
use Rattle.ath_eval.proofs.Frames.{resumes_pop, grow_resumes}
use Rattle.ath_eval.proofs.Shapes.{used_stand}

-- the value that an outcome gives
given_value : (s : Trees) (fuel : ℕ) (fresh : Fresh) (v : value.Value) (r : Outcome) → IsOutcome s fuel fresh (ends.Value v) r → (x : Value) × IsValue s v x × (r ≡ gives x (left_of fuel fresh))
given_value s fuel fresh v (gives x left) h = (x, h.0, λ i. gives x (left_of (sym h.1 i) (sym h.2 i)))
given_value s fuel fresh v (concludes x left) h = absurd h
given_value s fuel fresh v (fails at why left) h = absurd h
given_value s fuel fresh v (exhausts at made) h = absurd h

-- the sentence that an outcome concludes
concluded_sentence : (s : Trees) (fuel : ℕ) (fresh : Fresh) (p : SentId) (r : Outcome) → IsOutcome s fuel fresh (ends.Theorem p) r → (p.0 < length s.sents) × (r ≡ concludes (sent_at s.sents p.0) (left_of fuel fresh))
concluded_sentence s fuel fresh p (concludes x left) h = (h.0.0, λ i. concludes (sym h.0.1 i) (left_of (sym h.1 i) (sym h.2 i)))
concluded_sentence s fuel fresh p (gives x left) h = absurd h
concluded_sentence s fuel fresh p (fails at why left) h = absurd h
concluded_sentence s fuel fresh p (exhausts at made) h = absurd h

-- nothing goes on after it
abbrev IsEnd : Outcome → Type 0
IsEnd r = ((go : Value → Left → Outcome) → and_then r go ≡ r) × ((env : Environment) (go : Environment → Value → Left → Outcome) → then_in env r go ≡ r)

error_ends : (s : Trees) (fuel : ℕ) (fresh : Fresh) (at : Pos) (why : Fault) (r : Outcome) → IsOutcome s fuel fresh (ends.Error why at) r → IsEnd r
error_ends s fuel fresh at why (fails p x left) h = (λ go. refl, λ env go. refl)
error_ends s fuel fresh at why (gives x left) h = absurd h
error_ends s fuel fresh at why (concludes x left) h = absurd h
error_ends s fuel fresh at why (exhausts p made) h = absurd h

exhaustion_ends : (s : Trees) (fuel : ℕ) (fresh : Fresh) (at : Pos) (r : Outcome) → IsOutcome s fuel fresh (ends.Exhausted at) r → IsEnd r
exhaustion_ends s fuel fresh at (exhausts p made) h = (λ go. refl, λ env go. refl)
exhaustion_ends s fuel fresh at (gives x left) h = absurd h
exhaustion_ends s fuel fresh at (concludes x left) h = absurd h
exhaustion_ends s fuel fresh at (fails p x left) h = absurd h

-- ---- conclusions of parts
-- a frame that waits for no argument
pub concludes_alone : (ns : List BaseNode) (p : SentId) (f : Frame) → ((u : Use) (i : PhraseId) (h : value.Value) (done : List value.Value) (levels : ℕ) (k : ScopeId) → f ≡ Argument u i h done levels k → ⊥) → Concludes ns p f ns f
concludes_alone ns p (Head u i levels k) n = λ c nodes s left out inside h. h
concludes_alone ns p (Argument u i h done levels k) n = absurd (n u i h done levels k refl)
concludes_alone ns p (Ascription i) n = λ c nodes s left out inside h. h

-- one that does
pub concludes_argument : (ns ms : List BaseNode) (p : SentId) (u : Use) (i : PhraseId) (h : value.Value) (done : List value.Value) (levels : ℕ) (k l : ScopeId) → l.0 ≤ length ms → entries_in ms l.0 ≡ record { sentence = p; origin = Concluded } ∷ entries_in ns k.0 → Concludes ns p (Argument u i h done levels k) ms (Argument u i h done levels l)
concludes_argument ns ms p u i h done levels k l inside added = λ c nodes s left out stored m. go c nodes s left out stored m
  where
    go : (c : Context) (nodes : Nodes) (s : Trees) (left : Left) (out : Outcome) → p.0 < length s.sents → Fills c nodes ns s (Argument u i h done levels k) (concludes (sent_at s.sents p.0) left) out → Fills c nodes ms s (Argument u i h done levels l) (gives (value_of (sent_at s.sents p.0)) left) out
    go c nodes s left out stored (q, f, xs, v, vs, rest, es, isp, isv, all, few, phrases, iss, e) =
        (q, f, xs, v, vs, rest, record { sentence = sent_at s.sents p.0; origin = Concluded } ∷ es, isp, isv, all, few, phrases, scope_added s ns ms k.0 l.0 (record { sentence = p; origin = Concluded }) es iss stored inside added, e)

module _ (c : Reading) (nodes : Nodes) (s : Trees) where
  -- a frame passes on what ends
  filled_end : (f : Frame) (r mid : Outcome) → IsEnd r → Fills c.context nodes c.base s f r mid → mid ≡ r
  filled_end (Head u i levels k) r mid h (p, f, xs, es, isp, iss, e) = e ∙ h.0 (λ v. each (evaluated c.context levels) (with_base es) [] xs (acts c.context levels u p v))
  filled_end (Argument u i g done levels k) r mid h (p, f, xs, v, vs, rest, es, isp, isv, all, few, phrases, iss, e) = e ∙ h.1 (with_base es) (λ env w. each (evaluated c.context levels) env (vs ++ w ∷ []) rest (acts c.context levels u p v))
  filled_end (Ascription i) r mid h (p, x, text, isp, e) = e ∙ h.0 (λ v. ascribed c.context text v p)

  filled_within : (f : Frame) (r mid : Outcome) → Fills c.context nodes c.base s f r mid → IsWithin c.base f
  filled_within (Head u i levels k) r mid h = tt
  filled_within (Argument u i g done levels k) r mid (p, f, xs, v, vs, rest, es, isp, isv, all, few, phrases, iss, e) = iss.inside
  filled_within (Ascription i) r mid h = tt

  module _ (fuel : ℕ) (fresh : Fresh) (fs : List Frame) (out : Outcome) where
    passes : (o : code.Outcome) (f : Frame) → ((r : Outcome) → IsOutcome s fuel fresh o r → IsEnd r) → FrameMeans c nodes s fuel fresh o f fs out → Means c nodes s fuel fresh (Done o) fs out
    passes o f same (r, mid, isr, fills, res) = (r, isr, subst (λ (q : Outcome). Resumes c.context nodes c.base s fs q out) (filled_end f r mid (same r isr) fills) res)

    pub error_passes : (at : Pos) (why : Fault) (f : Frame) → FrameMeans c nodes s fuel fresh (ends.Error why at) f fs out → Means c nodes s fuel fresh (Done (ends.Error why at)) fs out
    error_passes at why f m = passes (ends.Error why at) f (error_ends s fuel fresh at why) m

    pub exhaustion_passes : (at : Pos) (f : Frame) → FrameMeans c nodes s fuel fresh (ends.Exhausted at) f fs out → Means c nodes s fuel fresh (Done (ends.Exhausted at)) fs out
    exhaustion_passes at f m = passes (ends.Exhausted at) f (exhaustion_ends s fuel fresh at) m

    pub theorem_inside : (p : SentId) (f : Frame) → FrameMeans c nodes s fuel fresh (ends.Theorem p) f fs out → p.0 < length s.sents
    theorem_inside p f (r, mid, isr, fills, res) = (concluded_sentence s fuel fresh p r isr).0

    pub frame_within : (o : code.Outcome) (f : Frame) → FrameMeans c nodes s fuel fresh o f fs out → IsWithin c.base f
    frame_within o f (r, mid, isr, fills, res) = filled_within f r mid fills

    -- a theorem is the value of its sentence, in a frame that goes on from the conclusion
    pub theorem_is_value : (ms : List BaseNode) (p : SentId) (v : value.Value) (f g : Frame) → KeepsScopes c.base ms → Concludes c.base p f ms g → IsIn s v → value_at s v ≡ value_of (sent_at s.sents p.0) → FrameMeans c nodes s fuel fresh (ends.Theorem p) f fs out → FrameMeans (record c { base = ms }) nodes s fuel fresh (ends.Value v) g fs out
    theorem_is_value ms p v f g kept concluded i e (r, mid, isr, fills, res) =
        let t = concluded_sentence s fuel fresh p r isr in
        let q = concluded c.context nodes s (left_of fuel fresh) mid t.0 (subst (λ (x : Outcome). Fills c.context nodes c.base s f x mid) t.1 fills) in
        (gives (value_of (sent_at s.sents p.0)) (left_of fuel fresh), mid, ((i, e), refl, refl), q, grow_resumes c.context nodes c.base ms kept s s (grows-none s) fs mid out res)

    pub head_gets : (v : value.Value) (u : Use) (i : PhraseId) (levels : ℕ) (k : ScopeId) (done : List value.Value) → done ≡ [] → FrameMeans c nodes s fuel fresh (ends.Value v) (Head u i levels k) fs out → ArgumentsMean (record c { scope = k }) nodes s fuel fresh u i v done levels fs out
    head_gets v u i levels k done none (r, mid, isr, (p, f, xs, es, isp, iss, e), res) =
        let g = given_value s fuel fresh v r isr in
        rw none (p, f, xs, g.0, [], xs, es, isp, g.1, (All-nil (IsIn s), refl), omega arith, used_stand nodes u i p f xs isp, iss, subst (λ (q : Outcome). Resumes c.context nodes c.base s fs q out) (e ∙ ap (λ (q : Outcome). and_then q (λ v. each (evaluated c.context levels) (with_base es) [] xs (acts c.context levels u p v))) g.2) res)

    pub argument_gets : (v : value.Value) (u : Use) (i : PhraseId) (h : value.Value) (done more : List value.Value) (levels : ℕ) (k : ScopeId) → more ≡ done ++ v ∷ [] → FrameMeans c nodes s fuel fresh (ends.Value v) (Argument u i h done levels k) fs out → ArgumentsMean (record c { scope = k }) nodes s fuel fresh u i h more levels fs out
    argument_gets v u i h done more levels k pushed (r, mid, isr, (p, f, xs, w, vs, rest, es, isp, isw, all, few, phrases, iss, e), res) =
        let g = given_value s fuel fresh v r isr in
        let n : length (done ++ v ∷ []) ≡ length done + 1 = omega (arith, length-append done (v ∷ [])) in
        rw pushed (p, f, xs, w, vs ++ g.0 ∷ [], rest, es, isp, isw, values_push s done vs v g.0 all g.1, omega (arith, n, few), rw n phrases, iss, subst (λ (q : Outcome). Resumes c.context nodes c.base s fs q out) (e ∙ ap (λ (q : Outcome). then_in (with_base es) q (λ env y. each (evaluated c.context levels) env (vs ++ y ∷ []) rest (acts c.context levels u p w))) g.2) res)

    -- the scope of a frame is there
    pub head_within : (o : code.Outcome) (u : Use) (i : PhraseId) (levels : ℕ) (k : ScopeId) → FrameMeans c nodes s fuel fresh o (Head u i levels k) fs out → k.0 ≤ length c.base
    head_within o u i levels k (r, mid, isr, (p, f, xs, es, isp, iss, e), res) = iss.inside

  pub means_frame : (fuel : ℕ) (fresh : Fresh) (st : State) (all : List Frame) (o : code.Outcome) (f : Frame) (fs : List Frame) (out : Outcome) → st ≡ Done o → all ≡ fs ++ f ∷ [] → Means c nodes s fuel fresh st all out → FrameMeans c nodes s fuel fresh o f fs out
  means_frame fuel fresh st all o f fs out es ef m = go (rw (es, ef) at m)
    where
      go : Means c nodes s fuel fresh (Done o) (fs ++ f ∷ []) out → FrameMeans c nodes s fuel fresh o f fs out
      go (r, isr, res) = let k = resumes_pop c.context nodes c.base s fs f r out res in (r, k.0, isr, k.1, k.2)

  pub means_end : (fuel : ℕ) (fresh : Fresh) (st : State) (all : List Frame) (o : code.Outcome) (out : Outcome) → st ≡ Done o → all ≡ [] → Means c nodes s fuel fresh st all out → IsOutcome s fuel fresh o out
  means_end fuel fresh st all o out es ef m = go (rw (es, ef) at m)
    where
      go : Means c nodes s fuel fresh (Done o) [] out → IsOutcome s fuel fresh o out
      go (r, isr, res) = subst (λ (x : Outcome). IsOutcome s fuel fresh o x) (sym res) isr

pub no_frames : (xs : List Frame) → length xs ≡ 0 → xs ≡ []
no_frames [] h = refl
no_frames (x ∷ xs) h = cc

pub frame_falls : (fuel : ℕ) (st : State) (all : List Frame) (o : code.Outcome) (f : Frame) (fs : List Frame) (n : ℕ) → st ≡ Done o → all ≡ fs ++ f ∷ [] → n < 4 * fuel + 2 * length fs + 2 + rank (Done o) → n < weight fuel st all
frame_falls fuel st all o f fs n es ef lt = rw (es, ef) (omega (arith, lt, length-append fs (f ∷ [])))

-- the value that an ascription gets
pub ascription_gets : (c : Reading) (nodes : Nodes) (s : Trees) (fuel : ℕ) (fresh : Fresh) (fs : List Frame) (out : Outcome) (v : value.Value) (i : PhraseId) → FrameMeans c nodes s fuel fresh (ends.Value v) (Ascription i) fs out
    → (p : Pos) × (x : Phrase) × (text : SortText) × IsPhrase nodes i (ascribe_at p x text) × IsIn s v × Resumes c.context nodes c.base s fs (ascribed c.context text (value_at s v) p (left_of fuel fresh)) out
ascription_gets c nodes s fuel fresh fs out v i (r, mid, isr, (p, x, text, isp, e), res) =
    let k = given_value s fuel fresh v r isr in
    let g : and_then r (λ v. ascribed c.context text v p) ≡ ascribed c.context text (value_at s v) p (left_of fuel fresh) =
    ap (λ (q : Outcome). and_then q (λ v. ascribed c.context text v p)) k.2 ∙ ap (λ (y : Value). ascribed c.context text y p (left_of fuel fresh)) (sym k.1.1) in
    (p, x, text, isp, k.1.0, subst (λ (q : Outcome). Resumes c.context nodes c.base s fs q out) (e ∙ g) res)

-- what a frame that was taken off had kept for its application
pub popped_room : (all fs : List Frame) (f : Frame) (before after : Fresh) (fuel many : ℕ) → all ≡ fs ++ f ∷ [] → IsRoomy (fuel + length all) before → IsBelow (charged many after) (charged (length fs + 1) before) → IsRoomy (fuel + many) after
popped_room all fs f before after fuel many e h k =
    let n : length all ≡ length fs + 1 = ap length e ∙ length-append fs (f ∷ []) in
    (omega (arith, n, h.0, k.0), omega (arith, n, h.1, k.1))

-- the room that was kept for a frame which is taken off
pub room_popped : (all fs : List Frame) (f : Frame) (fresh : Fresh) (fuel : ℕ) → all ≡ fs ++ f ∷ [] → IsRoomy (fuel + length all) fresh → IsRoomy (fuel + 1) fresh
room_popped all fs f fresh fuel e h =
    let n : length all ≡ length fs + 1 = ap length e ∙ length-append fs (f ∷ []) in
    (omega (arith, n, h.0), omega (arith, n, h.1))
