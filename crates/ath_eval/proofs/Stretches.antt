-- The machine's stretches of work, one by one.
use Rattle.std.proofs.Common.{◌≡◌, ℕ, zero, suc, ◌+◌, ◌-◌, ◌*◌, ◌<◌, ◌≤◌, List, [], ◌∷◌, ◌++◌, length, drop, Option, Some, None, refl, sym, ap, ◌∙◌, subst, arith, length-append}
use Rattle.std.specs.Prelude.{slice_get}
use Rattle.std.specs.List.{All}
use Rattle.ath_sorts.specs.declared.sorts.Sym.{Sym}
use Rattle.ath_syntax.specs.declared.node.PhraseId.{PhraseId}
use Rattle.ath_syntax.specs.declared.node.Form.TheVariants.{Name, Var, Ascribe, Apply, Call}
use Rattle.ath_syntax.specs.declared.node.Node.{Node}
use Rattle.ath_syntax.specs.Nodes.{Nodes}
use Rattle.ath_syntax.specs.Stands.{IsPhrase, ArePhrases, phrases_none, phrases_more}
use Rattle.ath_syntax.specs.declared.node.SortText.{SortText}
use Rattle.ath_syntax.specs.Fits.{most}
use Rattle.ath_syntax.specs.Tree.{Phrase, Phrases}
use Rattle.ath_terms.specs.declared.fresh.Fresh.{Fresh}
use Rattle.ath_terms.specs.Trees.{Trees, Grows}
use Rattle.ath_terms.proofs.Grow.{grows-none}
use Rattle.ath_base.specs.Base.{Entry}
use Rattle.ath_base.specs.Stands.{KeepsScopes, IsScope}
use Rattle.ath_env.specs.LookUp.{looked_up}
use Rattle.ath_env.specs.declared.value.Value as value
use Rattle.ath_env.specs.Values.{Value}
use Rattle.ath_env.specs.Stands.{IsIn}
use Rattle.ath_print.specs.declared.fault.FaultKind.TheVariants.{TooNested}
use Rattle.ath_eval.specs.declared.frame.Frame.{Frame}
use Rattle.ath_eval.specs.declared.frame.Frame.TheVariants.{Head, Argument, Ascription}
use Rattle.ath_eval.specs.declared.frame.State.{State}
use Rattle.ath_eval.specs.declared.frame.Use.{Use}
use Rattle.ath_eval.specs.declared.frame.Use.TheVariants as uses
use Rattle.ath_eval.specs.declared.frame.State.TheVariants.{Enter, Done}
use Rattle.ath_eval.specs.declared.world.Outcome as code
use Rattle.ath_eval.specs.declared.world.Outcome.TheVariants as ends
use Rattle.ath_eval.specs.Evaluation.{found, variable, ascribed, unbuilt, evaluated}
use Rattle.ath_syntax.specs.Places.{place}
use Rattle.ath_syntax.proofs.NodeLaws.{node_of}
use Rattle.std.proofs.lemmas.Option.{slice_get_within}
use Rattle.ath_eval.specs.Machine.{Reading, forms, used, acts, arguments_at, Resumes, Means, Steps, FormMeans, ActMeans, ArgumentsMean, rank, weight}
use Rattle.ath_eval.specs.Outcomes.{Context, Environment, Left, left_of, Outcome, fails, exhausts, refusal, and_then, each}
use Rattle.ath_eval.specs.World.{with_base, IsOutcome, IsSteady}
use Rattle.ath_eval.proofs.Frames.{drop_at, drop_end, resumes_push, grow_resumes}
use Rattle.ath_eval.proofs.Shapes.{form_here, place_of, form_name, form_variable, form_other, head_applied, head_called, HeadOf, part_ascribed}

pub rank_below : (o : code.Outcome) → rank (Done o) ≤ 2
rank_below (ends.Value v) = omega arith
rank_below (ends.Theorem p) = omega arith
rank_below (ends.Error why at) = omega arith
rank_below (ends.Exhausted at) = omega arith

-- a step of fuel
module _ (c : Context) (env : Environment) (x : Phrase) (fresh : Fresh) where
  pub evaluated_empty : (levels fuel : ℕ) → fuel ≡ 0 → evaluated c levels env x (left_of fuel fresh) ≡ exhausts (place x) fresh
  evaluated_empty zero zero h = refl
  evaluated_empty zero (suc fuel) h = cc
  evaluated_empty (suc levels) zero h = refl
  evaluated_empty (suc levels) (suc fuel) h = cc

  pub evaluated_deep : (levels fuel : ℕ) → (fuel ≡ 0 → ⊥) → levels ≡ 0 → evaluated c levels env x (left_of fuel fresh) ≡ fails (place x) (refusal TooNested []) (left_of (fuel - 1) fresh)
  evaluated_deep zero zero h k = absurd (h refl)
  evaluated_deep zero (suc fuel) h k = let q : suc fuel - 1 ≡ fuel = omega arith in rw q refl
  evaluated_deep (suc levels) fuel h k = cc

  pub evaluated_form : (levels fuel : ℕ) → (fuel ≡ 0 → ⊥) → (levels ≡ 0 → ⊥) → evaluated c levels env x (left_of fuel fresh) ≡ forms c (levels - 1) env x (left_of (fuel - 1) fresh)
  evaluated_form zero fuel h k = absurd (k refl)
  evaluated_form (suc levels) zero h k = absurd (h refl)
  evaluated_form (suc levels) (suc fuel) h k = let q : suc fuel - 1 ≡ fuel = omega arith in let q' : suc levels - 1 ≡ levels = omega arith in rw (q, q') refl

module _ (c : Reading) (nodes : Nodes) (s : Trees) where
  -- nothing is stored
  pub steps_same : (before : Outcome → Type 0) (bound fuel : ℕ) (made : Fresh) (st : State) (fs : List Frame) → weight fuel st fs < bound → ((out : Outcome) → before out → Means c nodes s fuel made st fs out) → Steps nodes s before bound c s fuel made st fs
  steps_same before bound fuel made st fs lt h = record { grows = grows-none s; means = h; falls = lt }

  -- an outcome, for which the store and the scopes have grown
  pub steps_done : (before : Outcome → Type 0) (bound : ℕ) (d : Reading) (t : Trees) (fuel : ℕ) (made : Fresh) (o : code.Outcome) (fs : List Frame) → d.context ≡ c.context → KeepsScopes c.base d.base → Grows s t → 4 * fuel + 2 * length fs + 2 < bound
      → ((out : Outcome) → before out → (r : Outcome) × IsOutcome t fuel made o r × Resumes c.context nodes c.base s fs r out) → Steps nodes s before bound d t fuel made (Done o) fs
  steps_done before bound d t fuel made o fs same kept g lt h = record {
    grows = g;
    means = λ out m. let k = h out m in (k.0, k.1, subst (λ (x : Context). Resumes x nodes d.base t fs k.0 out) (sym same) (grow_resumes c.context nodes c.base d.base kept s t g fs k.0 out k.2));
    falls = omega (arith, rank_below o);
  }

  -- a frame is pushed for a part
  pub steps_push : (before : Outcome → Type 0) (bound fuel : ℕ) (fresh : Fresh) (j : PhraseId) (levels : ℕ) (fs : List Frame) (f : Frame) (gs : List Frame) → gs ≡ fs ++ f ∷ [] → 4 * fuel + 2 * length fs + 3 < bound → ((out : Outcome) → before out → Means c nodes s fuel fresh (Enter j levels) (fs ++ f ∷ []) out) → Steps nodes s before bound c s fuel fresh (Enter j levels) gs
  steps_push before bound fuel fresh j levels fs f gs e lt h = rw e (steps_same before bound fuel fresh (Enter j levels) (fs ++ f ∷ []) (omega (arith, length-append fs (f ∷ []))) h)

  module _ (fresh : Fresh) (i : PhraseId) (fs : List Frame) (out : Outcome) where
    module _ (n : Node) (at : slice_get nodes.phrases i.0 ≡ Some n) where
      place_here : (x : Phrase) → IsPhrase nodes i x → place x ≡ n.pos
      place_here x isp = place_of nodes n.pos n.form x (form_here nodes i n x isp at)

      pub enters_empty : (levels fuel : ℕ) → fuel ≡ 0 → Means c nodes s fuel fresh (Enter i levels) fs out → Means c nodes s fuel fresh (Done (ends.Exhausted n.pos)) fs out
      enters_empty levels fuel z (x, es, isp, iss, res) =
          (exhausts n.pos fresh, (refl, z, refl), subst (λ (r : Outcome). Resumes c.context nodes c.base s fs r out) (evaluated_empty c.context (with_base es) x fresh levels fuel z ∙ ap (λ p. exhausts p fresh) (place_here x isp)) res)

      pub enters_deep : (levels fuel : ℕ) → (fuel ≡ 0 → ⊥) → levels ≡ 0 → (o : code.Outcome) → IsSteady s o (fails n.pos (refusal TooNested [])) → Means c nodes s fuel fresh (Enter i levels) fs out → Means c nodes s (fuel - 1) fresh (Done o) fs out
      enters_deep levels fuel z d o h (x, es, isp, iss, res) =
          (fails n.pos (refusal TooNested []) (left_of (fuel - 1) fresh), h fresh (fuel - 1), subst (λ (r : Outcome). Resumes c.context nodes c.base s fs r out) (evaluated_deep c.context (with_base es) x fresh levels fuel z d ∙ ap (λ p. fails p (refusal TooNested []) (left_of (fuel - 1) fresh)) (place_here x isp)) res)

      module _ (levels fuel : ℕ) where
        here : (env : Environment) (x : Phrase) → Resumes c.context nodes c.base s fs (forms c.context levels env x (left_of fuel fresh)) out → (r : Left → Outcome) → forms c.context levels env x ≡ r → Resumes c.context nodes c.base s fs (r (left_of fuel fresh)) out
        here env x res r e = subst (λ (q : Outcome). Resumes c.context nodes c.base s fs q out) (ap (λ (q : Left → Outcome). q (left_of fuel fresh)) e) res

        pub form_named : (name : Sym) → n.form ≡ Name name → FormMeans c nodes s fuel fresh i levels fs out → Resumes c.context nodes c.base s fs (found c.context name n.pos (looked_up c.context.names c.context.theory.signature name) (left_of fuel fresh)) out
        form_named name e (x, es, isp, iss, res) = here (with_base es) x res (found c.context name n.pos (looked_up c.context.names c.context.theory.signature name)) (form_name nodes c.context levels (with_base es) n.pos n.form x name e (form_here nodes i n x isp at))

        pub form_varied : (name : Sym) (k : ℕ) (text : Option SortText) → n.form ≡ Var name k text → FormMeans c nodes s fuel fresh i levels fs out → Resumes c.context nodes c.base s fs (variable c.context name k text n.pos (left_of fuel fresh)) out
        form_varied name k text e (x, es, isp, iss, res) = here (with_base es) x res (variable c.context name k text n.pos) (form_variable nodes c.context levels (with_base es) n.pos n.form x name k text e (form_here nodes i n x isp at))

        pub form_ascribed : (j : PhraseId) (text : SortText) → n.form ≡ Ascribe j text → FormMeans c nodes s fuel fresh i levels fs out → Means c nodes s fuel fresh (Enter j levels) (fs ++ Ascription i ∷ []) out
        form_ascribed j text e (x, es, isp, iss, res) =
            let k = part_ascribed nodes c.context levels (with_base es) n.pos n.form x j text e (form_here nodes i n x isp at) in
            let r = evaluated c.context levels (with_base es) k.0 (left_of fuel fresh) in (
              k.0,
              es,
              k.1,
              iss,
              resumes_push c.context nodes c.base s fs (Ascription i) r (and_then r (λ v. ascribed c.context text v n.pos)) out
                  (n.pos, k.0, text, subst (λ (y : Phrase). IsPhrase nodes i y) k.2 isp, refl) (subst (λ (y : Phrase). Resumes c.context nodes c.base s fs (forms c.context levels (with_base es) y (left_of fuel fresh)) out) k.2 res),
            )

        pub form_unbuilt : ((k : Sym) → n.form ≡ Name k → ⊥) → ((x : Sym) (k : ℕ) (text : Option SortText) → n.form ≡ Var x k text → ⊥) → ((j : PhraseId) (text : SortText) → n.form ≡ Ascribe j text → ⊥) → ((j : PhraseId) (is : List PhraseId) → n.form ≡ Apply j is → ⊥) → ((j : PhraseId) (is : List PhraseId) → n.form ≡ Call j is → ⊥) → FormMeans c nodes s fuel fresh i levels fs out → Resumes c.context nodes c.base s fs (unbuilt n.pos (left_of fuel fresh)) out
        form_unbuilt nn nv ns na nc (x, es, isp, iss, res) = here (with_base es) x res (unbuilt n.pos) (form_other nodes c.context levels (with_base es) n.pos n.form x nn nv ns na nc (form_here nodes i n x isp at))

        head_pushed : (u : Use) (j : PhraseId) (x : Phrase) (es : List Entry) → IsPhrase nodes i x → IsScope s c.base c.scope.0 es → HeadOf nodes c.context levels (with_base es) u j x → Resumes c.context nodes c.base s fs (forms c.context levels (with_base es) x (left_of fuel fresh)) out → Means c nodes s fuel fresh (Enter j levels) (fs ++ Head u i levels c.scope ∷ []) out
        head_pushed u j x es isp iss (p, h, xs, same, ish, e) res =
            (h, es, ish, iss, resumes_push c.context nodes c.base s fs (Head u i levels c.scope) (evaluated c.context levels (with_base es) h (left_of fuel fresh)) _ out (p, h, xs, es, subst (λ (y : Phrase). IsPhrase nodes i y) same isp, iss, refl) (subst (λ (q : Outcome). Resumes c.context nodes c.base s fs q out) (e (left_of fuel fresh)) res))

        pub form_applied : (j : PhraseId) (is : List PhraseId) → n.form ≡ Apply j is → FormMeans c nodes s fuel fresh i levels fs out → Means c nodes s fuel fresh (Enter j levels) (fs ++ Head uses.Apply i levels c.scope ∷ []) out
        form_applied j is e (x, es, isp, iss, res) = head_pushed uses.Apply j x es isp iss (head_applied nodes c.context levels (with_base es) n.pos n.form x j is e (form_here nodes i n x isp at)) res

        pub form_called : (j : PhraseId) (is : List PhraseId) → n.form ≡ Call j is → FormMeans c nodes s fuel fresh i levels fs out → Means c nodes s fuel fresh (Enter j levels) (fs ++ Head uses.Call i levels c.scope ∷ []) out
        form_called j is e (x, es, isp, iss, res) = head_pushed uses.Call j x es isp iss (head_called nodes c.context levels (with_base es) n.pos n.form x j is e (form_here nodes i n x isp at)) res

    pub enters_form : (levels fuel : ℕ) → (fuel ≡ 0 → ⊥) → (levels ≡ 0 → ⊥) → Means c nodes s fuel fresh (Enter i levels) fs out → FormMeans c nodes s (fuel - 1) fresh i (levels - 1) fs out
    enters_form levels fuel z d (x, es, isp, iss, res) = (x, es, isp, iss, subst (λ (r : Outcome). Resumes c.context nodes c.base s fs r out) (evaluated_form c.context (with_base es) x fresh levels fuel z d) res)

    -- the arguments
    module _ (u : Use) (h : value.Value) (done : List value.Value) (levels fuel : ℕ) where
      each_end : (env : Environment) (vs : List Value) (rest : Phrases) (go : Environment → List Value → Left → Outcome) → ArePhrases nodes [] rest → Resumes c.context nodes c.base s fs (each (evaluated c.context levels) env vs rest go (left_of fuel fresh)) out → Resumes c.context nodes c.base s fs (go env vs (left_of fuel fresh)) out
      each_end env vs rest go phrases_none r = r

      pub arguments_done : slice_get (arguments_at nodes i) (length done) ≡ None → ArgumentsMean c nodes s fuel fresh u i h done levels fs out → ActMeans c nodes s fuel fresh u i h done levels fs out
      arguments_done none (p, f, xs, v, vs, rest, es, isp, isv, all, few, phrases, iss, res) =
          (p, f, xs, v, vs, es, isp, isv, all, iss, each_end (with_base es) vs rest (acts c.context levels u p v) (subst (λ is. ArePhrases nodes is rest) (drop_end (arguments_at nodes i) (length done) none) phrases) res)

      pub arguments_next : (j : PhraseId) → slice_get (arguments_at nodes i) (length done) ≡ Some j → length done < most → ArgumentsMean c nodes s fuel fresh u i h done levels fs out → Means c nodes s fuel fresh (Enter j levels) (fs ++ Argument u i h done levels c.scope ∷ []) out
      arguments_next j some few (p, f, xs, v, vs, rest, es, isp, isv, all, le, phrases, iss, res) =
          go rest (subst (λ is. ArePhrases nodes is rest) (drop_at (arguments_at nodes i) (length done) j some) phrases) res
        where
          go : (rest : Phrases) → ArePhrases nodes (j ∷ drop (length done + 1) (arguments_at nodes i)) rest → Resumes c.context nodes c.base s fs (each (evaluated c.context levels) (with_base es) vs rest (acts c.context levels u p v) (left_of fuel fresh)) out → Means c nodes s fuel fresh (Enter j levels) (fs ++ Argument u i h done levels c.scope ∷ []) out
          go rest (phrases_more {t = t} {ts = ts} ist all') r =
              (t, es, ist, iss, resumes_push c.context nodes c.base s fs (Argument u i h done levels c.scope) (evaluated c.context levels (with_base es) t (left_of fuel fresh)) _ out (p, f, xs, v, vs, ts, es, isp, isv, all, few, all', iss, refl) r)

-- the rest of the work is a callee's
pub steps_after : (nodes : Nodes) (s : Trees) (before mid : Outcome → Type 0) (bound bound' : ℕ) (d : Reading) (t : Trees) (fuel : ℕ) (made : Fresh) (st : State) (fs : List Frame) → bound' ≤ bound → ((out : Outcome) → before out → mid out) → Steps nodes s mid bound' d t fuel made st fs → Steps nodes s before bound d t fuel made st fs
steps_after nodes s before mid bound bound' d t fuel made st fs le h k = record { grows = k.grows; means = λ out m. k.means out (h out m); falls = omega (arith, k.falls) }

-- the phrase is one of the nodes, and the numbers in a head that is known, and in the arguments, are numbers of the store
module _ (c : Reading) (nodes : Nodes) (s : Trees) (fuel : ℕ) (fresh : Fresh) (u : Use) (i : PhraseId) (h : value.Value) (done : List value.Value) (levels : ℕ) (fs : List Frame) (out : Outcome) where
  pub phrase_in : ArgumentsMean c nodes s fuel fresh u i h done levels fs out → i.0 < length nodes.phrases
  phrase_in (p, f, xs, v, vs, rest, es, isp, isv, all, few, phrases, iss, res) = let n = node_of nodes i (used u p f xs) isp in slice_get_within nodes.phrases i.0 n.0 n.1

  pub head_in : ArgumentsMean c nodes s fuel fresh u i h done levels fs out → IsIn s h
  head_in (p, f, xs, v, vs, rest, es, isp, isv, all, few, phrases, iss, res) = isv.0

  pub arguments_in : ArgumentsMean c nodes s fuel fresh u i h done levels fs out → All (IsIn s) done
  arguments_in (p, f, xs, v, vs, rest, es, isp, isv, all, few, phrases, iss, res) = all.0
