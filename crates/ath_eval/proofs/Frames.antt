-- Laws of stacks of frames.
use Rattle.std.proofs.Common.{◌≡◌, ℕ, zero, suc, ◌+◌, List, [], ◌∷◌, ◌++◌, drop, Some, None, refl, sym, ap, ◌∙◌, subst}
use Rattle.std.specs.Prelude.{slice_get}
use Rattle.std.proofs.lemmas.List.{drop_more}
use Rattle.std.proofs.lemmas.Option.{slice_get_within, get_or_from_slice_get}
use Rattle.ath_syntax.specs.Nodes.{Nodes}
use Rattle.ath_terms.specs.Trees.{Trees, Grows}
use Rattle.ath_base.specs.declared.base.Node.{Node as BaseNode}
use Rattle.ath_base.specs.Stands.{KeepsScopes}
use Rattle.ath_base.proofs.Scopes.{scope_grows}
use Rattle.ath_eval.specs.declared.frame.Frame.{Frame}
use Rattle.ath_eval.specs.declared.frame.Frame.TheVariants.{Head, Argument, Ascription}
use Rattle.ath_eval.specs.Machine.{Fills, Resumes}
use Rattle.ath_eval.specs.Outcomes.{Context, Outcome}
use Rattle.ath_eval.proofs.Arguments.{value_grows, values_grow}

pub drop_at : {A : Type 0} (xs : List A) (i : ℕ) (x : A) → slice_get xs i ≡ Some x → drop i xs ≡ x ∷ drop (i + 1) xs
drop_at xs i x h = drop_more xs i x (slice_get_within xs i x h) ∙ ap (λ y. y ∷ drop (i + 1) xs) (get_or_from_slice_get xs i x x h)

pub drop_end : {A : Type 0} (xs : List A) (i : ℕ) → slice_get xs i ≡ None → drop i xs ≡ []
drop_end [] zero h = refl
drop_end [] (suc i) h = refl
drop_end (x ∷ xs) zero h = cc
drop_end (x ∷ xs) (suc i) h = drop_end xs i h

module _ (c : Context) (nodes : Nodes) where
  module _ (ns : List BaseNode) (s : Trees) where
    -- a frame that is pushed is resumed first
    pub resumes_push : (fs : List Frame) (f : Frame) (r mid out : Outcome) → Fills c nodes ns s f r mid → Resumes c nodes ns s fs mid out → Resumes c nodes ns s (fs ++ f ∷ []) r out
    resumes_push [] f r mid out h e = (r, refl, subst (λ x. Fills c nodes ns s f r x) (sym e) h)
    resumes_push (g ∷ fs) f r mid out h k = (k.0, resumes_push fs f r mid k.0 h k.1, k.2)

    pub resumes_pop : (fs : List Frame) (f : Frame) (r out : Outcome) → Resumes c nodes ns s (fs ++ f ∷ []) r out → (mid : Outcome) × Fills c nodes ns s f r mid × Resumes c nodes ns s fs mid out
    resumes_pop [] f r out h = (out, subst (λ x. Fills c nodes ns s f x out) h.1 h.2, refl)
    resumes_pop (g ∷ fs) f r out h = let k = resumes_pop fs f r h.0 h.1 in (k.0, k.1, (h.0, k.2, h.2))

  module _ (ns ms : List BaseNode) (kept : KeepsScopes ns ms) (s t : Trees) (g : Grows s t) where
    grow_fills : (f : Frame) (r out : Outcome) → Fills c nodes ns s f r out → Fills c nodes ms t f r out
    grow_fills (Head u i levels k) r out (p, e, xs, es, isp, iss, q) = (p, e, xs, es, isp, scope_grows s t g ns ms k.0 es kept iss, q)
    grow_fills (Argument u i v done levels k) r out (p, e, xs, w, vs, rest, es, isp, isv, all, few, phrases, iss, q) =
        (p, e, xs, w, vs, rest, es, isp, value_grows s t g v w isv, values_grow s t g done vs all, few, phrases, scope_grows s t g ns ms k.0 es kept iss, q)
    grow_fills (Ascription i) r out h = h

    pub grow_resumes : (fs : List Frame) (r out : Outcome) → Resumes c nodes ns s fs r out → Resumes c nodes ms t fs r out
    grow_resumes [] r out h = h
    grow_resumes (f ∷ fs) r out h = (h.0, grow_resumes fs r h.0 h.1, grow_fills f h.0 out h.2)
