-- Nodes that are added one after another, each where it fits, all fit those before them.
use Rattle.std.proofs.Common.{◌≡◌, ℕ, ◌<◌, List, [], ◌∷◌, ◌++◌, length, Some, sym, subst, arith, take, ◌⊎◌, inl, inr}
use Rattle.std.specs.Prelude.{slice_get}
use Rattle.std.proofs.lemmas.List.{take-append-le, take_at}
use Rattle.ath_syntax.specs.declared.node.Node.{Node}
use Rattle.ath_syntax.specs.declared.node.PatNode.{PatNode}
use Rattle.ath_syntax.specs.Nodes.{Nodes, with_phrase, with_pattern}
use Rattle.ath_syntax.specs.Fits.{Fits, PatternFits, NodesFit, before}
use Rattle.ath_syntax.proofs.Growth.{slice_get-front, slice_get-push}
use Rattle.ath_syntax.proofs.Kept.{fits_kept}

-- the items before a place of a list with one more
take_front : {A : Type 0} (xs : List A) (y : A) (i : ℕ) → i < length xs → take i (xs ++ y ∷ []) ≡ take i xs
take_front xs y i lt = take-append-le i xs (y ∷ []) (omega (arith, lt))

take_seam : {A : Type 0} (xs : List A) (y : A) (i : ℕ) → i ≡ length xs → take i (xs ++ y ∷ []) ≡ xs
take_seam xs y i e = take_at xs (y ∷ []) i (sym e)

pub NodesFit-nil : NodesFit (record { phrases = []; patterns = [] })
NodesFit-nil = record { phrase = λ i n h. absurd (grind arith); pattern = λ i n h. absurd (grind arith) }

pub NodesFit-phrase : (s : Nodes) (n : Node) → NodesFit s → Fits s n → NodesFit (with_phrase s n)
NodesFit-phrase s n sound fits = record {
  phrase = λ i m h. by i m (slice_get-push s.phrases n i m h);
  pattern = λ i m h. sound.pattern i m h;
}
  where
    nodes : List Node → Nodes
    nodes xs = record { phrases = xs; patterns = s.patterns }

    by : (i : ℕ) (m : Node) → ((i < length s.phrases) × (slice_get s.phrases i ≡ Some m)) ⊎ ((i ≡ length s.phrases) × (n ≡ m)) → Fits (before (with_phrase s n) i) m
    by i m (inl h) = subst (λ xs. Fits (record { phrases = xs; patterns = s.patterns }) m) (sym (take_front s.phrases n i h.0)) (sound.phrase i m h.1)
    by i m (inr h) = subst (λ xs. Fits (record { phrases = xs; patterns = s.patterns }) m) (sym (take_seam s.phrases n i h.0)) (subst (Fits s) h.1 fits)

pub NodesFit-pattern : (s : Nodes) (n : PatNode) → NodesFit s → PatternFits s.patterns n → NodesFit (with_pattern s n)
NodesFit-pattern s n sound fits = record {
  phrase = λ i m h. fits_kept (before s i) (before (with_pattern s n) i) (record { phrase = λ j k x. x; pattern = λ j k x. slice_get-front s.patterns (n ∷ []) j k x }) m (sound.phrase i m h);
  pattern = λ i m h. by i m (slice_get-push s.patterns n i m h);
}
  where
    by : (i : ℕ) (m : PatNode) → ((i < length s.patterns) × (slice_get s.patterns i ≡ Some m)) ⊎ ((i ≡ length s.patterns) × (n ≡ m)) → PatternFits (take i (s.patterns ++ n ∷ [])) m
    by i m (inl h) = subst (λ xs. PatternFits xs m) (sym (take_front s.patterns n i h.0)) (sound.pattern i m h.1)
    by i m (inr h) = subst (λ xs. PatternFits xs m) (sym (take_seam s.patterns n i h.0)) (subst (PatternFits s.patterns) h.1 fits)
