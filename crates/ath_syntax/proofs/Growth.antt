-- What grows: numbers keep their nodes, their kinds, and the trees that they stand for.
use Rattle.std.proofs.Common.{◌≡◌, ℕ, ◌<◌, ◌≤◌, List, [], ◌∷◌, ◌++◌, length, Bool, true, Option, Some, None, refl, sym, ap, ◌∙◌, arith, length-append, get_or, ◌⊎◌, inl, inr}
use Rattle.std.specs.Prelude.{slice_get, option_map}
use Rattle.std.proofs.Math.ListN.{get_or-append}
use Rattle.std.proofs.Math.Seq.{get_or-append_seam}
use Rattle.std.proofs.lemmas.Option.{slice_get_within, slice_get-get_or, get_or_from_slice_get, slice_get_cases, same_Some}
use Rattle.ath_syntax.specs.declared.node.PhraseId.{PhraseId}
use Rattle.ath_syntax.specs.declared.node.Node.{Node}
use Rattle.ath_syntax.specs.declared.node.PatNode.{PatNode}
use Rattle.ath_syntax.specs.Nodes.{Nodes, KeepsNodes, with_phrase, with_pattern, deduces, kind_at}
use Rattle.ath_syntax.specs.Fits.{IsPart, IsKind, IsClosure, is_closure}

pub slice_get-front : {A : Type 0} (xs ys : List A) (i : ℕ) (x : A) → slice_get xs i ≡ Some x → slice_get (xs ++ ys) i ≡ Some x
slice_get-front xs ys i x h =
    let lt : i < length xs = slice_get_within xs i x h in
    let lt' : i < length (xs ++ ys) = omega (arith, length-append xs ys) in
    slice_get-get_or (xs ++ ys) i x lt' ∙ ap Some (get_or-append xs ys x i lt ∙ get_or_from_slice_get xs i x x h)

pub slice_get-seam : {A : Type 0} (xs : List A) (y : A) (i : ℕ) → i ≡ length xs → slice_get (xs ++ y ∷ []) i ≡ Some y
slice_get-seam xs y i h =
    let lt : i < length (xs ++ y ∷ []) = omega (arith, length-append xs (y ∷ [])) in
    slice_get-get_or (xs ++ y ∷ []) i y lt ∙ ap Some (ap (λ n. get_or (xs ++ y ∷ []) n y) h ∙ get_or-append_seam xs y [] y)

pub slice_get_there : {A : Type 0} (xs : List A) (i : ℕ) → i < length xs → (x : A) × (slice_get xs i ≡ Some x)
slice_get_there xs i lt = by (slice_get_cases xs i).1
  where
    by : ((x : _) × (i < length xs) × (slice_get xs i ≡ Some x) × (get_or xs i x ≡ x)) ⊎ ((length xs ≤ i) × (slice_get xs i ≡ None)) → (x : _) × (slice_get xs i ≡ Some x)
    by (inl h) = (h.0, h.2)
    by (inr h) = absurd (omega (arith, lt, h.0))

-- an item of a list with one more is one of the list, or the new one
pub slice_get-push : {A : Type 0} (xs : List A) (y : A) (i : ℕ) (x : A) → slice_get (xs ++ y ∷ []) i ≡ Some x → ((i < length xs) × (slice_get xs i ≡ Some x)) ⊎ ((i ≡ length xs) × (y ≡ x))
slice_get-push xs y i x h = by (slice_get_cases xs i).1
  where
    by : ((z : _) × (i < length xs) × (slice_get xs i ≡ Some z) × (get_or xs i z ≡ z)) ⊎ ((length xs ≤ i) × (slice_get xs i ≡ None)) → ((i < length xs) × (slice_get xs i ≡ Some x)) ⊎ ((i ≡ length xs) × (y ≡ x))
    by (inl g) = let e : g.0 ≡ x = same_Some _ _ (sym (slice_get-front xs (y ∷ []) i g.0 g.2) ∙ h) in inl (g.1, g.2 ∙ ap Some e)
    by (inr g) =
        let lt : i < length (xs ++ y ∷ []) = slice_get_within _ i x h in
        let e : i ≡ length xs = omega (arith, length-append xs (y ∷ []), lt, g.0) in
        inr (e, same_Some _ _ (sym (slice_get-seam xs y i e) ∙ h))

pub KeepsNodes-refl : (s : Nodes) → KeepsNodes s s
KeepsNodes-refl s = record { phrase = λ i n h. h; pattern = λ i n h. h }

pub KeepsNodes-trans : {a b c : Nodes} → KeepsNodes a b → KeepsNodes b c → KeepsNodes a c
KeepsNodes-trans g h = record { phrase = λ i n x. h.phrase i n (g.phrase i n x); pattern = λ i n x. h.pattern i n (g.pattern i n x) }

pub KeepsNodes-phrase : (s : Nodes) (n : Node) → KeepsNodes s (with_phrase s n)
KeepsNodes-phrase s n = record { phrase = λ i m h. slice_get-front s.phrases (n ∷ []) i m h; pattern = λ i m h. h }

pub KeepsNodes-pattern : (s : Nodes) (n : PatNode) → KeepsNodes s (with_pattern s n)
KeepsNodes-pattern s n = record { phrase = λ i m h. h; pattern = λ i m h. slice_get-front s.patterns (n ∷ []) i m h }

-- the kind of a node that is there
pub kind_of_node : (s : Nodes) (i : PhraseId) (n : Node) → slice_get s.phrases i.0 ≡ Some n → kind_at s i ≡ Some n.deduction
kind_of_node s i n h = ap (option_map deduces) h

pub part_of_kind : (s : Nodes) (d : Bool) (i : PhraseId) → IsKind s d i → (n : Node) × (slice_get s.phrases i.0 ≡ Some n) × (n.deduction ≡ d)
part_of_kind s d i h = by (slice_get s.phrases i.0) refl h
  where
    by : (o : Option Node) → slice_get s.phrases i.0 ≡ o → option_map deduces o ≡ Some d → (n : Node) × (slice_get s.phrases i.0 ≡ Some n) × (n.deduction ≡ d)
    by None g k = absurd (grind arith)
    by (Some n) g k = (n, g, same_Some _ _ k)

pub part_of_closure : (s : Nodes) (i : PhraseId) → IsClosure s i → (n : Node) × (slice_get s.phrases i.0 ≡ Some n)
part_of_closure s i h = by (slice_get s.phrases i.0) refl h
  where
    by : (o : Option Node) → slice_get s.phrases i.0 ≡ o → is_closure o ≡ true → (n : Node) × (slice_get s.phrases i.0 ≡ Some n)
    by None g k = absurd (grind arith)
    by (Some n) g k = (n, g)

module _ (old new : Nodes) (g : KeepsNodes old new) where
  pub part_kept : (i : PhraseId) → IsPart old i → IsPart new i
  part_kept i lt = let n = slice_get_there old.phrases i.0 lt in slice_get_within new.phrases i.0 n.0 (g.phrase i.0 n.0 n.1)

  pub kind_kept : (d : Bool) (i : PhraseId) → IsKind old d i → IsKind new d i
  kind_kept d i h = let n = part_of_kind old d i h in kind_of_node new i n.0 (g.phrase i.0 n.0 n.1) ∙ ap Some n.2

  pub closure_kept : (i : PhraseId) → IsClosure old i → IsClosure new i
  closure_kept i h = let n = part_of_closure old i h in ap is_closure (g.phrase i.0 n.0 n.1) ∙ sym (ap is_closure n.1) ∙ h
