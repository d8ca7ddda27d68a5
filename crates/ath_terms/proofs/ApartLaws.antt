-- Variables no two of which have one name and index.
use Rattle.std.proofs.Common.{◌≡◌, ℕ, zero, suc, ◌<◌, ◌≤◌, false, List, [], ◌∷◌, ◌++◌, length, take, get_or, set, None, is_some, cond, Some, refl, sym, ◌∙◌, ap, subst, arith, inl, inr, ◌+◌}
use Rattle.std.specs.Prelude.{find}
use Rattle.std.specs.Map.{lookup}
use Rattle.std.proofs.lemmas.List.{take_all, map-set, get_or-set_same, get_or-set_other}
use Rattle.std.proofs.Math.Seq.{map-set_same}
use Rattle.ath_sorts.proofs.Bools.{num_cases}
use Rattle.ath_sorts.proofs.Gets.{append-none}
use Rattle.ath_sorts.proofs.SignatureLaws.{none_of}
use Rattle.ath_trees.specs.declared.node.Var.{Var}
use Rattle.ath_trees.specs.Variables.{is_namesake, free_vars}
use Rattle.ath_trees.specs.Tree.{Sent}
use Rattle.ath_terms.specs.declared.key.NameKey.{NameKey}
use Rattle.ath_terms.specs.declared.marks.Marks.{Marks}
use Rattle.ath_terms.specs.declared.node.SentNode.{SentNode}
use Rattle.ath_terms.specs.declared.store.KeptTerm.{KeptTerm}
use Rattle.ath_terms.specs.declared.store.KeptSent.{KeptSent}
use Rattle.ath_terms.specs.Firsts.{HasFirsts}
use Rattle.ath_terms.specs.Found.{name_key, same_name_key}
use Rattle.ath_terms.specs.Kept.{Extent, AreKept}
use Rattle.ath_terms.specs.Marks.{AreApart, AreApartFrom, HasMarks, IsSentMarked, no_marks, told_apart}
use Rattle.ath_terms.specs.Nodes.{term_trees, sent_trees}
use Rattle.ath_terms.specs.Trees.{Trees, sent_at}
use Rattle.ath_terms.specs.Whole.{nodes_of, sorts_of, extents_of, sent_nodes_of, sent_extents_of, whole_view, IsWell, IsWhole}
use Rattle.ath_terms.proofs.FirstLaws.{not_filed, both_more}
use Rattle.ath_terms.proofs.KeyLaws.{name_key-true, name_key-turned}
use Rattle.ath_terms.proofs.ListLaws.{append-assoc}
use Rattle.ath_terms.proofs.StoreLaws.{map-count, sents-count}
use Rattle.ath_terms.proofs.StoreMarks.{marks_of, sent_marks_of}
use Rattle.ath_terms.proofs.VariableLaws.{next}

-- one variable more
apart-push : (before vs : List Var) (v : Var) → AreApartFrom before vs → find (is_namesake v) (before ++ vs) ≡ None → AreApartFrom before (vs ++ v ∷ [])
apart-push before [] v h e = (subst (λ (l : List Var). find (is_namesake v) l ≡ None) (append-none before) e, tt)
apart-push before (w ∷ vs) v h e = (h.0, apart-push (before ++ w ∷ []) vs v h.1 (subst (λ (l : List Var). find (is_namesake v) l ≡ None) (sym (append-assoc before (w ∷ []) vs)) e))

length-front : {A : Type 0} (xs : List A) (i : ℕ) → i < length xs → i ≡ length (take i xs)
length-front [] i h = absurd (omega arith)
length-front (x ∷ xs) zero h = refl
length-front (x ∷ xs) (suc i) h = ap suc (length-front xs i (omega arith))

pub same-read : {A : Type 0} (xs : List A) (k : ℕ) (d e : A) → k < length xs → get_or xs k d ≡ get_or xs k e
same-read [] k d e h = absurd (omega arith)
same-read (x ∷ xs) zero d e h = refl
same-read (x ∷ xs) (suc k) d e h = same-read xs k d e (omega arith)

pub apart-next : (xs : List Var) (places : List (NameKey × ℕ)) (i : ℕ) (d : Var) → i < length xs → AreApart (take i xs) → HasFirsts same_name_key name_key (take i xs) places → is_some (lookup (same_name_key (name_key (get_or xs i d))) places) ≡ false → AreApart (take (i + 1) xs)
apart-next xs places i d l h f e =
    let v = get_or xs i d in
    let none = sym (not_filed same_name_key name_key (take i xs) places (name_key v) f (none_of (lookup (same_name_key (name_key v)) places) e)) in
    subst AreApart (sym (next xs i d l)) (apart-push [] (take i xs) v h none)

pub firsts-next : (xs : List Var) (places more : List (NameKey × ℕ)) (i : ℕ) (d : Var) (q : NameKey) → i < length xs → HasFirsts same_name_key name_key (take i xs) places → is_some (lookup (same_name_key (name_key (get_or xs i d))) places) ≡ false → q ≡ name_key (get_or xs i d) → ((k : NameKey) → lookup (same_name_key k) more ≡ cond (same_name_key q k) (Some i) (lookup (same_name_key k) places)) → HasFirsts same_name_key name_key (take (i + 1) xs) more
firsts-next xs places more i d q l f e is filed =
    let v = get_or xs i d in
    let none = sym (not_filed same_name_key name_key (take i xs) places (name_key v) f (none_of (lookup (same_name_key (name_key v)) places) e)) in
    let n : i ≡ length (take i xs) = length-front xs i l in
    let there : (k : NameKey) → lookup (same_name_key k) more ≡ cond (same_name_key (name_key v) k) (Some (length (take i xs))) (lookup (same_name_key k) places) = λ k. filed k ∙ (λ j. cond (same_name_key (is j) k) (Some (n j)) (lookup (same_name_key k) places)) in
    subst (λ (ys : List Var). HasFirsts same_name_key name_key ys more) (sym (next xs i d l)) (both_more same_name_key name_key name_key-true v name_key-turned (take i xs) places more f none there)

pub apart-all : (xs : List Var) (i : ℕ) → length xs ≤ i → AreApart (take i xs) → AreApart xs
apart-all xs i l h = subst AreApart (take_all i xs l) h

-- ---- a mark in a store
told : (s : Trees) (p : Sent) (m : Marks) → IsSentMarked s p m → AreApart (free_vars p) → IsSentMarked s p (told_apart m)
told s p m h a = record { closed = h.closed; lacks = h.lacks; apart = λ e. a; small = h.small; fixed = h.fixed }

module _ (es : List KeptTerm) (ms : List KeptSent) (v : Trees) (is : whole_view es ms ≡ v) (w : IsWhole es ms) (h : HasMarks (whole_view es ms) (marks_of es) (sent_marks_of ms)) (k : ℕ) (d y : KeptSent) (node : y.node ≡ (get_or ms k d).node) where
  nodes-same : sent_nodes_of (set ms k y) ≡ sent_nodes_of ms
  nodes-same = map-set_same (λ (e : KeptSent). e.node) ms k y d node

  pub marked-view : whole_view es (set ms k y) ≡ v
  marked-view = ap (λ (ns : List SentNode). record { terms = term_trees (nodes_of es); sorts = sorts_of es; sents = sent_trees (term_trees (nodes_of es)) ns }) nodes-same ∙ is

  module _ (nodes : y.nodes ≡ (get_or ms k d).nodes) (levels : y.levels ≡ (get_or ms k d).levels) where
    extents-same : sent_extents_of (set ms k y) ≡ sent_extents_of ms
    extents-same = map-set_same {B = Extent} (λ (e : KeptSent). record { nodes = e.nodes; levels = e.levels }) ms k y d (λ i. record { nodes = nodes i; levels = levels i })

    abbrev Stands : List SentNode → List Extent → Type 0
    Stands ns xs = IsWell (nodes_of es) ns × AreKept (term_trees (nodes_of es)) (extents_of es) (sent_trees (term_trees (nodes_of es)) ns) xs

    pub marked-whole : IsWhole es (set ms k y)
    marked-whole = subst (λ (ns : List SentNode). Stands ns (sent_extents_of (set ms k y))) (sym nodes-same) (subst (λ (xs : List Extent). Stands (sent_nodes_of ms) xs) (sym extents-same) w)

  pub marked-marks : k < length v.sents → y.marks ≡ told_apart (get_or ms k d).marks → IsSentMarked v (sent_at v.sents k) (get_or ms k d).marks → AreApart (free_vars (sent_at v.sents k)) → HasMarks (whole_view es (set ms k y)) (marks_of es) (sent_marks_of (set ms k y))
  marked-marks l e m a =
      let t = subst (λ (s : Trees). HasMarks s (marks_of es) (sent_marks_of ms)) is h in
      let c : length (sent_marks_of ms) ≡ length v.sents = map-count (λ (e : KeptSent). e.marks) ms ∙ sym (sents-count es ms v is w) in
      let g : sent_marks_of (set ms k y) ≡ set (sent_marks_of ms) k y.marks = map-set (λ (e : KeptSent). e.marks) ms k y in
      subst (λ (s : Trees). HasMarks s (marks_of es) (sent_marks_of (set ms k y))) (sym marked-view)
      (subst (λ (ns : List Marks). HasMarks v (marks_of es) ns) (sym g) (record {
        terms = t.terms;
        sents = λ j b. elim (num_cases j k) [
          | inl p ↦ (
              let here : get_or (set (sent_marks_of ms) k y.marks) j no_marks ≡ y.marks = subst (λ (x : ℕ). get_or (set (sent_marks_of ms) k y.marks) x no_marks ≡ y.marks) (sym p) (get_or-set_same (sent_marks_of ms) k y.marks no_marks (omega arith)) in
              subst (IsSentMarked v (sent_at v.sents j)) (sym (here ∙ e)) (subst (λ (x : ℕ). IsSentMarked v (sent_at v.sents x) (told_apart (get_or ms k d).marks)) (sym p) (told v (sent_at v.sents k) (get_or ms k d).marks m a))
              )
          | inr p ↦ subst (IsSentMarked v (sent_at v.sents j)) (sym (get_or-set_other (sent_marks_of ms) k j y.marks no_marks p)) (t.sents j b)
        ];
      }))
