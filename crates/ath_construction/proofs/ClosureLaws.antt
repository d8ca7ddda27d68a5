-- The universal closure: one more variable, and what is refused.
use Rattle.std.proofs.Common.{◌≡◌, ℕ, zero, suc, ◌+◌, ◌<◌, true, List, [], ◌∷◌, length, drop, get_or, sym, ◌∙◌, ap, subst, arith}
use Rattle.std.specs.Prelude.{Result, Err}
use Rattle.std.proofs.lemmas.List.{drop_more}
use Rattle.ath_sorts.specs.Signature.{Signature}
use Rattle.ath_trees.specs.declared.node.Var.{Var}
use Rattle.ath_trees.specs.declared.node.SentId.{SentId}
use Rattle.ath_trees.specs.Tree.{Sent}
use Rattle.ath_trees.specs.Variables.{free_vars}
use Rattle.ath_trees.specs.WellSorted.{is_valid_sort, IsWellSorted}
use Rattle.ath_terms.specs.declared.measure.BuildError.{BuildError}
use Rattle.ath_terms.specs.declared.measure.BuildError.TheVariants.{SortClash, ArgCount, NotBoolean, TooLarge, TooDeep, SortTooLarge, Memory}
use Rattle.ath_terms.specs.Trees.{Trees, sent_at, IsSent}
use Rattle.ath_construction.specs.Construction.{Built, builds, refuses, Unbuilt}
use Rattle.ath_construction.specs.Closure.{closed_one, closed_in_turn, universal_closure}
use Rattle.ath_construction.specs.Answers.{IsSentBuilt}
use Rattle.ath_construction.proofs.ConstructionLaws.{AreVars, sent_vars-valid}

-- what is refused stays refused
refused-all : (p : Sent) (vs : List Var) (i : ℕ) (why : Unbuilt) → closed_in_turn (drop i vs) p ≡ refuses why → closed_in_turn vs p ≡ refuses why
refused-all p vs zero why h = h
refused-all p [] (suc i) why h = h
refused-all p (v ∷ vs) (suc i) why h = ap (closed_one v) (refused-all p vs i why h)

refused-whole : (s : Trees) (p : Sent) (vs : List Var) (i : ℕ) (e : BuildError) → IsSentBuilt s (closed_in_turn (drop i vs) p) (Err e) → IsSentBuilt s (closed_in_turn vs p) (Err e)
refused-whole s p vs i (SortClash a b) h = refused-all p vs i _ h
refused-whole s p vs i (ArgCount a b) h = refused-all p vs i _ h
refused-whole s p vs i (NotBoolean t) h = (h.0, refused-all p vs i _ h.1, h.2)
refused-whole s p vs i (TooLarge n) h = refused-all p vs i _ h
refused-whole s p vs i (TooDeep n) h = refused-all p vs i _ h
refused-whole s p vs i SortTooLarge h = refused-all p vs i _ h
refused-whole s p vs i Memory h = tt

pub refused-closure : (s : Trees) (p : Sent) (vs : List Var) (i : ℕ) (e : BuildError) → vs ≡ free_vars p → IsSentBuilt s (closed_in_turn (drop i vs) p) (Err e) → IsSentBuilt s (universal_closure p) (Err e)
refused-closure s p vs i e f h = subst (λ (l : List Var). IsSentBuilt s (closed_in_turn l p) (Err e)) f (refused-whole s p vs i e h)

valid-at : (sig : Signature) (vs : List Var) (i : ℕ) (d : Var) → i < length vs → AreVars sig vs → is_valid_sort sig (get_or vs i d).sort ≡ true
valid-at sig [] i d h a = absurd (omega arith)
valid-at sig (v ∷ vs) zero d h a = a.0
valid-at sig (v ∷ vs) (suc i) d h a = valid-at sig vs i d (omega arith) a.1

-- ---- the variable before those that were closed over
module _ (p : Sent) (vs : List Var) (i : ℕ) (v : Var) (h : i < length vs) (at : v ≡ get_or vs i v) where
  pub closed-before : (k : ℕ) (s new : Trees) (sent : ℕ) (r : Result SentId BuildError) → i + 1 ≡ k → (x : Sent) × (closed_in_turn (drop k vs) p ≡ builds x) × IsSent s sent x
      → IsSentBuilt new (closed_one v (builds (sent_at s.sents sent))) r → IsSentBuilt new (closed_in_turn (drop i vs) p) r
  closed-before k s new sent r e was is =
      let rest : drop i vs ≡ v ∷ drop k vs = drop_more vs i v h ∙ (λ j. sym at j ∷ drop (e j) vs) in
      let done : closed_in_turn (drop k vs) p ≡ builds (sent_at s.sents sent) = was.1 ∙ ap builds (sym was.2.1) in
      subst (λ (b : Built Sent). IsSentBuilt new b r) (sym (ap (λ (l : List Var). closed_in_turn l p) rest ∙ ap (closed_one v) done)) is

  pub valid-before : (sig : Signature) → vs ≡ free_vars p → IsWellSorted sig p → is_valid_sort sig v.sort ≡ true
  valid-before sig e w = ap (λ (x : Var). is_valid_sort sig x.sort) at ∙ valid-at sig vs i v h (subst (AreVars sig) (sym e) (sent_vars-valid sig [] p tt w))
