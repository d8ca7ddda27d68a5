-- What a store keeps with a tree beside its nodes and levels, so that a walk through the tree can be saved.
use Rattle.std.specs.Prelude.{◌≡◌, ℕ, ◌<◌, Bool, true, false, ◌&&◌, ◌||◌, List, [], ◌∷◌, ◌++◌, length, map, find, slice_index_or, None}
use Rattle.std.specs.List.{list_all}
use Rattle.ath_sorts.specs.declared.sorts.SVar.{SVar}
use Rattle.ath_sorts.specs.declared.sorts.Sort.{Sort}
use Rattle.ath_sorts.specs.Sorts.{apply_to}
use Rattle.ath_sorts.specs.Signature.{Signature}
use Rattle.ath_trees.specs.declared.node.Var.{Var}
use Rattle.ath_trees.specs.declared.node.TermId.{TermId}
use Rattle.ath_trees.specs.declared.node.SentId.{SentId}
use Rattle.ath_trees.specs.Groups as groups
use Rattle.ath_trees.specs.Occurrences.{is_named}
use Rattle.ath_trees.specs.Tree.{Term, var, Sent}
use Rattle.ath_trees.specs.SortsIn.{has_small_sorts, sent_has_small_sorts}
use Rattle.ath_trees.specs.Under.{term_under, sent_under}
use Rattle.ath_trees.specs.Variables.{is_namesake, with_term, with_sent}
use Rattle.ath_trees.specs.WellSorted.{HasSort}
use Rattle.ath_terms.specs.declared.marks.Marks.{Marks}
use Rattle.ath_terms.specs.declared.sort_vars.SortVars.{SortVars}
use Rattle.ath_terms.specs.SortVars.{both, Fixes}
use Rattle.ath_terms.specs.SortsIn.{IsSortedIn}
use Rattle.ath_terms.specs.Trees.{Trees, term_at, sort_at, sent_at}

-- no two of the variables have one name and index
abbrev pub AreApartFrom : List Var → List Var → Type 0
AreApartFrom before [] = Unit {0}
AreApartFrom before (v ∷ vs) = (find (is_namesake v) before ≡ None) × AreApartFrom (before ++ v ∷ []) vs

abbrev pub AreApart : List Var → Type 0
AreApart vs = AreApartFrom [] vs

-- The marks of a part: what it adds to variables found, whether its sorts are within the limits, and what it is under a
-- substitution. The last two are said of a signature that fits.
pub record IsMarked {T : Type 0} (add : List Var → T → List Var) (is_tiny : Signature → T → Bool) (under : (SVar → Sort) → T → T) (Fits : Signature → Type 0) (x : T) (m : Marks) : Type 0 where
  pub closed : m.is_closed ≡ true → (found : List Var) → add found x ≡ found
  pub lacks : (v : Var) → groups.may_have m.groups v ≡ false → (found : List Var) → is_named v (add found x) ≡ is_named v found
  pub apart : m.is_apart ≡ true → AreApart (add [] x)
  pub small : m.is_small ≡ true → (sig : Signature) → Fits sig → is_tiny sig x ≡ true
  pub fixed : (f : SVar → Sort) → Fixes m.sorts f → under f x ≡ x

-- some parts in turn
abbrev pub adds : {T : Type 0} → (List Var → T → List Var) → List Var → List T → List Var
adds add found [] = found
adds add found (x ∷ xs) = adds add (add found x) xs

abbrev pub AreMarked : {T : Type 0} → (List Var → T → List Var) → (Signature → T → Bool) → ((SVar → Sort) → T → T) → (Signature → Type 0) → List T → Marks → Type 0
AreMarked add is_tiny under Fits xs m = IsMarked (adds add) (λ sig ys. list_all (is_tiny sig) ys) (λ f ys. map (under f) ys) Fits xs m

abbrev pub AreTermsMarked : Trees → List TermId → Marks → Type 0
AreTermsMarked s ids m = AreMarked with_term has_small_sorts term_under (λ sig. IsSortedIn sig s) (map (λ i. term_at s.terms i.0) ids) m

abbrev pub AreSentsMarked : Trees → List SentId → Marks → Type 0
AreSentsMarked s ids m = AreMarked with_sent sent_has_small_sorts sent_under (λ sig. IsSortedIn sig s) (map (λ i. sent_at s.sents i.0) ids) m

abbrev pub IsSortFixed : Sort → Marks → Type 0
IsSortFixed r m = (f : SVar → Sort) → Fixes m.sorts f → apply_to f r ≡ r

-- a term and the sort that is kept with it
pub record IsNodeMarked (s : Trees) (t : Term) (r : Sort) (m : Marks) : Type 0 where
  pub tree : IsMarked with_term has_small_sorts term_under (λ sig. IsSortedIn sig s × HasSort sig t r) t m
  pub sort : IsSortFixed r m

pub record IsTermMarked (s : Trees) (t : ℕ) (m : Marks) : Type 0 where
  pub tree : IsMarked with_term has_small_sorts term_under (λ sig. IsSortedIn sig s) (term_at s.terms t) m
  pub sort : IsSortFixed (sort_at s.sorts t) m

abbrev pub IsSentMarked : Trees → Sent → Marks → Type 0
IsSentMarked s p m = IsMarked with_sent sent_has_small_sorts sent_under (λ sig. IsSortedIn sig s) p m

abbrev pub IsVarMarked : Var → Sort → Marks → Type 0
IsVarMarked v r m = (s : Trees) → IsNodeMarked s (var v) r m

-- ---- the marks of what is built of parts
abbrev pub no_vars : SortVars
no_vars = record { most_made = None; may_be_written = false }

abbrev pub all_marks : Marks
all_marks = record { is_closed = true; groups = groups.no_groups; is_apart = true; is_small = true; sorts = no_vars }

abbrev pub with_marks : Marks → Marks → Marks
with_marks m q = record {
  is_closed = m.is_closed && q.is_closed;
  groups = groups.both m.groups q.groups;
  is_apart = (m.is_apart && q.is_closed) || (m.is_closed && q.is_apart);
  is_small = m.is_small && q.is_small;
  sorts = both m.sorts q.sorts;
}

abbrev pub over : Marks → Bool → SortVars → Marks
over m small vars = record { is_closed = m.is_closed; groups = m.groups; is_apart = m.is_apart; is_small = m.is_small && small; sorts = both m.sorts vars }

abbrev pub told_apart : Marks → Marks
told_apart m = record { is_closed = m.is_closed; groups = m.groups; is_apart = true; is_small = m.is_small; sorts = m.sorts }

-- ---- a store
abbrev pub no_marks : Marks
no_marks = record { is_closed = false; groups = groups.no_groups; is_apart = false; is_small = false; sorts = no_vars }

pub record HasMarks (s : Trees) (ms ns : List Marks) : Type 0 where
  pub terms : (k : ℕ) → k < length s.terms → IsTermMarked s k (slice_index_or ms k no_marks)
  pub sents : (k : ℕ) → k < length s.sents → IsSentMarked s (sent_at s.sents k) (slice_index_or ns k no_marks)
