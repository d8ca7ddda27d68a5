-- What a plan comes to: from its least unifier, or from why it isn't built, to the answer of the construction.
use Rattle.std.proofs.Common.{◌≡◌, ℕ, zero, suc, ◌+◌, ◌<◌, ◌≤◌, ◌==◌, Bool, true, false, List, [], ◌∷◌, length, Some, Result, Ok, Err, ◌⊎◌, inl, inr, refl, sym, ◌∙◌, ap, subst, arith}
use Rattle.std.proofs.lemmas.Grind.{common_steps}
use Rattle.std.specs.Prelude.{nat_lt, slice_get, slice_index_or, IsTrue}
use Rattle.ath_sorts.specs.declared.sorts.SVar.{SVar}
use Rattle.ath_sorts.specs.declared.sorts.Sort.{Sort}
use Rattle.ath_sorts.specs.declared.signature.Symbol.{Symbol}
use Rattle.ath_unifiers.specs.declared.unification.UnifyError.TheVariants.{Clash}
use Rattle.ath_sorts.specs.Signature.{Signature, boolean}
use Rattle.ath_sorts.specs.Sorts.{is_small, image}
use Rattle.ath_unifiers.specs.Unifiers.{HasUnifier, IsLeastUnifier, IsClash}
use Rattle.ath_sorts.proofs.Bools.{true-not-false}
use Rattle.ath_unifiers.proofs.UnifierLaws.{agree}
use Rattle.ath_unifiers.specs.Unified.{Unified, solved, clashes, too_large, unified}
use Rattle.ath_unifiers.specs.Outcomes.{IsUnified}
use Rattle.ath_unifiers.proofs.Outcomes.{unified_is, answer_is}
use Rattle.ath_unifiers.proofs.Searching.{unifies_take}
use Rattle.ath_trees.specs.declared.limits.TheConstants.{MOST_TERM_NODES, MOST_TERM_LEVELS}
use Rattle.ath_trees.specs.declared.node.SentId.{SentId}
use Rattle.ath_trees.specs.declared.node.TermId.{TermId}
use Rattle.ath_trees.specs.SortsIn.{sort_in}
use Rattle.ath_trees.specs.Tree.{Term, Sent}
use Rattle.ath_terms.specs.declared.measure.BuildError.{BuildError}
use Rattle.ath_terms.specs.declared.measure.BuildError.TheVariants.{SortClash, ArgCount, NotBoolean, TooLarge, TooDeep, SortTooLarge, Memory}
use Rattle.ath_terms.specs.Trees.{Trees, term_at, IsTermOf, IsSent}
use Rattle.ath_construction.specs.Construction.{Plan, term_measure, sent_measure, counts, not_boolean, clash, sort_above, nodes_above, levels_above, Built, builds, refuses, within, by_unifier, constructed, app_plan, atom_plan, made_app, atom_by, made_atom}
use Rattle.ath_terms.specs.Limits.{Measure}
use Rattle.ath_construction.specs.Answers.{IsRefused, IsTermBuilt, IsSentBuilt}

-- ---- what the code finds
-- the images of the unifier and the sorts of the tree are within the limits of a sort
pub record IsAllowed (u : List (SVar × Sort)) (pairs : List (Sort × Sort)) (small : Bool) : Type 0 where
  pub unifier : IsLeastUnifier u pairs
  pub images : (v : SVar) → IsTrue (is_small (image u v))
  pub sorts : small ≡ true

-- an image or a sort is above them
pub record IsForbidden (u : List (SVar × Sort)) (pairs : List (Sort × Sort)) (small : Bool) : Type 0 where
  pub unifier : IsLeastUnifier u pairs
  pub above : ((v : SVar) × (is_small (image u v) ≡ false)) ⊎ (small ≡ false)

-- Why a tree of such a measure isn't built: first the pair with which those before it lose their unifier, as it is listed;
-- then a sort above the limits; then the number of its nodes, and that of its levels.
abbrev pub MatchRefused : List (Sort × Sort) → ((SVar → Sort) → Measure) → BuildError → Type 0
MatchRefused pairs m (SortClash a b) = (at : ℕ) × (IsClash pairs at × (slice_get pairs at ≡ Some (a, b)))
MatchRefused pairs m SortTooLarge = (u : List (SVar × Sort)) × IsForbidden u pairs (m (image u)).small
MatchRefused pairs m (TooLarge n) = (u : List (SVar × Sort)) × (IsAllowed u pairs (m (image u)).small × (MOST_TERM_NODES < (m (image u)).nodes) × (n ≡ (m (image u)).nodes))
MatchRefused pairs m (TooDeep n) = (u : List (SVar × Sort)) × (IsAllowed u pairs (m (image u)).small × ((m (image u)).nodes ≤ MOST_TERM_NODES) × (MOST_TERM_LEVELS < (m (image u)).levels) × (n ≡ (m (image u)).levels))
MatchRefused pairs m Memory = Unit {0}
MatchRefused pairs m (ArgCount a b) = ⊥
MatchRefused pairs m (NotBoolean t) = ⊥

-- the tree is within the limits
pub record IsWithin (u : List (SVar × Sort)) (pairs : List (Sort × Sort)) (m : Measure) : Type 0 where
  pub allowed : IsAllowed u pairs m.small
  pub nodes : m.nodes ≤ MOST_TERM_NODES
  pub levels : m.levels ≤ MOST_TERM_LEVELS

-- The answer is the id of the tree by the least unifier, with its sort, where all limits are kept; else the refusal.
abbrev pub MatchTerm : Signature → Trees → Plan Term → Result TermId BuildError → Type 0
MatchTerm sig s p (Ok t) = (u : List (SVar × Sort)) × (IsWithin u p.pairs (term_measure sig (p.tree (image u))) × IsTermOf s t.0 (p.tree (image u)) (sort_in sig (p.tree (image u))))
MatchTerm sig s p (Err e) = MatchRefused p.pairs (λ f. term_measure sig (p.tree f)) e

abbrev pub MatchSent : Signature → Trees → Plan Sent → Result SentId BuildError → Type 0
MatchSent sig s p (Ok q) = (u : List (SVar × Sort)) × (IsWithin u p.pairs (sent_measure sig (p.tree (image u))) × IsSent s q.0 (p.tree (image u)))
MatchSent sig s p (Err e) = MatchRefused p.pairs (λ f. sent_measure sig (p.tree f)) e

-- an atom is first refused where the term's sort doesn't unify with Boolean
abbrev pub MatchAtom : Signature → Trees → TermId → Term → Result SentId BuildError → Type 0
MatchAtom sig s id t (Err (NotBoolean i)) = (i ≡ id) × (HasUnifier ((sort_in sig t, boolean) ∷ []) → ⊥)
MatchAtom sig s id t (Err Memory) = Unit {0}
MatchAtom sig s id t r = HasUnifier ((sort_in sig t, boolean) ∷ []) × MatchSent sig s (atom_plan sig t) r

-- ---- the limits of a tree
within_built : {T : Type 0} (x : T) (m : Measure) → m.small ≡ true → m.nodes ≤ MOST_TERM_NODES → m.levels ≤ MOST_TERM_LEVELS → within x m ≡ builds x
within_built x m s n l =
    let a : nat_lt MOST_TERM_NODES m.nodes ≡ false = grind (arith, common_steps) in
    let b : nat_lt MOST_TERM_LEVELS m.levels ≡ false = grind (arith, common_steps) in
    rw (s, a, b) refl

within_sort : {T : Type 0} (x : T) (m : Measure) → m.small ≡ false → within x m ≡ refuses sort_above
within_sort x m s = rw s refl

within_large : {T : Type 0} (x : T) (m : Measure) (n : ℕ) → m.small ≡ true → MOST_TERM_NODES < m.nodes → n ≡ m.nodes → within x m ≡ refuses (nodes_above n)
within_large x m n s l e =
    let a : nat_lt MOST_TERM_NODES m.nodes ≡ true = grind (arith, common_steps) in
    rw (s, a, e) refl

within_deep : {T : Type 0} (x : T) (m : Measure) (n : ℕ) → m.small ≡ true → m.nodes ≤ MOST_TERM_NODES → MOST_TERM_LEVELS < m.levels → n ≡ m.levels → within x m ≡ refuses (levels_above n)
within_deep x m n s k l e =
    let a : nat_lt MOST_TERM_NODES m.nodes ≡ false = grind (arith, common_steps) in
    let b : nat_lt MOST_TERM_LEVELS m.levels ≡ true = grind (arith, common_steps) in
    rw (s, a, b, e) refl

-- ---- one list of pairs has one outcome
module _ (pairs : List (Sort × Sort)) where
  clash_not_unified : (at : ℕ) (s : List (SVar × Sort)) → IsClash pairs at → IsLeastUnifier s pairs → ⊥
  clash_not_unified at s c m = c.2 (image s, unifies_take (image s) (at + 1) pairs m.unifies)

  same_image : (s t : List (SVar × Sort)) → IsLeastUnifier s pairs → IsLeastUnifier t pairs → image t ≡ image s
  same_image s t m n = λ i v. agree t s pairs n m v i

  large_image : (s t : List (SVar × Sort)) (v : SVar) → IsLeastUnifier s pairs → IsLeastUnifier t pairs → is_small (image s v) ≡ false → ((w : SVar) → is_small (image t w) ≡ true) → ⊥
  large_image s t v m n large small = true-not-false (sym (small v) ∙ ap is_small (agree t s pairs n m v) ∙ large)

get_is : {A : Type 0} (xs : List A) (k : ℕ) (x d : A) → slice_get xs k ≡ Some x → slice_index_or xs k d ≡ x
get_is [] k x d e = absurd (cc)
get_is (y ∷ xs) zero x d e = cc
get_is (y ∷ xs) (suc k) x d e = get_is xs k x d e

-- ---- a plan
module _ {T : Type 0} (p : Plan T) (m : T → Measure) where
  -- by the least unifier, whose images are within the limits
  by_allowed : (u : List (SVar × Sort)) → IsLeastUnifier u p.pairs → ((v : SVar) → is_small (image u v) ≡ true) → constructed p m ≡ within (p.tree (image u)) (m (p.tree (image u)))
  by_allowed u h small = go (unified p.pairs) (unified_is p.pairs)
    where
      go : (o : Unified) → IsUnified p.pairs o → by_unifier p m o ≡ within (p.tree (image u)) (m (p.tree (image u)))
      go (solved t) k = ap (λ (f : SVar → Sort). within (p.tree f) (m (p.tree f))) (same_image p.pairs u t h k.0)
      go (clashes at) k = absurd (clash_not_unified p.pairs at u k h)
      go too_large k = absurd (large_image p.pairs k.0 u k.2.0 k.1 h k.2.1 small)

  pub plan_built : (u : List (SVar × Sort)) → IsWithin u p.pairs (m (p.tree (image u))) → constructed p m ≡ builds (p.tree (image u))
  plan_built u h =
      by_allowed u h.allowed.unifier h.allowed.images
      ∙ within_built (p.tree (image u)) (m (p.tree (image u))) h.allowed.sorts h.nodes h.levels

  -- a clash
  by_clash : (at : ℕ) (a b : Sort) → IsClash p.pairs at → slice_get p.pairs at ≡ Some (a, b) → constructed p m ≡ refuses (clash (a, b))
  by_clash at a b h e =
      ap (by_unifier p m) (answer_is p.pairs (Err (Clash at)) (unified p.pairs) (unified_is p.pairs) h)
      ∙ ap (λ (o : Sort × Sort). refuses (clash o)) (get_is p.pairs at (a, b) (boolean, boolean) e)

  -- a sort above the limits
  by_forbidden : (u : List (SVar × Sort)) → IsForbidden u p.pairs (m (p.tree (image u))).small → constructed p m ≡ refuses sort_above
  by_forbidden u h = go (unified p.pairs) (unified_is p.pairs) h.above
    where
      go : (o : Unified) → IsUnified p.pairs o → ((v : SVar) × (is_small (image u v) ≡ false)) ⊎ ((m (p.tree (image u))).small ≡ false) → by_unifier p m o ≡ refuses sort_above
      go too_large k above = refl
      go (clashes at) k above = absurd (clash_not_unified p.pairs at u k h.unifier)
      go (solved s) k (inl large) = absurd (large_image p.pairs u s large.0 h.unifier k.0 large.1 k.2)
      go (solved s) k (inr large) =
          ap (λ (f : SVar → Sort). within (p.tree f) (m (p.tree f))) (same_image p.pairs u s h.unifier k.0)
          ∙ within_sort (p.tree (image u)) (m (p.tree (image u))) large

  pub plan_refused : (t : Trees) (e : BuildError) → MatchRefused p.pairs (λ f. m (p.tree f)) e → IsRefused t (constructed p m) e
  plan_refused t (SortClash a b) h = by_clash h.0 a b h.1.0 h.1.1
  plan_refused t SortTooLarge h = by_forbidden h.0 h.1
  plan_refused t (TooLarge k) (u, (allowed, large, e)) = by_allowed u allowed.unifier allowed.images ∙ within_large (p.tree (image u)) (m (p.tree (image u))) k allowed.sorts large e
  plan_refused t (TooDeep k) (u, (allowed, few, deep, e)) = by_allowed u allowed.unifier allowed.images ∙ within_deep (p.tree (image u)) (m (p.tree (image u))) k allowed.sorts few deep e
  plan_refused t Memory h = tt
  plan_refused t (ArgCount a b) h = absurd h
  plan_refused t (NotBoolean i) h = absurd h

-- ---- terms and sentences
pub term_built : (sig : Signature) (s : Trees) (p : Plan Term) (r : Result TermId BuildError) → MatchTerm sig s p r → IsTermBuilt sig s (constructed p (term_measure sig)) r
term_built sig s p (Ok t) (u, (w, h)) = (p.tree (image u), plan_built p (term_measure sig) u w, h)
term_built sig s p (Err e) h = plan_refused p (term_measure sig) s e h

pub sent_built : (sig : Signature) (s : Trees) (p : Plan Sent) (r : Result SentId BuildError) → MatchSent sig s p r → IsSentBuilt s (constructed p (sent_measure sig)) r
sent_built sig s p (Ok q) (u, (w, h)) = (p.tree (image u), plan_built p (sent_measure sig) u w, h)
sent_built sig s p (Err e) h = plan_refused p (sent_measure sig) s e h

-- ---- applications
same_num : (a b : ℕ) → a ≡ b → (a == b) ≡ true
same_num a b e = grind (arith, common_steps)

other_num : (a b : ℕ) → (a ≡ b → ⊥) → (a == b) ≡ false
other_num a b e = grind (arith, common_steps)

-- an application to as many terms as are wanted
pub app_counted : (sig : Signature) (n : ℕ) (d : Symbol) (ts : List Term) → length d.args ≡ length ts → made_app sig n d ts ≡ constructed (app_plan sig n d ts) (term_measure sig)
app_counted sig n d ts e = rw (same_num (length d.args) (length ts) e) refl

pub app_miscounted : (sig : Signature) (n : ℕ) (d : Symbol) (ts : List Term) → (length d.args ≡ length ts → ⊥) → made_app sig n d ts ≡ refuses (counts (length d.args) (length ts))
app_miscounted sig n d ts e = rw (other_num (length d.args) (length ts) e) refl

pub app_built : (sig : Signature) (s : Trees) (n : ℕ) (d : Symbol) (ts : List Term) (r : Result TermId BuildError) → length d.args ≡ length ts → MatchTerm sig s (app_plan sig n d ts) r → IsTermBuilt sig s (made_app sig n d ts) r
app_built sig s n d ts r e h = subst (λ (b : Built Term). IsTermBuilt sig s b r) (sym (app_counted sig n d ts e)) (term_built sig s (app_plan sig n d ts) r h)

-- ---- atoms
module _ (sig : Signature) (s : Trees) (id : TermId) (x : Term) (there : id.0 < length s.terms) (at_id : term_at s.terms id.0 ≡ x) where
  abbrev first_pair : List (Sort × Sort)
  first_pair = (sort_in sig x, boolean) ∷ []

  no_clash : (at : ℕ) → HasUnifier first_pair → IsClash first_pair at → ⊥
  no_clash at u c = c.2 (u.0, unifies_take u.0 (at + 1) first_pair u.1)

  boolean_made : HasUnifier first_pair → made_atom sig x ≡ constructed (atom_plan sig x) (sent_measure sig)
  boolean_made u = go (unified first_pair) (unified_is first_pair)
    where
      go : (o : Unified) → IsUnified first_pair o → atom_by sig x o ≡ constructed (atom_plan sig x) (sent_measure sig)
      go (solved t) k = refl
      go too_large k = refl
      go (clashes at) k = absurd (no_clash at u k)

  none_made : (i : TermId) → i ≡ id → (HasUnifier first_pair → ⊥) → IsRefused s (made_atom sig x) (NotBoolean i)
  none_made i e u = rw e (x, go (unified first_pair) (unified_is first_pair), (there, at_id))
    where
      go : (o : Unified) → IsUnified first_pair o → atom_by sig x o ≡ refuses (not_boolean x)
      go (clashes at) k = refl
      go (solved t) k = absurd (u (image t, k.0.unifies))
      go too_large k = absurd (u (image k.0, k.1.unifies))

  as_planned : (r : Result SentId BuildError) → HasUnifier first_pair × MatchSent sig s (atom_plan sig x) r → IsSentBuilt s (made_atom sig x) r
  as_planned r h = subst (λ (b : Built Sent). IsSentBuilt s b r) (sym (boolean_made h.0)) (sent_built sig s (atom_plan sig x) r h.1)

  pub atom_built : (r : Result SentId BuildError) → MatchAtom sig s id x r → IsSentBuilt s (made_atom sig x) r
  atom_built (Ok p) h = as_planned (Ok p) h
  atom_built (Err (NotBoolean i)) h = none_made i h.0 h.1
  atom_built (Err Memory) h = tt
  atom_built (Err (SortClash a b)) h = as_planned (Err (SortClash a b)) h
  atom_built (Err (ArgCount m n)) h = as_planned (Err (ArgCount m n)) h
  atom_built (Err (TooLarge k)) h = as_planned (Err (TooLarge k)) h
  atom_built (Err (TooDeep k)) h = as_planned (Err (TooDeep k)) h
  atom_built (Err SortTooLarge) h = as_planned (Err SortTooLarge) h
