-- Marks: which nodes have a tree, and why no map makes the classes equal where some have none.
use Rattle.std.proofs.Common.{◌≡◌, ℕ, zero, suc, ◌+◌, ◌<◌, ◌≤◌, Bool, true, false, cond, ◌&&◌, ◌||◌, not, List, [], ◌∷◌, length, map, sum, replicate, slice_get, slice_set, Option, Some, None, refl, sym, ◌∙◌, ap, subst, arith, ◌⊎◌, inl, inr}
use Rattle.std.proofs.lemmas.Grind.{common_steps}
use Rattle.std.specs.List.{list_all, list_any}
use Rattle.ath_unifiers.specs.declared.graph.Graph.{Graph}
use Rattle.ath_unifiers.specs.declared.nodes.Node.{Node}
use Rattle.ath_unifiers.specs.declared.nodes.Node.TheVariants.{Leaf, Branch}
use Rattle.ath_sorts.specs.declared.sorts.SVar.{SVar}
use Rattle.ath_sorts.specs.declared.sorts.Sort.{Sort, Var, Con}
use Rattle.ath_sorts.specs.Sorts.{size_of}
use Rattle.ath_unifiers.specs.Graphs.{class_at, head_at, value, Respects, IsGraph, leaf, branch, AllUnfold, nothing, further, HasTree, is_marked, ready_node, is_ready, MarksTrees, IsStuck, IsStuckAt, MatchAcyclic, unmarked}
use Rattle.ath_sorts.proofs.Gets.{get-there, all-at, some-inj, some-not-none}
use Rattle.ath_unifiers.proofs.GraphValues.{value-branch}
use Rattle.ath_sorts.proofs.SortLaws.{size-con}
use Rattle.ath_sorts.proofs.Bools.{true-not-false, bool_cases, and_parts}

-- where not all pass, one doesn't
one_fails : (p : ℕ → Bool) (js : List ℕ) → list_all p js ≡ false → (k : ℕ) × ((j : ℕ) × ((slice_get js k ≡ Some j) × (p j ≡ false)))
one_fails p [] h = absurd (true-not-false h)
one_fails p (j ∷ js) h = by (p j) refl (λ e. one_fails p js e)
  where
    by : (b : Bool) → p j ≡ b → (list_all p js ≡ false → (k : ℕ) × ((i : ℕ) × ((slice_get js k ≡ Some i) × (p i ≡ false)))) → (k : ℕ) × ((i : ℕ) × ((slice_get (j ∷ js) k ≡ Some i) × (p i ≡ false)))
    by true e r = let q = r (sym (ap (λ b. b && list_all p js) e) ∙ h) in (suc q.0, (q.1.0, q.1.1))
    by false e r = (0, (j, (refl, e)))

part_size : (h : ℕ → Sort) (js : List ℕ) (k j : ℕ) → slice_get js k ≡ Some j → size_of (h j) ≤ sum (map size_of (map h js))
part_size h [] k j e = absurd (some-not-none j (sym e))
part_size h (i ∷ js) zero j e = let q = some-inj i j e in subst (λ x. size_of (h x) ≤ sum (map size_of (map h (i ∷ js)))) q (first_size h i js)
  where
    first_size : (h : ℕ → Sort) (i : ℕ) (js : List ℕ) → size_of (h i) ≤ sum (map size_of (map h (i ∷ js)))
    first_size h i js = grind (arith, common_steps)
part_size h (i ∷ js) (suc k) j e = rest_size (size_of (h i)) (map size_of (map h js)) (size_of (h j)) (part_size h js k j e)
  where
    rest_size : (x : ℕ) (xs : List ℕ) (y : ℕ) → y ≤ sum xs → y ≤ sum (x ∷ xs)
    rest_size x xs y l = grind (arith, common_steps)

-- a node whose arguments all have trees has one
trees_of : {g : Graph} (marks : List Bool) → MarksTrees g marks → (js : List ℕ) → list_all (is_marked marks) js ≡ true → (ts : List Sort) × AllUnfold g js ts
trees_of marks m [] h = ([], nothing)
trees_of marks m (j ∷ js) h =
    let p = and_parts (is_marked marks j) (list_all (is_marked marks) js) h in
    let t = m j p.0 in
    let r = trees_of marks m js p.1 in
    (t.0 ∷ r.0, further t.1 r.1)

pub tree_when_ready : (g : Graph) (marks : List Bool) (i : ℕ) → MarksTrees g marks → is_ready g marks i ≡ true → HasTree g i
tree_when_ready g marks i m h = by (head_at g i) refl
  where
    by : (o : Option Node) → head_at g i ≡ o → HasTree g i
    by (Some (Leaf v)) e = (Var v, leaf v e refl)
    by (Some (Branch c js)) e =
        let r = trees_of marks m js (sym (ap (ready_node marks) e) ∙ h) in
        (Con c r.0, branch c js r.0 e r.1 refl)
    by None e = absurd (true-not-false (sym h ∙ ap (ready_node marks) e))

mark_set : (marks : List Bool) (i j : ℕ) → is_marked (slice_set marks i true) j ≡ true → (j ≡ i) ⊎ (is_marked marks j ≡ true)
mark_set [] i j h = inr h
mark_set (m ∷ ms) zero zero h = inl refl
mark_set (m ∷ ms) zero (suc j) h = inr h
mark_set (m ∷ ms) (suc i) zero h = inr h
mark_set (m ∷ ms) (suc i) (suc j) h = elim (mark_set ms i j h) [ inl e ↦ inl (ap suc e) | inr e ↦ inr e ]

pub mark_one : (g : Graph) (marks : List Bool) (i : ℕ) → MarksTrees g marks → is_ready g marks i ≡ true → MarksTrees g (slice_set marks i true)
mark_one g marks i m h j e = elim (mark_set marks i j e) [
  | inl p ↦ subst (HasTree g) (sym p) (tree_when_ready g marks i m h)
  | inr p ↦ m j p
]

unmarked-cons : (m : Bool) (ms : List Bool) → unmarked (m ∷ ms) ≡ cond m 0 1 + unmarked ms
unmarked-cons m ms = grind (arith, common_steps)

pub fewer_unmarked : (marks : List Bool) (i : ℕ) → i < length marks → is_marked marks i ≡ false → unmarked (slice_set marks i true) < unmarked marks
fewer_unmarked [] i l h = absurd (omega arith)
fewer_unmarked (m ∷ ms) zero l h =
    let p = unmarked-cons m ms in
    let q = unmarked-cons true ms in
    let e : ◌≡◌ {A = ℕ} (cond m 0 1) 1 = ap (λ (b : Bool). cond {A = ℕ} b 0 1) h in
    let z : ◌≡◌ {A = ℕ} (cond true 0 1) 0 = refl in
    omega arith
fewer_unmarked (m ∷ ms) (suc i) l h =
    let p = unmarked-cons m ms in
    let q = unmarked-cons m (slice_set ms i true) in
    let r = fewer_unmarked ms i (omega arith) h in
    omega arith

none_marked : (n i : ℕ) → is_marked (replicate n false) i ≡ false
none_marked zero i = refl
none_marked (suc n) zero = refl
none_marked (suc n) (suc i) = none_marked n i

pub nothing_marked : (g : Graph) (n : ℕ) → MarksTrees g (replicate n false)
nothing_marked g n i h = absurd (true-not-false (sym h ∙ none_marked n i))

-- where the marks are stuck, a node without one has no sort of any size
module _ {g : Graph} (is_graph : IsGraph g) (marks : List Bool) (even : length marks ≡ length g.nodes) (stuck : IsStuck g marks) (f : SVar → Sort) (r : Respects f g) where
  no_size : (m i : ℕ) → i < length g.nodes → is_marked marks i ≡ false → size_of (value f g.nodes i) < m → ⊥
  no_size zero i inside off l = omega arith
  no_size (suc m) i inside off l = by (get-there g.nodes (class_at g.class i) (is_graph.below i inside)) (λ j inner out lower. no_size m j inner out lower)
    where
      not_ready : is_ready g marks i ≡ false
      not_ready = elim (stuck i (subst (λ n. i < n) (sym even) inside)) [ inl p ↦ absurd (true-not-false (sym p ∙ off)) | inr p ↦ p ]

      by : (n : Node) × (head_at g i ≡ Some n) → ((j : ℕ) → j < length g.nodes → is_marked marks j ≡ false → size_of (value f g.nodes j) < m → ⊥) → ⊥
      by (Leaf v, h) rest = true-not-false (sym (ap (ready_node marks) h) ∙ not_ready)
      by (Branch c js, h) rest =
          let q = one_fails (is_marked marks) js (sym (ap (ready_node marks) h) ∙ not_ready) in
          let below = is_graph.children (class_at g.class i) c js h in
          let j = q.1.0 in
          let lower : j < class_at g.class i = all-at (λ j. j < class_at g.class i) js q.0 j below q.1.1.0 in
          let named = is_graph.below i inside in
          let e = ap size_of (r i inside ∙ value-branch f g.nodes (class_at g.class i) c js h below) ∙ size-con c (map (value f g.nodes) js) in
          let p = part_size (value f g.nodes) js q.0 j q.1.1.0 in
          rest j (omega arith) q.1.1.1 (omega arith)

  pub no_map : (i : ℕ) → i < length g.nodes → is_marked marks i ≡ false → ⊥
  no_map i inside off = no_size (suc (size_of (value f g.nodes i))) i inside off (omega arith)

all_marked : (marks : List Bool) → list_all (λ m. m) marks ≡ true → (i : ℕ) → i < length marks → is_marked marks i ≡ true
all_marked [] h i l = absurd (omega arith)
all_marked (m ∷ ms) h zero l = (and_parts m (list_all (λ m. m) ms) h).0
all_marked (m ∷ ms) h (suc i) l = all_marked ms (and_parts m (list_all (λ m. m) ms) h).1 i (omega arith)

one_unmarked : (marks : List Bool) → list_all (λ m. m) marks ≡ false → (i : ℕ) × ((i < length marks) × (is_marked marks i ≡ false))
one_unmarked [] h = absurd (true-not-false h)
one_unmarked (true ∷ ms) h = let r = one_unmarked ms h in (suc r.0, (let l = r.1.0 in omega arith, r.1.1))
one_unmarked (false ∷ ms) h = (0, (omega arith, refl))

pub acyclic_is : (g : Graph) (marks : List Bool) (b : Bool) → IsGraph g → MarksTrees g marks → length marks ≡ length g.nodes → IsStuck g marks → b ≡ list_all (λ m. m) marks → MatchAcyclic g b
acyclic_is g marks true is_graph m even stuck e = λ i inside. m i (all_marked marks (sym e) i (subst (λ n. i < n) (sym even) inside))
acyclic_is g marks false is_graph m even stuck e = λ f r.
    let u = one_unmarked marks (sym e) in
    no_map is_graph marks even stuck f r u.0 (subst (λ n. u.0 < n) even u.1.0) u.1.1

-- a turn of a pass
below_more : (g : Graph) (marks : List Bool) (at : ℕ) → ((i : ℕ) → i < at → IsStuckAt g marks i) → IsStuckAt g marks at → (i : ℕ) → i < at + 1 → IsStuckAt g marks i
below_more g marks at before here i l = elim (split_last i at l) [ inl p ↦ before i p | inr p ↦ subst (IsStuckAt g marks) (sym p) here ]
  where
    split_last : (i at : ℕ) → i < at + 1 → (i < at) ⊎ (i ≡ at)
    split_last i at l = grind (arith, common_steps)

or_cases : (a b : Bool) → (a || b) ≡ true → (a ≡ true) ⊎ ((a ≡ false) × (b ≡ true))
or_cases true b h = inl refl
or_cases false b h = inr (refl, h)

or_none : (a b : Bool) → (a || b) ≡ false → (a ≡ false) × (b ≡ false)
or_none true b h = absurd (true-not-false h)
or_none false b h = (refl, h)

pub fewer_turn : (first before next : List Bool) (any m : Bool) → (any ≡ true → unmarked before < unmarked first) → (any ≡ false → before ≡ first) → (m ≡ true → unmarked next < unmarked before) → (m ≡ false → next ≡ before) → (any || m) ≡ true → unmarked next < unmarked first
fewer_turn first before next any m less same more kept h = elim (bool_cases m) [
  | inl p ↦ elim (bool_cases any) [
    | inl q ↦ let x = less q in let y = more p in omega arith
    | inr q ↦ let x = ap unmarked (same q) in let y = more p in omega arith
  ]
  | inr p ↦ elim (or_cases any m h) [
    | inl q ↦ let x = less q in let y = ap unmarked (kept p) in omega arith
    | inr q ↦ absurd (true-not-false (sym q.1 ∙ p))
  ]
]

pub same_turn : (first before next : List Bool) (any m : Bool) → (any ≡ false → before ≡ first) → (m ≡ false → next ≡ before) → (any || m) ≡ false → next ≡ first
same_turn first before next any m same kept h = let p = or_none any m h in kept p.1 ∙ same p.0

pub stuck_turn : (g : Graph) (before next : List Bool) (any m : Bool) (at : ℕ) → (any ≡ false → (i : ℕ) → i < at → IsStuckAt g before i) → (m ≡ false → next ≡ before) → (m ≡ false → IsStuckAt g next at) → (any || m) ≡ false → (i : ℕ) → i < at + 1 → IsStuckAt g next i
stuck_turn g before next any m at stuck kept here h =
    let p = or_none any m h in
    below_more g next at (subst (λ (x : List Bool). (i : ℕ) → i < at → IsStuckAt g x i) (sym (kept p.1)) (stuck p.0)) (here p.1)

-- where no mark is false, all are true
pub none_false : (e : Bool → Bool) → e true ≡ false → e false ≡ true → (ms : List Bool) → not (list_any e ms) ≡ list_all (λ m. m) ms
none_false e t f [] = refl
none_false e t f (true ∷ ms) = ap (λ b. not (b || list_any e ms)) t ∙ none_false e t f ms
none_false e t f (false ∷ ms) = ap (λ b. not (b || list_any e ms)) f
