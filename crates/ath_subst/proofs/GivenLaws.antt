-- What substitution and closing come to.
use Rattle.std.proofs.Common.{◌≡◌, ℕ, ◌+◌, ◌<◌, ◌≤◌, Bool, true, false, not, List, [], ◌∷◌, ◌++◌, length, take, get_or, refl, sym, ◌∙◌, ap, subst, Err, arith}
use Rattle.std.specs.Prelude.{nat_lt, filter, if◌then◌else◌}
use Rattle.std.proofs.lemmas.Grind.{common_steps}
use Rattle.std.proofs.lemmas.List.{take_all}
use Rattle.ath_sorts.specs.declared.sorts.Sort.{Sort}
use Rattle.ath_sorts.specs.Signature.{Signature}
use Rattle.ath_trees.specs.declared.limits.TheConstants.{MOST_TERM_NODES, MOST_TERM_LEVELS}
use Rattle.ath_trees.specs.declared.node.Quant.{Quant}
use Rattle.ath_trees.specs.declared.node.Var.{Var}
use Rattle.ath_trees.specs.Closing.{closing, closed_over}
use Rattle.ath_trees.specs.Measure.{sent_size, sent_depth, IsSmall}
use Rattle.ath_trees.specs.Substitution.{subst_sent}
use Rattle.ath_trees.specs.Tree.{Term, Sent, var, bound}
use Rattle.ath_trees.specs.Variables.{same_var}
use Rattle.ath_trees.specs.WellSorted.{HasSort}
use Rattle.ath_trees.proofs.Occurring.{by_cases}
use Rattle.ath_trees.proofs.SubstForms.{size-variable, depth-variable}
use Rattle.ath_trees.proofs.UnderLaws.{sort_in-is}
use Rattle.ath_terms.specs.Kept.{IsSentKept}
use Rattle.ath_terms.specs.Trees.{Trees, term_at, sent_at, Grows, IsTerm, IsSent}
use Rattle.ath_terms.proofs.VariableLaws.{next}
use Rattle.ath_subst.specs.declared.counts.Counts.{Counts}
use Rattle.ath_subst.specs.declared.error.SubstError.{SubstError}
use Rattle.ath_subst.specs.declared.error.SubstError.TheVariants.{TooLarge, TooDeep, SortTooLarge, Memory}
use Rattle.ath_subst.specs.Given.{gives, nodes_above, levels_above, limited, IsWhy}
use Rattle.ath_subst.specs.Limited.{MatchLimited}

module _ {T : Type 0} (x : T) (n l : ℕ) where
  limited-gives : n ≤ MOST_TERM_NODES → l ≤ MOST_TERM_LEVELS → limited x n l ≡ gives x
  limited-gives h k =
      let a : nat_lt MOST_TERM_NODES n ≡ false = grind (arith, common_steps) in
      let b : nat_lt MOST_TERM_LEVELS l ≡ false = grind (arith, common_steps) in
      rw (a, b) refl

  limited-nodes : MOST_TERM_NODES < n → limited x n l ≡ nodes_above n
  limited-nodes h = let a : nat_lt MOST_TERM_NODES n ≡ true = grind (arith, common_steps) in rw a refl

  limited-levels : n ≤ MOST_TERM_NODES → MOST_TERM_LEVELS < l → limited x n l ≡ levels_above l
  limited-levels h k =
      let a : nat_lt MOST_TERM_NODES n ≡ false = grind (arith, common_steps) in
      let b : nat_lt MOST_TERM_LEVELS l ≡ true = grind (arith, common_steps) in
      rw (a, b) refl

refused : {T : Type 0} (x : T) (c : Counts) (e : SubstError) → MatchLimited c (Err e) → IsWhy (limited x c.nodes c.levels) e
refused x c (TooLarge n) h = limited-nodes x c.nodes c.levels h.0 ∙ ap nodes_above (sym h.1)
refused x c (TooDeep n) h = limited-levels x c.nodes c.levels h.0 h.1 ∙ ap levels_above (sym h.2)
refused x c SortTooLarge h = absurd h
refused x c Memory h = absurd h

pub refused-at : {T : Type 0} (x : T) (c : Counts) (n l : ℕ) (e : SubstError) → c.nodes ≡ n → c.levels ≡ l → MatchLimited c (Err e) → IsWhy (limited x n l) e
refused-at x c n l e p q h = subst (λ (m : ℕ). IsWhy (limited x m l) e) p (subst (λ (m : ℕ). IsWhy (limited x c.nodes m) e) q (refused x c e h))

pub given-at : {T : Type 0} (x : T) (c : Counts) (n l : ℕ) → c.nodes ≡ n → c.levels ≡ l → c.nodes ≤ MOST_TERM_NODES → c.levels ≤ MOST_TERM_LEVELS → limited x n l ≡ gives x
given-at x c n l p q h k = limited-gives x n l (omega arith) (omega arith)

pub small-at : (p : Sent) (c : Counts) → c.nodes ≡ sent_size p → c.levels ≡ sent_depth p → c.nodes ≤ MOST_TERM_NODES → c.levels ≤ MOST_TERM_LEVELS → IsSmall p
small-at p c e f h k = record { nodes = omega arith; levels = omega arith }

-- a term has one sort
pub one-sort : (sig : Signature) (t : Term) (r s : Sort) → HasSort sig t r → HasSort sig t s → r ≡ s
one-sort sig t r s h k = sym (sort_in-is sig t r h) ∙ sort_in-is sig t s k

-- ---- the variables that aren't one
filter-push : (p : Var → Bool) (xs : List Var) (x : Var) → filter p (xs ++ x ∷ []) ≡ filter p xs ++ (if p x then x ∷ [] else [])
filter-push p [] x = refl
filter-push p (y ∷ xs) x = by_cases (p y) (λ t. rw t (ap (λ l. y ∷ l) (filter-push p xs x))) (λ f. rw f (filter-push p xs x))

turned-if : (b : Bool) (x : Var) → (if b then [] else x ∷ []) ≡ (if not b then x ∷ [] else [])
turned-if true x = refl
turned-if false x = refl

pub others-next : (x : Var) (xs found more : List Var) (i : ℕ) (d : Var) → i < length xs → found ≡ filter (λ w. not (same_var x w)) (take i xs) → more ≡ found ++ (if same_var x (get_or xs i d) then [] else get_or xs i d ∷ []) → more ≡ filter (λ w. not (same_var x w)) (take (i + 1) xs)
others-next x xs found more i d h e g =
    g ∙ (λ j. e j ++ turned-if (same_var x (get_or xs i d)) (get_or xs i d) j)
    ∙ sym (filter-push (λ w. not (same_var x w)) (take i xs) (get_or xs i d))
    ∙ ap (filter (λ w. not (same_var x w))) (sym (next xs i d h))

pub others-end : (x : Var) (xs found : List Var) (i : ℕ) → length xs ≤ i → found ≡ filter (λ w. not (same_var x w)) (take i xs) → found ≡ filter (λ w. not (same_var x w)) xs
others-end x xs found i h e = e ∙ ap (filter (λ w. not (same_var x w))) (take_all i xs h)

-- ---- closing
module _ (old : Trees) (k : Quant) (x v : Var) (p : ℕ) (e : v ≡ closing x (sent_at old.sents p)) where
  pub closed-is : closed_over k x (sent_at old.sents p) ≡ bound k v (subst_sent x (var v) (sent_at old.sents p))
  closed-is = λ i. bound k (sym e i) (subst_sent x (var (sym e i)) (sent_at old.sents p))

  pub closed-nodes : (n : ℕ) → n ≡ sent_size (sent_at old.sents p) → 1 + n ≡ sent_size (closed_over k x (sent_at old.sents p))
  closed-nodes n g = ap (λ m. 1 + m) (g ∙ sym (size-variable x v (sent_at old.sents p))) ∙ ap sent_size (sym closed-is)

  pub closed-levels : (l : ℕ) → l ≡ sent_depth (sent_at old.sents p) → 1 + l ≡ sent_depth (closed_over k x (sent_at old.sents p))
  closed-levels l g = ap (λ m. 1 + m) (g ∙ sym (depth-variable x v (sent_at old.sents p))) ∙ ap sent_depth (sym closed-is)

  module _ (mid : Trees) (t : ℕ) (g : Grows old mid) (inside : p < length old.sents) (there : IsTerm mid t (var v)) where
    put-is : subst_sent x (term_at mid.terms t) (sent_at mid.sents p) ≡ subst_sent x (var v) (sent_at old.sents p)
    put-is = λ i. subst_sent x (there.1 i) (g.same_sents p inside i)

    pub closing-small : (n l : ℕ) → n ≡ sent_size (sent_at old.sents p) → l ≡ sent_depth (sent_at old.sents p) → 1 + n ≤ MOST_TERM_NODES → 1 + l ≤ MOST_TERM_LEVELS → IsSmall (subst_sent x (term_at mid.terms t) (sent_at mid.sents p))
    closing-small n l a b h m =
        let y = size-variable x v (sent_at old.sents p) in
        let z = depth-variable x v (sent_at old.sents p) in
        rw put-is (record { nodes = omega arith; levels = omega arith })

    pub closing-tree : (new : Trees) (r : ℕ) → IsSent new r (subst_sent x (term_at mid.terms t) (sent_at mid.sents p)) → bound k v (sent_at new.sents r) ≡ closed_over k x (sent_at old.sents p)
    closing-tree new r w = ap (bound k v) (w.1 ∙ put-is) ∙ sym closed-is

pub kept-at : (p q : Sent) (n l : ℕ) → q ≡ p → n ≡ sent_size p → l ≡ sent_depth p → n ≤ MOST_TERM_NODES → l ≤ MOST_TERM_LEVELS → IsSentKept q (record { nodes = n; levels = l })
kept-at p q n l e a b h k = rw e (record { nodes = a; levels = b; small = record { nodes = omega arith; levels = omega arith } })
