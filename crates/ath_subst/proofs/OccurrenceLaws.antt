-- Every variable of a sentence, and the least unused index.
use Rattle.std.proofs.Common.{◌≡◌, ℕ, zero, suc, ◌+◌, ◌<◌, ◌≤◌, ◌==◌, true, false, not, List, [], ◌∷◌, ◌++◌, length, map, take, get_or, Some, refl, sym, ◌∙◌, ap, arith, ◌⊎◌, inl, inr}
use Rattle.std.specs.Prelude.{filter}
use Rattle.std.proofs.lemmas.List.{take_all}
use Rattle.ath_sorts.proofs.Bools.{true-not-false, and_parts, same_num}
use Rattle.ath_trees.specs.declared.node.Conn.{Conn}
use Rattle.ath_trees.specs.declared.node.Conn.TheVariants.{Not, And, Or, If, Iff}
use Rattle.ath_trees.specs.declared.node.Binary.{Binary}
use Rattle.ath_trees.specs.declared.node.Binary.TheVariants as binary
use Rattle.ath_trees.specs.declared.node.SentId.{SentId}
use Rattle.ath_trees.specs.declared.node.Var.{Var}
use Rattle.ath_trees.specs.Occurrences.{is_named, every_var, at_index, ceiling, least_unused}
use Rattle.ath_trees.specs.Tree.{Sent}
use Rattle.ath_trees.specs.Variables.{is_namesake}
use Rattle.ath_trees.proofs.Occurring.{by_cases, not_true}
use Rattle.ath_trees.proofs.Renaming.{below_ceiling}
use Rattle.ath_terms.specs.Nodes.{parts_tree, conn_tree, arity}
use Rattle.ath_terms.specs.Trees.{Trees, sent_at}
use Rattle.ath_terms.proofs.ListLaws.{append-assoc}
use Rattle.ath_terms.proofs.VariableLaws.{map-push, next}
use Rattle.ath_subst.proofs.SentLaws.{IsConn, map-count}

append-none : {A : Type 0} (xs : List A) → xs ++ [] ≡ xs
append-none [] = refl
append-none (x ∷ xs) = ap (λ l. x ∷ l) (append-none xs)

-- ---- those of the parts of a connective
abbrev every_sents : List Sent → List Var
every_sents [] = []
every_sents (p ∷ ps) = every_var p ++ every_sents ps

sents-push : (ps : List Sent) (p : Sent) → every_sents (ps ++ p ∷ []) ≡ every_sents ps ++ every_var p
sents-push [] p = append-none (every_var p)
sents-push (q ∷ ps) p = ap (λ l. every_var q ++ l) (sents-push ps p) ∙ sym (append-assoc (every_var q) (every_sents ps) (every_var p))

every_pair : (c : Binary) (ps : List Sent) → length ps ≡ 2 → every_var (parts_tree (Some c) ps) ≡ every_sents ps
every_pair c [] l = absurd (omega arith)
every_pair c (p ∷ []) l = absurd (omega arith)
every_pair c (p ∷ q ∷ []) l = ap (λ l. every_var p ++ l) (sym (append-none (every_var q)))
every_pair c (p ∷ q ∷ r ∷ ps) l = absurd (omega arith)

every_conn : (c : Conn) (ps : List Sent) → length ps ≡ arity c → every_var (conn_tree c ps) ≡ every_sents ps
every_conn Not [] l = absurd (omega arith)
every_conn Not (p ∷ []) l = sym (append-none (every_var p))
every_conn Not (p ∷ q ∷ ps) l = absurd (omega arith)
every_conn And ps l = every_pair binary.And ps l
every_conn Or ps l = every_pair binary.Or ps l
every_conn If ps l = every_pair binary.If ps l
every_conn Iff ps l = every_pair binary.Iff ps l

module _ (ss : List Sent) (old : List Var) (xs : List SentId) where
  abbrev pub every_to : ℕ → List Var
  every_to i = old ++ every_sents (map (λ j. sent_at ss j.0) (take i xs))

  pub every-next : (i : ℕ) (d : SentId) (found more : List Var) → i < length xs → found ≡ every_to i → more ≡ found ++ every_var (sent_at ss (get_or xs i d).0) → more ≡ every_to (i + 1)
  every-next i d found more h e f =
      f ∙ ap (λ l. l ++ every_var (sent_at ss (get_or xs i d).0)) e
      ∙ append-assoc old (every_sents (map (λ j. sent_at ss j.0) (take i xs))) (every_var (sent_at ss (get_or xs i d).0))
      ∙ ap (λ l. old ++ l) (sym (sents-push (map (λ j. sent_at ss j.0) (take i xs)) (sent_at ss (get_or xs i d).0)))
      ∙ ap (λ l. old ++ every_sents l) (sym (map-push (λ (j : SentId). sent_at ss j.0) (take i xs) (get_or xs i d)) ∙ ap (map (λ (j : SentId). sent_at ss j.0)) (sym (next xs i d h)))

pub every-all : (s : Trees) (old : List Var) (p i : ℕ) (c : Conn) (ids xs : List SentId) (found : List Var) → IsConn s p c ids → xs ≡ ids → length xs ≤ i → found ≡ every_to s.sents old xs i → found ≡ old ++ every_var (sent_at s.sents p)
every-all s old p i c ids xs found is same h e =
    e ∙ ap (λ (l : List SentId). old ++ every_sents (map (λ j. sent_at s.sents j.0) l)) (take_all i xs h ∙ same)
    ∙ ap (λ l. old ++ l) (sym (every_conn c (map (λ j. sent_at s.sents j.0) ids) (map-count (λ (j : SentId). sent_at s.sents j.0) ids ∙ is.count)) ∙ ap every_var (sym is.tree))

-- the copies so far, and one more
pub copies-next : (old vars found more : List Var) (i : ℕ) (d copy : Var) → i < length vars → found ≡ old ++ take i vars → copy ≡ get_or vars i d → more ≡ found ++ copy ∷ [] → more ≡ old ++ take (i + 1) vars
copies-next old vars found more i d copy h e c f =
    f ∙ (λ j. e j ++ c j ∷ []) ∙ append-assoc old (take i vars) (get_or vars i d ∷ []) ∙ ap (λ l. old ++ l) (sym (next vars i d h))

pub copies-all : (old vars found : List Var) (i : ℕ) → length vars ≤ i → found ≡ old ++ take i vars → found ≡ old ++ vars
copies-all old vars found i h e = e ∙ ap (λ l. old ++ l) (take_all i vars h)

-- ---- the least unused index
-- each index below k is used by the name
abbrev pub IsUsedTo : Var → List Var → ℕ → Type 0
IsUsedTo v us k = (j : ℕ) → j < k → is_named (at_index v j) us ≡ true

split : (a b : ℕ) → (a ≤ b) ⊎ (b < a)
split zero b = inl (omega arith)
split (suc a) zero = inr (omega arith)
split (suc a) (suc b) = elim (split a b) [ inl e ↦ inl (omega arith) | inr e ↦ inr (omega arith) ]

pub used-more : (v : Var) (us : List Var) (k : ℕ) → IsUsedTo v us k → is_named (at_index v k) us ≡ true → IsUsedTo v us (k + 1)
used-more v us k h e j l = elim (split k j) [ inl a ↦ let q : j ≡ k = omega arith in rw q e | inr b ↦ h j b ]

-- the search ends at the first that isn't
finds : (n k m : ℕ) (v : Var) (us : List Var) → k ≤ m → m ≤ k + n → ((j : ℕ) → k ≤ j → j < m → is_named (at_index v j) us ≡ true) → is_named (at_index v m) us ≡ false → least_unused n k v us ≡ m
finds zero k m v us a b h e = omega arith
finds (suc n) k m v us a b h e = elim (split m k) [
  | inl c ↦ let q : m ≡ k = omega arith in let r : is_named (at_index v k) us ≡ false = rw (← q) e in rw r (sym q)
  | inr c ↦
      let t = h k (omega arith) c in
      rw t (finds n (k + 1) m v us (omega arith) (omega arith) (λ j x y. h j (omega arith) y) e)
]

pub least-is : (k : ℕ) (v : Var) (us : List Var) → IsUsedTo v us k → is_named (at_index v k) us ≡ false → k ≡ least_unused (ceiling us) 0 v us
least-is k v us h e = elim (split k (ceiling us)) [
  | inl a ↦ sym (finds (ceiling us) 0 k v us (omega arith) (omega arith) (λ j x y. h j y) e)
  | inr b ↦ absurd (let p = h (ceiling us) b in let q = below_ceiling v (ceiling us) us (omega arith) in true-not-false (sym p ∙ q))
]

-- ---- no more indices are used than there are variables
abbrev others : Var → ℕ → List Var → List Var
others v k us = filter (λ w. not (is_namesake (at_index v k) w)) us

others-within : (v : Var) (k : ℕ) (us : List Var) → length (others v k us) ≤ length us
others-within v k [] = omega arith
others-within v k (u ∷ us) = let r = others-within v k us in by_cases (is_namesake (at_index v k) u) (λ t. rw t (omega arith)) (λ f. rw f (omega arith))

others-fewer : (v : Var) (k : ℕ) (us : List Var) → is_named (at_index v k) us ≡ true → length (others v k us) < length us
others-fewer v k [] h = absurd (cc)
others-fewer v k (u ∷ us) h = by_cases (is_namesake (at_index v k) u)
    (λ t. let r = others-within v k us in rw t (omega arith))
    (λ f. let r = others-fewer v k us (rw f at h) in rw f (omega arith))

others-have : (v : Var) (j k : ℕ) (us : List Var) → j < k → is_named (at_index v j) us ≡ true → is_named (at_index v j) (others v k us) ≡ true
others-have v j k [] l h = absurd (cc)
others-have v j k (u ∷ us) l h = by_cases (is_namesake (at_index v j) u)
    (λ t.
    let m = and_parts (v.name.0 == u.name.0) (j == u.index) t in
    let e = same_num j u.index m.1 in
    let f : is_namesake (at_index v k) u ≡ false = not_true (is_namesake (at_index v k) u) (λ s. let w = same_num k u.index (and_parts (v.name.0 == u.name.0) (k == u.index) s).1 in omega arith) in
    rw (f, t))
    (λ n.
    let r = others-have v j k us l (rw n at h) in
    by_cases (is_namesake (at_index v k) u) (λ t. rw t r) (λ f. rw (f, n) r))

few_used : (k : ℕ) (v : Var) (us : List Var) → IsUsedTo v us k → k ≤ length us
few_used zero v us h = omega arith
few_used (suc k) v us h =
    let r = few_used k v (others v k us) (λ j l. others-have v j k us l (h j (omega arith))) in
    let s = others-fewer v k us (h k (omega arith)) in
    omega arith

pub last-is : (v : Var) (us : List Var) → IsUsedTo v us (length us) → length us ≡ least_unused (ceiling us) 0 v us
last-is v us h =
    least-is (length us) v us h (not_true (is_named (at_index v (length us)) us) (λ t. let r = few_used (length us + 1) v us (used-more v us (length us) h t) in omega arith))
