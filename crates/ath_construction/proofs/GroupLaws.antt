-- Sentences grouped to the right, from a place on.
use Rattle.std.proofs.Common.{◌≡◌, ℕ, zero, suc, ◌+◌, ◌-◌, ◌<◌, ◌≤◌, List, [], ◌∷◌, length, map, drop, take, get_or, refl, sym, ◌∙◌, ap, arith}
use Rattle.std.specs.List.{All}
use Rattle.ath_trees.specs.declared.node.Binary.{Binary}
use Rattle.ath_trees.specs.declared.node.SentId.{SentId}
use Rattle.ath_sorts.specs.declared.sorts.SVar.{SVar}
use Rattle.ath_sorts.specs.declared.sorts.Sort.{Sort}
use Rattle.ath_trees.specs.Tree.{Sent, joined}
use Rattle.ath_terms.specs.Trees.{Trees, sent_at, Grows, IsSent}
use Rattle.ath_trees.specs.SortUnder.{sent_at_sorts}
use Rattle.ath_trees.specs.Measure.{sent_size}
use Rattle.ath_trees.proofs.SortUnderForms.{at_sorts-joined}
use Rattle.ath_construction.specs.Construction.{grouped}
use Rattle.ath_terms.proofs.Measures.{total, total-next, total-all}

abbrev pub group_from : List Sent → Binary → List SentId → ℕ → Sent
group_from ss c ids i = grouped c (map (λ j. sent_at ss j.0) (drop i ids))

-- the last one
pub group-last : (ss : List Sent) (c : Binary) (ids : List SentId) (i : ℕ) (d : SentId) → i + 1 ≡ length ids → group_from ss c ids i ≡ sent_at ss (get_or ids i d).0
group-last ss c [] i d h = absurd (omega arith)
group-last ss c (x ∷ []) zero d h = refl
group-last ss c (x ∷ y ∷ ids) zero d h = absurd (omega arith)
group-last ss c (x ∷ ids) (suc i) d h = group-last ss c ids i d (omega arith)

-- one before
pub group-before : (ss : List Sent) (c : Binary) (ids : List SentId) (i : ℕ) (d : SentId) → i + 1 < length ids → group_from ss c ids i ≡ joined c (sent_at ss (get_or ids i d).0) (group_from ss c ids (i + 1))
group-before ss c [] i d h = absurd (omega arith)
group-before ss c (x ∷ []) zero d h = absurd (omega arith)
group-before ss c (x ∷ y ∷ ids) zero d h = refl
group-before ss c (x ∷ ids) (suc i) d h =
    let s : suc i + 1 ≡ suc (i + 1) = omega arith in
    rw s (group-before ss c ids i d (omega arith))

pub group-all : (ss : List Sent) (c : Binary) (ids : List SentId) (i : ℕ) → i ≡ 0 → group_from ss c ids i ≡ grouped c (map (λ j. sent_at ss j.0) ids)
group-all ss c ids i e = ap (group_from ss c ids) e

-- the nodes
pub group-size : (ss : List Sent) (c : Binary) (ids : List SentId) → 0 < length ids → sent_size (grouped c (map (λ j. sent_at ss j.0) ids)) + 1 ≡ total (λ j. 1 + sent_size (sent_at ss j.0)) ids
group-size ss c [] h = absurd (omega arith)
group-size ss c (x ∷ []) h = omega arith
group-size ss c (x ∷ y ∷ ids) h = let e = group-size ss c (y ∷ ids) (omega arith) in omega arith

module _ (ss : List Sent) (ids : List SentId) where
  abbrev pub nodes_to : ℕ → ℕ
  nodes_to i = total (λ (j : SentId). 1 + sent_size (sent_at ss j.0)) (take i ids)

  pub nodes-next : (i : ℕ) (d : SentId) (n : ℕ) → i < length ids → n ≡ nodes_to i → n + (1 + sent_size (sent_at ss (get_or ids i d).0)) ≡ nodes_to (i + 1)
  nodes-next i d n h e = let t = total-next (λ (j : SentId). 1 + sent_size (sent_at ss j.0)) ids i d h in omega arith

  pub nodes-all : (c : Binary) (i n : ℕ) → 0 < length ids → length ids ≤ i → n ≡ nodes_to i → n - 1 ≡ sent_size (grouped c (map (λ j. sent_at ss j.0) ids))
  nodes-all c i n h l e =
      let t = total-all (λ (j : SentId). 1 + sent_size (sent_at ss j.0)) ids i l in
      let g = group-size ss c ids h in
      omega arith

-- ---- one sentence before
pub group-joined : (old s mid : Trees) (f : SVar → Sort) (c : Binary) (ids : List SentId) (i j : ℕ) (d : SentId) (left sent : ℕ) → All (λ k. k.0 < length old.sents) ids → i < length ids → j + 1 ≡ i
    → Grows old s → Grows s mid → IsSent s sent (sent_at_sorts f (group_from old.sents c ids i)) → IsSent mid left (sent_at_sorts f (sent_at s.sents (get_or ids j d).0))
    → joined c (sent_at mid.sents left) (sent_at mid.sents sent) ≡ sent_at_sorts f (group_from old.sents c ids j)
group-joined old s mid f c ids i j d left sent all h k g g2 a b =
    let p : sent_at mid.sents left ≡ sent_at_sorts f (sent_at old.sents (get_or ids j d).0) = b.1 ∙ ap (sent_at_sorts f) (g.same_sents (get_or ids j d).0 (all j d (omega arith))) in
    let q : sent_at mid.sents sent ≡ sent_at_sorts f (group_from old.sents c ids (j + 1)) = g2.same_sents sent a.0 ∙ a.1 ∙ ap (λ (n : ℕ). sent_at_sorts f (group_from old.sents c ids n)) (sym k) in
    let e = group-before old.sents c ids j d (omega arith) in
    (λ x. joined c (p x) (q x)) ∙ sym (at_sorts-joined f c (sent_at old.sents (get_or ids j d).0) (group_from old.sents c ids (j + 1))) ∙ ap (sent_at_sorts f) (sym e)

pub group-built : (old s mid new : Trees) (f : SVar → Sort) (c : Binary) (ids : List SentId) (i j : ℕ) (d : SentId) (left sent made : ℕ) → All (λ k. k.0 < length old.sents) ids → i < length ids
    → j + 1 ≡ i → Grows old s → Grows s mid → IsSent s sent (sent_at_sorts f (group_from old.sents c ids i)) → IsSent mid left (sent_at_sorts f (sent_at s.sents (get_or ids j d).0))
    → IsSent new made (joined c (sent_at mid.sents left) (sent_at mid.sents sent)) → IsSent new made (sent_at_sorts f (group_from old.sents c ids j))
group-built old s mid new f c ids i j d left sent made all h k g g2 a b r = (r.0, r.1 ∙ group-joined old s mid f c ids i j d left sent all h k g g2 a b)
